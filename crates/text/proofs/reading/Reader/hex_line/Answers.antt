-- `hex_line` passes the name, reads the digits and passes a line feed: what stands in the text is the name in front of what stands behind it, and where
-- the digits end without a line feed there is no line, for the room is long enough for all of them.
use native.Mathlib.Omega.{arith}
use Rattle.text.specs.Laws.Reading.{pass_goes_on, passed_to, passed_not}
use Rattle.text.specs.Laws.Lines.{no_hex_name, a_hex_line, no_hex_feed}
use Rattle.text.proofs.reading.Reader.hex_line.Goals as goal

pub returns-in_err-pass-clause-reads : goal.returns-in_err-pass-clause-reads
returns-in_err-pass-clause-reads c = rw c.from_residual.ensures (no_hex_name (passed_not c.in_err-pass.ensures.passes))

pub returns-in_err-pass-2-clause-reads : goal.returns-in_err-pass-2-clause-reads
returns-in_err-pass-2-clause-reads c =
    let n = c.in_ok-pass.ensures in
    let h = c.hex-count.ensures in
    let r = h.reads in
    let f = c.in_err-pass-2.ensures.passes in
    let l = c.requires.room_long_enough in
    let k = c.hex-count.auto.room in
    rw c.from_residual-in_err-pass-2.ensures
    (no_hex_feed (passed_to n.passes) (omega arith) (rw n.same_text at r) (passed_not (rw (h.goes_on, h.same_text, n.same_text) at f)))

pub returns-clause-reads : goal.returns-clause-reads
returns-clause-reads c =
    let n = c.in_ok-pass.ensures in
    let h = c.hex-count.ensures in
    let r = h.reads in
    let f = c.in_ok-pass-2.ensures.passes in
    a_hex_line (passed_to n.passes) (rw n.same_text at r) (passed_to (rw (h.goes_on, h.same_text, n.same_text) at f))

pub returns-in_err-pass-clause-goes_on : goal.returns-in_err-pass-clause-goes_on
returns-in_err-pass-clause-goes_on c = pass_goes_on c.args.self.now.inside c.in_err-pass.ensures.passes

pub returns-in_err-pass-2-clause-goes_on : goal.returns-in_err-pass-2-clause-goes_on
returns-in_err-pass-2-clause-goes_on c =
    let n = pass_goes_on c.args.self.now.inside c.in_ok-pass.ensures.passes in
    let m = c.hex-count.ensures.goes_on in
    let k = pass_goes_on c.hex-count.new.self.inside c.in_err-pass-2.ensures.passes in
    omega arith

pub returns-clause-goes_on : goal.returns-clause-goes_on
returns-clause-goes_on c =
    let n = pass_goes_on c.args.self.now.inside c.in_ok-pass.ensures.passes in
    let m = c.hex-count.ensures.goes_on in
    let k = pass_goes_on c.hex-count.new.self.inside c.in_ok-pass-2.ensures.passes in
    omega arith
