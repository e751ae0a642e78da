-- `number_line` passes the name, reads the number and passes a line feed: what stands in the text is the name in front of what stands behind it.
use native.Mathlib.Omega.{arith}
use Rattle.text.specs.Laws.Reading.{pass_goes_on, passed_to, passed_not, number_to, no_number}
use Rattle.text.specs.Laws.Lines.{no_number_name, a_number_line, no_number_feed, no_number_line}
use Rattle.text.proofs.reading.Reader.number_line.Goals as goal

pub returns-in_err-pass-clause-reads : goal.returns-in_err-pass-clause-reads
returns-in_err-pass-clause-reads c = rw c.from_residual.ensures (no_number_name (passed_not c.in_err-pass.ensures.passes))

pub returns-in_err-number-clause-reads : goal.returns-in_err-number-clause-reads
returns-in_err-number-clause-reads c =
    let n = c.in_ok-pass.ensures in
    let r = c.in_err-number.ensures.reads in
    rw c.from_residual-in_err-number.ensures (no_number_line (passed_to n.passes) (no_number (rw n.same_text at r)))

pub returns-in_err-pass-2-clause-reads : goal.returns-in_err-pass-2-clause-reads
returns-in_err-pass-2-clause-reads c =
    let n = c.in_ok-pass.ensures in
    let h = c.in_ok-number.ensures in
    let r = h.reads in
    let f = c.in_err-pass-2.ensures.passes in
    rw c.from_residual-in_err-pass-2.ensures
    (no_number_feed (passed_to n.passes) (number_to (rw n.same_text at r)) (passed_not (rw (h.same_text, n.same_text) at f)))

pub returns-clause-reads : goal.returns-clause-reads
returns-clause-reads c =
    let n = c.in_ok-pass.ensures in
    let h = c.in_ok-number.ensures in
    let r = h.reads in
    let f = c.in_ok-pass-2.ensures.passes in
    a_number_line (passed_to n.passes) (number_to (rw n.same_text at r)) (passed_to (rw (h.same_text, n.same_text) at f))

pub returns-in_err-pass-clause-goes_on : goal.returns-in_err-pass-clause-goes_on
returns-in_err-pass-clause-goes_on c = pass_goes_on c.args.self.now.inside c.in_err-pass.ensures.passes

pub returns-in_err-number-clause-goes_on : goal.returns-in_err-number-clause-goes_on
returns-in_err-number-clause-goes_on c =
    let n = pass_goes_on c.args.self.now.inside c.in_ok-pass.ensures.passes in
    let m = c.in_err-number.ensures.goes_on in
    omega arith

pub returns-in_err-pass-2-clause-goes_on : goal.returns-in_err-pass-2-clause-goes_on
returns-in_err-pass-2-clause-goes_on c =
    let n = pass_goes_on c.args.self.now.inside c.in_ok-pass.ensures.passes in
    let m = c.in_ok-number.ensures.goes_on in
    let k = pass_goes_on c.number.new.self.inside c.in_err-pass-2.ensures.passes in
    omega arith

pub returns-clause-goes_on : goal.returns-clause-goes_on
returns-clause-goes_on c =
    let n = pass_goes_on c.args.self.now.inside c.in_ok-pass.ensures.passes in
    let m = c.in_ok-number.ensures.goes_on in
    let k = pass_goes_on c.number.new.self.inside c.in_ok-pass-2.ensures.passes in
    omega arith
