-- `read_job` passes one of the two first lines and reads the others behind it; the two differ, so no text is of both forms.
use Rattle.std.proofs.Common.{sym, ◌∙◌}
use Rattle.text.specs.Ascii.{ascii}
use Rattle.text.specs.Laws.Reading.{passed_to, passed_some, passed_none, stays}
use Rattle.jobform.specs.Laws.Job.{lines_are, a_comparison, a_match, no_comparison, no_match, no_job}
use Rattle.jobform.proofs.read_job.Goals as goal

pub returns-in_err-lines : goal.returns-in_err-lines
unfolding ascii
returns-in_err-lines c =
    let n = c.new-reader.ensures in
    let f = c.pass.ensures in
    let p = passed_some f.passes (sym c.is_some.ensures ∙ c.if-is_some.true) in
    let r = c.in_err-lines.ensures in
    rw c.from_residual.ensures (no_comparison (rw (n.text, n.place) at p) (rw (f.same_text, n.text) at r))

pub returns-then-is_some : goal.returns-then-is_some
unfolding ascii
returns-then-is_some c =
    let n = c.new-reader.ensures in
    let f = c.pass.ensures in
    let p = passed_some f.passes (sym c.is_some.ensures ∙ c.if-is_some.true) in
    let r = c.in_ok-lines.ensures in
    a_comparison (rw (n.text, n.place) at p) (lines_are (rw (f.same_text, n.text) at r))

pub returns-in_err-pass : goal.returns-in_err-pass
unfolding ascii
returns-in_err-pass c =
    let n = c.new-reader.ensures in
    let f = c.pass.ensures in
    let p = passed_none f.passes (sym c.is_some.ensures ∙ c.if-is_some.false) in
    let r = c.in_err-pass.ensures.passes in
    rw c.from_residual-in_err-pass.ensures (no_job (rw (n.text, n.place) at p) (rw (f.same_text, n.text, stays p, n.place) at r))

pub returns-in_err-lines-2 : goal.returns-in_err-lines-2
unfolding ascii
returns-in_err-lines-2 c =
    let n = c.new-reader.ensures in
    let f = c.pass.ensures in
    let g = c.in_ok-pass.ensures in
    let s = stays (passed_none f.passes (sym c.is_some.ensures ∙ c.if-is_some.false)) in
    let p = passed_to g.passes in
    let r = c.in_err-lines-2.ensures in
    rw c.from_residual-in_err-lines-2.ensures (no_match (rw (f.same_text, n.text, s, n.place) at p) (rw (g.same_text, f.same_text, n.text) at r))

pub returns : goal.returns
unfolding ascii
returns c =
    let n = c.new-reader.ensures in
    let f = c.pass.ensures in
    let g = c.in_ok-pass.ensures in
    let s = stays (passed_none f.passes (sym c.is_some.ensures ∙ c.if-is_some.false)) in
    let p = passed_to g.passes in
    let r = c.in_ok-lines-2.ensures in
    a_match (rw (f.same_text, n.text, s, n.place) at p) (lines_are (rw (g.same_text, f.same_text, n.text) at r))
