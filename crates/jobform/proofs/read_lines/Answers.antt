-- `read_lines` reads one line behind the other. Each line has one reading, so where a line or the end of the text is missing, no lines of this
-- form stand there at all.
use native.Mathlib.Omega.{arith}
use Rattle.std.proofs.Common.{length, ap, sym, ◌∙◌, eqb-true}
use Rattle.std.proofs.lemmas.Bool.{eqb-false}
use Rattle.text.specs.Ascii.{ascii}
use Rattle.text.specs.Laws.Lines.{hex_is, number_is}
use Rattle.jobform.specs.Laws.Job.{no_first_line, no_second_line, no_budget_line, more_behind, all_lines}
use Rattle.jobform.proofs.read_lines.Goals as goal

pub returns-in_err-l : goal.returns-in_err-l
unfolding ascii
returns-in_err-l c = rw c.from_residual.ensures (no_first_line c.in_err-l.ensures.reads)

pub returns-in_err-s : goal.returns-in_err-s
unfolding ascii
returns-in_err-s c =
    let f = c.in_ok-l.ensures in
    let r = c.in_err-s.ensures.reads in
    rw c.from_residual-in_err-s.ensures (no_second_line (hex_is f.reads) (rw f.same_text at r))

pub returns-in_err-budget : goal.returns-in_err-budget
unfolding ascii
returns-in_err-budget c =
    let f = c.in_ok-l.ensures in
    let g = c.in_ok-s.ensures in
    let q = g.reads in
    let r = c.in_err-budget.ensures.reads in
    rw c.from_residual-in_err-budget.ensures
    (no_budget_line (hex_is f.reads) (hex_is (rw f.same_text at q)) (rw (g.same_text, f.same_text) at r))

pub returns-then-not-is_at_end : goal.returns-then-not-is_at_end
unfolding ascii
returns-then-not-is_at_end c =
    let f = c.in_ok-l.ensures in
    let g = c.in_ok-s.ensures in
    let h = c.in_ok-budget.ensures in
    let q = g.reads in
    let r = h.reads in
    let same = ap length (h.same_text ∙ g.same_text ∙ f.same_text) in
    let inside = c.number_line.new.self.inside in
    let end = eqb-false c.number_line.new.self.at (length c.number_line.new.self.text.now) (sym c.is_at_end.ensures ∙ c.if-not-is_at_end.true) in
    more_behind (hex_is f.reads) (hex_is (rw f.same_text at q)) (number_is (rw (g.same_text, f.same_text) at r)) (omega arith)

pub returns : goal.returns
unfolding ascii
returns c =
    let f = c.in_ok-l.ensures in
    let g = c.in_ok-s.ensures in
    let h = c.in_ok-budget.ensures in
    let q = g.reads in
    let r = h.reads in
    let same = ap length (h.same_text ∙ g.same_text ∙ f.same_text) in
    let end = eqb-true c.number_line.new.self.at (length c.number_line.new.self.text.now) (sym c.is_at_end.ensures ∙ c.if-not-is_at_end.false) in
    all_lines (hex_is f.reads) (hex_is (rw f.same_text at q)) (number_is (rw (g.same_text, f.same_text) at r)) (omega arith)
