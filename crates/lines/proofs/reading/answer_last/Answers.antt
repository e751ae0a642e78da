-- Where no byte came there is no line.
use Rattle.std.proofs.Common.{sym, ◌∙◌}
use Rattle.lines.proofs.Reached.{nothing_came}
use Rattle.lines.proofs.reading.answer_last.Goals as goal

pub returns-then-line-eq0 : goal.returns-then-line-eq0
returns-then-line-eq0 g c =
    λ came holds. (c.args.answer, nothing_came 400000 (goal.F-step g) c.args.answer came (sym holds.counted ∙ c.if-line-eq0.true))
