-- `digit_of` answers as the definition does: a half below 10 is a digit from `0` on, any other one from `a` on.
use mathlib.Core.Path.{sym}
use Rattle.text.specs.Laws.Hex.{low_digit, high_digit}
use Rattle.text.proofs.hex.digit_of.Goals as goal

pub returns-then-half-lt10 : goal.returns-then-half-lt10
returns-then-half-lt10 c = sym (low_digit c.args.half c.if-half-lt10.true)

pub returns-else-half-lt10 : goal.returns-else-half-lt10
returns-else-half-lt10 c = sym (high_digit c.args.half c.if-half-lt10.false)
