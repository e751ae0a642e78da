-- `value_of` tells digits from the numbers below and above them.
use native.Mathlib.Omega.{arith}
use Rattle.text.specs.Told.{no_digit}
use Rattle.text.specs.Laws.Growing.{digit_of}
use Rattle.text.proofs.decimal.value_of.Goals as goal

pub returns-in-48-to-57 : goal.returns-in-48-to-57
returns-in-48-to-57 c = rw c.from.ensures (digit_of c.args.digit (omega arith) (omega arith))

pub returns-in_default : goal.returns-in_default
returns-in_default c = no_digit (λ d. omega arith)

pub returns-in_default-2 : goal.returns-in_default-2
returns-in_default-2 c = no_digit (λ d. omega arith)
