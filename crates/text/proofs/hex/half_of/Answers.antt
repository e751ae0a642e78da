-- `half_of` tells the two ranges of digits from the numbers below, between and above them.
use native.Mathlib.Omega.{arith}
use Rattle.text.specs.Laws.Halves.{low_half, high_half, below, between, above, outside_half}
use Rattle.text.proofs.hex.half_of.Goals as goal

pub returns-in-48-to-57 : goal.returns-in-48-to-57
returns-in-48-to-57 c = low_half c.args.digit (omega arith) (omega arith)

pub returns-in-97-to-102 : goal.returns-in-97-to-102
returns-in-97-to-102 c = high_half c.args.digit (omega arith) (omega arith)

pub returns-in_default : goal.returns-in_default
returns-in_default c = outside_half (below (omega arith))

pub returns-in_default-2 : goal.returns-in_default-2
returns-in_default-2 c = outside_half (between (omega arith) (omega arith))

pub returns-in_default-3 : goal.returns-in_default-3
returns-in_default-3 c = outside_half (above (omega arith))
