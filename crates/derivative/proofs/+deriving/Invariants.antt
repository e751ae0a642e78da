-- The functions of the derivative answer as the definitions do: they take the definitions' own steps, each from the store that the step
-- before it left in the room. The measure is eight times the place that is still to derive, the larger of two, and more the further the
-- function stands from deriving it: a child stands lower than its parent. A right part that is not asked for counts nothing.
use Prim.Native.Nat.{ℕ, ◌+◌, ◌*◌, ◌-◌}
use mathlib.Core.Bool.{cond}
use Rattle.derivative.proofs.+deriving.Given as goal

-- The larger of two places.
abbrev pub larger : ℕ → ℕ → ℕ
larger a b = a + (b - a)

abbrev pub decreases-derive : goal.decreases-derive
decreases-derive l = 8 * l.place

abbrev pub decreases-derive_parts : goal.decreases-derive_parts
decreases-derive_parts l = 8 * larger l.left (cond l.both l.right 0) + 4

abbrev pub decreases-with_left : goal.decreases-with_left
decreases-with_left l = 8 * cond l.both l.right 0 + 3

abbrev pub decreases-with_right : goal.decreases-with_right
decreases-with_right l = 8 * cond l.both l.right 0 + 2
