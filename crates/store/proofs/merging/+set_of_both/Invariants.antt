-- `set_of_both` answers as the definition does: where a set is used up by the other, and else by the lower first member put before the set of
-- what is left of both. The measure is the sum of both places: what is behind a member stands lower.
use Prim.Native.Nat.{◌+◌}
use Rattle.store.proofs.merging.+set_of_both.Given as goal

abbrev pub decreases-set_of_both : goal.decreases-set_of_both
decreases-set_of_both l = l.left + l.right
