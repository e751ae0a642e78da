-- `all_named` goes through the pairs: one that names no record is one too many, and where none was found every pair is named.
use Prim.Native.Nat.{ℕ, ◌<◌}
use mathlib.Core.Bool.{true, ◌&&◌}
use mathlib.Core.Path.{◌≡◌}
use lib.Dec.{ltb}
use Rattle.pairs.specs.Pair.{pair_record}
use Rattle.checking.proofs.naming.all_named.Given as goal

abbrev pub invariant-loop-at : goal.invariant-loop-at
invariant-loop-at l = (k : ℕ) → k < l.at → ltb (pair_record l.list k).left l.count && ltb (pair_record l.list k).right l.count ≡ true
