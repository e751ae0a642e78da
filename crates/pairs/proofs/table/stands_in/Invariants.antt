-- `stands_in` compares the two places of each pair as one number, which tells places apart: a pair with the number wanted stands in the
-- table, and where no pair passed has it none does.
use Prim.Native.Nat.{ℕ, ◌<◌}
use mathlib.Core.Path.{◌≡◌}
use Rattle.pairs.specs.Pair.{places_of_pair, pair_record}
use Rattle.pairs.proofs.table.stands_in.Given as goal

abbrev pub invariant-loop-at : goal.invariant-loop-at
invariant-loop-at l = (k : ℕ) → k < l.at → places_of_pair (pair_record l.room k) ≡ l.wanted → ⊥
