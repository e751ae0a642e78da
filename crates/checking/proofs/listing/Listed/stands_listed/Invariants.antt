-- `stands_listed` compares the two places of each mapped pair as one number, which tells places apart: a pair with the number wanted stands in the
-- list, and where no pair passed has it none does.
use Prim.Native.Nat.{ℕ, ◌<◌}
use mathlib.Core.Path.{◌≡◌}
use Rattle.pairs.specs.Pair.{places_of_pair, pair_at}
use Rattle.checking.specs.Listed.{mapped_list}
use Rattle.checking.proofs.listing.Listed.stands_listed.Given as goal

abbrev pub invariant-loop-at : goal.invariant-loop-at
invariant-loop-at l = (k : ℕ) → k < l.at → places_of_pair (pair_at (mapped_list l.self.map.now l.self.list.now) k) ≡ l.wanted → ⊥
