-- The list of a call and the places that its numbers are mapped to. Named by inner contracts alone.
use Rattle.std.specs.Prelude.{ℕ, ◌/◌, ◌<◌, true, List, ◌≡◌, length, get_or}
use Rattle.refusals.specs.Order.{Good}
use Rattle.cards.specs.Examine.{proof_card}
use Rattle.pairs.specs.declared.pair.Pair.{Pair}
use Rattle.pairs.specs.Pair.{pair_record}
use Rattle.pairs.specs.Room.{pairs_of, listed_pairs}
use Rattle.checking.specs.Outcome.{all_named, mapped}

-- The pairs of a list, mapped to the places that the map gives.
abbrev pub mapped_list : List ℕ → List ℕ → List Pair
mapped_list map list = mapped map (listed_pairs list)

-- Every listed pair names two entries of the map.
pub record Named (list map : List ℕ) : Type 0 where
  pub names : (n : ℕ) → n < pairs_of list → ((pair_record list n).left < length map) × ((pair_record list n).right < length map)

-- Every listed pair is mapped to two places of a store of so many.
pub record Inside (list map : List ℕ) (places : ℕ) : Type 0 where
  pub inside : (n : ℕ) → n < pairs_of list → (get_or map (pair_record list n).left 0 < places) × (get_or map (pair_record list n).right 0 < places)

-- The proof card is in good standing, and every listed pair names two of its records.
pub record GoodProof (proof list : List ℕ) : Type 0 where
  pub good : proof_card proof ≡ Good
  pub named : all_named (length proof / 8) (listed_pairs list) ≡ true
