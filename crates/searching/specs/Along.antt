-- The visits of a search are the sum of `visits` over finished derivations of both sides in order, plus those made in an unfinished one.
-- Each definition goes over the same things as the search, and stops where the search ends.
use Rattle.std.specs.Prelude.{ℕ, zero, suc, ◌+◌, ◌-◌, true, false, List, [], ◌∷◌, ltb, length}
use Rattle.records.specs.declared.record.Record.{Record}
use Rattle.derivative.specs.Derivative.{Deriving, derived, stopped as unfinished, derive}
use Rattle.derivative.specs.Visits.{visits}
use Rattle.pairs.specs.declared.pair.Pair.{Pair}
use Rattle.pairs.specs.Pair.{pair_at, stands_in}
use Rattle.searching.specs.Search.{on, ends, look, by_letter, by_letters}

-- The visits of deriving a place in a store with a budget: `visits` where it finished, those made where it did not.
abbrev pub visits_made : List Record → ℕ → ℕ → Deriving → ℕ
visits_made store place budget (derived to store₁ budget₁) = visits store place
visits_made store place budget (unfinished number store₁ budget₁) = budget - budget₁

-- The pair numbered n by one letter: the left derived, then, in the store that it left, the right.
abbrev pub letter_visits : ℕ → ℕ → ℕ → List Record → List Pair → ℕ → ℕ
letter_visits room n letter store table budget =
    elim (derive room letter (pair_at table n).left store budget) [
      | derived x store₁ budget₁ ↦
          visits store (pair_at table n).left
          + visits_made store₁ (pair_at table n).right budget₁ (derive room letter (pair_at table n).right store₁ budget₁)
      | unfinished number store₁ budget₁ ↦ budget - budget₁
    ]

-- The pair numbered n by each of these letters in turn.
unfoldable pub letters_visits : ℕ → ℕ → ℕ → List ℕ → List Record → List Pair → ℕ → ℕ
letters_visits room pairs n [] store table budget = 0
letters_visits room pairs n (letter ∷ rest) store table budget =
    letter_visits room n letter store table budget
    + (elim (by_letter room pairs n letter store table budget) [
      | on store₁ table₁ budget₁ ↦ letters_visits room pairs n rest store₁ table₁ budget₁
      | ends s ↦ 0
    ])

-- The pairs from number n on, in table order.
unfoldable pub pairs_visits : ℕ → ℕ → ℕ → List ℕ → ℕ → List Record → List Pair → ℕ → ℕ
unfolding by_letters letters_visits
pairs_visits zero room pairs letters n store table budget = 0
pairs_visits (suc turns) room pairs letters n store table budget =
    elim (ltb n (length table)) [
      | true ↦
          letters_visits room pairs n letters store table budget
          + (elim (by_letters room pairs n letters store table budget) [
            | on store₁ table₁ budget₁ ↦ pairs_visits turns room pairs letters (suc n) store₁ table₁ budget₁
            | ends s ↦ 0
          ])
      | false ↦ 0
    ]

-- The search from the opening pair, which is looked at without a visit.
unfoldable pub search_visits : ℕ → ℕ → List ℕ → ℕ → ℕ → List Record → ℕ → ℕ
unfolding pairs_visits stands_in
search_visits room pairs letters x y store budget =
    elim (look pairs x y 0 0 [] store [] budget) [
      | on store₁ table₁ budget₁ ↦ pairs_visits pairs room pairs letters 0 store₁ table₁ budget₁
      | ends s ↦ 0
    ]
