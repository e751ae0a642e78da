-- The fixed search. Document 01, "The search and the proof table":
--   "Pairs are taken in table order. For each letter the left is derived, then the right. The resulting pair (the opening pair first of
--   all) is looked at so: if its marks differ the search ends with "different" and it isn't placed; if it stands in the table nothing
--   happens; else it is placed. When every placed pair has been taken the answer is "same"."
use Rattle.std.specs.Prelude.{ℕ, zero, suc, Bool, true, false, List, [], ◌∷◌, ◌++◌, ltb, length}
use Rattle.std.specs.Bool.{beq}
use Rattle.refusals.specs.Numbers.{no_place_for_pair}
use Rattle.records.specs.declared.record.Record.{Record}
use Rattle.records.specs.Record.{child}
use Rattle.cards.specs.Mark.{marked}
use Rattle.derivative.specs.Derivative.{derived, stopped as unfinished, derive}
use Rattle.pairs.specs.declared.pair.Pair.{Pair}
use Rattle.pairs.specs.Pair.{pair_at, stands_in}
use Rattle.searching.specs.ReadOff.{word_of}

-- What a search comes to, with the store, the table and the budget left: same; different, by a word, and whether the left side has
-- it; or stopped by a number.
pub data Search : Type 0 where
  same : (store : List Record) (table : List Pair) (budget : ℕ) → Search
  different : (word : List ℕ) (left_has : Bool) (store : List Record) (table : List Pair) (budget : ℕ) → Search
  stopped : (number : ℕ) (store : List Record) (table : List Pair) (budget : ℕ) → Search

-- Goes on from a table that stands; an end stays an end.
pub data Going : Type 0 where
  on : (store : List Record) (table : List Pair) (budget : ℕ) → Going
  ends : Search → Going

-- A pair that is reached, by a word, is looked at: marks first, then the table, then room for it.
abbrev pub look : ℕ → ℕ → ℕ → ℕ → ℕ → List ℕ → List Record → List Pair → ℕ → Going
look pairs x y origin letter word store table budget =
    elim (beq (marked (child store x)) (marked (child store y))) [
      | false ↦ ends (different word (marked (child store x)) store table budget)
      | true ↦
          elim (stands_in table x y) [
            | true ↦ on store table budget
            | false ↦
                elim (ltb (length table) pairs) [
                  | true ↦ on store (table ++ record { left = x; right = y; origin = origin; letter = letter } ∷ []) budget
                  | false ↦ ends (stopped no_place_for_pair store table budget)
                ]
          ]
    ]

-- The pair numbered n by one letter: the left derived, then the right.
abbrev pub by_letter : ℕ → ℕ → ℕ → ℕ → List Record → List Pair → ℕ → Going
by_letter room pairs n letter store table budget =
    elim (derive room letter (pair_at table n).left store budget) [
      | derived x store₁ budget₁ ↦
          elim (derive room letter (pair_at table n).right store₁ budget₁) [
            | derived y store₂ budget₂ ↦ look pairs x y n letter (word_of table n ++ letter ∷ []) store₂ table budget₂
            | unfinished number store₂ budget₂ ↦ ends (stopped number store₂ table budget₂)
          ]
      | unfinished number store₁ budget₁ ↦ ends (stopped number store₁ table budget₁)
    ]

-- The pair numbered n by each of these letters in turn.
unfoldable pub by_letters : ℕ → ℕ → ℕ → List ℕ → List Record → List Pair → ℕ → Going
by_letters room pairs n [] store table budget = on store table budget
by_letters room pairs n (letter ∷ rest) store table budget =
    elim (by_letter room pairs n letter store table budget) [
      | on store₁ table₁ budget₁ ↦ by_letters room pairs n rest store₁ table₁ budget₁
      | ends s ↦ ends s
    ]

-- The pairs from number n on, in table order. The table has at most as many as the pair room, so that number of turns is enough.
unfoldable pub take_pairs : ℕ → ℕ → ℕ → List ℕ → ℕ → List Record → List Pair → ℕ → Search
take_pairs zero room pairs letters n store table budget = same store table budget
take_pairs (suc turns) room pairs letters n store table budget =
    elim (ltb n (length table)) [
      | true ↦
          elim (by_letters room pairs n letters store table budget) [
            | on store₁ table₁ budget₁ ↦ take_pairs turns room pairs letters (suc n) store₁ table₁ budget₁
            | ends s ↦ s
          ]
      | false ↦ same store table budget
    ]

-- The search from the opening pair.
unfoldable pub search : ℕ → ℕ → List ℕ → ℕ → ℕ → List Record → ℕ → Search
unfolding by_letters take_pairs stands_in
search room pairs letters x y store budget =
    elim (look pairs x y 0 0 [] store [] budget) [
      | on store₁ table₁ budget₁ ↦ take_pairs pairs room pairs letters 0 store₁ table₁ budget₁
      | ends s ↦ s
    ]
