-- The checker, over a list of pairs of places. Document 01: "It answers accepted, or rejected at the first failing point, with places and
-- visits so far: opening pair missing; else, pair by pair in list order, marks differ, then for each letter ascending, left derived before
-- right, the pair reached is not in the list, compared by place."
use Rattle.std.specs.Prelude.{ℕ, suc, true, false, List, [], ◌∷◌}
use Rattle.std.specs.Bool.{beq}
use Rattle.answers.specs.Checking.{Point, at_opening, at_marks, at_letter}
use Rattle.records.specs.declared.record.Record.{Record}
use Rattle.records.specs.Record.{child}
use Rattle.cards.specs.Mark.{marked}
use Rattle.derivative.specs.Derivative.{derived, stopped, derive}
use Rattle.pairs.specs.declared.pair.Pair.{Pair}
use Rattle.pairs.specs.Pair.{stands_in}

-- What checking comes to, with the store and the budget left.
pub data Checking : Type 0 where
  accepted : (store : List Record) (budget : ℕ) → Checking
  rejected : (point : Point) (store : List Record) (budget : ℕ) → Checking
  cut_off : (number : ℕ) (store : List Record) (budget : ℕ) → Checking

-- Passes, or an end.
pub data Passing : Type 0 where
  passes : (store : List Record) (budget : ℕ) → Passing
  ends : Checking → Passing

-- The pair numbered n, of places x and y, by each of these letters in turn.
unfoldable pub check_letters : ℕ → List Pair → ℕ → ℕ → ℕ → List ℕ → List Record → ℕ → Passing
check_letters room pairs n x y [] store budget = passes store budget
check_letters room pairs n x y (letter ∷ rest) store budget =
    elim (derive room letter x store budget) [
      | derived x₁ store₁ budget₁ ↦
          elim (derive room letter y store₁ budget₁) [
            | derived y₂ store₂ budget₂ ↦
                elim (stands_in pairs x₁ y₂) [
                  | true ↦ check_letters room pairs n x y rest store₂ budget₂
                  | false ↦ ends (rejected (at_letter n letter) store₂ budget₂)
                ]
            | stopped number store₂ budget₂ ↦ ends (cut_off number store₂ budget₂)
          ]
      | stopped number store₁ budget₁ ↦ ends (cut_off number store₁ budget₁)
    ]

-- These pairs in order, of which the first is numbered n in the list.
unfoldable pub check_pairs : ℕ → List ℕ → List Pair → ℕ → List Pair → List Record → ℕ → Checking
check_pairs room letters pairs n [] store budget = accepted store budget
check_pairs room letters pairs n (p ∷ rest) store budget =
    elim (beq (marked (child store p.left)) (marked (child store p.right))) [
      | false ↦ rejected (at_marks n) store budget
      | true ↦
          elim (check_letters room pairs n p.left p.right letters store budget) [
            | passes store₁ budget₁ ↦ check_pairs room letters pairs (suc n) rest store₁ budget₁
            | ends c ↦ c
          ]
    ]

-- The list, for the opening pair of places x and y.
unfoldable pub check_list : ℕ → List ℕ → List Pair → ℕ → ℕ → List Record → ℕ → Checking
unfolding check_letters check_pairs stands_in
check_list room letters pairs x y store budget =
    elim (stands_in pairs x y) [
      | false ↦ rejected at_opening store budget
      | true ↦ check_pairs room letters pairs 0 pairs store budget
    ]
