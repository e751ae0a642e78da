-- The visits of checking are the sum of `visits` over finished derivations of both sides in order, plus those made in an unfinished one.
-- Each definition goes over the same things as the checker, and stops where the checker ends. Document 01: "It answers accepted, or rejected at
-- the first failing point, with places and visits so far".
use Rattle.std.specs.Prelude.{ℕ, suc, ◌+◌, ◌-◌, ◌/◌, true, false, List, [], ◌∷◌}
use Rattle.std.specs.Bool.{beq}
use Rattle.records.specs.declared.record.Record.{Record}
use Rattle.refusals.specs.Order.{Standing}
use Rattle.refusals.specs.Order.{Good, Refused}
use Rattle.records.specs.Record.{records, child}
use Rattle.cards.specs.Mark.{marked}
use Rattle.loading.specs.Loading.{Loading, loaded, no_room, load}
use Rattle.derivative.specs.Derivative.{derived, stopped, derive}
use Rattle.derivative.specs.Visits.{visits}
use Rattle.pairs.specs.declared.pair.Pair.{Pair}
use Rattle.pairs.specs.Pair.{first_pairs, stands_in}
use Rattle.pairs.specs.Room.{listed_pairs}
use Rattle.pairs.specs.Tried.{tried}
use Rattle.pairs.specs.Opening.{Opening, opened, unopened, open_both}
use Rattle.checking.specs.Check.{passes, ends, check_letters}
use Rattle.checking.specs.Outcome.{check_standing, mapped}

-- The pair of places x and y by each of these letters in turn: none after a pair reached that is not in the list.
unfoldable pub visits_by_letters : ℕ → List Pair → ℕ → ℕ → List ℕ → List Record → ℕ → ℕ
visits_by_letters room pairs x y [] store budget = 0
visits_by_letters room pairs x y (letter ∷ rest) store budget =
    elim (derive room letter x store budget) [
      | derived x₁ store₁ budget₁ ↦
          visits store x
          + elim (derive room letter y store₁ budget₁) [
            | derived y₂ store₂ budget₂ ↦
                visits store₁ y
                + elim (stands_in pairs x₁ y₂) [ true ↦ visits_by_letters room pairs x y rest store₂ budget₂ | false ↦ 0 ]
            | stopped number store₂ budget₂ ↦ budget₁ - budget₂
          ]
      | stopped number store₁ budget₁ ↦ budget - budget₁
    ]

-- These pairs in order, of which the first is numbered n in the list: none after marks that differ or a pair that does not pass.
unfoldable pub visits_by_pairs : ℕ → List ℕ → List Pair → ℕ → List Pair → List Record → ℕ → ℕ
unfolding visits_by_letters check_letters
visits_by_pairs room letters pairs n [] store budget = 0
visits_by_pairs room letters pairs n (p ∷ rest) store budget =
    elim (beq (marked (child store p.left)) (marked (child store p.right))) [
      | false ↦ 0
      | true ↦
          elim (check_letters room pairs n p.left p.right letters store budget) [
            | passes store₁ budget₁ ↦
                visits_by_letters room pairs p.left p.right letters store budget
                + visits_by_pairs room letters pairs (suc n) rest store₁ budget₁
            | ends c ↦ visits_by_letters room pairs p.left p.right letters store budget
          ]
    ]

-- The list, for the opening pair of places x and y: none where that is missing.
unfoldable pub visits_of_list : ℕ → List ℕ → List Pair → ℕ → ℕ → List Record → ℕ → ℕ
unfolding visits_by_pairs stands_in
visits_of_list room letters pairs x y store budget =
    elim (stands_in pairs x y) [ false ↦ 0 | true ↦ visits_by_pairs room letters pairs 0 pairs store budget ]

-- The visits of a call: none where it is refused at once or a card finds no room.
abbrev pub visits_loaded : ℕ → List ℕ → List Pair → ℕ → ℕ → ℕ → Loading → ℕ
visits_loaded room letters list budget x y (loaded places store) = visits_of_list room letters (mapped places list) x y store budget
visits_loaded room letters list budget x y (no_room store) = 0

abbrev pub visits_opened : ℕ → List ℕ → List Record → List Pair → ℕ → Opening → ℕ
visits_opened room letters proof list budget (opened x y store) = visits_loaded room letters list budget x y (load room store proof)
visits_opened room letters proof list budget (unopened store) = 0

abbrev pub visits_standing : Standing → List ℕ → List ℕ → List ℕ → List ℕ → ℕ → ℕ → ℕ
visits_standing (Refused number) left right proof list work budget = 0
visits_standing Good left right proof list work budget =
    visits_opened (work / 8) (tried left right) (records proof) (listed_pairs list) budget (open_both (work / 8) (records left) (records right))

unfoldable pub check_visits : List ℕ → List ℕ → List ℕ → List ℕ → ℕ → ℕ → ℕ
unfolding check_standing tried open_both load mapped visits_of_list first_pairs
check_visits left right proof list work budget = visits_standing (check_standing left right proof list work) left right proof list work budget
