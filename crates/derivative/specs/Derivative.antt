-- The derivative, in its fixed order. Document 01, "The derivative, in its fixed order":
--   "The derivative visits a record before its children and never visits a child that the rule does not need.
--   nothing, empty word: place 0.
--   letter: place 1 if equal, else place 0.
--   choice: left, right, then make the choice.
--   sequence p q: derive p; make the sequence of that with q; only if p's mark is 1, derive q and make the choice of both.
--   repeat p: derive p, make the sequence of that with the repeat itself.
--   Each visit costs one from the budget; shared records are visited again. With none left the call stops before the visit."
use Rattle.std.specs.Prelude.{ℕ, zero, suc, ◌-◌, Bool, true, false, List, eqb, ltb}
use Rattle.refusals.specs.Numbers.{no_free_place, no_budget_left}
use Rattle.records.specs.declared.kind.Kind.{Kind}
use Rattle.records.specs.declared.kind.Kind.TheVariants.{Nothing, EmptyWord, Letter, Choice, Sequence, Repeat, Unknown}
use Rattle.records.specs.declared.record.Record.{Record}
use Rattle.records.specs.Record.{child}
use Rattle.records.specs.Kind.{kind_of, choice_kind, sequence_kind}
use Rattle.cards.specs.Mark.{bit, marked}
use Rattle.store.specs.Making.{Making, placed, full, nothing_place, make}

-- What a derivation comes to: the derived place, the store and the budget left; or the number that stopped it, and these two as they stood.
pub data Deriving : Type 0 where
  derived : (place : ℕ) (store : List Record) (budget : ℕ) → Deriving
  stopped : (number : ℕ) (store : List Record) (budget : ℕ) → Deriving

-- The price of a visit to a place.
abbrev pub price : ℕ → ℕ
price place = 1

-- Goes on from what was derived; a stop stays a stop.
abbrev pub and_then : Deriving → (ℕ → List Record → ℕ → Deriving) → Deriving
and_then (derived place store budget) next = next place store budget
and_then (stopped number store budget) next = stopped number store budget

-- What making comes to in a derivation: number 7 where no place is free.
abbrev pub of_making : Making → ℕ → Deriving
of_making (placed place store) budget = derived place store budget
of_making (full store) budget = stopped no_free_place store budget

abbrev pub making : ℕ → ℕ → ℕ → ℕ → List Record → ℕ → Deriving
making room kind left right store budget = of_making (make room store kind 0 left right) budget

-- In what follows, `derive` derives a place in a store with a budget.

-- Derive the place, and make the choice of x and that.
abbrev pub choice_with : (ℕ → List Record → ℕ → Deriving) → ℕ → ℕ → ℕ → List Record → ℕ → Deriving
choice_with derive room x place store budget =
    and_then (derive place store budget) (λ y store₁ budget₁. making room choice_kind x y store₁ budget₁)

-- Choice.
abbrev pub derive_choice : (ℕ → List Record → ℕ → Deriving) → ℕ → ℕ → ℕ → List Record → ℕ → Deriving
derive_choice derive room left right store budget =
    and_then (derive left store budget) (λ x store₁ budget₁. choice_with derive room x right store₁ budget₁)

-- Sequence: what follows once the product of the derived left part with the right part is made.
abbrev pub after_product : (ℕ → List Record → ℕ → Deriving) → ℕ → ℕ → Bool → ℕ → List Record → ℕ → Deriving
after_product derive room right left_marked product store budget =
    elim left_marked [ true ↦ choice_with derive room product right store budget | false ↦ derived product store budget ]

-- Make the product of x with the right part, and go on.
abbrev pub with_product : (ℕ → List Record → ℕ → Deriving) → ℕ → ℕ → ℕ → Bool → List Record → ℕ → Deriving
with_product derive room x right left_marked store budget =
    and_then (making room sequence_kind x right store budget)
    (λ product store₁ budget₁. after_product derive room right left_marked product store₁ budget₁)

abbrev pub derive_sequence : (ℕ → List Record → ℕ → Deriving) → ℕ → ℕ → ℕ → Bool → List Record → ℕ → Deriving
derive_sequence derive room left right left_marked store budget =
    and_then (derive left store budget) (λ x store₁ budget₁. with_product derive room x right left_marked store₁ budget₁)

-- Repeat: `self` is the place of the repeat itself.
abbrev pub derive_repeat : (ℕ → List Record → ℕ → Deriving) → ℕ → ℕ → ℕ → List Record → ℕ → Deriving
derive_repeat derive room left self store budget =
    and_then (derive left store budget) (λ x store₁ budget₁. making room sequence_kind x self store₁ budget₁)

-- A record that was visited, by its kind: the record, whether its left child's mark says yes, and its place.
abbrev pub derive_record : Kind → (ℕ → List Record → ℕ → Deriving) → ℕ → ℕ → Record → Bool → ℕ → List Record → ℕ → Deriving
derive_record Nothing derive room letter r left_marked self store budget = derived nothing_place store budget
derive_record EmptyWord derive room letter r left_marked self store budget = derived nothing_place store budget
derive_record Letter derive room letter r left_marked self store budget = derived (bit (eqb r.letter letter)) store budget
derive_record Choice derive room letter r left_marked self store budget = derive_choice derive room r.left r.right store budget
derive_record Sequence derive room letter r left_marked self store budget = derive_sequence derive room r.left r.right left_marked store budget
derive_record Repeat derive room letter r left_marked self store budget = derive_repeat derive room r.left self store budget
derive_record Unknown derive room letter r left_marked self store budget = derived nothing_place store budget

-- The record at a place, once the visit is paid.
abbrev pub derive_visited : (ℕ → List Record → ℕ → Deriving) → ℕ → ℕ → ℕ → List Record → ℕ → Deriving
derive_visited derive room letter place store budget =
    derive_record (kind_of (child store place).kind) derive room letter (child store place)
    (marked (child store (child store place).left)) place store budget

-- The derivative of a place by a letter, in a room of so many places. A child stands lower than its parent, so a depth above the place
-- is enough.
unfoldable pub derive_to : ℕ → ℕ → ℕ → ℕ → List Record → ℕ → Deriving
derive_to zero room letter place store budget = stopped no_budget_left store budget
derive_to (suc depth) room letter place store budget =
    elim (ltb budget (price place)) [
      | true ↦ stopped no_budget_left store budget
      | false ↦ derive_visited (λ p s b. derive_to depth room letter p s b) room letter place store (budget - price place)
    ]

unfoldable pub derive : ℕ → ℕ → ℕ → List Record → ℕ → Deriving
unfolding derive_to
derive room letter place store budget = derive_to (suc place) room letter place store budget
