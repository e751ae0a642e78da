-- The search by its parts, for the laws that follow it case by case: one part, and what follows where it goes on.
use Rattle.std.specs.Prelude.{ℕ, Bool, true, false, List, [], ◌∷◌, ◌++◌}
use Rattle.language.proofs.Laws.Quotient.{Quotient}
use Rattle.records.specs.declared.record.Record.{Record}
use Rattle.records.specs.Record.{child}
use Rattle.cards.specs.Mark.{marked}
use Rattle.store.proofs.Laws.Languages.{language_at}
use Rattle.derivative.specs.Derivative.{Deriving, derived, stopped as unfinished, derive}
use Rattle.derivative.specs.Visits.{visits}
use Rattle.derivative.proofs.Laws.Steps.{StepLaw}
use Rattle.derivative.proofs.Laws.Derivative.{Means}
use Rattle.pairs.specs.declared.pair.Pair.{Pair}
use Rattle.refusals.specs.Numbers.{no_place_for_pair}
use Rattle.searching.specs.Search.{Search, same, different, stopped, Going, on, ends}

-- A derivation, and what follows from the place it comes to; where it stops the search stops.
abbrev pub after_deriving : List Pair → Deriving → (ℕ → List Record → ℕ → Going) → Going
after_deriving table d next =
    elim d as (λ _. Going) [ derived x store budget ↦ next x store budget | unfinished number store budget ↦ ends (stopped number store table budget) ]

-- The law of the derivative of a place by the letter c.
abbrev pub DeriveLaw : ℕ → ℕ → ℕ → List Record → ℕ → Deriving → Type 0
DeriveLaw c place room store budget d =
    StepLaw (λ r s b. derive r c place s b) room store budget (visits store place) (Means (Quotient c (language_at store place))) d

-- A part of the search, and another from where it comes to.
abbrev pub after_going : Going → (List Record → List Pair → ℕ → Going) → Going
after_going g next = elim g as (λ _. Going) [ on store table budget ↦ next store table budget | ends s ↦ ends s ]

-- A part of the search, and the search from where it comes to.
abbrev pub search_after : Going → (List Record → List Pair → ℕ → Search) → Search
search_after g next = elim g as (λ _. Search) [ on store table budget ↦ next store table budget | ends s ↦ s ]

-- A turn of the search where a pair is left to take; "same" where none is.
abbrev pub turned : Bool → Going → (List Record → List Pair → ℕ → Search) → List Record → List Pair → ℕ → Search
turned left turn next store table budget = elim left as (λ _. Search) [ true ↦ search_after turn next | false ↦ same store table budget ]

-- A reached pair, by the three tests: the marks agree, the pair stands in the table, the pair room has space for another.
abbrev pub looked : Pair → List ℕ → List Record → List Pair → Bool → Bool → Bool → ℕ → Going
looked reached word store table agree stands free budget =
    elim agree as (λ _. Going) [
      | false ↦ ends (different word (marked (child store reached.left)) store table budget)
      | true ↦
          elim stands as (λ _. Going) [
            | true ↦ on store table budget
            | false ↦ elim free as (λ _. Going) [ true ↦ on store (table ++ reached ∷ []) budget | false ↦ ends (stopped no_place_for_pair store table budget) ]
          ]
    ]
