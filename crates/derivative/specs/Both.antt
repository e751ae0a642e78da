-- Two places derived by one letter. Document 01: "For each letter the left is derived, then the right."
use Rattle.std.specs.Prelude.{ℕ, List}
use Rattle.records.specs.declared.record.Record.{Record}
use Rattle.derivative.specs.Derivative.{Deriving, derived, stopped, derive}

-- Both derived places, the store and the budget left; or the number that stopped one, and these two as they stood.
pub data DerivingBoth : Type 0 where
  both_derived : (x y : ℕ) (store : List Record) (budget : ℕ) → DerivingBoth
  one_stopped : (number : ℕ) (store : List Record) (budget : ℕ) → DerivingBoth

-- The right one, where the left one came to x.
abbrev pub right_derived : ℕ → Deriving → DerivingBoth
right_derived x (derived y store budget) = both_derived x y store budget
right_derived x (stopped number store budget) = one_stopped number store budget

abbrev pub left_derived : ℕ → ℕ → ℕ → Deriving → DerivingBoth
left_derived room letter y (derived x store budget) = right_derived x (derive room letter y store budget)
left_derived room letter y (stopped number store budget) = one_stopped number store budget

unfoldable pub derive_both : ℕ → ℕ → ℕ → ℕ → List Record → ℕ → DerivingBoth
unfolding derive
derive_both room letter x y store budget = left_derived room letter y (derive room letter x store budget)
