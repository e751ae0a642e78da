-- The turns of the checker, for the laws that follow it case by case: a letter by what both derivations come to and whether the pair reached is listed, a
-- pair by its marks, the list by its opening pair.
use Rattle.std.specs.Prelude.{ℕ, suc, Bool, true, false, List, ◌≡◌}
use Rattle.std.specs.Bool.{beq}
use Rattle.std.proofs.Math.Path.{ap}
use Rattle.answers.specs.Checking.{at_opening, at_marks, at_letter}
use Rattle.records.specs.declared.record.Record.{Record}
use Rattle.records.specs.Record.{child}
use Rattle.cards.specs.Mark.{marked}
use Rattle.derivative.specs.Derivative.{Deriving, derived, stopped, derive}
use Rattle.pairs.specs.declared.pair.Pair.{Pair}
use Rattle.pairs.specs.Pair.{stands_in}
use Rattle.checking.specs.Check.{Checking, accepted, rejected, cut_off, Passing, passes, ends, check_letters, check_pairs, check_list}

-- The two marks of a pair, compared.
abbrev pub marks_equal : List Record → Pair → Bool
marks_equal store p = beq (marked (child store p.left)) (marked (child store p.right))

-- A letter: what follows both derivations.
module _ (room : ℕ) (pairs : List Pair) (n x y c : ℕ) (rest : List ℕ) where
  -- By whether the pair reached is listed.
  abbrev pub by_listed : Bool → List Record → ℕ → Passing
  by_listed t s b = elim t as (λ _. Passing) [ true ↦ check_letters room pairs n x y rest s b | false ↦ ends (rejected (at_letter n c) s b) ]

  abbrev pub right_then : ℕ → Deriving → Passing
  right_then x₁ d = elim d as (λ _. Passing) [ derived y₂ s b ↦ by_listed (stands_in pairs x₁ y₂) s b | stopped number s b ↦ ends (cut_off number s b) ]

  abbrev pub left_then : Deriving → Passing
  left_then d = elim d as (λ _. Passing) [ derived x₁ s b ↦ right_then x₁ (derive room c y s b) | stopped number s b ↦ ends (cut_off number s b) ]

-- A pair: what follows its marks, and its letters.
module _ (room : ℕ) (letters : List ℕ) (pairs : List Pair) (n : ℕ) (p : Pair) (rest : List Pair) where
  abbrev pub letters_then : Passing → Checking
  letters_then g = elim g as (λ _. Checking) [ passes s b ↦ check_pairs room letters pairs (suc n) rest s b | ends c ↦ c ]

  abbrev pub marks_then : List Record → ℕ → Bool → Checking
  marks_then store b t =
      elim t as (λ _. Checking) [
        | false ↦ rejected (at_marks n) store b
        | true ↦ letters_then (check_letters room pairs n p.left p.right letters store b)
      ]

-- The list: what follows the search for its opening pair.
module _ (room : ℕ) (letters : List ℕ) (pairs : List Pair) (x y : ℕ) (store : List Record) where
  abbrev pub opening_then : ℕ → Bool → Checking
  opening_then b t = elim t as (λ _. Checking) [ false ↦ rejected at_opening store b | true ↦ check_pairs room letters pairs 0 pairs store b ]

  pub opening_listed : (b : ℕ) → stands_in pairs x y ≡ true → check_list room letters pairs x y store b ≡ check_pairs room letters pairs 0 pairs store b
  unfolding check_list
  opening_listed b e = ap (opening_then b) e

  pub opening_unlisted : (b : ℕ) → stands_in pairs x y ≡ false → check_list room letters pairs x y store b ≡ rejected at_opening store b
  unfolding check_list
  opening_unlisted b e = ap (opening_then b) e

-- The store afterwards, and the budget left.

abbrev pub checking_store : Checking → List Record
checking_store (accepted store left) = store
checking_store (rejected point store left) = store
checking_store (cut_off number store left) = store

abbrev pub checking_left : Checking → ℕ
checking_left (accepted store left) = left
checking_left (rejected point store left) = left
checking_left (cut_off number store left) = left

abbrev pub passing_store : Passing → List Record
passing_store (passes store left) = store
passing_store (ends c) = checking_store c

abbrev pub passing_left : Passing → ℕ
passing_left (passes store left) = left
passing_left (ends c) = checking_left c
