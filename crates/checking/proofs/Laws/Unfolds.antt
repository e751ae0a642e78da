-- The checker's pass is the pass over the store as a machine: part by part both do the same, in the room that
-- the pass began in.
use Rattle.std.specs.Prelude.{ℕ, suc, Bool, ◌≡◌}
use Rattle.std.proofs.Math.Bool.{true, false}
use mathlib.Core.List.{List, [], ◌∷◌}
use Rattle.std.proofs.Math.Path.{refl}
use Rattle.std.proofs.Common.{sym, ◌∙◌, ap}
use Rattle.machine.specs.Laws.Machine.{Stepped}
use Rattle.machine.specs.Laws.Search as search
use Rattle.machine.specs.Laws.Check as machine
use Rattle.records.specs.declared.record.Record.{Record}
use Rattle.derivative.specs.Derivative.{Deriving, derived, stopped, derive}
use Rattle.pairs.specs.declared.pair.Pair.{Pair}
use Rattle.pairs.specs.Pair.{stands_in}
use Rattle.searching.specs.Laws.StoreMachine.{Having, having, of_deriving, store_machine}
use Rattle.searching.proofs.Laws.Unfolds.{stands_is}
use Rattle.checking.specs.Check.{Checking, accepted, rejected, cut_off, Passing, passes, ends, check_letters, check_pairs, check_list}
use Rattle.checking.proofs.Laws.Turns.{marks_equal, by_listed, right_then, left_then, letters_then, marks_then, opening_then}

-- What the pass over the machine comes to, with the room left out; and what the checker's comes to, with a room put in.

abbrev pub told : machine.Checking Having → Checking
told (machine.accepted h) = accepted h.store h.budget
told (machine.rejected point h) = rejected point h.store h.budget
told (machine.cut_off number h) = cut_off number h.store h.budget

abbrev in_room : ℕ → Checking → machine.Checking Having
in_room room (accepted s b) = machine.accepted (having room s b)
in_room room (rejected point s b) = machine.rejected point (having room s b)
in_room room (cut_off number s b) = machine.cut_off number (having room s b)

abbrev passing_in_room : ℕ → Passing → machine.Passing Having
passing_in_room room (passes s b) = machine.passes (having room s b)
passing_in_room room (ends c) = machine.ends (in_room room c)

module _ (room : ℕ) (pairs : List Pair) where
  abbrev machine_letters : ℕ → ℕ → ℕ → List ℕ → Having → machine.Passing Having
  machine_letters n x y letters h = machine.check_letters store_machine pairs n x y letters h

  -- The pair of places x and y by a letter, and by those behind it.
  module _ (n x y c : ℕ) (rest : List ℕ)
      (next : (s : List Record) (b : ℕ) → machine_letters n x y rest (having room s b) ≡ passing_in_room room (check_letters room pairs n x y rest s b)) where
    -- By whether the pair reached is listed.
    abbrev machine_listed : Bool → Having → machine.Passing Having
    machine_listed t h = machine.by_listed n c t (machine_letters n x y rest h) h

    listed_within : (t : Bool) (s : List Record) (b : ℕ) → machine_listed t (having room s b) ≡ passing_in_room room (by_listed room pairs n x y c rest t s b)
    listed_within true s b = next s b
    listed_within false s b = refl

    -- By what the right derivation comes to, and the left.
    abbrev machine_right : ℕ → Stepped ℕ Having → machine.Passing Having
    machine_right x₁ d = machine.passing_after_step d (λ y₂ h. machine_listed (search.stands_in store_machine pairs x₁ y₂) h)

    right_within : (x₁ : ℕ) (d : Deriving) → machine_right x₁ (of_deriving room d) ≡ passing_in_room room (right_then room pairs n x y c rest x₁ d)
    right_within x₁ (derived y₂ s b) = rw (← stands_is pairs x₁ y₂) (listed_within (stands_in pairs x₁ y₂) s b)
    right_within x₁ (stopped number s b) = refl

    left_within : (d : Deriving)
        → machine.passing_after_step (of_deriving room d) (λ x₁ h. machine_right x₁ (store_machine.step c y h)) ≡ passing_in_room room (left_then room pairs n x y c rest d)
    left_within (derived x₁ s b) = right_within x₁ (derive room c y s b)
    left_within (stopped number s b) = refl

  letters_within : (n x y : ℕ) (letters : List ℕ) (s : List Record) (b : ℕ)
      → machine_letters n x y letters (having room s b) ≡ passing_in_room room (check_letters room pairs n x y letters s b)
  unfolding check_letters machine.check_letters
  letters_within n x y [] s b = refl
  letters_within n x y (c ∷ rest) s b = left_within n x y c rest (letters_within n x y rest) (derive room c x s b)

  module _ (letters : List ℕ) where
    abbrev machine_pairs : ℕ → List Pair → Having → machine.Checking Having
    machine_pairs n rest h = machine.check_pairs store_machine letters pairs n rest h

    -- A pair by its marks and its letters, and those behind it.
    module _ (n : ℕ) (p : Pair) (rest : List Pair)
        (next : (s : List Record) (b : ℕ) → machine_pairs (suc n) rest (having room s b) ≡ in_room room (check_pairs room letters pairs (suc n) rest s b)) where
      after_within : (g : Passing) → machine.checking_after (passing_in_room room g) (machine_pairs (suc n) rest) ≡ in_room room (letters_then room letters pairs n p rest g)
      after_within (passes s b) = next s b
      after_within (ends c) = refl

      marks_within : (s : List Record) (b : ℕ) (t : Bool)
          → machine.by_marks n t (machine.checking_after (machine_letters n p.left p.right letters (having room s b)) (machine_pairs (suc n) rest)) (having room s b)
          ≡ in_room room (marks_then room letters pairs n p rest s b t)
      marks_within s b true = rw (letters_within n p.left p.right letters s b) (after_within (check_letters room pairs n p.left p.right letters s b))
      marks_within s b false = refl

    pairs_within : (n : ℕ) (rest : List Pair) (s : List Record) (b : ℕ)
        → machine_pairs n rest (having room s b) ≡ in_room room (check_pairs room letters pairs n rest s b)
    unfolding check_pairs machine.check_pairs
    pairs_within n [] s b = refl
    pairs_within n (p ∷ rest) s b = marks_within n p rest (pairs_within (suc n) rest) s b (marks_equal s p)

    -- The list, for the opening pair of places x and y.
    module _ (x y : ℕ) (s : List Record) (b : ℕ) where
      list_within : machine.check_list store_machine letters pairs x y (having room s b) ≡ in_room room (check_list room letters pairs x y s b)
      unfolding check_list machine.check_list
      list_within = rw (← stands_is pairs x y) (go (stands_in pairs x y))
        where
          go : (t : Bool) → machine.by_opening t (machine_pairs 0 pairs (having room s b)) (having room s b) ≡ in_room room (opening_then room letters pairs x y s b t)
          go true = pairs_within 0 pairs s b
          go false = refl

      pub list_is : check_list room letters pairs x y s b ≡ told (machine.check_list store_machine letters pairs x y (having room s b))
      list_is = sym (ap told list_within ∙ go (check_list room letters pairs x y s b))
        where
          go : (c : Checking) → told (in_room room c) ≡ c
          go (accepted t i) = refl
          go (rejected point t i) = refl
          go (cut_off number t i) = refl
