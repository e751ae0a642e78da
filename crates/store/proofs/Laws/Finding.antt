-- Finding: what is found is the first place that holds the record, it stays found when records are added, and what is absent
-- stands nowhere.
use Rattle.std.specs.Prelude.{ℕ, zero, suc, ◌+◌, ◌<◌, Bool, true, false, ◌&&◌, List, [], ◌∷◌, ◌++◌, ◌≡◌, refl, eqb, length}
use Rattle.std.proofs.Common.{suc-le-suc, add-zero, zero-add, arith, sym, ◌∙◌, ap, eqb-true, eq-eqb}
use Rattle.std.proofs.lemmas.Bool.{false≢true}
use Rattle.language.proofs.Laws.Tests.{and_left, and_right}
use Rattle.records.specs.declared.record.Record.{Record}
use Rattle.records.specs.Record.{child}
use Rattle.std.specs.declared.option.Option.{Option}
use Rattle.std.specs.declared.option.Option.TheVariants.{Some, None}
use Rattle.store.specs.Making.{identical, find_from, find}

-- Identical records are equal.

pub identical_sound : (r s : Record) → identical r s ≡ true → r ≡ s
identical_sound r s e =
    λ i. record {
      kind = eqb-true r.kind s.kind (and_left a b e₂) i;
      letter = eqb-true r.letter s.letter (and_right a b e₂) i;
      mark = eqb-true r.mark s.mark (and_right (a && b) c e₃) i;
      fourth = eqb-true r.fourth s.fourth (and_right (a && b && c) d e₄) i;
      left = eqb-true r.left s.left (and_right (a && b && c && d) f e₅) i;
      right = eqb-true r.right s.right (and_right (a && b && c && d && f) g e) i;
    }
  where
    a : Bool
    a = eqb r.kind s.kind

    b : Bool
    b = eqb r.letter s.letter

    c : Bool
    c = eqb r.mark s.mark

    d : Bool
    d = eqb r.fourth s.fourth

    f : Bool
    f = eqb r.left s.left

    g : Bool
    g = eqb r.right s.right

    e₅ : a && b && c && d && f ≡ true
    e₅ = and_left (a && b && c && d && f) g e

    e₄ : a && b && c && d ≡ true
    e₄ = and_left (a && b && c && d) f e₅

    e₃ : a && b && c ≡ true
    e₃ = and_left (a && b && c) d e₄

    e₂ : a && b ≡ true
    e₂ = and_left (a && b) c e₃

pub identical_self : (r : Record) → identical r r ≡ true
identical_self r =
    rw (
      eq-eqb r.kind r.kind refl,
      eq-eqb r.letter r.letter refl,
      eq-eqb r.mark r.mark refl,
      eq-eqb r.fourth r.fourth refl,
      eq-eqb r.left r.left refl,
      eq-eqb r.right r.right refl,
    )

-- Where a record is found.
pub record FoundAt (store : List Record) (r : Record) (at place : ℕ) : Type 0 where
  pub steps : ℕ
  pub is : place ≡ at + steps
  pub within : steps < length store
  pub holds : child store steps ≡ r

found_from : (at : ℕ) (store : List Record) (r : Record) (place : ℕ) → find_from at store r ≡ Some place → FoundAt store r at place
unfolding find_from
found_from at [] r place e = absurd (absent_not_found e)
  where
    absent_not_found : None ≡ Some place → ⊥
    absent_not_found e = let z : ◌≡◌ {A = ℕ} 0 1 = cc in omega arith
found_from at (s ∷ rest) r place e = go (identical s r) refl (found_from (suc at) rest r place) e
  where
    go : (b : Bool) → identical s r ≡ b → (find_from (suc at) rest r ≡ Some place → FoundAt rest r (suc at) place)
        → elim b as (λ _. Option ℕ) [ true ↦ Some at | false ↦ find_from (suc at) rest r ] ≡ Some place → FoundAt (s ∷ rest) r at place
    go true f later g =
        let h : at ≡ place = cc in
        record { steps = 0; is = omega arith; within = omega arith; holds = identical_sound s r f }
    go false f later g =
        let h = later g in
        record { steps = suc h.steps; is = omega arith; within = suc-le-suc h.within; holds = h.holds }

pub found_within : (store : List Record) (r : Record) (place : ℕ) → find store r ≡ Some place → place < length store
unfolding find
found_within store r place e = let h = found_from 0 store r place e in omega arith

pub found_holds : (store : List Record) (r : Record) (place : ℕ) → find store r ≡ Some place → child store place ≡ r
unfolding find
found_holds store r place e =
    let h = found_from 0 store r place e in
    let i : place ≡ h.steps = omega arith in
    ap (child store) i ∙ h.holds

-- What is found stays found there when records are added.

from_kept : (at : ℕ) (store more : List Record) (r : Record) (place : ℕ) → find_from at store r ≡ Some place → find_from at (store ++ more) r ≡ Some place
unfolding find_from
from_kept at [] more r place e = let z : ◌≡◌ {A = ℕ} 0 1 = cc in absurd (omega arith)
from_kept at (s ∷ rest) more r place e = go (identical s r) (from_kept (suc at) rest more r place) e
  where
    go : (b : Bool) → (find_from (suc at) rest r ≡ Some place → find_from (suc at) (rest ++ more) r ≡ Some place)
        → elim b as (λ _. Option ℕ) [ true ↦ Some at | false ↦ find_from (suc at) rest r ] ≡ Some place
        → elim b as (λ _. Option ℕ) [ true ↦ Some at | false ↦ find_from (suc at) (rest ++ more) r ] ≡ Some place
    go true later g = g
    go false later g = later g

pub found_kept : (store more : List Record) (r : Record) (place : ℕ) → find store r ≡ Some place → find (store ++ more) r ≡ Some place
unfolding find
found_kept store more r place e = from_kept 0 store more r place e

-- What is absent stands nowhere, and is found at the end once it is added there.

from_absent : (at : ℕ) (store : List Record) (r : Record) → find_from at store r ≡ None → (i : ℕ) → i < length store → child store i ≡ r → ⊥
unfolding find_from
from_absent at [] r e i l h = omega arith
from_absent at (s ∷ rest) r e i l h = go (identical s r) refl (from_absent (suc at) rest r) e i l h
  where
    go : (b : Bool) → identical s r ≡ b
        → (find_from (suc at) rest r ≡ None → (i : ℕ) → i < length rest → child rest i ≡ r → ⊥)
        → elim b as (λ _. Option ℕ) [ true ↦ Some at | false ↦ find_from (suc at) rest r ] ≡ None
        → (i : ℕ) → i < length (s ∷ rest) → child (s ∷ rest) i ≡ r → ⊥
    go true f later g i l h = let z : ◌≡◌ {A = ℕ} 0 1 = cc in omega arith
    go false f later g zero l h = false≢true (sym f ∙ ap (λ (x : Record). identical x r) h ∙ identical_self r)
    go false f later g (suc i) l h = later g i (omega arith) h

pub absent_nowhere : (store : List Record) (r : Record) → find store r ≡ None → (i : ℕ) → i < length store → child store i ≡ r → ⊥
unfolding find
absent_nowhere store r e = from_absent 0 store r e

from_added : (at : ℕ) (store : List Record) (r : Record) → find_from at store r ≡ None → find_from at (store ++ r ∷ []) r ≡ Some (at + length store)
unfolding find_from
from_added at [] r e = go (identical r r) (identical_self r)
  where
    go : (b : Bool) → b ≡ true → elim b as (λ _. Option ℕ) [ true ↦ Some at | false ↦ None ] ≡ Some (at + 0)
    go true f = ap Some (sym (add-zero at))
    go false f = absurd (false≢true f)
from_added at (s ∷ rest) r e = go (identical s r) (from_added (suc at) rest r) e
  where
    go : (b : Bool) → (find_from (suc at) rest r ≡ None → find_from (suc at) (rest ++ r ∷ []) r ≡ Some (suc at + length rest))
        → elim b as (λ _. Option ℕ) [ true ↦ Some at | false ↦ find_from (suc at) rest r ] ≡ None
        → elim b as (λ _. Option ℕ) [ true ↦ Some at | false ↦ find_from (suc at) (rest ++ r ∷ []) r ] ≡ Some (at + suc (length rest))
    go true later g = let z : ◌≡◌ {A = ℕ} 0 1 = cc in absurd (omega arith)
    go false later g = let n : suc at + length rest ≡ at + suc (length rest) = omega arith in later g ∙ ap Some n

pub added_found : (store : List Record) (r : Record) → find store r ≡ None → find (store ++ r ∷ []) r ≡ Some (length store)
unfolding find
added_found store r e = from_added 0 store r e ∙ ap Some (zero-add (length store))
