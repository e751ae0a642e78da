-- Visits are those of the definition: each finished derivation costs its `visits` and an unfinished one what it spent, so over every part of the
-- search the visits and the budget left add up to the budget given.
use Prim.Native.Nat.{ℕ, zero, suc, ◌+◌, ◌-◌, ◌<◌}
use Rattle.std.proofs.Common.{zero-add, arith, ◌∙◌, ltb-true}
use Rattle.std.specs.Prelude.{Bool, true, false, ◌≡◌, ltb, length}
use Rattle.std.specs.Bool.{beq}
use mathlib.Core.List.Memᴰ
use mathlib.Core.List.{List, [], ◌∷◌, ◌++◌}
use Rattle.std.proofs.Math.Path.{refl, sym, ap}
use Rattle.language.specs.Word.{IsByte, Listed}
use Rattle.machine.specs.Laws.Keeps.{extends_length}
use Rattle.records.specs.declared.record.Record.{Record}
use Rattle.records.specs.Record.{child}
use Rattle.cards.specs.Mark.{marked}
use Rattle.store.specs.Laws.Wall.{Ready}
use Rattle.derivative.specs.Derivative.{Deriving, derived, stopped as unfinished, derive}
use Rattle.derivative.specs.Visits.{visits}
use Rattle.derivative.proofs.Laws.Steps.{was_done, was_ended}
use Rattle.derivative.proofs.Laws.Derivative.{derive_law}
use Rattle.pairs.specs.declared.pair.Pair.{Pair}
use Rattle.pairs.specs.Pair.{pair_at, stands_in}
use Rattle.searching.specs.ReadOff.{word_of}
use Rattle.searching.specs.Search.{Search, same, different, stopped, Going, on, ends, look, by_letter, by_letters, take_pairs, search}
use Rattle.searching.specs.Along.{visits_made, letter_visits, letters_visits, pairs_visits, search_visits}
use Rattle.searching.proofs.Laws.Parts.{after_deriving, DeriveLaw, after_going, search_after, turned, looked}
use Rattle.searching.specs.Laws.Keeps.{Tabled}
use Rattle.searching.proofs.Laws.Keeps.{tabled_grows, tabled_none, KeptBoth, KeepsGoing, keeps_on, keeps_ends_different, keeps_ends_stopped, look_keeps, by_letter_keeps, by_letters_keeps}

-- The budget that is left where a search ends, and after a part of it.

abbrev pub left_of : Search → ℕ
left_of (same store table left) = left
left_of (different word left_has store table left) = left
left_of (stopped number store table left) = left

abbrev left_after : Going → ℕ
left_after (on store table left) = left
left_after (ends s) = left_of s

-- A reached pair is looked at without a visit.
look_free : (pairs x y origin letter : ℕ) (word : List ℕ) (store : List Record) (table : List Pair) (budget : ℕ)
    → left_after (look pairs x y origin letter word store table budget) ≡ budget
look_free pairs x y origin letter word store table budget =
    go (beq (marked (child store x)) (marked (child store y))) (stands_in table x y) (ltb (length table) pairs)
  where
    go : (p q r : Bool) → left_after (looked (record { left = x; right = y; origin = origin; letter = letter }) word store table p q r budget) ≡ budget
    go false q r = refl
    go true true r = refl
    go true false true = refl
    go true false false = refl

-- The pair n by one letter.
module _ {room pairs : ℕ} (n c : ℕ) {store : List Record} {table : List Pair} (budget : ℕ) (ready : Ready room store) (tabled : Tabled pairs store table)
    (inside : n < length table) (byte : IsByte c) where
  abbrev left_place : ℕ
  left_place = (pair_at table n).left

  abbrev right_place : ℕ
  right_place = (pair_at table n).right

  -- The right side, once the left is derived to the place x.
  abbrev right_then : ℕ → Deriving → Going
  right_then x d = after_deriving table d (λ y s b. look pairs x y n c (word_of table n ++ c ∷ []) s table b)

  right_pays : (x : ℕ) {store₁ : List Record} {budget₁ : ℕ} {d : Deriving} → DeriveLaw c right_place room store₁ budget₁ d
      → budget₁ ≡ visits_made store₁ right_place budget₁ d + left_after (right_then x d)
  right_pays x (was_done {place = y} {store' = store₂} {budget' = budget₂} b) =
      let p = b.paid in
      omega (arith, look_free pairs x y n c (word_of table n ++ c ∷ []) store₂ table budget₂)
  right_pays x (was_ended e) = let q = e.spent in omega arith

  left_pays : {d : Deriving} → DeriveLaw c left_place room store budget d
      → budget
      ≡ (elim d as (λ _. ℕ) [
        | derived x store₁ budget₁ ↦ visits store left_place + visits_made store₁ right_place budget₁ (derive room c right_place store₁ budget₁)
        | unfinished number store₁ budget₁ ↦ budget - budget₁
      ])
      + left_after (after_deriving table d (λ x s b. right_then x (derive room c right_place s b)))
  left_pays (was_done {place = x} {store' = store₁} {budget' = budget₁} a) =
      let there = ((tabled_grows tabled a.kept.grows).inside n inside).1 in
      let p = a.paid in
      omega (arith, right_pays x (derive_law c byte room right_place store₁ budget₁ there a.kept.ready))
  left_pays (was_ended e) = let q = e.spent in omega arith

  letter_pays : budget ≡ letter_visits room n c store table budget + left_after (by_letter room pairs n c store table budget)
  letter_pays = left_pays (derive_law c byte room left_place store budget (tabled.inside n inside).0 ready)

-- A part of the search that has paid, and what follows where it goes on: a further part, or the search from there.
module _ {room pairs : ℕ} {store : List Record} {table : List Pair} {budget : ℕ} (cost : ℕ) (cost_after : List Record → List Pair → ℕ → ℕ) where
  then_pays : {g : Going} → KeepsGoing room pairs store table budget g → budget ≡ cost + left_after g → (after : List Record → List Pair → ℕ → Going)
      → ((s : List Record) (t : List Pair) (b : ℕ) → KeptBoth room pairs store table budget s t b → b ≡ cost_after s t b + left_after (after s t b))
      → budget ≡ cost + (elim g as (λ _. ℕ) [ on s t b ↦ cost_after s t b | ends s ↦ 0 ]) + left_after (after_going g after)
  then_pays (keeps_on {store' = s} {table' = t} {budget' = b} k) paid after next = let rest = next s t b k in omega arith
  then_pays (keeps_ends_different k) paid after next = omega arith
  then_pays (keeps_ends_stopped k) paid after next = omega arith

  then_searched : {g : Going} → KeepsGoing room pairs store table budget g → budget ≡ cost + left_after g → (after : List Record → List Pair → ℕ → Search)
      → ((s : List Record) (t : List Pair) (b : ℕ) → KeptBoth room pairs store table budget s t b → b ≡ cost_after s t b + left_of (after s t b))
      → budget ≡ cost + (elim g as (λ _. ℕ) [ on s t b ↦ cost_after s t b | ends s ↦ 0 ]) + left_of (search_after g after)
  then_searched (keeps_on {store' = s} {table' = t} {budget' = b} k) paid after next = let rest = next s t b k in omega arith
  then_searched (keeps_ends_different k) paid after next = omega arith
  then_searched (keeps_ends_stopped k) paid after next = omega arith

-- The pair n by these letters.
letters_pay : {room pairs : ℕ} (n : ℕ) (letters : List ℕ) → ((c : ℕ) → Listed letters c → IsByte c)
    → {store : List Record} {table : List Pair} (budget : ℕ) → Ready room store → Tabled pairs store table → n < length table
    → budget ≡ letters_visits room pairs n letters store table budget + left_after (by_letters room pairs n letters store table budget)
unfolding by_letters letters_visits
letters_pay n [] bytes budget ready tabled inside = sym (zero-add budget)
letters_pay {room} {pairs} n (c ∷ rest) bytes {store} {table} budget ready tabled inside =
    let byte = bytes c (Memᴰ.head refl) in
    then_pays (letter_visits room n c store table budget) (λ s t b. letters_visits room pairs n rest s t b)
    (by_letter_keeps n c budget ready tabled inside byte)
    (letter_pays n c budget ready tabled inside byte)
    (λ s t b. by_letters room pairs n rest s t b)
    (λ s t b k. letters_pay n rest (λ d m. bytes d (Memᴰ.tail m)) b k.kept.ready k.tabled (omega (arith, extends_length k.extends)))

module _ (room pairs : ℕ) (letters : List ℕ) (bytes : (c : ℕ) → Listed letters c → IsByte c) where
  -- The pairs from number n on.
  pairs_pay : (turns n : ℕ) {store : List Record} {table : List Pair} (budget : ℕ) → Ready room store → Tabled pairs store table
      → budget ≡ pairs_visits turns room pairs letters n store table budget + left_of (take_pairs turns room pairs letters n store table budget)
  unfolding take_pairs pairs_visits
  pairs_pay zero n budget ready tabled = sym (zero-add budget)
  pairs_pay (suc turns) n {store} {table} budget ready tabled =
      go (ltb n (length table)) refl (λ s t b k. pairs_pay turns (suc n) b k.kept.ready k.tabled)
    where
      taken : Going
      taken = by_letters room pairs n letters store table budget

      onward : List Record → List Pair → ℕ → Search
      onward s t b = take_pairs turns room pairs letters (suc n) s t b

      cost_onward : List Record → List Pair → ℕ → ℕ
      cost_onward s t b = pairs_visits turns room pairs letters (suc n) s t b

      go : (left : Bool) → ltb n (length table) ≡ left
          → ((s : List Record) (t : List Pair) (b : ℕ) → KeptBoth room pairs store table budget s t b → b ≡ cost_onward s t b + left_of (onward s t b))
          → budget
          ≡ (elim left as (λ _. ℕ) [
            | true ↦
                letters_visits room pairs n letters store table budget
                + (elim taken as (λ _. ℕ) [ on s t b ↦ cost_onward s t b | ends s ↦ 0 ])
            | false ↦ 0
          ])
          + left_of (turned left taken onward store table budget)
      go true e next =
          let inside = ltb-true n (length table) e in
          then_searched (letters_visits room pairs n letters store table budget) cost_onward (by_letters_keeps n letters budget ready tabled inside bytes)
          (letters_pay n letters bytes budget ready tabled inside)
          onward
          next
      go false e next = sym (zero-add budget)

  -- The search from the opening pair.
  pub search_pays : {store : List Record} → Ready room store → (x y : ℕ) → x < length store → y < length store → (budget : ℕ)
      → budget ≡ search_visits room pairs letters x y store budget + left_of (search room pairs letters x y store budget)
  unfolding search search_visits
  search_pays {store} ready x y x_inside y_inside budget =
      then_searched 0 (λ s t b. pairs_visits pairs room pairs letters 0 s t b)
      (look_keeps x y 0 0 [] budget ready (tabled_none pairs store) x_inside y_inside (omega arith) (omega arith))
      (sym (zero-add _ ∙ look_free pairs x y 0 0 [] store [] budget))
      (λ s t b. take_pairs pairs room pairs letters 0 s t b)
      (λ s t b k. pairs_pay pairs 0 b k.kept.ready k.tabled)
      ∙ ap (λ (v : ℕ). v + left_of (search room pairs letters x y store budget)) (zero-add _)
