-- Visits are those of the definition: each finished derivation costs its `visits` and an unfinished one what it spent, so over every part of the
-- checker's pass the store is kept, and the visits and the budget left add up to the budget given.
use Rattle.std.specs.Prelude.{ℕ, suc, ◌+◌, ◌-◌, ◌<◌, ◌≤◌, Bool, ◌≡◌, refl}
use Rattle.std.proofs.Common.{zero-add, arith, sym}
use Rattle.std.proofs.Math.Bool.{true, false}
use mathlib.Core.List.Memᴰ
use mathlib.Core.List.{List, [], ◌∷◌}
use Rattle.std.proofs.Math.ListN.{length}
use Rattle.language.specs.Word.{IsByte, Listed}
use Rattle.records.specs.declared.record.Record.{Record}
use Rattle.store.specs.Laws.Wall.{Grows, Ready, Kept}
use Rattle.store.proofs.Laws.Wall.{grows_length, kept_refl, kept_trans}
use Rattle.derivative.specs.Derivative.{Deriving, derived, stopped, derive}
use Rattle.derivative.specs.Visits.{visits}
use Rattle.derivative.proofs.Laws.Steps.{was_done, was_ended}
use Rattle.derivative.proofs.Laws.Derivative.{derive_law}
use Rattle.pairs.specs.declared.pair.Pair.{Pair}
use Rattle.pairs.specs.Pair.{pair_at, stands_in}
use Rattle.searching.proofs.Laws.Parts.{DeriveLaw}
use Rattle.checking.specs.Check.{Checking, Passing, passes, ends, check_letters, check_pairs, check_list}
use Rattle.checking.specs.Along.{visits_by_letters, visits_by_pairs, visits_of_list}
use Rattle.checking.proofs.Laws.Turns.{checking_store, checking_left, passing_store, passing_left, marks_equal, by_listed, right_then, left_then, letters_then, marks_then, opening_then}

-- From one store and budget to another, at this cost.
pub record Ran (room : ℕ) (store : List Record) (budget cost : ℕ) (store' : List Record) (left : ℕ) : Type 0 where
  pub kept : Kept room store store'
  pub paid : budget ≡ cost + left

-- At no cost.
ran_nowhere : {room : ℕ} {store : List Record} (budget : ℕ) → Ready room store → Ran room store budget 0 store budget
ran_nowhere budget ready = record { kept = kept_refl ready; paid = sym (zero-add budget) }

-- After a first way.
ran_after : {room : ℕ} {store store₁ store₂ : List Record} {budget budget₁ left cost : ℕ} (first : ℕ) → Kept room store store₁ → budget ≡ first + budget₁
    → Ran room store₁ budget₁ cost store₂ left → Ran room store budget (first + cost) store₂ left
ran_after {budget = budget} {left = left} {cost} first k e r =
    let total : budget ≡ first + cost + left = let p = r.paid in omega arith in
    record { kept = kept_trans k r.kept; paid = total }

-- What a stopped derivation spent.
ran_stopped : {room : ℕ} {store store₁ : List Record} {budget left : ℕ} → Kept room store store₁ → left ≤ budget → Ran room store budget (budget - left) store₁ left
ran_stopped {budget = budget} {left} k l = let paid : budget ≡ budget - left + left = omega arith in record { kept = k; paid = paid }

-- The places of these pairs stand in the store, and still do when it has grown.

abbrev pub Inside : List Record → List Pair → Type 0
Inside store pairs = (n : ℕ) → n < length pairs → ((pair_at pairs n).left < length store) × ((pair_at pairs n).right < length store)

inside_grows : {store store' : List Record} (pairs : List Pair) → Grows store store' → Inside store pairs → Inside store' pairs
inside_grows pairs g inside n l = let h = inside n l in (omega (arith, grows_length g), omega (arith, grows_length g))

module _ (room : ℕ) (pairs : List Pair) where
  -- How a part of the pass ran.
  abbrev PassingRan : List Record → ℕ → ℕ → Passing → Type 0
  PassingRan store budget cost p = Ran room store budget cost (passing_store p) (passing_left p)

  abbrev CheckingRan : List Record → ℕ → ℕ → Checking → Type 0
  CheckingRan store budget cost c = Ran room store budget cost (checking_store c) (checking_left c)

  -- The pair of places x and y by a letter, and by those behind it.
  module _ (n x y c : ℕ) (rest : List ℕ) (byte : IsByte c)
      (next : (s : List Record) (b : ℕ) → Ready room s → x < length s → y < length s
      → PassingRan s b (visits_by_letters room pairs x y rest s b) (check_letters room pairs n x y rest s b)) where
    abbrev listed_visits : Bool → List Record → ℕ → ℕ
    listed_visits t s b = elim t as (λ _. ℕ) [ true ↦ visits_by_letters room pairs x y rest s b | false ↦ 0 ]

    listed_ran : (t : Bool) (s : List Record) (b : ℕ) → Ready room s → x < length s → y < length s
        → PassingRan s b (listed_visits t s b) (by_listed room pairs n x y c rest t s b)
    listed_ran true s b ready l m = next s b ready l m
    listed_ran false s b ready l m = ran_nowhere b ready

    -- The right derived, once the left is derived to the place x₁.
    abbrev right_visits : ℕ → List Record → ℕ → Deriving → ℕ
    right_visits x₁ store₁ budget₁ d =
        elim d as (λ _. ℕ) [ derived y₂ s b ↦ visits store₁ y + listed_visits (stands_in pairs x₁ y₂) s b | stopped number s b ↦ budget₁ - b ]

    right_ran : (x₁ : ℕ) {store₁ : List Record} {budget₁ : ℕ} → x < length store₁ → y < length store₁ → {d : Deriving} → DeriveLaw c y room store₁ budget₁ d
        → PassingRan store₁ budget₁ (right_visits x₁ store₁ budget₁ d) (right_then room pairs n x y c rest x₁ d)
    right_ran x₁ {store₁} l m (was_done {place = y₂} {store' = s} {budget' = b} k) =
        let longer = grows_length k.kept.grows in
        ran_after (visits store₁ y) k.kept k.paid (listed_ran (stands_in pairs x₁ y₂) s b k.kept.ready (omega arith) (omega arith))
    right_ran x₁ l m (was_ended e) = ran_stopped e.kept e.spent

    -- The left derived.
    left_ran : {store : List Record} {budget : ℕ} → x < length store → y < length store → {d : Deriving} → DeriveLaw c x room store budget d
        → PassingRan store budget
        (elim d as (λ _. ℕ) [ derived x₁ s b ↦ visits store x + right_visits x₁ s b (derive room c y s b) | stopped number s b ↦ budget - b ])
        (left_then room pairs n x y c rest d)
    left_ran {store} l m (was_done {place = x₁} {store' = s} {budget' = b} k) =
        let longer = grows_length k.kept.grows in
        let y-there : y < length s = omega arith in
        ran_after (visits store x) k.kept k.paid (right_ran x₁ (omega arith) y-there (derive_law c byte room y s b y-there k.kept.ready))
    left_ran l m (was_ended e) = ran_stopped e.kept e.spent

    letter_ran : (store : List Record) (budget : ℕ) → Ready room store → x < length store → y < length store
        → PassingRan store budget (visits_by_letters room pairs x y (c ∷ rest) store budget) (check_letters room pairs n x y (c ∷ rest) store budget)
    unfolding visits_by_letters check_letters
    letter_ran store budget ready l m = left_ran l m (derive_law c byte room x store budget l ready)

  letters_ran : (n x y : ℕ) (letters : List ℕ) → ((c : ℕ) → Listed letters c → IsByte c) → (store : List Record) (budget : ℕ)
      → Ready room store → x < length store → y < length store
      → PassingRan store budget (visits_by_letters room pairs x y letters store budget) (check_letters room pairs n x y letters store budget)
  unfolding visits_by_letters check_letters
  letters_ran n x y [] bytes store budget ready l m = ran_nowhere budget ready
  letters_ran n x y (c ∷ rest) bytes store budget ready l m =
      letter_ran n x y c rest (bytes c (Memᴰ.head refl)) (λ s b r i j. letters_ran n x y rest (λ d k. bytes d (Memᴰ.tail k)) s b r i j) store budget ready l m

  module _ (letters : List ℕ) (bytes : (c : ℕ) → Listed letters c → IsByte c) where
    -- A pair, by its marks, and those behind it.
    module _ (n : ℕ) (p : Pair) (rest : List Pair) (store : List Record) (budget : ℕ) (ready : Ready room store) (inside : Inside store (p ∷ rest))
        (next : (s : List Record) (b : ℕ) → Ready room s → Inside s rest
        → CheckingRan s b (visits_by_pairs room letters pairs (suc n) rest s b) (check_pairs room letters pairs (suc n) rest s b)) where
      after_visits : ℕ → Passing → ℕ
      after_visits cost g = elim g as (λ _. ℕ) [ passes s b ↦ cost + visits_by_pairs room letters pairs (suc n) rest s b | ends c ↦ cost ]

      after_ran : (cost : ℕ) (g : Passing) → PassingRan store budget cost g → CheckingRan store budget (after_visits cost g) (letters_then room letters pairs n p rest g)
      unfolding after_visits
      after_ran cost (passes s b) r = ran_after cost r.kept r.paid (next s b r.kept.ready (λ i l. inside_grows (p ∷ rest) r.kept.grows inside (suc i) (omega arith)))
      after_ran cost (ends c) r = r

      pair_ran : CheckingRan store budget (visits_by_pairs room letters pairs n (p ∷ rest) store budget) (check_pairs room letters pairs n (p ∷ rest) store budget)
      unfolding visits_by_pairs check_pairs after_visits
      pair_ran = go (marks_equal store p)
        where
          here : (p.left < length store) × (p.right < length store)
          here = inside 0 (omega arith)

          cost : ℕ
          cost = visits_by_letters room pairs p.left p.right letters store budget

          lettered : Passing
          lettered = check_letters room pairs n p.left p.right letters store budget

          go : (t : Bool) → CheckingRan store budget (elim t as (λ _. ℕ) [ false ↦ 0 | true ↦ after_visits cost lettered ]) (marks_then room letters pairs n p rest store budget t)
          go false = ran_nowhere budget ready
          go true = after_ran cost lettered (letters_ran n p.left p.right letters bytes store budget ready here.0 here.1)

    pairs_ran : (n : ℕ) (rest : List Pair) (store : List Record) (budget : ℕ) → Ready room store → Inside store rest
        → CheckingRan store budget (visits_by_pairs room letters pairs n rest store budget) (check_pairs room letters pairs n rest store budget)
    unfolding visits_by_pairs check_pairs
    pairs_ran n [] store budget ready inside = ran_nowhere budget ready
    pairs_ran n (p ∷ rest) store budget ready inside = pair_ran n p rest store budget ready inside (λ s b r i. pairs_ran (suc n) rest s b r i)

    -- The list, for the opening pair of places x and y.
    pub list_ran : (x y : ℕ) (store : List Record) (budget : ℕ) → Ready room store → Inside store pairs
        → CheckingRan store budget (visits_of_list room letters pairs x y store budget) (check_list room letters pairs x y store budget)
    unfolding visits_of_list check_list
    list_ran x y store budget ready inside = go (stands_in pairs x y)
      where
        go : (t : Bool)
            → CheckingRan store budget (elim t as (λ _. ℕ) [ false ↦ 0 | true ↦ visits_by_pairs room letters pairs 0 pairs store budget ])
            (opening_then room letters pairs x y store budget t)
        go false = ran_nowhere budget ready
        go true = pairs_ran 0 pairs store budget ready inside
