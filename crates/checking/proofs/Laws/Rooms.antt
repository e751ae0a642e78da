-- Checking with what a call works with: what the code answers of a letter, of the letters, of a pair and of the list, with the store that it leaves, is
-- what the next step goes on from, since the store that then stands is good again.
use Rattle.std.specs.Prelude.{ℕ, suc, ◌+◌, ◌<◌, ◌≤◌, Bool, ◌≡◌, length, get_or}
use Rattle.std.proofs.Common.{le_refl, add-one, arith, sym, ◌∙◌, drop-cons}
use Rattle.std.proofs.Math.Bool.{true, false}
use Rattle.std.specs.declared.result.Result.{Result}
use Rattle.std.specs.declared.result.Result.TheVariants.{Ok, Err}
use mathlib.Core.List.{List, [], ◌∷◌}
use Rattle.std.proofs.Math.Path.{refl, ap}
use Rattle.std.proofs.Math.ListN.{drop, drop_of_length-le}
use Rattle.answers.specs.Checking.{at_marks}
use Rattle.language.specs.Word.{IsByte}
use Rattle.refusals.specs.declared.refusal.Refusal.{Refusal}
use Rattle.records.specs.declared.record.Record.{Record}
use Rattle.store.specs.declared.work.Work.{Work}
use Rattle.store.specs.Room.{places_of, laid}
use Rattle.store.specs.Laws.Wall.{Kept}
use Rattle.store.specs.Work.{store_of, space_of}
use Rattle.store.proofs.Laws.Room.{laid_same, laid_laid}
use Rattle.store.proofs.Laws.Wall.{grows_length, kept_refl, kept_trans}
use Rattle.store.proofs.Laws.GoodRoom.{room_ready, length_store_in, places_after}
use Rattle.derivative.specs.Derivative.{Deriving, derived, stopped, derive}
use Rattle.derivative.specs.Both.{DerivingBoth, both_derived, one_stopped, left_derived, right_derived, derive_both}
use Rattle.derivative.specs.Told.{both_told, BothCome}
use Rattle.derivative.proofs.Laws.Rooms.{in_store}
use Rattle.derivative.proofs.Laws.Both.{KeepsBoth, derives_both, stops_one, both_keeps}
use Rattle.pairs.specs.declared.pair.Pair.{Pair}
use Rattle.pairs.specs.Pair.{no_pair, pair_at, stands_in}
use Rattle.checking.specs.declared.failing.Failure.{Failure}
use Rattle.checking.specs.declared.failing.Failure.TheVariants.{OpeningMissing, MarksDiffer, NotListed, Refused}
use Rattle.checking.specs.Check.{Checking, rejected, cut_off, Passing, passes, ends, check_letters, check_pairs, check_list}
use Rattle.checking.specs.Listed.{Inside}
use Rattle.checking.specs.Told.{check_pair, failure_told, passing_told, Leaves, Goes, Ends}
use Rattle.checking.proofs.Laws.Turns.{marks_equal, by_listed, right_then, left_then, letters_then, marks_then, opening_listed, opening_unlisted}

-- A part that changes nothing.
pub unchanged : (w : Work) → Leaves w w
unchanged w =
    record { room_is = sym (laid_same w.places w.room.now w.good.fits w.good.bytes); kept = kept_refl (room_ready w.good); spent = le_refl w.budget }

module _ {w w' : Work} (u : Leaves w w') where
  -- The room has as many places, and no fewer are taken.

  pub space_now : space_of w' ≡ space_of w
  space_now = ap places_of u.room_is ∙ places_after w.room.now u.kept

  pub more_taken : w.places ≤ w'.places
  more_taken = omega (arith, grows_length u.kept.grows, length_store_in w.room.now w.places, length_store_in w'.room.now w'.places)

  -- Places of the first store are places of this one.

  pub both_inside : {x y : ℕ} → (x < w.places) × (y < w.places) → (x < w'.places) × (y < w'.places)
  both_inside l = let a = l.0 in let b = l.1 in let m = more_taken in (omega arith, omega arith)

  pub inside_now : {list map : List ℕ} → Inside list map w.places → Inside list map w'.places
  inside_now m = record { inside = λ n l. both_inside (m.inside n l) }

  -- What a part leaves from here is left from the first.
  pub left_from : {w'' : Work} → Leaves w' w'' → Leaves w w''
  left_from {w''} l =
      let k : Kept (space_of w) (store_of w') (store_of w'') = rw space_now at l.kept in
      record {
        room_is = l.room_is ∙ ap (laid (store_of w'')) u.room_is ∙ laid_laid (store_of w') (store_of w'') w.room.now (grows_length k.grows);
        kept = kept_trans u.kept k;
        spent = let a = u.spent in let b = l.spent in omega arith;
      }

-- A loop of so many turns, which comes to this from a turn on in a room of so many places.
module _ {R : Type 0} (run : ℕ → ℕ → List Record → ℕ → R) (count : ℕ) where
  -- The turns before `at` passed from `w₀`: the loop comes to what it comes to from there on.
  pub record Underway (w₀ w : Work) (at : ℕ) : Type 0 where
    pub leaves : Leaves w₀ w
    pub rest : run (space_of w₀) 0 (store_of w₀) w₀.budget ≡ run (space_of w₀) at (store_of w) w.budget

  -- At first none passed.
  pub at_first : (w : Work) → Underway w w 0
  at_first w = record { leaves = unchanged w; rest = refl }

  -- What one turn comes to, and what follows it.
  module _ (step : ℕ → ℕ → List Record → ℕ → Passing) (of_end : Checking → R) where
    abbrev then_run : ℕ → ℕ → Passing → R
    then_run cap at p = elim p as (λ _. R) [ passes s b ↦ run cap (suc at) s b | ends c ↦ of_end c ]

    module _ (turn : (cap at : ℕ) (s : List Record) (b : ℕ) → at < count → run cap at s b ≡ then_run cap at (step cap at s b))
        {w₀ w : Work} {at : ℕ} (u : Underway w₀ w at) (l : at < count)
        {answer : Result (Unit {0}) Failure} {w₁ : Work} (g : Goes w (step (space_of w) at (store_of w) w.budget) answer w₁) where
      -- The turn is the definition's, and what follows it too.
      onward : run (space_of w₀) 0 (store_of w₀) w₀.budget ≡ then_run (space_of w₀) at (passing_told answer (store_of w₁) w₁.budget)
      onward =
          let here : step (space_of w₀) at (store_of w) w.budget ≡ passing_told answer (store_of w₁) w₁.budget
          = ap (λ (cap : ℕ). step cap at (store_of w) w.budget) (sym (space_now u.leaves)) ∙ g.is in
          u.rest ∙ turn (space_of w₀) at (store_of w) w.budget l ∙ ap (then_run (space_of w₀) at) here

      pub turn_leaves : Leaves w₀ w₁
      turn_leaves = left_from u.leaves g.leaves

      -- The loop goes on behind the turn.
      turn_passed : {told : Unit {0}} → answer ≡ Ok told → Underway w₀ w₁ (at + 1)
      turn_passed e =
          record {
            leaves = turn_leaves;
            rest =
                rw add-one
                (onward ∙ ap (λ (a : Result (Unit {0}) Failure). then_run (space_of w₀) at (passing_told a (store_of w₁) w₁.budget)) e);
          }

      -- The loop ends with the turn.
      turn_ended : {failure : Failure} → answer ≡ Err failure → run (space_of w₀) 0 (store_of w₀) w₀.budget ≡ of_end (failure_told failure (store_of w₁) w₁.budget)
      turn_ended e = onward ∙ ap (λ (a : Result (Unit {0}) Failure). then_run (space_of w₀) at (passing_told a (store_of w₁) w₁.budget)) e

-- One letter: by what both derivations come to, then by whether the pair reached is listed, then the letters behind it.
module _ (cap : ℕ) (pairs : List Pair) (n x y c : ℕ) (rest : List ℕ) where
  abbrev looked : DerivingBoth → Passing
  looked (both_derived x₁ y₂ s b) = by_listed cap pairs n x y c rest (stands_in pairs x₁ y₂) s b
  looked (one_stopped number s b) = ends (cut_off number s b)

  by_both : (s : List Record) (b : ℕ) → check_letters cap pairs n x y (c ∷ rest) s b ≡ looked (derive_both cap c x y s b)
  unfolding check_letters derive_both
  by_both s b = first (derive cap c x s b)
    where
      second : (x₁ : ℕ) (d : Deriving) → right_then cap pairs n x y c rest x₁ d ≡ looked (right_derived x₁ d)
      second x₁ (derived y₂ s₂ b₂) = refl
      second x₁ (stopped number s₂ b₂) = refl

      first : (d : Deriving) → left_then cap pairs n x y c rest d ≡ looked (left_derived cap c y d)
      first (derived x₁ s₁ b₁) = second x₁ (derive cap c y s₁ b₁)
      first (stopped number s₁ b₁) = refl

  -- The letters behind it, where it passes.
  abbrev rest_then : Passing → Passing
  rest_then p = elim p as (λ _. Passing) [ passes s b ↦ check_letters cap pairs n x y rest s b | ends e ↦ ends e ]

-- A letter and those behind it are the letter alone, and then those.

listed_then : (cap : ℕ) (pairs : List Pair) (n x y c : ℕ) (rest : List ℕ) (t : Bool) (s : List Record) (b : ℕ)
    → by_listed cap pairs n x y c rest t s b ≡ rest_then cap pairs n x y c rest (by_listed cap pairs n x y c [] t s b)
unfolding check_letters
listed_then cap pairs n x y c rest true s b = refl
listed_then cap pairs n x y c rest false s b = refl

one_then : (cap : ℕ) (pairs : List Pair) (n x y c : ℕ) (rest : List ℕ) (s : List Record) (b : ℕ)
    → check_letters cap pairs n x y (c ∷ rest) s b ≡ rest_then cap pairs n x y c rest (check_letters cap pairs n x y (c ∷ []) s b)
one_then cap pairs n x y c rest s b =
    by_both cap pairs n x y c rest s b
    ∙ go (derive_both cap c x y s b)
    ∙ ap (rest_then cap pairs n x y c rest) (sym (by_both cap pairs n x y c [] s b))
  where
    go : (d : DerivingBoth) → looked cap pairs n x y c rest d ≡ rest_then cap pairs n x y c rest (looked cap pairs n x y c [] d)
    go (both_derived x₁ y₂ s₂ b₂) = listed_then cap pairs n x y c rest (stands_in pairs x₁ y₂) s₂ b₂
    go (one_stopped number s₂ b₂) = refl

-- The code of one letter.
module _ {w : Work} (x y letter : ℕ) (byte : IsByte letter) (inside : (x < w.places) × (y < w.places))
    {answer : Result (ℕ × ℕ) Refusal} {w' : Work} (c : BothCome w (derive_both (space_of w) letter x y (store_of w) w.budget) answer w') where
  keeps : KeepsBoth (space_of w) (store_of w) w.budget (both_told answer (store_of w') w'.budget)
  keeps =
      rw c.is at
      (both_keeps letter byte (space_of w) (store_of w) w.budget x y (in_store w.room.now inside.0) (in_store w.room.now inside.1) (room_ready w.good))

  both_leave : Leaves w w'
  both_leave = let k = go answer keeps in record { room_is = c.leaves; kept = k.0; spent = k.1 }
    where
      go : (a : Result (ℕ × ℕ) Refusal) → KeepsBoth (space_of w) (store_of w) w.budget (both_told a (store_of w') w'.budget)
          → Kept (space_of w) (store_of w) (store_of w') × (w'.budget ≤ w.budget)
      go (Ok p) (derives_both k l m n) = (k, n)
      go (Err refusal) (stops_one k n) = (k, n)

  -- Two places that both derivations reach fit 16 bits.
  pub reached_fit : {x₁ y₂ : ℕ} → answer ≡ Ok (x₁, y₂) → (x₁ < 65536) × (y₂ < 65536)
  reached_fit e = go _ keeps e
    where
      go : (a : Result (ℕ × ℕ) Refusal) → KeepsBoth (space_of w) (store_of w) w.budget (both_told a (store_of w') w'.budget)
          → {x₁ y₂ : ℕ} → a ≡ Ok (x₁, y₂) → (x₁ < 65536) × (y₂ < 65536)
      go (Ok p) (derives_both k l m n) {x₁} {y₂} e =
          let i : p.0 ≡ x₁ = cc in
          let j : p.1 ≡ y₂ = cc in
          let v = k.ready.within in
          let g = w.good.short in
          (omega arith, omega arith)
      go (Err refusal) (stops_one k n) e = let z : ◌≡◌ {A = ℕ} 0 1 = cc in absurd (omega arith)

  module _ (pairs : List Pair) (n : ℕ) where
    abbrev one_letter : Passing
    one_letter = check_letters (space_of w) pairs n x y (letter ∷ []) (store_of w) w.budget

    is_looked : one_letter ≡ looked (space_of w) pairs n x y letter [] (both_told answer (store_of w') w'.budget)
    is_looked = by_both (space_of w) pairs n x y letter [] (store_of w) w.budget ∙ ap (looked (space_of w) pairs n x y letter []) c.is

    -- Both places were derived: the pair reached is looked up.
    module _ {x₁ y₂ : ℕ} (e : answer ≡ Ok (x₁, y₂)) where
      is_listed : {t : Bool} → t ≡ stands_in pairs x₁ y₂ → {says : Bool} → t ≡ says
          → one_letter ≡ by_listed (space_of w) pairs n x y letter [] says (store_of w') w'.budget
      is_listed f g =
          is_looked
          ∙ ap (λ (a : Result (ℕ × ℕ) Refusal). looked (space_of w) pairs n x y letter [] (both_told a (store_of w') w'.budget)) e
          ∙ ap (λ (t : Bool). by_listed (space_of w) pairs n x y letter [] t (store_of w') w'.budget) (sym f ∙ g)

      pub letter_passes : {t : Bool} → t ≡ stands_in pairs x₁ y₂ → t ≡ true → Goes w one_letter (Ok tt) w'
      unfolding check_letters
      letter_passes f g = record { is = is_listed f g; leaves = both_leave }

      pub letter_misses : {t : Bool} → t ≡ stands_in pairs x₁ y₂ → t ≡ false → Goes w one_letter (Err (NotListed n letter)) w'
      letter_misses f g = record { is = is_listed f g; leaves = both_leave }

    -- One was stopped.
    pub letter_stops : {refusal : Refusal} → answer ≡ Err refusal → Goes w one_letter (Err (Refused refusal)) w'
    letter_stops e =
        record {
          is = is_looked ∙ ap (λ (a : Result (ℕ × ℕ) Refusal). looked (space_of w) pairs n x y letter [] (both_told a (store_of w') w'.budget)) e;
          leaves = both_leave;
        }

-- The letters of a pair, by turns of one.
module _ (pairs : List Pair) (n x y : ℕ) (letters : List ℕ) where
  abbrev letters_run : ℕ → ℕ → List Record → ℕ → Passing
  letters_run cap at s b = check_letters cap pairs n x y (drop at letters) s b

  abbrev letters_step : ℕ → ℕ → List Record → ℕ → Passing
  letters_step cap at s b = check_letters cap pairs n x y (get_or letters at 0 ∷ []) s b

  letters_turn : (cap at : ℕ) (s : List Record) (b : ℕ) → at < length letters
      → letters_run cap at s b ≡ then_run letters_run (length letters) letters_step ends cap at (letters_step cap at s b)
  letters_turn cap at s b l =
      ap (λ (w : List ℕ). check_letters cap pairs n x y w s b) (drop-cons letters at 0 l) ∙ one_then cap pairs n x y (get_or letters at 0) (drop (suc at) letters) s b

  abbrev pub ByLetters : Work → Work → ℕ → Type 0
  ByLetters w₀ w at = Underway letters_run (length letters) w₀ w at

  pub letters_first : (w : Work) → ByLetters w w 0
  letters_first w = at_first letters_run (length letters) w

  module _ {w₀ w : Work} {at : ℕ} (u : ByLetters w₀ w at) where
    abbrev all_letters : Passing
    all_letters = check_letters (space_of w₀) pairs n x y letters (store_of w₀) w₀.budget

    pub letters_done : length letters ≤ at → Goes w₀ all_letters (Ok tt) w
    unfolding check_letters
    letters_done l =
        let e : drop at letters ≡ [] = drop_of_length-le letters {i = at} l in
        record {
          is = u.rest ∙ ap (λ (v : List ℕ). check_letters (space_of w₀) pairs n x y v (store_of w) w.budget) e;
          leaves = u.leaves;
        }

    module _ (l : at < length letters) {answer : Result (Unit {0}) Failure} {w₁ : Work}
        (g : Goes w (check_letters (space_of w) pairs n x y (get_or letters at 0 ∷ []) (store_of w) w.budget) answer w₁) where
      pub letter_passed : {told : Unit {0}} → answer ≡ Ok told → ByLetters w₀ w₁ (at + 1)
      letter_passed e = turn_passed letters_run (length letters) letters_step ends letters_turn u l g e

      pub letter_ended : {failure : Failure} → answer ≡ Err failure → Goes w₀ all_letters (Err failure) w₁
      letter_ended e =
          record {
            is = turn_ended letters_run (length letters) letters_step ends letters_turn u l g e;
            leaves = turn_leaves letters_run (length letters) letters_step ends letters_turn u l g;
          }

-- The code of one pair, by whether its marks agree.
module _ (w : Work) (letters : List ℕ) (pairs : List Pair) (n : ℕ) {p : Pair} (is : p ≡ pair_at pairs n)
    {t : Bool} (agree : t ≡ marks_equal (store_of w) p) where
  abbrev one_pair : Pair → Passing
  one_pair q = check_pair (space_of w) letters pairs n q (store_of w) w.budget

  -- What follows the comparison of the marks.
  abbrev by_marks : Bool → Passing
  by_marks t =
      elim t as (λ _. Passing) [
        | false ↦ ends (rejected (at_marks n) (store_of w) w.budget)
        | true ↦ check_letters (space_of w) pairs n p.left p.right letters (store_of w) w.budget
      ]

  is_by_marks : {says : Bool} → t ≡ says → one_pair (pair_at pairs n) ≡ by_marks says
  is_by_marks e = ap one_pair (sym is) ∙ ap by_marks (sym agree ∙ e)

  pub told_differing : t ≡ false → Goes w (one_pair (pair_at pairs n)) (Err (MarksDiffer n)) w
  told_differing e = record { is = is_by_marks e; leaves = unchanged w }

  pub on_agreeing : t ≡ true → {answer : Result (Unit {0}) Failure} {w₁ : Work}
      → Goes w (check_letters (space_of w) pairs n p.left p.right letters (store_of w) w.budget) answer w₁
      → Goes w (one_pair (pair_at pairs n)) answer w₁
  on_agreeing e g = record { is = is_by_marks e ∙ g.is; leaves = g.leaves }

-- The pairs, by turns of one.
module _ (letters : List ℕ) (pairs : List Pair) where
  abbrev pairs_run : ℕ → ℕ → List Record → ℕ → Checking
  pairs_run cap at s b = check_pairs cap letters pairs at (drop at pairs) s b

  abbrev pairs_step : ℕ → ℕ → List Record → ℕ → Passing
  pairs_step cap at s b = check_pair cap letters pairs at (pair_at pairs at) s b

  -- One pair, and the pairs behind it.
  pair_then : (cap n : ℕ) (p : Pair) (rest : List Pair) (s : List Record) (b : ℕ)
      → check_pairs cap letters pairs n (p ∷ rest) s b ≡ letters_then cap letters pairs n p rest (check_pair cap letters pairs n p s b)
  unfolding check_pairs
  pair_then cap n p rest s b = go (marks_equal s p)
    where
      go : (t : Bool)
          → marks_then cap letters pairs n p rest s b t
          ≡ letters_then cap letters pairs n p rest
          (elim t as (λ _. Passing) [ false ↦ ends (rejected (at_marks n) s b) | true ↦ check_letters cap pairs n p.left p.right letters s b ])
      go false = refl
      go true = refl

  pairs_turn : (cap at : ℕ) (s : List Record) (b : ℕ) → at < length pairs
      → pairs_run cap at s b ≡ then_run pairs_run (length pairs) pairs_step (λ c. c) cap at (pairs_step cap at s b)
  pairs_turn cap at s b l =
      ap (λ (w : List Pair). check_pairs cap letters pairs at w s b) (drop-cons pairs at no_pair l)
      ∙ pair_then cap at (pair_at pairs at) (drop (suc at) pairs) s b

  abbrev pub ByPairs : Work → Work → ℕ → Type 0
  ByPairs w₀ w at = Underway pairs_run (length pairs) w₀ w at

  pub pairs_first : (w : Work) → ByPairs w w 0
  pairs_first w = at_first pairs_run (length pairs) w

  -- That pairs were passed is said by the bytes of the room, the places and the budget, and so of any `Work` that has the same.
  pub pairs_alike : {w₀ w v : Work} {at : ℕ} → v.room.now ≡ w.room.now → v.places ≡ w.places → v.budget ≡ w.budget → ByPairs w₀ w at → ByPairs w₀ v at
  pairs_alike e f g u =
      record { leaves = record { room_is = rw (e, f) u.leaves.room_is; kept = rw (e, f) u.leaves.kept; spent = rw g u.leaves.spent }; rest = rw (e, f, g) u.rest }

  module _ {w₀ w : Work} {at : ℕ} (u : ByPairs w₀ w at) where
    abbrev all_pairs : Checking
    all_pairs = check_pairs (space_of w₀) letters pairs 0 pairs (store_of w₀) w₀.budget

    pub pairs_done : length pairs ≤ at → Ends w₀ all_pairs (Ok tt) w
    unfolding check_pairs
    pairs_done l =
        let e : drop at pairs ≡ [] = drop_of_length-le pairs {i = at} l in
        record {
          is = u.rest ∙ ap (λ (v : List Pair). check_pairs (space_of w₀) letters pairs at v (store_of w) w.budget) e;
          leaves = u.leaves;
        }

    module _ (l : at < length pairs) {answer : Result (Unit {0}) Failure} {w₁ : Work}
        (g : Goes w (check_pair (space_of w) letters pairs at (pair_at pairs at) (store_of w) w.budget) answer w₁) where
      pub pair_passed : {told : Unit {0}} → answer ≡ Ok told → ByPairs w₀ w₁ (at + 1)
      pair_passed e = turn_passed pairs_run (length pairs) pairs_step (λ c. c) pairs_turn u l g e

      pub pair_ended : {failure : Failure} → answer ≡ Err failure → Ends w₀ all_pairs (Err failure) w₁
      pair_ended e =
          record {
            is = turn_ended pairs_run (length pairs) pairs_step (λ c. c) pairs_turn u l g e;
            leaves = turn_leaves pairs_run (length pairs) pairs_step (λ c. c) pairs_turn u l g;
          }

-- The code of the list, by whether the opening pair is in it.
module _ (w : Work) (letters : List ℕ) (pairs : List Pair) (x y : ℕ) {t : Bool} (is : t ≡ stands_in pairs x y) where
  abbrev whole_list : Checking
  whole_list = check_list (space_of w) letters pairs x y (store_of w) w.budget

  pub told_missing : t ≡ false → Ends w whole_list (Err OpeningMissing) w
  told_missing e =
      record { is = opening_unlisted (space_of w) letters pairs x y (store_of w) w.budget (sym is ∙ e); leaves = unchanged w }

  pub on_listed : t ≡ true → {answer : Result (Unit {0}) Failure} {w₁ : Work}
      → Ends w (check_pairs (space_of w) letters pairs 0 pairs (store_of w) w.budget) answer w₁ → Ends w whole_list answer w₁
  on_listed e n =
      record { is = opening_listed (space_of w) letters pairs x y (store_of w) w.budget (sym is ∙ e) ∙ n.is; leaves = n.leaves }
