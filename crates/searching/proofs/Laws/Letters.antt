-- The code of a pair by one letter, and of a pair by all of them: both places are derived as the definition does, one after the other, and the
-- pair that they come to is looked at in the store that then stands in the work room.
use Prim.Native.Nat.{ℕ, suc, ◌+◌, ◌-◌, ◌<◌, ◌≤◌}
use Rattle.std.proofs.Math.Numerals.{add-one}
use native.Mathlib.Omega.{arith}
use mathlib.Core.List.{List, [], ◌∷◌, ◌++◌}
use Rattle.std.specs.Prelude.{◌≡◌, refl, get_or}
use Rattle.std.proofs.Common.{sym, ◌∙◌, drop-cons}
use Rattle.std.proofs.Math.Path.{ap, subst}
use Rattle.std.proofs.Math.ListN.{length, drop, drop_of_length-le}
use Rattle.language.specs.Word.{IsByte}
use Rattle.machine.specs.Laws.Keeps.{extends_refl, extends_length}
use Rattle.records.specs.declared.record.Record.{Record}
use Rattle.store.specs.Room.{store_in, places_of}
use Rattle.store.specs.Good.{GoodStore}
use Rattle.store.proofs.Laws.GoodRoom.{length_store_in}
use Rattle.derivative.proofs.Laws.Told.{Both}
use Rattle.derivative.proofs.Laws.Told.{BothAt, OneStopped}
use Rattle.derivative.specs.Derivative.{Deriving, derived, stopped as unfinished, derive}
use Rattle.derivative.specs.Both.{DerivingBoth, both_derived, one_stopped, left_derived, right_derived, derive_both}
use Rattle.derivative.proofs.Laws.Told.{BothComeRoom}
use Rattle.derivative.proofs.Laws.Both.{StandsBoth, both_stand, one_stands}
use Rattle.pairs.specs.declared.pair.Pair.{Pair}
use Rattle.pairs.specs.Pair.{pair_record, pair_at}
use Rattle.pairs.specs.Room.{table_in, pairs_of}
use Rattle.pairs.specs.Laws.Pair.{length_first_pairs, first_pair_at}
use Rattle.pairs.specs.Laws.Room.{laid_pairs_same}
use Rattle.searching.specs.ReadOff.{word_of}
use Rattle.searching.specs.Search.{stopped, Going, on, ends, look, by_letter, by_letters}
use Rattle.searching.specs.Told.{table_of, found_word}
use Rattle.searching.specs.Laws.Keeps.{Tabled}
use Rattle.searching.specs.declared.table.Table.{Table}
use Rattle.searching.proofs.Laws.Told.{End, Stopped, CodeGoing, On, EndsCode, GoodPairs, good_pairs, tells_stopped, TellsGoing, tells_on, tells_ends, GoesRooms}
use Rattle.store.specs.declared.work.Work.{Work}
use Rattle.store.specs.Work.{store_of}
use Rattle.searching.proofs.Laws.Keeps.{tabled_grows, KeepsGoing, look_keeps, by_letter_keeps}
use Rattle.searching.proofs.Laws.Looking.{Looking}
use Rattle.searching.proofs.Laws.Rooms.{Stood, stood_first, places_now, pairs_now, store_now, table_now, good_now, good_pairs_now, goes_from, went_on, went_out, stood_on}

-- What follows both derivations.
abbrev after_both : ℕ → ℕ → ℕ → List Pair → DerivingBoth → Going
after_both few n letter table d =
    elim d as (λ _. Going) [
      | both_derived x y store budget ↦ look few x y n letter (word_of table n ++ letter ∷ []) store table budget
      | one_stopped number store budget ↦ ends (stopped number store table budget)
    ]

-- One letter, by both derivations at once.
module _ (cap few n letter : ℕ) (table : List Pair) where
  abbrev right_then : ℕ → Deriving → Going
  right_then x d =
      elim d as (λ _. Going) [
        | derived y store budget ↦ look few x y n letter (word_of table n ++ letter ∷ []) store table budget
        | unfinished number store budget ↦ ends (stopped number store table budget)
      ]

  then_right : (x : ℕ) (d : Deriving) → right_then x d ≡ after_both few n letter table (right_derived x d)
  then_right x (derived y s b) = refl
  then_right x (unfinished number s b) = refl

  left_first : (d : Deriving)
      → (elim d as (λ _. Going) [
        | derived x store budget ↦ right_then x (derive cap letter (pair_at table n).right store budget)
        | unfinished number store budget ↦ ends (stopped number store table budget)
      ])
      ≡ after_both few n letter table (left_derived cap letter (pair_at table n).right d)
  left_first (derived x s b) = then_right x (derive cap letter (pair_at table n).right s b)
  left_first (unfinished number s b) = refl

  by_both : (store : List Record) (budget : ℕ)
      → by_letter cap few n letter store table budget
      ≡ after_both few n letter table (derive_both cap letter (pair_at table n).left (pair_at table n).right store budget)
  unfolding derive_both
  by_both store budget = left_first (derive cap letter (pair_at table n).left store budget)

-- The word of a pair that is reached from a pair of the table.
found_some : (table : List Pair) (n letter : ℕ) → n < length table → found_word table n letter ≡ word_of table n ++ letter ∷ []
found_some [] n letter l = absurd (omega arith)
found_some (p ∷ table) n letter l = refl

-- The call of a pair by one letter.
pub record ByLetter (work : List ℕ) (places : ℕ) (pairs : List ℕ) (placed n letter : ℕ) : Type 0 where
  pub good : GoodStore work places
  pub good_pairs : GoodPairs pairs placed work places
  pub inside : n < placed
  pub byte : IsByte letter

pub one_letter : (w : Work) (t : Table) {n letter : ℕ} → Tabled (pairs_of t.room.now) (store_of w) (table_of t) → n < t.pairs → IsByte letter
    → ByLetter w.room.now w.places t.room.now t.pairs n letter
one_letter w t d i b = record { good = w.good; good_pairs = good_pairs t.good d; inside = i; byte = b }

module _ {work : List ℕ} {places : ℕ} {pairs : List ℕ} {placed n letter : ℕ} (c : ByLetter work places pairs placed n letter) (budget : ℕ)
    {p : Pair} (e : p ≡ pair_record pairs n) where
  abbrev cap : ℕ
  cap = places_of work

  abbrev few : ℕ
  few = pairs_of pairs

  abbrev store : List Record
  store = store_in work places

  abbrev table : List Pair
  table = table_in pairs placed

  abbrev lettered : Going
  lettered = by_letter cap few n letter store table budget

  here : pair_at table n ≡ p
  here = first_pair_at placed pairs n c.inside ∙ sym e

  in_table : n < length table
  in_table = let l = c.inside in omega (arith, length_first_pairs placed pairs)

  -- The two places of the pair are taken.
  pub can_derive : (p.left < places) × (p.right < places)
  can_derive =
      let i = rw here at (c.good_pairs.tabled.inside n in_table) in
      let x = i.0 in
      let y = i.1 in
      (omega (arith, length_store_in work places), omega (arith, length_store_in work places))

  module _ {answer : Both} {work₁ : List ℕ} (b : BothComeRoom work (derive_both (places_of work) letter p.left p.right (store_in work places) budget) answer work₁) where
    is_after : lettered ≡ after_both few n letter table (derive_both cap letter p.left p.right store budget)
    is_after = by_both cap few n letter table store budget ∙ ap (λ (q : Pair). after_both few n letter table (derive_both cap letter q.left q.right store budget)) here

    -- Both places were derived.
    module _ {x y taken left : ℕ} (f : answer ≡ BothAt x y taken left) where
      both : StandsBoth work places budget (derive_both cap letter p.left p.right store budget) x y taken left work₁
      both = both_stand c.good letter c.byte p.left p.right can_derive budget b f

      stood : Stood work places pairs placed budget work₁ pairs taken placed left
      stood =
          let s = both in
          record {
            good = c.good;
            good_pairs = c.good_pairs;
            store = s.store;
            table = table;
            work_is = s.room_is;
            pairs_is = sym (laid_pairs_same c.good_pairs.stands);
            taken_is = s.taken_is;
            standing_is = sym (length_first_pairs placed pairs);
            kept =
                record { kept = s.kept; extends = extends_refl table; tabled = tabled_grows c.good_pairs.tabled s.kept.grows; spent = s.spent };
          }

      pub can_look : Looking work₁ taken pairs placed x y n
      can_look =
          let s = both in
          let i = s.x_inside in
          let j = s.y_inside in
          let l = c.inside in
          record {
            good = good_now stood;
            inside = (omega (arith, s.taken_is), omega (arith, s.taken_is));
            good_pairs = good_pairs_now stood;
            from = omega arith;
          }

      pub then_looked : {answer' : CodeGoing} {work₂ pairs' : List ℕ}
          → GoesRooms work₁ pairs (look (pairs_of pairs) x y n letter (found_word (table_in pairs placed) n letter) (store_in work₁ taken) (table_in pairs placed) left) answer' work₂ pairs'
          → GoesRooms work pairs lettered answer' work₂ pairs'
      unfolding stood
      then_looked {answer'} {work₂} {pairs'} g =
          let s = both in
          let word : List ℕ = word_of table n ++ letter ∷ [] in
          let is : lettered ≡ look few x y n letter word s.store table left = is_after ∙ ap (after_both few n letter table) s.is in
          let from : n ≤ length table - 1 = let l = in_table in omega arith in
          let keeps = look_keeps {room = cap} {pairs = few} x y n letter word left s.kept.ready (tabled_grows c.good_pairs.tabled s.kept.grows) s.x_inside s.y_inside from c.byte in
          let h = rw (store_now stood, found_some table n letter in_table) at g in
          rw is (goes_from stood keeps h)

    -- One derivation was stopped.
    pub then_stopped : {number taken left : ℕ} → answer ≡ OneStopped number taken left
        → GoesRooms work pairs lettered (EndsCode (Stopped number taken placed left)) work₁ pairs
    then_stopped {number} {taken} {left} f =
        let s = one_stands c.good letter c.byte p.left p.right can_derive budget b f in
        let is : lettered ≡ ends (stopped number s.store table left) = is_after ∙ ap (after_both few n letter table) s.is in
        let told : EndsCode (Stopped number (length s.store) (length table) left) ≡ EndsCode (Stopped number taken placed left)
        = λ i. EndsCode (Stopped number (sym s.taken_is i) (length_first_pairs placed pairs i) left) in
        rw is
        (record {
          tells = subst (TellsGoing (ends (stopped number s.store table left))) told (tells_ends (tells_stopped {store = s.store} {table = table} {budget = left}));
          work_room = s.room_is;
          pair_room = sym (laid_pairs_same c.good_pairs.stands);
        })

-- The pair n by the letters: the first `at` of them are done.
pub record LettersUnderway (work₀ : List ℕ) (places : ℕ) (pairs₀ : List ℕ) (placed n : ℕ) (letters : List ℕ) (budget : ℕ)
    (work pairs : List ℕ) (taken standing left at : ℕ) : Type 0 where
  pub stood : Stood work₀ places pairs₀ placed budget work pairs taken standing left
  pub inside : n < placed
  pub passed : at ≤ length letters
  pub rest : by_letters (places_of work₀) (pairs_of pairs₀) n letters (store_in work₀ places) (table_in pairs₀ placed) budget
      ≡ by_letters (places_of work₀) (pairs_of pairs₀) n (drop at letters) stood.store stood.table left

-- At first none is done.
pub letters_first : (w : Work) (t : Table) {n : ℕ} (letters : List ℕ) → Tabled (pairs_of t.room.now) (store_of w) (table_of t) → n < t.pairs
    → LettersUnderway w.room.now w.places t.room.now t.pairs n letters w.budget w.room.now t.room.now w.places t.pairs w.budget 0
unfolding stood_first
letters_first w t letters d l =
    record { stood = stood_first w.room.now w.places t.room.now t.pairs w.budget w.good (good_pairs t.good d); inside = l; passed = omega arith; rest = refl }

module _ {work₀ : List ℕ} {places : ℕ} {pairs₀ : List ℕ} {placed n : ℕ} {letters : List ℕ} {budget : ℕ} {work pairs : List ℕ} {taken standing left at : ℕ}
    (u : LettersUnderway work₀ places pairs₀ placed n letters budget work pairs taken standing left at) where
  abbrev whole : Going
  whole = by_letters (places_of work₀) (pairs_of pairs₀) n letters (store_in work₀ places) (table_in pairs₀ placed) budget

  -- Where no letter is left, the search goes on.
  pub letters_last : length letters ≤ at → GoesRooms work₀ pairs₀ whole (On taken standing left) work pairs
  unfolding by_letters
  letters_last l =
      let s = u.stood in
      let e : drop at letters ≡ [] = drop_of_length-le letters {i = at} l in
      let is : whole ≡ on s.store s.table left
      = u.rest ∙ ap (λ (w : List ℕ). by_letters (places_of work₀) (pairs_of pairs₀) n w s.store s.table left) e in
      let told : On (length s.store) (length s.table) left ≡ On taken standing left = λ i. On (sym s.taken_is i) (sym s.standing_is i) left in
      rw is (record { tells = subst (TellsGoing (on s.store s.table left)) told tells_on; work_room = s.work_is; pair_room = s.pairs_is })

  -- One letter.
  module _ (l : at < length letters) (byte : get_or letters at 0 < 256) where
    still_inside : n < standing
    still_inside =
        let i = u.inside in
        omega (arith, u.stood.standing_is, extends_length u.stood.kept.extends, length_first_pairs placed pairs₀)

    pub letter_call : ByLetter work taken pairs standing n (get_or letters at 0)
    letter_call = record { good = good_now u.stood; good_pairs = good_pairs_now u.stood; inside = still_inside; byte = byte }

    module _ {went : CodeGoing} {work₁ pairs₁ : List ℕ}
        (g : GoesRooms work pairs (by_letter (places_of work) (pairs_of pairs) n (get_or letters at 0) (store_in work taken) (table_in pairs standing) left) went work₁ pairs₁) where
      abbrev first : Going
      first = by_letter (places_of work₀) (pairs_of pairs₀) n (get_or letters at 0) u.stood.store u.stood.table left

      abbrev onward : Going → Going
      onward w =
          elim w as (λ _. Going)
          [ on store table budget₁ ↦ by_letters (places_of work₀) (pairs_of pairs₀) n (drop (suc at) letters) store table budget₁ | ends s ↦ ends s ]

      goes_on : whole ≡ onward first
      unfolding by_letters
      goes_on =
          u.rest ∙ ap (λ (w : List ℕ). by_letters (places_of work₀) (pairs_of pairs₀) n w u.stood.store u.stood.table left) (drop-cons letters at 0 l)

      keeps : KeepsGoing (places_of work₀) (pairs_of pairs₀) u.stood.store u.stood.table left first
      keeps =
          by_letter_keeps {room = places_of work₀} {pairs = pairs_of pairs₀} n (get_or letters at 0) left u.stood.kept.kept.ready u.stood.kept.tabled
          (let i = still_inside in omega (arith, u.stood.standing_is)) byte

      from_first : GoesRooms work₀ pairs₀ first went work₁ pairs₁
      from_first = goes_from u.stood keeps (rw (places_now u.stood, pairs_now u.stood, store_now u.stood, table_now u.stood) at g)

      pub letter_on : {taken' standing' left' : ℕ} → went ≡ On taken' standing' left'
          → LettersUnderway work₀ places pairs₀ placed n letters budget work₁ pairs₁ taken' standing' left' (at + 1)
      unfolding stood_on
      letter_on {taken'} {standing'} {left'} e =
          let w = went_on keeps from_first.tells e in
          record {
            stood = stood_on u.stood w from_first;
            inside = u.inside;
            passed = omega arith;
            rest = rw add-one (goes_on ∙ ap onward w.is);
          }

      pub letter_ended : {end : End} → went ≡ EndsCode end → GoesRooms work₀ pairs₀ whole (EndsCode end) work₁ pairs₁
      letter_ended {end} e =
          let w = went_out from_first.tells e in
          let h = rw w.is at from_first in
          rw (goes_on ∙ ap onward w.is) (record { tells = tells_ends w.tells; work_room = h.work_room; pair_room = h.pair_room })
