-- The code of looking at a pair: each of its four answers is the definition's case for the tests that led there.
use Rattle.std.specs.Prelude.{ℕ, ◌+◌, ◌-◌, ◌<◌, ◌≤◌, Bool, true, false, not, List, [], ◌∷◌, ◌++◌, ◌≡◌, refl, ltb, length}
use Rattle.std.proofs.Common.{arith, sym, ◌∙◌, ap, subst, lt-ltb, le-ltb, length-append}
use Rattle.std.specs.Bool.{beq}
use Rattle.language.specs.Word.{IsByte}
use Rattle.refusals.specs.Numbers.{no_place_for_pair}
use Rattle.records.specs.declared.record.Record.{Record}
use Rattle.records.specs.Record.{child}
use Rattle.cards.specs.Mark.{marked}
use Rattle.store.specs.Room.{store_in, places_of, laid}
use Rattle.store.specs.Good.{GoodStore}
use Rattle.store.proofs.Laws.Room.{laid_same}
use Rattle.store.proofs.Laws.GoodRoom.{room_ready, length_store_in}
use Rattle.derivative.proofs.Laws.Rooms.{in_store}
use Rattle.pairs.specs.declared.pair.Pair.{Pair}
use Rattle.pairs.specs.Pair.{stands_in}
use Rattle.pairs.specs.Room.{table_in, pairs_of, laid_pairs}
use Rattle.pairs.specs.Laws.Pair.{length_first_pairs}
use Rattle.pairs.specs.Laws.Room.{laid_pairs_same}
use Rattle.searching.specs.Search.{different, stopped, Going, on, ends, look}
use Rattle.searching.proofs.Laws.Parts.{looked as looked-by}
use Rattle.searching.specs.Table.{GoodTable}
use Rattle.searching.specs.Told.{table_of, found_word}
use Rattle.searching.specs.Laws.Keeps.{Tabled}
use Rattle.searching.specs.declared.table.Table.{Table}
use Rattle.searching.proofs.Laws.Told.{Different, Stopped, CodeGoing, On, EndsCode, GoodPairs, good_pairs, tells_different, tells_stopped, TellsGoing, tells_on, tells_ends, going_store, going_table, GoesRooms}
use Rattle.searching.proofs.Laws.Keeps.{KeepsGoing, look_keeps}
use Rattle.searching.proofs.Laws.Rooms.{stood_first, good_pairs_now, went_on, stood_on}

-- What the test for marks that differ says.
not_true : (b : Bool) → not b ≡ true → b ≡ false
not_true true e = sym e
not_true false e = refl

not_false : (b : Bool) → not b ≡ false → b ≡ true
not_false true e = refl
not_false false e = sym e

-- The call: a good store, a good table over it, and a pair of places reached from a pair of the table.
pub record Looking (work : List ℕ) (places : ℕ) (pairs : List ℕ) (placed x y origin : ℕ) : Type 0 where
  pub good : GoodStore work places
  pub inside : (x < places) × (y < places)
  pub good_pairs : GoodPairs pairs placed work places
  pub from : origin ≤ placed - 1

pub looking : {room : List ℕ} {places : ℕ} (t : Table) {x y origin : ℕ} → GoodStore room places → (x < places) × (y < places)
    → Tabled (pairs_of t.room.now) (store_in room places) (table_of t) → origin ≤ t.pairs - 1 → Looking room places t.room.now t.pairs x y origin
looking t g i d f = record { good = g; inside = i; good_pairs = good_pairs t.good d; from = f }

module _ {work : List ℕ} {places : ℕ} {pairs : List ℕ} {placed x y origin : ℕ} (c : Looking work places pairs placed x y origin) (letter left : ℕ) where
  abbrev store : List Record
  store = store_in work places

  abbrev table : List Pair
  table = table_in pairs placed

  abbrev word : List ℕ
  word = found_word table origin letter

  abbrev new : Pair
  new = record { left = x; right = y; origin = origin; letter = letter }

  abbrev looked : Going
  looked = look (pairs_of pairs) x y origin letter word store table left

  all_places : length store ≡ places
  all_places = length_store_in work places

  all_pairs : length table ≡ placed
  all_pairs = length_first_pairs placed pairs

  -- What the definition comes to, by its three tests.
  abbrev by : Bool → Bool → Bool → Going
  by p q r = looked-by new word store table p q r left

  by_tests : {p q r : Bool} → beq (marked (child store x)) (marked (child store y)) ≡ p → stands_in table x y ≡ q → ltb (length table) (pairs_of pairs) ≡ r
      → looked ≡ by p q r
  by_tests {p} {q} e f g =
      ap (λ (b : Bool). by b (stands_in table x y) (ltb (length table) (pairs_of pairs))) e
      ∙ ap (λ (b : Bool). by p b (ltb (length table) (pairs_of pairs))) f
      ∙ ap (by p q) g

  unchanged : {g : Going} {answer : CodeGoing} → looked ≡ g → TellsGoing g answer
      → (store ≡ going_store g) → (table ≡ going_table g)
      → GoesRooms work pairs looked answer work pairs
  unchanged {g} e t a b =
      rw e
      (record {
        tells = t;
        work_room = sym (laid_same places work c.good.fits c.good.bytes) ∙ ap (λ (s : List Record). laid s work) a;
        pair_room = sym (laid_pairs_same c.good_pairs.stands) ∙ ap (λ (t : List Pair). laid_pairs t pairs) b;
      })

  -- A table that goes on is a good one.
  module _ (byte : IsByte letter) where
    keeps : KeepsGoing (places_of work) (pairs_of pairs) store table left looked
    keeps =
        look_keeps {room = places_of work} {pairs = pairs_of pairs} x y origin letter word left (room_ready c.good) c.good_pairs.tabled (in_store work c.inside.0)
        (in_store work c.inside.1) (let h = c.from in omega (arith, all_pairs)) byte

    pub look_leaves : {placed' : ℕ} {pairs' : List ℕ} → GoesRooms work pairs looked (On places placed' left) work pairs' → GoodTable pairs' placed'
    unfolding stood_first
    look_leaves g =
        let s = good_pairs_now (stood_on (stood_first work places pairs placed left c.good c.good_pairs) (went_on keeps g.tells refl) g) in
        record { stands = s.stands; short = s.short }

  -- What the marks at the two places say.
  module _ {l r : Bool} (e : l ≡ marked (child store x)) (f : r ≡ marked (child store y)) where
    pub look_differs : not (beq l r) ≡ true → GoesRooms work pairs looked (EndsCode (Different origin letter l places placed left)) work pairs
    look_differs n =
        let d : beq (marked (child store x)) (marked (child store y)) ≡ false = rw (e, f) at (not_true (beq l r) n) in
        let o : origin ≤ length table - 1 = let h = c.from in omega (arith, all_pairs) in
        let told : EndsCode (Different origin letter (marked (child store x)) (length store) (length table) left) ≡ EndsCode (Different origin letter l places placed left)
        = λ i. EndsCode (Different origin letter (sym e i) (all_places i) (all_pairs i) left) in
        unchanged (by_tests d refl refl)
        (subst (TellsGoing (ends (different word (marked (child store x)) store table left))) told (tells_ends (tells_different {store = store} {table = table} {budget = left} refl o)))
        refl
        refl

    module _ (same : not (beq l r) ≡ false) where
      equal : beq (marked (child store x)) (marked (child store y)) ≡ true
      equal = rw (e, f) at (not_false (beq l r) same)

      on_told : (store' : List Record) (table' : List Pair) {n : ℕ} → length store' ≡ places → length table' ≡ n → TellsGoing (on store' table' left) (On places n left)
      on_told store' table' a b = subst (TellsGoing (on store' table' left)) (λ i. On (a i) (b i) left) tells_on

      module _ {stood : Bool} (g : stood ≡ stands_in table x y) where
        pub look_stands : stood ≡ true → GoesRooms work pairs looked (On places placed left) work pairs
        look_stands h = unchanged (by_tests equal (sym g ∙ h) refl) (on_told store table all_places all_pairs) refl refl

        module _ (h : stood ≡ false) where
          pub look_placed : placed < pairs_of pairs → {pairs' : List ℕ} → pairs' ≡ laid_pairs (table ++ new ∷ []) pairs
              → GoesRooms work pairs looked (On places (placed + 1) left) work pairs'
          look_placed l p =
              let free : ltb (length table) (pairs_of pairs) ≡ true = lt-ltb (length table) (pairs_of pairs) (omega (arith, all_pairs)) in
              let more : length (table ++ new ∷ []) ≡ placed + 1 = omega (arith, length-append table (new ∷ []), all_pairs) in
              rw (by_tests equal (sym g ∙ h) free)
              (record {
                tells = on_told store (table ++ new ∷ []) all_places more;
                work_room = sym (laid_same places work c.good.fits c.good.bytes);
                pair_room = p;
              })

          pub look_full : pairs_of pairs ≤ placed → GoesRooms work pairs looked (EndsCode (Stopped no_place_for_pair places placed left)) work pairs
          look_full l =
              let full : ltb (length table) (pairs_of pairs) ≡ false = le-ltb (length table) (pairs_of pairs) (omega (arith, all_pairs)) in
              let told : EndsCode (Stopped no_place_for_pair (length store) (length table) left) ≡ EndsCode (Stopped no_place_for_pair places placed left)
              = λ i. EndsCode (Stopped no_place_for_pair (all_places i) (all_pairs i) left) in
              unchanged (by_tests equal (sym g ∙ h) full) (subst (TellsGoing (ends (stopped no_place_for_pair store table left))) told (tells_ends tells_stopped)) refl refl
