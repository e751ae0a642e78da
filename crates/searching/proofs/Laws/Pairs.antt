-- The code of taking the pairs in table order, and of the search from the opening pair: with the pairs before n taken, the store and the table
-- that stand in the two rooms are those from which the definition takes the rest.
use Prim.Native.Nat.{ℕ, zero, suc, ◌+◌, ◌-◌, ◌<◌, ◌≤◌}
use Rattle.std.proofs.Common.{add-one, arith, sym, ◌∙◌, subst, lt-ltb, le-ltb}
use Rattle.std.specs.Prelude.{Bool, ◌≡◌, length}
use mathlib.Core.List.{List, []}
use Rattle.std.proofs.Math.Path.{refl, ap}
use Rattle.language.specs.Word.{Bytes}
use Rattle.records.specs.declared.record.Record.{Record}
use Rattle.store.specs.Room.{store_in, places_of}
use Rattle.store.specs.Good.{GoodStore}
use Rattle.store.proofs.Laws.GoodRoom.{room_ready}
use Rattle.derivative.proofs.Laws.Rooms.{in_store}
use Rattle.pairs.specs.declared.pair.Pair.{Pair}
use Rattle.pairs.specs.Pair.{first_pairs}
use Rattle.pairs.specs.Room.{table_in, pairs_of}
use Rattle.pairs.specs.Laws.Room.{none_stand}
use Rattle.searching.specs.Search.{Search, same, Going, look, by_letters, take_pairs, search}
use Rattle.searching.specs.Table.{GoodTable}
use Rattle.searching.specs.Told.{LegalPairs, table_of, found_word}
use Rattle.searching.specs.Laws.Keeps.{Tabled}
use Rattle.searching.specs.declared.table.Table.{Table}
use Rattle.searching.proofs.Laws.Told.{End, Same, CodeGoing, On, EndsCode, GoodPairs, good_pairs, TellsEnd, tells_same, GoesRooms, EndsRooms}
use Rattle.store.specs.declared.work.Work.{Work}
use Rattle.store.specs.Work.{store_of, space_of}
use Rattle.searching.proofs.Laws.Parts.{search_after, turned}
use Rattle.searching.proofs.Laws.Keeps.{tabled_none, KeepsGoing, look_keeps, by_letters_keeps, take_pairs_keeps}
use Rattle.searching.proofs.Laws.Rooms.{Stood, stood_first, listed_byte, places_now, pairs_now, store_now, table_now, good_now, good_pairs_now, goes_from, ends_from, WentOn, went_on, went_out, stood_on}

-- One turn, and none.
module _ (cap few : ℕ) (letters : List ℕ) where
  abbrev then_take : ℕ → ℕ → Going → Search
  then_take turns n g = search_after g (λ s t b. take_pairs turns cap few letters n s t b)

  -- A turn at the pair n, where a pair is left to take.
  abbrev one_by : ℕ → ℕ → Bool → List Record → List Pair → ℕ → Search
  one_by turns n left store table budget =
      turned left (by_letters cap few n letters store table budget) (λ s t b. take_pairs turns cap few letters (suc n) s t b) store table budget

  one_turn : (turns n : ℕ) (store : List Record) (table : List Pair) (budget : ℕ) → n < length table
      → take_pairs (suc turns) cap few letters n store table budget ≡ then_take turns (suc n) (by_letters cap few n letters store table budget)
  unfolding take_pairs
  one_turn turns n store table budget l =
      ap (λ (left : Bool). one_by turns n left store table budget)
      (lt-ltb n (length table) l)

  no_turn : (turns n : ℕ) (store : List Record) (table : List Pair) (budget : ℕ) → length table ≤ n
      → take_pairs turns cap few letters n store table budget ≡ same store table budget
  unfolding take_pairs
  no_turn zero n store table budget l = refl
  no_turn (suc turns) n store table budget l =
      ap (λ (left : Bool). one_by turns n left store table budget)
      (le-ltb n (length table) l)

-- The pairs before n are taken.
pub record PairsUnderway (work₀ : List ℕ) (places : ℕ) (pairs₀ : List ℕ) (placed : ℕ) (letters : List ℕ) (budget : ℕ)
    (work pairs : List ℕ) (taken standing left n : ℕ) : Type 0 where
  pub stood : Stood work₀ places pairs₀ placed budget work pairs taken standing left
  pub rest : take_pairs (pairs_of pairs₀) (places_of work₀) (pairs_of pairs₀) letters 0 (store_in work₀ places) (table_in pairs₀ placed) budget
      ≡ take_pairs (pairs_of pairs₀ - n) (places_of work₀) (pairs_of pairs₀) letters n stood.store stood.table left

-- At first none is taken.
pub pairs_first : (w : Work) (t : Table) (letters : List ℕ) → Tabled (pairs_of t.room.now) (store_of w) (table_of t)
    → PairsUnderway w.room.now w.places t.room.now t.pairs letters w.budget w.room.now t.room.now w.places t.pairs w.budget 0
unfolding stood_first
pairs_first w t letters d =
    let few = pairs_of t.room.now in
    let all : few ≡ few - 0 = omega arith in
    record {
      stood = stood_first w.room.now w.places t.room.now t.pairs w.budget w.good (good_pairs t.good d);
      rest = ap (λ (k : ℕ). take_pairs k (space_of w) few letters 0 (store_of w) (table_of t) w.budget) all;
    }

module _ {work₀ : List ℕ} {places : ℕ} {pairs₀ : List ℕ} {placed : ℕ} {letters : List ℕ} {budget : ℕ} {work pairs : List ℕ} {taken standing left n : ℕ}
    (u : PairsUnderway work₀ places pairs₀ placed letters budget work pairs taken standing left n) where
  abbrev cap : ℕ
  cap = places_of work₀

  abbrev few : ℕ
  few = pairs_of pairs₀

  abbrev store : List Record
  store = u.stood.store

  abbrev table : List Pair
  table = u.stood.table

  abbrev whole : Search
  whole = take_pairs few cap few letters 0 (store_in work₀ places) (table_in pairs₀ placed) budget

  -- A pair that is to be taken is one of those that the room has space for.
  pub pairs_left : n < standing → n < few
  pairs_left l = let f = u.stood.kept.tabled.fits in omega (arith, u.stood.standing_is)

  -- Where every placed pair has been taken the answer is "same".
  pub pairs_last : standing ≤ n → EndsRooms work₀ pairs₀ whole (Same taken standing left) work pairs
  pairs_last l =
      let s = u.stood in
      let is : whole ≡ same store table left = u.rest ∙ no_turn cap few letters (few - n) n store table left (omega (arith, s.standing_is)) in
      let told : Same (length store) (length table) left ≡ Same taken standing left = λ i. Same (sym s.taken_is i) (sym s.standing_is i) left in
      rw is (record { tells = subst (TellsEnd (same store table left)) told tells_same; work_room = s.work_is; pair_room = s.pairs_is })

  -- One pair.
  module _ (l : n < standing) (bytes : Bytes letters) where
    pub letters_call : GoodStore work taken × GoodPairs pairs standing work taken
    letters_call = (good_now u.stood, good_pairs_now u.stood)

    in_table : n < length table
    in_table = omega (arith, u.stood.standing_is)

    module _ {went : CodeGoing} {work₁ pairs₁ : List ℕ}
        (g : GoesRooms work pairs (by_letters (places_of work) (pairs_of pairs) n letters (store_in work taken) (table_in pairs standing) left) went work₁ pairs₁) where
      abbrev first : Going
      first = by_letters cap few n letters store table left

      goes_on : whole ≡ then_take cap few letters (few - suc n) (suc n) first
      goes_on =
          let turns : few - n ≡ suc (few - suc n) = let h = pairs_left l in omega arith in
          u.rest
          ∙ ap (λ (k : ℕ). take_pairs k cap few letters n store table left) turns
          ∙ one_turn cap few letters (few - suc n) n store table left in_table

      keeps : KeepsGoing cap few store table left first
      keeps = by_letters_keeps {room = cap} {pairs = few} n letters left u.stood.kept.kept.ready u.stood.kept.tabled in_table (listed_byte bytes)

      from_first : GoesRooms work₀ pairs₀ first went work₁ pairs₁
      from_first = goes_from u.stood keeps (rw (places_now u.stood, pairs_now u.stood, store_now u.stood, table_now u.stood) at g)

      pub pair_taken : {taken' standing' left' : ℕ} → went ≡ On taken' standing' left'
          → PairsUnderway work₀ places pairs₀ placed letters budget work₁ pairs₁ taken' standing' left' (n + 1)
      unfolding stood_on
      pair_taken e =
          let w = went_on keeps from_first.tells e in
          record { stood = stood_on u.stood w from_first; rest = rw (add-one n) (goes_on ∙ ap (then_take cap few letters (few - suc n) (suc n)) w.is) }

      pub pair_ended : {end : End} → went ≡ EndsCode end → EndsRooms work₀ pairs₀ whole end work₁ pairs₁
      pair_ended {end} e =
          let w = went_out from_first.tells e in
          let h = rw w.is at from_first in
          rw (goes_on ∙ ap (then_take cap few letters (few - suc n) (suc n)) w.is)
          (record { tells = w.tells; work_room = h.work_room; pair_room = h.pair_room })

-- The room of a good table is of legal size.
pub legal : {room : List ℕ} {pairs : ℕ} → GoodTable room pairs → LegalPairs room
legal g = record { bytes = g.stands.bytes; short = g.short }

-- The call of a search: no pair stands in the pair room yet.
pub none_placed : (work : List ℕ) (places : ℕ) (pairs : List ℕ) → LegalPairs pairs → GoodPairs pairs 0 work places
unfolding first_pairs
none_placed work places pairs l =
    record { stands = none_stand l.bytes; short = l.short; tabled = tabled_none (pairs_of pairs) (store_in work places) }

module _ (w : Work) (t : Table) {letters : List ℕ} {x y : ℕ} (inside : (x < w.places) × (y < w.places)) (bytes : Bytes letters) {went : CodeGoing} {pairs₁ : List ℕ}
    (g : GoesRooms w.room.now t.room.now
    (look (pairs_of t.room.now) x y 0 0 (found_word (table_in t.room.now 0) 0 0) (store_of w) (table_in t.room.now 0) w.budget) went w.room.now pairs₁) where
  abbrev work : List ℕ
  work = w.room.now

  abbrev places : ℕ
  places = w.places

  abbrev pairs : List ℕ
  pairs = t.room.now

  abbrev budget : ℕ
  budget = w.budget

  abbrev searched : Search
  searched = search (places_of work) (pairs_of pairs) letters x y (store_in work places) budget

  abbrev opening : Going
  opening = look (pairs_of pairs) x y 0 0 (found_word (table_in pairs 0) 0 0) (store_in work places) (table_in pairs 0) budget

  stood : Stood work places pairs 0 budget work pairs places 0 budget
  stood = stood_first work places pairs 0 budget w.good (none_placed work places pairs (legal t.good))

  opening_keeps : KeepsGoing (places_of work) (pairs_of pairs) stood.store stood.table budget opening
  unfolding stood stood_first first_pairs
  opening_keeps =
      look_keeps {room = places_of work} {pairs = pairs_of pairs} x y 0 0 [] budget (room_ready w.good) (tabled_none (pairs_of pairs) (store_in work places))
      (in_store work inside.0) (in_store work inside.1) (omega arith) (omega arith)

  search_is : searched ≡ then_take (places_of work) (pairs_of pairs) letters (pairs_of pairs) 0 opening
  unfolding search first_pairs
  search_is = refl

  -- The opening pair differs, or finds no room.
  pub opening_ended : {end : End} → went ≡ EndsCode end → EndsRooms work pairs searched end work pairs₁
  opening_ended {end} e =
      let o = went_out g.tells e in
      let h = rw o.is at g in
      rw (search_is ∙ ap (then_take (places_of work) (pairs_of pairs) letters (pairs_of pairs) 0) o.is)
      (record { tells = o.tells; work_room = h.work_room; pair_room = h.pair_room })

  -- The opening pair is placed.
  module _ {taken placed left : ℕ} (e : went ≡ On taken placed left) where
    went_on_here : WentOn (places_of work) (pairs_of pairs) stood.store stood.table budget opening taken placed left
    went_on_here = went_on opening_keeps g.tells e

    stood₁ : Stood work places pairs 0 budget work pairs₁ taken placed left
    stood₁ = stood_on stood went_on_here g

    pub take_call : GoodStore work taken × GoodPairs pairs₁ placed work taken
    take_call = (good_now stood₁, good_pairs_now stood₁)

    pub then_taken : {end : End} {work₂ pairs₂ : List ℕ}
        → EndsRooms work pairs₁ (take_pairs (pairs_of pairs₁) (places_of work) (pairs_of pairs₁) letters 0 (store_in work taken) (table_in pairs₁ placed) left) end work₂ pairs₂
        → EndsRooms work pairs searched end work₂ pairs₂
    unfolding stood₁ stood_on
    then_taken h =
        let o = went_on_here in
        let keeps = take_pairs_keeps {room = places_of work} {pairs = pairs_of pairs} letters (listed_byte bytes) (pairs_of pairs) 0 left o.kept.kept.ready o.kept.tabled in
        let k = rw (pairs_now stood₁, store_now stood₁, table_now stood₁) at h in
        rw (search_is ∙ ap (then_take (places_of work) (pairs_of pairs) letters (pairs_of pairs) 0) o.is) (ends_from stood₁ keeps k)
