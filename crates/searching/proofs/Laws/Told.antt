-- What is told of the parts of a search, with the places then taken, the pairs placed and the budget left, as one value: the laws of rooms go by it, and
-- the contracts' `Goes`, `GoesIn` and `Ends` say the same.
use Rattle.std.specs.Prelude.{ℕ, ◌-◌, ◌≤◌, Bool, List, ◌≡◌, refl, length}
use Rattle.std.proofs.Common.{arith, sym, ◌∙◌, ap, ap₂}
use Rattle.std.specs.declared.result.Result.{Result}
use Rattle.std.specs.declared.result.Result.TheVariants.{Ok, Err}
use Rattle.refusals.specs.Number.{number}
use Rattle.refusals.specs.Limits.{most_pair_room}
use Rattle.records.specs.declared.record.Record.{Record}
use Rattle.store.specs.declared.work.Work.{Work}
use Rattle.store.specs.Room.{store_in, laid}
use Rattle.store.specs.Work.{store_of}
use Rattle.store.proofs.Laws.Room.{store_of_laid}
use Rattle.store.proofs.Laws.GoodRoom.{length_store_in}
use Rattle.pairs.specs.declared.pair.Pair.{Pair}
use Rattle.pairs.specs.Room.{table_in, pairs_of, laid_pairs, TableStands}
use Rattle.pairs.specs.Laws.Pair.{length_first_pairs}
use Rattle.pairs.specs.Laws.Room.{table_of_laid}
use Rattle.searching.specs.declared.going.End.{End as CodeEnd}
use Rattle.searching.specs.declared.going.End.TheVariants.{Different as differs, Refused as refused}
use Rattle.searching.specs.declared.table.Table.{Table}
use Rattle.searching.specs.Search.{Search, same, different, stopped, Going, on, ends}
use Rattle.searching.specs.Table.{GoodTable}
use Rattle.searching.specs.Told.{found_word, table_of, Goes, GoesIn, Ends}
use Rattle.searching.specs.Told.{TellsEnd as EndTold, tells_different as different_told, tells_refused as refused_told}
use Rattle.searching.specs.Told.{TellsGoing as GoingTold, tells_on as on_told, tells_ends as ends_told}
use Rattle.searching.specs.Told.{TellsSearch as SearchTold, tells_same as same_told, tells_before as before_told}
use Rattle.searching.specs.Laws.Keeps.{Tabled}

-- How a search ends, with the places taken, the pairs placed and the budget left: same; different, at a pair reached from the pair of this
-- number by this letter, and whether the left side has the word; or stopped by a number.
pub data End : Type 0 where
  Same : (taken placed budget : ℕ) → End
  Different : (from letter : ℕ) (left_has : Bool) (taken placed budget : ℕ) → End
  Stopped : (number taken placed budget : ℕ) → End

-- Goes on, with these three; an end stays an end.
pub data CodeGoing : Type 0 where
  On : (taken placed budget : ℕ) → CodeGoing
  EndsCode : (end : End) → CodeGoing

-- The table of so many pairs stands in a pair room, over the store of so many places in a work room.
pub record GoodPairs (pairs : List ℕ) (placed : ℕ) (work : List ℕ) (places : ℕ) : Type 0 where
  pub stands : TableStands pairs placed
  pub short : length pairs ≤ most_pair_room
  pub tabled : Tabled (pairs_of pairs) (store_in work places) (table_in pairs placed)

-- The code's answer tells an end: places and pairs by their number, and "different" by the pair and the letter that lead there.
pub data TellsEnd : Search → End → Type 0 where
  tells_same : {store : List Record} {table : List Pair} {budget : ℕ} → TellsEnd (same store table budget) (Same (length store) (length table) budget)
  tells_different : {word : List ℕ} {left_has : Bool} {store : List Record} {table : List Pair} {budget from letter : ℕ}
      → word ≡ found_word table from letter → from ≤ length table - 1
      → TellsEnd (different word left_has store table budget) (Different from letter left_has (length store) (length table) budget)
  tells_stopped : {number : ℕ} {store : List Record} {table : List Pair} {budget : ℕ}
      → TellsEnd (stopped number store table budget) (Stopped number (length store) (length table) budget)

pub data TellsGoing : Going → CodeGoing → Type 0 where
  tells_on : {store : List Record} {table : List Pair} {budget : ℕ} → TellsGoing (on store table budget) (On (length store) (length table) budget)
  tells_ends : {s : Search} {end : End} → TellsEnd s end → TellsGoing (ends s) (EndsCode end)

-- The store and the table that stand.
abbrev pub end_store : Search → List Record
end_store (same store table budget) = store
end_store (different word left_has store table budget) = store
end_store (stopped number store table budget) = store

abbrev pub end_table : Search → List Pair
end_table (same store table budget) = table
end_table (different word left_has store table budget) = table
end_table (stopped number store table budget) = table

abbrev pub going_store : Going → List Record
going_store (on store table budget) = store
going_store (ends s) = end_store s

abbrev pub going_table : Going → List Pair
going_table (on store table budget) = table
going_table (ends s) = end_table s

-- The answer tells what a part of the search comes to, and the two rooms hold its store and its table.
pub record GoesRooms (work pairs : List ℕ) (g : Going) (answer : CodeGoing) (work' pairs' : List ℕ) : Type 0 where
  pub tells : TellsGoing g answer
  pub work_room : work' ≡ laid (going_store g) work
  pub pair_room : pairs' ≡ laid_pairs (going_table g) pairs

pub record EndsRooms (work pairs : List ℕ) (s : Search) (answer : End) (work' pairs' : List ℕ) : Type 0 where
  pub tells : TellsEnd s answer
  pub work_room : work' ≡ laid (end_store s) work
  pub pair_room : pairs' ≡ laid_pairs (end_table s) pairs

-- A good table over a store is what the laws go by.
pub good_pairs : {work : List ℕ} {places : ℕ} {pairs : List ℕ} {placed : ℕ} → GoodTable pairs placed
    → Tabled (pairs_of pairs) (store_in work places) (table_in pairs placed) → GoodPairs pairs placed work places
good_pairs g t = record { stands = g.stands; short = g.short; tabled = t }

-- What an answer tells, with so many places then taken, so many pairs placed and so much budget left.

abbrev pub early_end : CodeEnd → ℕ → ℕ → ℕ → End
early_end (differs from letter left_has) taken placed budget = Different from letter left_has taken placed budget
early_end (refused refusal) taken placed budget = Stopped (number refusal) taken placed budget

abbrev pub going_of : Result (Unit {0}) CodeEnd → ℕ → ℕ → ℕ → CodeGoing
going_of (Ok _) taken placed budget = On taken placed budget
going_of (Err end) taken placed budget = EndsCode (early_end end taken placed budget)

abbrev pub end_of : Result (Unit {0}) CodeEnd → ℕ → ℕ → ℕ → End
end_of (Ok _) taken placed budget = Same taken placed budget
end_of (Err end) taken placed budget = early_end end taken placed budget

-- From what a contract says to what the laws of rooms go by.

end_tells : {store : List Record} {table : List Pair} {budget : ℕ} {s : Search} {end : CodeEnd}
    → EndTold store table budget s end → TellsEnd s (early_end end (length store) (length table) budget)
end_tells (different_told w o) = tells_different w o
end_tells refused_told = tells_stopped

end_stands : {store : List Record} {table : List Pair} {budget : ℕ} {s : Search} {end : CodeEnd}
    → EndTold store table budget s end → (store ≡ end_store s) × (table ≡ end_table s)
end_stands (different_told w o) = (refl, refl)
end_stands refused_told = (refl, refl)

going_tells : {store : List Record} {table : List Pair} {budget : ℕ} {g : Going} {answer : Result (Unit {0}) CodeEnd}
    → GoingTold store table budget g answer → TellsGoing g (going_of answer (length store) (length table) budget)
going_tells on_told = tells_on
going_tells (ends_told t) = tells_ends (end_tells t)

going_stands : {store : List Record} {table : List Pair} {budget : ℕ} {g : Going} {answer : Result (Unit {0}) CodeEnd}
    → GoingTold store table budget g answer → (store ≡ going_store g) × (table ≡ going_table g)
going_stands on_told = (refl, refl)
going_stands (ends_told t) = end_stands t

search_tells : {store : List Record} {table : List Pair} {budget : ℕ} {s : Search} {answer : Result (Unit {0}) CodeEnd}
    → SearchTold store table budget s answer → TellsEnd s (end_of answer (length store) (length table) budget)
search_tells same_told = tells_same
search_tells (before_told t) = end_tells t

search_stands : {store : List Record} {table : List Pair} {budget : ℕ} {s : Search} {answer : Result (Unit {0}) CodeEnd}
    → SearchTold store table budget s answer → (store ≡ end_store s) × (table ≡ end_table s)
search_stands same_told = (refl, refl)
search_stands (before_told t) = end_stands t

pub goes_rooms : {w : Work} {t : Table} {g : Going} {answer : Result (Unit {0}) CodeEnd} {w' : Work} {t' : Table}
    → Goes w t g answer w' t' → GoesRooms w.room.now t.room.now g (going_of answer w'.places t'.pairs w'.budget) w'.room.now t'.room.now
goes_rooms {w} {t} {g} {answer} {w'} {t'} k =
    let s = going_stands k.tells in
    record {
      tells = rw (length_store_in w'.room.now w'.places, length_first_pairs t'.pairs t'.room.now) at (going_tells k.tells);
      work_room = k.work_room ∙ ap (λ (s : List Record). laid s w.room.now) s.0;
      pair_room = k.pair_room ∙ ap (λ (p : List Pair). laid_pairs p t.room.now) s.1;
    }

pub ends_rooms : {w : Work} {t : Table} {s : Search} {answer : Result (Unit {0}) CodeEnd} {w' : Work} {t' : Table}
    → Ends w t s answer w' t' → EndsRooms w.room.now t.room.now s (end_of answer w'.places t'.pairs w'.budget) w'.room.now t'.room.now
ends_rooms {w} {t} {s} {answer} {w'} {t'} k =
    let s = search_stands k.tells in
    record {
      tells = rw (length_store_in w'.room.now w'.places, length_first_pairs t'.pairs t'.room.now) at (search_tells k.tells);
      work_room = k.work_room ∙ ap (λ (s : List Record). laid s w.room.now) s.0;
      pair_room = k.pair_room ∙ ap (λ (p : List Pair). laid_pairs p t.room.now) s.1;
    }

-- The other way: the store and the table that are told stand in the rooms that were left.

same_end : {p q b p' q' b' : ℕ} → Same p q b ≡ Same p' q' b' → (p' ≡ p) × (q' ≡ q) × (b' ≡ b)
same_end e = (cc, cc, cc)

same_on : {p q b p' q' b' : ℕ} → On p q b ≡ On p' q' b' → (p' ≡ p) × (q' ≡ q) × (b' ≡ b)
same_on e = (cc, cc, cc)

different_end : {f l : ℕ} {h : Bool} {p q b f' l' : ℕ} {h' : Bool} {p' q' b' : ℕ} → Different f l h p q b ≡ Different f' l' h' p' q' b'
    → (f' ≡ f) × (l' ≡ l) × (h' ≡ h) × (p' ≡ p) × (q' ≡ q) × (b' ≡ b)
different_end e = (cc, cc, cc, cc, cc, cc)

stopped_end : {n p q b n' p' q' b' : ℕ} → Stopped n p q b ≡ Stopped n' p' q' b' → (n ≡ n') × (p' ≡ p) × (q' ≡ q) × (b' ≡ b)
stopped_end e = (cc, cc, cc, cc)

-- An answer tells an end of a search, with as many places and pairs as then stand.
record Left (store : List Record) (table : List Pair) (Is : Type 0) (taken placed : ℕ) : Type 0 where
  is : Is
  taken_is : taken ≡ length store
  placed_is : placed ≡ length table

abbrev EndLeft : Search → CodeEnd → ℕ → ℕ → ℕ → Type 0
EndLeft s end taken placed budget = Left (end_store s) (end_table s) (EndTold (end_store s) (end_table s) budget s end) taken placed

abbrev GoingLeft : Going → Result (Unit {0}) CodeEnd → ℕ → ℕ → ℕ → Type 0
GoingLeft g answer taken placed budget = Left (going_store g) (going_table g) (GoingTold (going_store g) (going_table g) budget g answer) taken placed

abbrev SearchLeft : Search → Result (Unit {0}) CodeEnd → ℕ → ℕ → ℕ → Type 0
SearchLeft s answer taken placed budget = Left (end_store s) (end_table s) (SearchTold (end_store s) (end_table s) budget s answer) taken placed

end_left : {s : Search} {told : End} → TellsEnd s told → (end : CodeEnd) (taken placed budget : ℕ) → told ≡ early_end end taken placed budget
    → EndLeft s end taken placed budget
end_left tells_same (differs from letter left_has) taken placed budget e = let z : ◌≡◌ {A = ℕ} 0 1 = cc in absurd (omega arith)
end_left tells_same (refused refusal) taken placed budget e = let z : ◌≡◌ {A = ℕ} 0 1 = cc in absurd (omega arith)
end_left (tells_different w o) (differs from letter left_has) taken placed budget e =
    let k = different_end e in
    record { is = rw (k.0, k.1, k.2, k.5) (different_told w o); taken_is = k.3; placed_is = k.4 }
end_left (tells_different w o) (refused refusal) taken placed budget e = let z : ◌≡◌ {A = ℕ} 0 1 = cc in absurd (omega arith)
end_left tells_stopped (differs from letter left_has) taken placed budget e = let z : ◌≡◌ {A = ℕ} 0 1 = cc in absurd (omega arith)
end_left tells_stopped (refused refusal) taken placed budget e =
    let k = stopped_end e in
    record { is = rw (k.0, k.3) refused_told; taken_is = k.1; placed_is = k.2 }

going_left : {g : Going} {told : CodeGoing} → TellsGoing g told → (answer : Result (Unit {0}) CodeEnd) (taken placed budget : ℕ)
    → told ≡ going_of answer taken placed budget → GoingLeft g answer taken placed budget
going_left tells_on (Ok done) taken placed budget e = let k = same_on e in record { is = rw k.2 on_told; taken_is = k.0; placed_is = k.1 }
going_left tells_on (Err end) taken placed budget e = let z : ◌≡◌ {A = ℕ} 0 1 = cc in absurd (omega arith)
going_left (tells_ends t) (Ok done) taken placed budget e = let z : ◌≡◌ {A = ℕ} 0 1 = cc in absurd (omega arith)
going_left (tells_ends t) (Err end) taken placed budget e =
    let k = end_left t end taken placed budget cc in
    record { is = ends_told k.is; taken_is = k.taken_is; placed_is = k.placed_is }

search_left : {s : Search} (answer : Result (Unit {0}) CodeEnd) (taken placed budget : ℕ) {told : End} → TellsEnd s told
    → told ≡ end_of answer taken placed budget → SearchLeft s answer taken placed budget
search_left (Ok done) taken placed budget tells_same e = let k = same_end e in record { is = rw k.2 same_told; taken_is = k.0; placed_is = k.1 }
search_left (Ok done) taken placed budget (tells_different w o) e = let z : ◌≡◌ {A = ℕ} 0 1 = cc in absurd (omega arith)
search_left (Ok done) taken placed budget tells_stopped e = let z : ◌≡◌ {A = ℕ} 0 1 = cc in absurd (omega arith)
search_left (Err end) taken placed budget t e =
    let k = end_left t end taken placed budget e in
    record { is = before_told k.is; taken_is = k.taken_is; placed_is = k.placed_is }

store_left_in : (room : List ℕ) {store : List Record} {room' : List ℕ} {taken : ℕ} → taken ≡ length store → room' ≡ laid store room → store_in room' taken ≡ store
store_left_in room {store} p r = ap₂ store_in r p ∙ store_of_laid store room

store_left : (w : Work) {store : List Record} (w' : Work) → w'.places ≡ length store → w'.room.now ≡ laid store w.room.now → store_of w' ≡ store
store_left w w' p r = store_left_in w.room.now p r

table_left : (t : Table) {table : List Pair} (t' : Table) → t'.pairs ≡ length table → t'.room.now ≡ laid_pairs table t.room.now → table_of t' ≡ table
table_left t {table} t' p r = ap₂ table_in r p ∙ table_of_laid table t.room.now

pub rooms_go : {w : Work} {t : Table} {g : Going} (answer : Result (Unit {0}) CodeEnd) {w' : Work} {t' : Table}
    → GoesRooms w.room.now t.room.now g (going_of answer w'.places t'.pairs w'.budget) w'.room.now t'.room.now → Goes w t g answer w' t'
rooms_go {w} {t} {g} answer {w'} {t'} k =
    let l = going_left k.tells answer w'.places t'.pairs w'.budget refl in
    let s = store_left w w' l.taken_is k.work_room in
    let p = table_left t t' l.placed_is k.pair_room in
    record {
      tells = rw (s, p) l.is;
      work_room = k.work_room ∙ ap (λ (s : List Record). laid s w.room.now) (sym s);
      pair_room = k.pair_room ∙ ap (λ (p : List Pair). laid_pairs p t.room.now) (sym p);
    }

-- In a room that is only read.
pub rooms_go_in : {room : List ℕ} {places budget : ℕ} {t : Table} {g : Going} (answer : Result (Unit {0}) CodeEnd) {t' : Table}
    → GoesRooms room t.room.now g (going_of answer places t'.pairs budget) room t'.room.now → GoesIn room places budget t g answer t'
rooms_go_in {room} {places} {budget} {t} {g} answer {t'} k =
    let l = going_left k.tells answer places t'.pairs budget refl in
    let s = store_left_in room l.taken_is k.work_room in
    let p = table_left t t' l.placed_is k.pair_room in
    record {
      tells = rw (s, p) l.is;
      work_room = k.work_room ∙ ap (λ (s : List Record). laid s room) (sym s);
      pair_room = k.pair_room ∙ ap (λ (p : List Pair). laid_pairs p t.room.now) (sym p);
    }

pub rooms_end : {w : Work} {t : Table} {s : Search} (answer : Result (Unit {0}) CodeEnd) {w' : Work} {t' : Table}
    → EndsRooms w.room.now t.room.now s (end_of answer w'.places t'.pairs w'.budget) w'.room.now t'.room.now → Ends w t s answer w' t'
rooms_end {w} {t} {s} answer {w'} {t'} k =
    let l = search_left answer w'.places t'.pairs w'.budget k.tells refl in
    let s = store_left w w' l.taken_is k.work_room in
    let p = table_left t t' l.placed_is k.pair_room in
    record {
      tells = rw (s, p) l.is;
      work_room = k.work_room ∙ ap (λ (s : List Record). laid s w.room.now) (sym s);
      pair_room = k.pair_room ∙ ap (λ (p : List Pair). laid_pairs p t.room.now) (sym p);
    }
