-- The code of telling the end of a search: "same", a stop, or "different" with its word read off the table that stands in the pair room.
use Rattle.std.specs.Prelude.{ℕ, ◌-◌, ◌*◌, ◌<◌, ◌≤◌, Bool, List, [], ◌≡◌, refl, ltb, length, get_or}
use Rattle.std.proofs.Common.{arith, ◌∙◌, ap, ap₂, lt-ltb, le-ltb}
use Rattle.language.specs.Word.{Bytes}
use Rattle.language.proofs.Laws.Words.{bytes_all}
use Rattle.refusals.specs.declared.refusal.Refusal.{Refusal}
use Rattle.refusals.specs.Number.{number}
use Rattle.records.specs.declared.record.Record.{Record}
use Rattle.store.specs.declared.work.Work.{Work}
use Rattle.store.specs.Work.{store_of, space_of}
use Rattle.store.specs.Room.{store_in, places_of, laid}
use Rattle.store.specs.Good.{GoodStore}
use Rattle.store.proofs.Laws.GoodRoom.{room_ready}
use Rattle.derivative.proofs.Laws.Rooms.{in_store}
use Rattle.pairs.specs.declared.pair.Pair.{Pair}
use Rattle.pairs.specs.Room.{table_in, pairs_of, laid_pairs}
use Rattle.pairs.specs.Laws.Room.{table_of_laid, length_laid_pairs}
use Rattle.searching.specs.declared.going.End.{End as CodeEnd}
use Rattle.searching.specs.declared.going.End.TheVariants.{Different as differs, Refused as refused}
use Rattle.searching.specs.declared.table.Table.{Table}
use Rattle.searching.proofs.Laws.Told.{End}
use Rattle.searching.proofs.Laws.Told.{Same, Different, Stopped}
use Rattle.std.specs.declared.result.Result.{Result}
use Rattle.std.specs.declared.result.Result.TheVariants.{Ok, Err}
use Rattle.answers.specs.declared.Comparison.TheVariants.{Same as SameTold, Different as DifferentTold, Refused, WordRoomShort}
use Rattle.searching.specs.Search.{Search, different, search}
use Rattle.answers.specs.Comparing.{are_different, word_room_short}
use Rattle.comparing.specs.Compare.{Outcome, of_word, of_search}
use Rattle.comparing.specs.Promise.{Leaves}
use Rattle.comparing.specs.Told.{Wrote, was_written, was_short}
use Rattle.searching.proofs.Laws.Told.{TellsEnd, tells_same, tells_different, tells_stopped, end_store, end_table, EndsRooms, end_of, ends_rooms}
use Rattle.searching.specs.Told.{LegalPairs, OrderedPairs, found_word, Ends}
use Rattle.searching.specs.Laws.Words.{Ordered}
use Rattle.searching.proofs.Laws.Keeps.{KeepsSearch, keeps_same, keeps_different, keeps_stopped, search_keeps}
use Rattle.searching.proofs.Laws.Pairs.{legal}
use Rattle.searching.proofs.Laws.Rooms.{listed_byte}

-- A search that was made in two rooms, with what the code told of it.
pub record Searched (work : List ℕ) (places : ℕ) (pairs letters : List ℕ) (x y budget : ℕ) (end : End) (work' pairs' : List ℕ) : Type 0 where
  pub good : GoodStore work places
  pub inside : (x < places) × (y < places)
  pub legal : LegalPairs pairs
  pub bytes : Bytes letters
  pub ends : EndsRooms work pairs (search (places_of work) (pairs_of pairs) letters x y (store_in work places) budget) end work' pairs'

pub searched : {work : List ℕ} {places : ℕ} {pairs letters : List ℕ} {x y budget : ℕ} → GoodStore work places → (x < places) × (y < places) → LegalPairs pairs
    → ((i : ℕ) → get_or letters i 0 < 256)
    → {end : End} {work' pairs' : List ℕ} → EndsRooms work pairs (search (places_of work) (pairs_of pairs) letters x y (store_in work places) budget) end work' pairs'
    → Searched work places pairs letters x y budget end work' pairs'
searched {letters = letters} g i l b e = record { good = g; inside = i; legal = l; bytes = bytes_all letters b; ends = e }

-- What the code told is one thing.
same_not_different : {end : End} {a b c d e f g h : ℕ} {s : Bool} → end ≡ Same a b c → end ≡ Different d e s f g h → ⊥
same_not_different p q = let z : ◌≡◌ {A = ℕ} 0 1 = cc in omega arith

same_not_stopped : {end : End} {a b c d e f g : ℕ} → end ≡ Same a b c → end ≡ Stopped d e f g → ⊥
same_not_stopped p q = let z : ◌≡◌ {A = ℕ} 0 1 = cc in omega arith

stopped_not_different : {end : End} {a b c j d e f g h : ℕ} {s : Bool} → end ≡ Stopped a b c j → end ≡ Different d e s f g h → ⊥
stopped_not_different p q = let z : ◌≡◌ {A = ℕ} 0 1 = cc in omega arith

-- "Different": the store and the table, and where the word is read off.
record EndDifferent (few budget : ℕ) (s : Search) (from letter : ℕ) (left_has : Bool) (taken placed left : ℕ) : Type 0 where
  word : List ℕ
  store : List Record
  table : List Pair
  is : s ≡ different word left_has store table left
  word_is : word ≡ found_word table from letter
  low : from ≤ length table - 1
  taken_is : taken ≡ length store
  placed_is : placed ≡ length table
  fits : length table ≤ few
  ordered : Ordered table
  spent : left ≤ budget

module _ {work : List ℕ} {places : ℕ} {pairs letters : List ℕ} {x y budget : ℕ} {end : End} {work' pairs' : List ℕ}
    (c : Searched work places pairs letters x y budget end work' pairs') where
  abbrev found : Search
  found = search (places_of work) (pairs_of pairs) letters x y (store_in work places) budget

  keeps : KeepsSearch (places_of work) (pairs_of pairs) (store_in work places) [] budget found
  keeps =
      search_keeps {room = places_of work} {pairs = pairs_of pairs} letters (listed_byte c.bytes) x y budget (room_ready c.good)
      (in_store work c.inside.0) (in_store work c.inside.1)

  -- "Same".
  module _ {taken placed left : ℕ} (e : end ≡ Same taken placed left) where
    pub same_left : left ≤ budget
    same_left = go keeps c.ends.tells e
      where
        go : {s : Search} → KeepsSearch (places_of work) (pairs_of pairs) (store_in work places) [] budget s → {end : End} → TellsEnd s end → end ≡ Same taken placed left → left ≤ budget
        go (keeps_same {budget' = b} k) tells_same f = let m : left ≡ b = cc in rw m k.spent
        go (keeps_different k) (tells_different w l) f = absurd (same_not_different f refl)
        go (keeps_stopped k) tells_stopped f = absurd (same_not_stopped f refl)

    pub told_same : (word : List ℕ) → Leaves work pairs word (of_search (length word) budget found) (SameTold placed taken (budget - left)) work' pairs' word
    told_same word = go keeps c.ends.tells e c.ends.work_room c.ends.pair_room
      where
        go : {s : Search} → KeepsSearch (places_of work) (pairs_of pairs) (store_in work places) [] budget s → {end : End} → TellsEnd s end → end ≡ Same taken placed left
            → work' ≡ laid (end_store s) work → pairs' ≡ laid_pairs (end_table s) pairs
            → Leaves work pairs word (of_search (length word) budget s) (SameTold placed taken (budget - left)) work' pairs' word
        go (keeps_same {store' = a} {table' = t} {budget' = b} k) tells_same f w p =
            let m : left ≡ b = cc in
            let i : taken ≡ length a = cc in
            let j : placed ≡ length t = cc in
            record { tells = rw (m, i, j); work_room = w; pair_room = p; word_room = refl }
        go (keeps_different k) (tells_different v l) f w p = absurd (same_not_different f refl)
        go (keeps_stopped k) tells_stopped f w p = absurd (same_not_stopped f refl)

  -- A stop.
  module _ {number taken placed left : ℕ} (e : end ≡ Stopped number taken placed left) where
    pub stopped_left : left ≤ budget
    stopped_left = go keeps c.ends.tells e
      where
        go : {s : Search} → KeepsSearch (places_of work) (pairs_of pairs) (store_in work places) [] budget s → {end : End} → TellsEnd s end → end ≡ Stopped number taken placed left → left ≤ budget
        go (keeps_stopped {budget' = b} k) tells_stopped f = let m : left ≡ b = cc in rw m k.spent
        go (keeps_different k) (tells_different w l) f = absurd (stopped_not_different f refl)
        go (keeps_same k) tells_same f = absurd (same_not_stopped refl f)

    pub told_stopped : (word : List ℕ) → Leaves work pairs word (of_search (length word) budget found) (Refused number placed taken (budget - left)) work' pairs' word
    told_stopped word = go keeps c.ends.tells e c.ends.work_room c.ends.pair_room
      where
        go : {s : Search} → KeepsSearch (places_of work) (pairs_of pairs) (store_in work places) [] budget s → {end : End} → TellsEnd s end → end ≡ Stopped number taken placed left
            → work' ≡ laid (end_store s) work → pairs' ≡ laid_pairs (end_table s) pairs
            → Leaves work pairs word (of_search (length word) budget s) (Refused number placed taken (budget - left)) work' pairs' word
        go (keeps_stopped {number = n} {store' = a} {table' = t} {budget' = b} k) tells_stopped f w p =
            let h : number ≡ n = cc in
            let m : left ≡ b = cc in
            let i : taken ≡ length a = cc in
            let j : placed ≡ length t = cc in
            record { tells = rw (h, m, i, j); work_room = w; pair_room = p; word_room = refl }
        go (keeps_different k) (tells_different v l) f w p = absurd (stopped_not_different f refl)
        go (keeps_same k) tells_same f w p = absurd (same_not_stopped refl f)

  -- "Different".
  module _ {from letter : ℕ} {left_has : Bool} {taken placed left : ℕ} (e : end ≡ Different from letter left_has taken placed left) where
    ending : EndDifferent (pairs_of pairs) budget found from letter left_has taken placed left
    ending = go keeps c.ends.tells e
      where
        go : {s : Search} → KeepsSearch (places_of work) (pairs_of pairs) (store_in work places) [] budget s → {end : End} → TellsEnd s end
            → end ≡ Different from letter left_has taken placed left → EndDifferent (pairs_of pairs) budget s from letter left_has taken placed left
        go (keeps_different {word = v} {left_has = h} {store' = a} {table' = t} {budget' = b} k) (tells_different {from = n} {letter = d} w l) f =
            let m : left ≡ b = cc in
            let i : from ≡ n = cc in
            let j : letter ≡ d = cc in
            let o : left_has ≡ h = cc in
            record {
              word = v;
              store = a;
              table = t;
              is = rw (m, o) refl;
              word_is = rw (i, j) w;
              low = rw i l;
              taken_is = cc;
              placed_is = cc;
              fits = k.tabled.fits;
              ordered = k.tabled.ordered;
              spent = rw m k.spent;
            }
        go (keeps_same k) tells_same f = absurd (same_not_different refl f)
        go (keeps_stopped k) tells_stopped f = absurd (stopped_not_different refl f)

    pub different_left : left ≤ budget
    different_left = ending.spent

    at_work : work' ≡ laid ending.store work
    at_work = c.ends.work_room ∙ ap (λ (s : Search). laid (end_store s) work) ending.is

    at_pairs : pairs' ≡ laid_pairs ending.table pairs
    at_pairs = c.ends.pair_room ∙ ap (λ (s : Search). laid_pairs (end_table s) pairs) ending.is

    table_there : table_in pairs' placed ≡ ending.table
    table_there = ap₂ table_in at_pairs ending.placed_is ∙ table_of_laid ending.table pairs

    pub can_read_off : OrderedPairs pairs' placed × (from ≤ placed - 1)
    can_read_off =
        let d = ending in
        let f = d.fits in
        let s = c.legal.short in
        let l = d.low in
        let room : 8 * length d.table ≤ length pairs = omega arith in
        let long : length pairs' ≡ length pairs = ap length at_pairs ∙ length_laid_pairs d.table pairs room in
        (record { fits = omega (arith, d.placed_is); few = omega (arith, d.placed_is); ordered = rw table_there d.ordered }, omega (arith, d.placed_is))

    -- The word was told.
    module _ (word : List ℕ) {told-word : Result ℕ ℕ} {word' : List ℕ} (w : Wrote (found_word (table_in pairs' placed) from letter) word told-word word') where
      wrote : Wrote ending.word word told-word word'
      wrote = rw (table_there, ← ending.word_is) at w

      abbrev outcome_by : Bool → Outcome
      outcome_by short = of_word ending.word left_has ending.store ending.table (budget - left) short

      outcome_is : of_search (length word) budget found ≡ outcome_by (ltb (length word) (length ending.word))
      outcome_is = ap (of_search (length word) budget) ending.is

      not_both_words : {n m : ℕ} {t : Result ℕ ℕ} → t ≡ Ok n → t ≡ Err m → ⊥
      not_both_words p q = let z : ◌≡◌ {A = ℕ} 0 1 = cc in omega arith

      pub told_different : {n : ℕ} → told-word ≡ Ok n
          → Leaves work pairs word (of_search (length word) budget found) (DifferentTold n left_has placed taken (budget - left)) work' pairs' word'
      told_different {n} f = go wrote f
        where
          go : {t : Result ℕ ℕ} {v : List ℕ} → Wrote ending.word word t v → t ≡ Ok n
              → Leaves work pairs word (of_search (length word) budget found) (DifferentTold n left_has placed taken (budget - left)) work' pairs' v
          go (was_written l r) g =
              let i : n ≡ length ending.word = cc in
              let d = ending in
              rw (outcome_is ∙ ap outcome_by (le-ltb (length word) (length d.word) l))
              (record {
                tells = λ k. record { says = are_different (i k) left_has; pairs = d.placed_is k; places = d.taken_is k; visits = budget - left };
                work_room = at_work;
                pair_room = at_pairs;
                word_room = r;
              })
          go (was_short l) g = absurd (not_both_words g refl)

      pub told_short : {n : ℕ} → told-word ≡ Err n
          → Leaves work pairs word (of_search (length word) budget found) (WordRoomShort n placed taken (budget - left)) work' pairs' word'
      told_short {n} f = go wrote f
        where
          go : {t : Result ℕ ℕ} {v : List ℕ} → Wrote ending.word word t v → t ≡ Err n
              → Leaves work pairs word (of_search (length word) budget found) (WordRoomShort n placed taken (budget - left)) work' pairs' v
          go (was_short l) g =
              let i : n ≡ length ending.word = cc in
              let d = ending in
              rw (outcome_is ∙ ap outcome_by (lt-ltb (length word) (length d.word) l))
              (record {
                tells = λ k. record { says = word_room_short 10 (i k); pairs = d.placed_is k; places = d.taken_is k; visits = budget - left };
                work_room = at_work;
                pair_room = at_pairs;
                word_room = refl;
              })
          go (was_written l r) g = absurd (not_both_words refl g)

-- The search that the code made, over what it works with and its table.
pub search_made : {w : Work} {t : Table} {letters : List ℕ} {x y : ℕ} → (x < w.places) × (y < w.places) → ((i : ℕ) → get_or letters i 0 < 256)
    → {answer : Result (Unit {0}) CodeEnd} {w' : Work} {t' : Table}
    → Ends w t (search (space_of w) (pairs_of t.room.now) letters x y (store_of w) w.budget) answer w' t'
    → Searched w.room.now w.places t.room.now letters x y w.budget (end_of answer w'.places t'.pairs w'.budget) w'.room.now t'.room.now
search_made {w} {t} i b e = searched w.good i (legal t.good) b (ends_rooms e)

-- What is so told, of the code's answer.

pub is_same : {answer : Result (Unit {0}) CodeEnd} {done : Unit {0}} {taken placed left : ℕ} → answer ≡ Ok done
    → end_of answer taken placed left ≡ Same taken placed left
is_same {taken = n} {placed = m} {left = b} e = ap (λ (a : Result (Unit {0}) CodeEnd). end_of a n m b) e

pub is_different : {answer : Result (Unit {0}) CodeEnd} {end : CodeEnd} {from letter : ℕ} {left_has : Bool} {taken placed left : ℕ} → answer ≡ Err end
    → end ≡ differs from letter left_has → end_of answer taken placed left ≡ Different from letter left_has taken placed left
is_different {taken = n} {placed = m} {left = b} e f = ap (λ (a : Result (Unit {0}) CodeEnd). end_of a n m b) (e ∙ ap Err f)

pub is_stopped : {answer : Result (Unit {0}) CodeEnd} {end : CodeEnd} {refusal : Refusal} {n taken placed left : ℕ} → answer ≡ Err end
    → end ≡ refused refusal → n ≡ number refusal → end_of answer taken placed left ≡ Stopped n taken placed left
is_stopped {n = n} {taken = p} {placed = m} {left = b} e f g = rw g (ap (λ (a : Result (Unit {0}) CodeEnd). end_of a p m b) (e ∙ ap Err f))
