-- Searching in rooms: what the code answers of looking, of a letter, of the letters and of the pairs, with the two rooms that it leaves, is what
-- the next step goes on from, since the store and the table that stand in the rooms are good again.
use Rattle.std.specs.Prelude.{ℕ, ◌*◌, ◌/◌, ◌<◌, ◌≤◌, List, ◌≡◌, refl, length}
use Rattle.std.proofs.Common.{arith, ⊎_elim, sym, ◌∙◌, ap, ap₂, subst}
use mathlib.Core.List.Memᴰ
use Rattle.language.specs.Word.{none, one, Bytes, IsByte, Listed}
use Rattle.machine.specs.Laws.Keeps.{extends_length}
use Rattle.refusals.specs.Limits.{most_places, most_pairs}
use Rattle.records.specs.declared.record.Record.{Record}
use Rattle.store.specs.Room.{store_in, places_of, laid}
use Rattle.store.specs.Good.{GoodStore}
use Rattle.store.proofs.Laws.Room.{laid_same, laid_laid}
use Rattle.store.specs.Laws.Wall.{Ready}
use Rattle.store.proofs.Laws.Wall.{grows_length}
use Rattle.store.proofs.Laws.GoodRoom.{room_ready, length_store_in, length_after, store_after, good_after}
use Rattle.pairs.specs.declared.pair.Pair.{Pair}
use Rattle.pairs.specs.Pair.{pair_at}
use Rattle.pairs.specs.Room.{table_in, pairs_of, laid_pairs, TableStands}
use Rattle.pairs.specs.Laws.Pair.{length_first_pairs, FittingPair}
use Rattle.pairs.specs.Laws.Room.{table_of_laid, laid_laid_pairs, length_laid_pairs, stands_laid, laid_pairs_same}
use Rattle.searching.specs.Search.{Search, Going, on, ends}
use Rattle.searching.specs.Laws.Keeps.{Tabled}
use Rattle.searching.proofs.Laws.Told.{End, CodeGoing, On, EndsCode, GoodPairs, TellsEnd, TellsGoing, tells_on, tells_ends, end_store, end_table, going_store, going_table, GoesRooms, EndsRooms}
use Rattle.searching.proofs.Laws.Keeps.{KeptBoth, kept_both_refl, kept_both_trans, KeepsSearch, keeps_same, keeps_different, keeps_stopped, KeepsGoing, keeps_on, keeps_ends_different, keeps_ends_stopped}

-- A letter of a list of bytes is a byte.
pub listed_byte : {letters : List ℕ} → Bytes letters → (c : ℕ) → Listed letters c → IsByte c
listed_byte none c m = absurd (Memᴰ.not-nil m)
listed_byte (one b o) c m = ⊎_elim (λ e. subst IsByte (sym e) b) (λ k. listed_byte o c k) (Memᴰ.cases_cons m)

-- The two rooms, with a store and a table that stand in them after some part of the search.
pub record Stood (work₀ : List ℕ) (places : ℕ) (pairs₀ : List ℕ) (placed budget : ℕ) (work pairs : List ℕ) (taken standing left : ℕ) : Type 0 where
  pub good : GoodStore work₀ places
  pub good_pairs : GoodPairs pairs₀ placed work₀ places
  pub store : List Record
  pub table : List Pair
  pub work_is : work ≡ laid store work₀
  pub pairs_is : pairs ≡ laid_pairs table pairs₀
  pub taken_is : taken ≡ length store
  pub standing_is : standing ≡ length table
  pub kept : KeptBoth (places_of work₀) (pairs_of pairs₀) (store_in work₀ places) (table_in pairs₀ placed) budget store table left

-- At first.
unfoldable pub stood_first : (work : List ℕ) (places : ℕ) (pairs : List ℕ) (placed budget : ℕ) → GoodStore work places → GoodPairs pairs placed work places
    → Stood work places pairs placed budget work pairs places placed budget
stood_first work places pairs placed budget g p =
    record {
      good = g;
      good_pairs = p;
      store = store_in work places;
      table = table_in pairs placed;
      work_is = sym (laid_same places work g.fits g.bytes);
      pairs_is = sym (laid_pairs_same p.stands);
      taken_is = sym (length_store_in work places);
      standing_is = sym (length_first_pairs placed pairs);
      kept = kept_both_refl budget (room_ready g) p.tabled;
    }

-- The pairs of a table over a store that fits its room fit their bytes.
table_fits : {room pairs : ℕ} {store : List Record} {table : List Pair} → Ready room store → room ≤ most_places → pairs ≤ most_pairs → Tabled pairs store table
    → (i : ℕ) → i < length table → FittingPair (pair_at table i)
table_fits r g few t i l =
    let inside = t.inside i l in
    let w = r.within in
    let o = t.origins i l in
    let f = t.fits in
    record { left = let h = inside.0 in omega arith; right = let h = inside.1 in omega arith; origin = omega arith; letter = t.letters i l }

module _ {work₀ : List ℕ} {places : ℕ} {pairs₀ : List ℕ} {placed budget : ℕ} {work pairs : List ℕ} {taken standing left : ℕ}
    (u : Stood work₀ places pairs₀ placed budget work pairs taken standing left) where
  abbrev cap : ℕ
  cap = places_of work₀

  abbrev few : ℕ
  few = pairs_of pairs₀

  abbrev store : List Record
  store = u.store

  abbrev table : List Pair
  table = u.table

  pub work_as_long : length work ≡ length work₀
  work_as_long = ap length u.work_is ∙ length_after work₀ u.kept.kept

  room_for : 8 * length table ≤ length pairs₀
  room_for = let f = u.kept.tabled.fits in omega arith

  pub pairs_as_long : length pairs ≡ length pairs₀
  pairs_as_long = ap length u.pairs_is ∙ length_laid_pairs table pairs₀ room_for

  pub places_now : places_of work ≡ cap
  places_now = ap (λ (n : ℕ). n / 8) work_as_long

  pub pairs_now : pairs_of pairs ≡ few
  pairs_now = ap (λ (n : ℕ). n / 8) pairs_as_long

  pub store_now : store_in work taken ≡ store
  store_now = ap₂ store_in u.work_is u.taken_is ∙ store_after work₀ u.kept.kept

  pub table_now : table_in pairs standing ≡ table
  table_now = ap₂ table_in u.pairs_is u.standing_is ∙ table_of_laid table pairs₀

  pub good_now : GoodStore work taken
  good_now = rw (u.work_is, u.taken_is) (good_after work₀ u.kept.kept u.good)

  stands_now : TableStands pairs standing
  stands_now =
      let s = u.good_pairs.short in
      rw (u.pairs_is, u.standing_is)
      (stands_laid table pairs₀ (table_fits u.kept.kept.ready (let w = u.good.short in omega arith) (omega arith) u.kept.tabled) room_for u.good_pairs.stands.bytes)

  pub good_pairs_now : GoodPairs pairs standing work taken
  good_pairs_now =
      record {
        stands = stands_now;
        short = rw pairs_as_long u.good_pairs.short;
        tabled = rw (pairs_now, store_now, table_now) u.kept.tabled;
      }

  -- What goes on from here went on from the first rooms.
  going_longer : {g : Going} → KeepsGoing cap few store table left g → (length store ≤ length (going_store g)) × (length table ≤ length (going_table g))
  going_longer (keeps_on k) = (grows_length k.kept.grows, extends_length k.extends)
  going_longer (keeps_ends_different k) = (grows_length k.kept.grows, extends_length k.extends)
  going_longer (keeps_ends_stopped k) = (grows_length k.kept.grows, extends_length k.extends)

  end_longer : {s : Search} → KeepsSearch cap few store table left s → (length store ≤ length (end_store s)) × (length table ≤ length (end_table s))
  end_longer (keeps_same k) = (grows_length k.kept.grows, extends_length k.extends)
  end_longer (keeps_different k) = (grows_length k.kept.grows, extends_length k.extends)
  end_longer (keeps_stopped k) = (grows_length k.kept.grows, extends_length k.extends)

  pub goes_from : {g : Going} → KeepsGoing cap few store table left g → {answer : CodeGoing} {work' pairs' : List ℕ}
      → GoesRooms work pairs g answer work' pairs' → GoesRooms work₀ pairs₀ g answer work' pairs'
  goes_from {g} k h =
      let l = going_longer k in
      record {
        tells = h.tells;
        work_room = h.work_room ∙ ap (laid (going_store g)) u.work_is ∙ laid_laid store (going_store g) work₀ l.0;
        pair_room = h.pair_room ∙ ap (laid_pairs (going_table g)) u.pairs_is ∙ laid_laid_pairs table (going_table g) pairs₀ l.1;
      }

  pub ends_from : {s : Search} → KeepsSearch cap few store table left s → {answer : End} {work' pairs' : List ℕ}
      → EndsRooms work pairs s answer work' pairs' → EndsRooms work₀ pairs₀ s answer work' pairs'
  ends_from {s} k h =
      let l = end_longer k in
      record {
        tells = h.tells;
        work_room = h.work_room ∙ ap (laid (end_store s)) u.work_is ∙ laid_laid store (end_store s) work₀ l.0;
        pair_room = h.pair_room ∙ ap (laid_pairs (end_table s)) u.pairs_is ∙ laid_laid_pairs table (end_table s) pairs₀ l.1;
      }

-- What the code told is one thing.
not_both : {answer : CodeGoing} {p q l : ℕ} {end : End} → answer ≡ On p q l → answer ≡ EndsCode end → ⊥
not_both e f = let z : ◌≡◌ {A = ℕ} 0 1 = cc in omega arith

-- A part of the search went on: the store and the table that then stand.
pub record WentOn (cap few : ℕ) (store : List Record) (table : List Pair) (budget : ℕ) (g : Going) (taken standing left : ℕ) : Type 0 where
  pub store' : List Record
  pub table' : List Pair
  pub is : g ≡ on store' table' left
  pub taken_is : taken ≡ length store'
  pub standing_is : standing ≡ length table'
  pub kept : KeptBoth cap few store table budget store' table' left

pub went_on : {cap few : ℕ} {store : List Record} {table : List Pair} {budget : ℕ} {g : Going} {answer : CodeGoing} → KeepsGoing cap few store table budget g → TellsGoing g answer
    → {taken standing left : ℕ} → answer ≡ On taken standing left → WentOn cap few store table budget g taken standing left
went_on {cap} {few} {store} {table} {budget} (keeps_on {store' = s} {table' = t} {budget' = b} k) tells_on {taken} {standing} {left} e =
    let m : left ≡ b = cc in
    record {
      store' = s;
      table' = t;
      is = ap (on s t) (sym m);
      taken_is = cc;
      standing_is = cc;
      kept = subst (λ (n : ℕ). KeptBoth cap few store table budget s t n) (sym m) k;
    }
went_on (keeps_ends_different k) (tells_ends t) e = absurd (not_both e refl)
went_on (keeps_ends_stopped k) (tells_ends t) e = absurd (not_both e refl)

-- A part of the search ended.
pub record WentOut (g : Going) (end : End) : Type 0 where
  pub search : Search
  pub is : g ≡ ends search
  pub tells : TellsEnd search end

pub went_out : {g : Going} {answer : CodeGoing} → TellsGoing g answer → {end : End} → answer ≡ EndsCode end → WentOut g end
went_out tells_on e = absurd (not_both refl e)
went_out (tells_ends {s} {end = end'} t) {end} e =
    let m : end ≡ end' = cc in
    record { search = s; is = refl; tells = subst (TellsEnd s) (sym m) t }

-- The rooms after a part of the search that went on.
unfoldable pub stood_on : {work₀ : List ℕ} {places : ℕ} {pairs₀ : List ℕ} {placed budget : ℕ} {work pairs : List ℕ} {taken standing left : ℕ}
    → (u : Stood work₀ places pairs₀ placed budget work pairs taken standing left) → {g : Going} {taken' standing' left' : ℕ}
    → WentOn (places_of work₀) (pairs_of pairs₀) u.store u.table left g taken' standing' left'
    → {answer : CodeGoing} {work₁ pairs₁ : List ℕ} → GoesRooms work₀ pairs₀ g answer work₁ pairs₁
    → Stood work₀ places pairs₀ placed budget work₁ pairs₁ taken' standing' left'
stood_on u w h =
    let k = rw w.is at h in
    record {
      good = u.good;
      good_pairs = u.good_pairs;
      store = w.store';
      table = w.table';
      work_is = k.work_room;
      pairs_is = k.pair_room;
      taken_is = w.taken_is;
      standing_is = w.standing_is;
      kept = kept_both_trans u.kept w.kept;
    }
