-- "Same" passes the whole call. Document 01: "The store and pair table of a "same" answer are a valid proof card and pair list." The store,
-- loaded as a card behind the two pattern cards, puts every record at its own place and adds nothing; so the listed pairs are the table's own,
-- the table is good, and it is accepted at the search's own cost.
use Rattle.std.specs.Prelude.{ℕ, suc, ◌-◌, ◌/◌, ◌<◌, ◌≤◌, Bool, true, false, ◌≡◌, ltb, length, get_or}
use Rattle.std.proofs.Common.{arith, ◌∙◌, subst}
use mathlib.Core.List.{List, [], ◌∷◌}
use Rattle.std.proofs.Math.Path.{refl, ap, ap₂}
use Rattle.answers.specs.Comparing.{are_same, are_different, word_room_short, refused_by}
use Rattle.answers.specs.Checking.{is_accepted}
use Rattle.language.specs.Word.{Bytes}
use Rattle.language.specs.Language.{Language, language}
use Rattle.records.specs.declared.record.Record.{Record}
use Rattle.refusals.specs.Order.{Standing}
use Rattle.refusals.specs.Order.{Good as GoodStanding, Refused}
use Rattle.records.specs.Record.{records, run_of}
use Rattle.cards.specs.Examine.{pattern_card}
use Rattle.cards.specs.Meaning.{card_pattern}
use Rattle.records.specs.Laws.Record.{length_run, records_of_run}
use Rattle.store.specs.Room.{wrong_room}
use Rattle.loading.specs.Loading.{load}
use Rattle.store.specs.Laws.Wall.{Grows, Ready}
use Rattle.store.proofs.Laws.Wall.{grows_length}
use Rattle.store.proofs.Laws.LegalRoom.{legal_room}
use Rattle.loading.proofs.Laws.OwnPlaces.{own_places, own_place, own_loaded}
use Rattle.loading.proofs.Laws.OwnCard.{own_card_good}
use Rattle.pairs.specs.declared.pair.Pair.{Pair}
use Rattle.pairs.specs.Pair.{pair_at, run_of_pairs}
use Rattle.pairs.specs.Room.{wrong_pair_room, listed_pairs}
use Rattle.pairs.specs.Tried.{tried}
use Rattle.pairs.specs.Opening.{Opening}
use Rattle.pairs.specs.Laws.Pair.{length_pair_run}
use Rattle.pairs.specs.Laws.Room.{listed_of_run}
use Rattle.pairs.specs.Laws.LegalRoom.{legal_pair_room, not_wrong_pair_room}
use Rattle.pairs.specs.Laws.Tried.{tried_rise, tried_bytes}
use Rattle.pairs.specs.Laws.Opening.{BothOpened, OpenLaw, both_opened, was_filled, open_law}
use Rattle.searching.specs.Search.{Search, same, different, stopped, search}
use Rattle.comparing.specs.Compare.{compare_standing, of_search, search_opened, compare_by, compare_outcome, Outcome as Comparing, told_at as told-comparing}
use Rattle.searching.proofs.Laws.Cost.{same_cost}
use Rattle.comparing.proofs.Laws.Refusals.{unrefused}
use Rattle.searching.proofs.Laws.Search.{Ends, ends_same, ends_different, ends_stopped, search_law}
use Rattle.checking.specs.Check.{check_list}
use Rattle.checking.specs.Outcome.{mapped, told_at, of_checking, check_loaded, check_opened, check_by, check_outcome}
use Rattle.checking.specs.Point.{GoodTable}
use Rattle.checking.proofs.Laws.Point.{good_of}
use Rattle.checking.proofs.Laws.Accepts.{good_accepted}
use Rattle.checking.proofs.Laws.Refusals.{Unrefused, no_refusal, below_named}

-- A list whose pairs are mapped to themselves.
mapped_own : (places : List ℕ) (count : ℕ) → ((at : ℕ) → at < count → get_or places at 0 ≡ at) → (list : List Pair)
    → ((n : ℕ) → n < length list → ((pair_at list n).left < count) × ((pair_at list n).right < count)) → mapped places list ≡ list
unfolding mapped
mapped_own places count own [] h = refl
mapped_own places count own (p ∷ rest) h =
    let here = h 0 (omega arith) in
    ap₂ ◌∷◌ (λ i. record { left = own p.left here.0 i; right = own p.right here.1 i; origin = p.origin; letter = p.letter })
    (mapped_own places count own rest (λ n l. h (suc n) (omega arith)))

-- How a comparison came to "same": both cards opened, and the search ended so.
record SameFound (left right : List ℕ) (work pairs budget : ℕ) (o : Comparing) : Type 0 where
  left_good : pattern_card left ≡ GoodStanding
  right_good : pattern_card right ≡ GoodStanding
  room_legal : wrong_room work ≡ false
  list_legal : wrong_pair_room pairs ≡ false
  x : ℕ
  y : ℕ
  store₀ : List Record
  store : List Record
  table : List Pair
  unspent : ℕ
  both : BothOpened left right (work / 8) x y store₀
  found : search (work / 8) (pairs / 8) (tried left right) x y store₀ budget ≡ same store table unspent
  is : o ≡ told-comparing are_same store table (budget - unspent) []

module _ (left right : List ℕ) (lefts : Bytes left) (rights : Bytes right) (work pairs word budget : ℕ) where
  refused_not_same : {A : Type 0} {number : ℕ} → refused_by number ≡ are_same → A
  refused_not_same e = let z : ◌≡◌ {A = ℕ} 0 1 = cc in absurd (omega arith)

  module _ (left_good : pattern_card left ≡ GoodStanding) (right_good : pattern_card right ≡ GoodStanding) (room_legal : wrong_room work ≡ false)
      (list_legal : wrong_pair_room pairs ≡ false) where
    of_searched : {x y : ℕ} {store₀ : List Record} → BothOpened left right (work / 8) x y store₀ → (s : Search)
        → search (work / 8) (pairs / 8) (tried left right) x y store₀ budget ≡ s → (of_search word budget s).tells.says ≡ are_same
        → SameFound left right work pairs budget (of_search word budget s)
    of_searched {x} {y} {store₀} b (same store table unspent) f e =
        record {
          left_good = left_good;
          right_good = right_good;
          room_legal = room_legal;
          list_legal = list_legal;
          x = x;
          y = y;
          store₀ = store₀;
          store = store;
          table = table;
          unspent = unspent;
          both = b;
          found = f;
          is = refl;
        }
    of_searched b (different w left_has store table unspent) f e = absurd (never (ltb word (length w)) e)
      where
        never : (t : Bool)
            → (elim t as (λ _. Comparing) [
              | true ↦ told-comparing (word_room_short 10 (length w)) store table (budget - unspent) []
              | false ↦ told-comparing (are_different (length w) left_has) store table (budget - unspent) w
            ]).tells.says ≡ are_same → ⊥
        never true e = let z : ◌≡◌ {A = ℕ} 0 1 = cc in omega arith
        never false e = let z : ◌≡◌ {A = ℕ} 0 1 = cc in omega arith
    of_searched b (stopped number store table unspent) f e = refused_not_same e

    of_opened : {o : Opening} → OpenLaw left right (work / 8) o → (search_opened (work / 8) (pairs / 8) word (tried left right) budget o).tells.says ≡ are_same
        → SameFound left right work pairs budget (search_opened (work / 8) (pairs / 8) word (tried left right) budget o)
    of_opened (both_opened {x} {y} {store} b) e = of_searched b (search (work / 8) (pairs / 8) (tried left right) x y store budget) refl e
    of_opened (was_filled f) e = refused_not_same e

  same_found : (compare_outcome left right work pairs word budget).tells.says ≡ are_same → SameFound left right work pairs budget (compare_outcome left right work pairs word budget)
  unfolding compare_outcome
  same_found e = go (compare_standing left right work pairs) refl e
    where
      go : (s : Standing) → compare_standing left right work pairs ≡ s → (compare_by s left right work pairs word budget).tells.says ≡ are_same
          → SameFound left right work pairs budget (compare_by s left right work pairs word budget)
      go (Refused number) f e = refused_not_same e
      go GoodStanding f e =
          let u = unrefused left right work pairs f in
          of_opened u.left_good u.right_good u.room_legal u.pair_room_legal
          (open_law left right lefts rights work u.left_good u.right_good u.room_legal)
          e

-- What the search found is a good table.
record SameTable (letters : List ℕ) (room pairs x y : ℕ) (store₀ store : List Record) (table : List Pair) : Type 0 where
  grows : Grows store₀ store
  ready : Ready room store
  some : 0 < length table
  fits : length table ≤ pairs
  inside : (n : ℕ) → n < length table → ((pair_at table n).left < length store) × ((pair_at table n).right < length store)
  good : GoodTable letters store table x y

same_table : {letters : List ℕ} {room pairs x y : ℕ} {A B : Language} {store₀ store : List Record} {table : List Pair} {unspent : ℕ} {s : Search} → s ≡ same store table unspent
    → Ends room pairs letters A B x y store₀ s → SameTable letters room pairs x y store₀ store table
same_table {letters} {room} {pairs} {x} {y} {store₀ = store₀} {store} {table} e (ends_same {k} {table = t} kept over inside good fits) =
    let p : k.store ≡ store = cc in
    let q : t ≡ table = cc in
    let g = good_of good in
    let l = g.opening.inside in
    subst (λ (z : List Pair). SameTable letters room pairs x y store₀ store z) q
    (subst (λ (z : List Record). SameTable letters room pairs x y store₀ z t) p
    (record {
      grows = kept.grows;
      ready = kept.ready;
      some = omega arith;
      fits = fits;
      inside = inside;
      good = g;
    }))
same_table e (ends_different _ _ _ _) = let z : ◌≡◌ {A = ℕ} 0 1 = cc in absurd (omega arith)
same_table e ends_stopped = let z : ◌≡◌ {A = ℕ} 0 1 = cc in absurd (omega arith)

module _ (left right : List ℕ) (lefts : Bytes left) (rights : Bytes right) (work pairs budget : ℕ) {o : Comparing} (h : SameFound left right work pairs budget o) where
  found_table : SameTable (tried left right) (work / 8) (pairs / 8) h.x h.y h.store₀ h.store h.table
  found_table =
      same_table h.found
      (search_law (work / 8) (pairs / 8) (tried left right) (tried_bytes left right) (language (card_pattern left)) (language (card_pattern right)) (tried_rise left right)
      h.both.kept.ready h.x h.y h.both.left_inside h.both.right_inside h.both.left_means h.both.right_means budget)

  -- No refusal is due.
  not_refused_now : Unrefused left right (run_of h.store) (run_of_pairs h.table) work
  not_refused_now =
      let t = found_table in
      let most = (legal_pair_room pairs h.list_legal).not_large in
      let some = t.some in
      let fits = t.fits in
      let size = length_pair_run h.table in
      let count : length (run_of h.store) / 8 ≡ length h.store = omega (arith, length_run h.store) in
      record {
        left_good = h.left_good;
        right_good = h.right_good;
        proof_good =
            own_card_good h.store t.ready.good
            (let short = (legal_room work h.room_legal).not_large in let within = t.ready.within in omega arith);
        room_legal = h.room_legal;
        list_legal =
            not_wrong_pair_room (length (run_of_pairs h.table)) (record { some = omega arith; not_large = omega arith; whole = omega arith });
        named = rw (count, listed_of_run h.table) (below_named (length h.store) h.table t.inside);
      }

  pass : check_outcome left right (run_of h.store) (run_of_pairs h.table) work budget ≡ told_at is_accepted h.store (budget - h.unspent)
  unfolding check_outcome
  pass =
      let t = found_table in
      let within = t.ready.within in
      let paid =
      same_cost (work / 8) (pairs / 8) (tried left right) (tried_bytes left right) h.x h.y h.store₀ budget h.both.kept.ready
      h.both.left_inside h.both.right_inside h.store h.table h.unspent h.found
      in
      ap (λ (s : Standing). check_by s left right (run_of h.store) (run_of_pairs h.table) work budget)
      (no_refusal left right (run_of h.store) (run_of_pairs h.table) work not_refused_now)
      ∙ ap (check_opened (work / 8) (tried left right) (records (run_of h.store)) (listed_pairs (run_of_pairs h.table)) budget)
      (h.both.enough (work / 8) (omega (arith, grows_length t.grows)))
      ∙ ap₂ (λ (l : List Pair) (r : List Record). check_loaded (work / 8) (tried left right) l budget h.x h.y (load (work / 8) h.store₀ r))
      (listed_of_run h.table) (records_of_run h.store)
      ∙ ap (check_loaded (work / 8) (tried left right) h.table budget h.x h.y)
      (own_loaded (work / 8) h.store₀ h.store h.both.kept.ready.good t.ready.good t.grows within)
      ∙ ap₂ (λ (l : List Pair) (b : ℕ). of_checking budget (check_list (work / 8) (tried left right) l h.x h.y h.store b))
      (mapped_own (own_places (length h.store)) (length h.store) (own_place (length h.store)) h.table t.inside) paid
      ∙ ap (of_checking budget) (good_accepted (work / 8) (tried left right) h.store h.table h.x h.y t.good h.unspent)

-- The store and table of a "same" answer, as proof card and list, in a work room of the same size and with the same budget: accepted, with
-- the same places and visits and the same store.
pub same_passes : (left right : List ℕ) → Bytes left → Bytes right → (work pairs word budget : ℕ)
    → (compare_outcome left right work pairs word budget).tells.says ≡ are_same
    → check_outcome left right (run_of (compare_outcome left right work pairs word budget).store) (run_of_pairs (compare_outcome left right work pairs word budget).table) work budget
    ≡ record {
      tells =
          record {
            says = is_accepted;
            places = (compare_outcome left right work pairs word budget).tells.places;
            visits = (compare_outcome left right work pairs word budget).tells.visits;
          };
      store = (compare_outcome left right work pairs word budget).store;
    }
same_passes left right lefts rights work pairs word budget e =
    let h = same_found left right lefts rights work pairs word budget e in
    rw h.is (pass left right lefts rights work pairs budget h)
