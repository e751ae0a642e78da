-- Loading in a room: once the records before `at` are loaded, what loading the whole card comes to is what loading the records
-- from `at` on comes to, in the store that then stands in the room.
use Rattle.std.specs.Prelude.{ℕ, suc, ◌+◌, ◌/◌, ◌<◌, ◌≤◌, Bool, ◌≡◌, refl, get_or, set}
use Rattle.std.proofs.Common.{add-one, arith, ⊎_elim, sym, ◌∙◌, ap₂, subst, length-set, drop-cons, get_or-take, get_or-drop, take-suc-set}
use mathlib.Core.List.{List, [], ◌∷◌, ◌++◌}
use Rattle.std.proofs.Math.Path.{ap}
use Rattle.std.proofs.Math.ListN.{length, take, drop, drop_of_length-le}
use Rattle.std.proofs.Math.Seq.{split_at, length-take-le}
use Rattle.records.specs.declared.kind.Kind.{Kind}
use Rattle.records.specs.declared.kind.Columns.{Columns}
use Rattle.records.specs.declared.record.Record.{Record}
use Rattle.records.specs.Record.{record_at, records, no_record, child}
use Rattle.records.specs.Kind.{kind_of, columns}
use Rattle.records.specs.Number.{number}
use Rattle.records.specs.Laws.Kind.{number_of_kind}
use Rattle.cards.specs.Standing.{ChildField, Line}
use Rattle.cards.proofs.Laws.Line.{lower_left, lower_right, field_same}
use Rattle.records.specs.Laws.Record.{record_at_place, length_records}
use Rattle.std.specs.declared.result.Result.{Result}
use Rattle.std.specs.declared.result.Result.TheVariants.{Ok, Err}
use Rattle.refusals.specs.declared.refusal.Refusal.{Refusal}
use Rattle.refusals.specs.declared.refusal.Refusal.TheVariants.{NoFreePlace}
use Rattle.store.specs.Told.{Makes}
use Rattle.store.proofs.Laws.Told.{Made, Placed, Full, told_making, made_of, makes_told, full_by}
use Rattle.loading.proofs.Laws.Told.{Loaded, All, Full as AllFull, told_loading}
use Rattle.store.specs.Room.{store_in, places_of, laid}
use Rattle.store.specs.Making.{Making, make, after}
use Rattle.loading.specs.Loading.{Loading, loaded, child_place, left_place, right_place, make_loaded, load_after, load, after_loading}
use Rattle.loading.specs.Told.{Mapped}
use Rattle.store.specs.Good.{GoodStore, Makeable}
use Rattle.loading.specs.Told.{Loadable}
use Rattle.store.proofs.Laws.Room.{laid_same, laid_laid}
use Rattle.store.specs.Laws.Wall.{Kept}
use Rattle.store.proofs.Laws.Wall.{grows_length, kept_refl, kept_trans, MakeLaw, was_placed, was_full}
use Rattle.store.proofs.Laws.Making.{make_law}
use Rattle.loading.proofs.Laws.Loading.{GoodCard, Standing, go_on, can, next_standing}
use Rattle.store.proofs.Laws.GoodRoom.{room_ready, length_store_in, places_after, store_after, good_after}

-- What loading a card into the store of a room comes to.
abbrev pub loading_in : List ℕ → ℕ → List ℕ → Loading
loading_in room places card = load (places_of room) (store_in room places) (records card)

-- What the code answers of it, with the room and the map that it leaves.
abbrev pub Answers : List ℕ → ℕ → List ℕ → Loaded → List ℕ → List ℕ → Type 0
Answers room₀ places card answer room map =
    (answer ≡ told_loading (loading_in room₀ places card))
    × ((room ≡ laid (after_loading (loading_in room₀ places card)) room₀) × Mapped (loading_in room₀ places card) map)

-- The first `at` records of the card are loaded from `room₀`: their places begin `map`, and `store` stands in `room`.
pub record Underway (room₀ : List ℕ) (places : ℕ) (card room map : List ℕ) (taken at : ℕ) : Type 0 where
  pub good : GoodStore room₀ places
  pub good_card : GoodCard (records card)
  pub mapped : length card / 8 ≤ length map
  pub store : List Record
  pub room_is : room ≡ laid store room₀
  pub taken_is : taken ≡ length store
  pub kept : Kept (places_of room₀) (store_in room₀ places) store
  pub standing : Standing (records card) store (take at map)
  pub rest : loading_in room₀ places card ≡ load_after (places_of room₀) store (take at map) (drop at (records card))

-- A card of bytes that obeys the kind table can be loaded.
card_is_good : (card map : List ℕ) → Loadable card map → ((i : ℕ) → get_or card i 0 < 256) → GoodCard (records card)
card_is_good card map g b =
    record {
      obeys = λ at l. g.obeys at (omega (arith, length_records card));
      byte = λ at l.
          let m : at < length card / 8 = omega (arith, length_records card) in
          rw (record_at_place card at m, get_or-drop) (b _);
    }

-- At first none is loaded.
pub at_first : (room : List ℕ) (places : ℕ) (card map : List ℕ) → GoodStore room places → Loadable card map → ((i : ℕ) → get_or card i 0 < 256)
    → Underway room places card room map places 0
unfolding load
at_first room places card map g h b =
    record {
      good = g;
      good_card = card_is_good card map h b;
      mapped = h.mapped;
      store = store_in room places;
      room_is = sym (laid_same places room g.fits g.bytes);
      taken_is = sym (length_store_in room places);
      kept = kept_refl (room_ready g);
      standing = record { inside = λ i l. absurd (omega arith); means = λ i l. absurd (omega arith) };
      rest = refl;
    }

-- What the code tells of making is one thing.
not_both : {told : Made} {place taken stood : ℕ} → told ≡ Placed place taken → told ≡ Full stood → ⊥
not_both e f = let z : ◌≡◌ {A = ℕ} 0 1 = cc in omega arith

module _ {room₀ : List ℕ} {places : ℕ} {card room map : List ℕ} {taken at : ℕ} (u : Underway room₀ places card room map taken at) where
  abbrev cap : ℕ
  cap = places_of room₀

  abbrev store : List Record
  store = u.store

  good_now : GoodStore room taken
  good_now = rw (u.room_is, u.taken_is) (good_after room₀ u.kept u.good)

  places_now : places_of room ≡ cap
  places_now = ap places_of u.room_is ∙ places_after room₀ u.kept

  store_now : store_in room taken ≡ store
  store_now = ap₂ store_in u.room_is u.taken_is ∙ store_after room₀ u.kept

  -- Where no record is left, all are loaded.
  pub at_last : at ≡ length card / 8 → Answers room₀ places card (All taken) room map
  unfolding load_after
  at_last l =
      let n : length (take at map) ≡ at = length-take-le at map (let m = u.mapped in omega arith) in
      let e : drop at (records card) ≡ [] = drop_of_length-le (records card) {i = at} (omega (arith, length_records card)) in
      let f : loading_in room₀ places card ≡ loaded (take at map) store = u.rest ∙ ap (load_after cap store (take at map)) e in
      rw f (ap All u.taken_is, (u.room_is, ap (λ (k : ℕ). take k map) n))

  -- The record numbered `at`, read from the card.
  module _ (l : at < length card / 8) {r : Record} (is : r ≡ record_at card at) where
    in_map : at < length map
    in_map = let m = u.mapped in omega arith

    in_card : at < length (records card)
    in_card = omega (arith, length_records card)

    taken_places : length (take at map) ≡ at
    taken_places = length-take-le at map (omega (arith, in_map))

    here : child (records card) at ≡ r
    here = record_at_place card at l ∙ sym is

    line : Line at r
    line = subst (Line at) here (u.good_card.obeys at in_card).line

    split : records card ≡ take at (records card) ++ r ∷ drop (suc at) (records card)
    split = rw here at (split_at (records card) at no_record in_card)

    as_many : length (take at (records card)) ≡ length (take at map)
    as_many = length-take-le at (records card) (omega (arith, in_card)) ∙ sym taken_places

    -- Its children are records before it, so that they are in the map.
    pub left_mapped : r.left < length map
    left_mapped = let m = in_map in ⊎_elim (λ h. omega arith) (λ h. omega arith) (lower_left line)

    pub right_mapped : r.right < length map
    right_mapped = let m = in_map in ⊎_elim (λ h. omega arith) (λ h. omega arith) (lower_right line)

    -- The places where its children were loaded begin the map.
    same_place : (child : Bool) (field : ℕ) → ChildField child at field → child_place child map field ≡ child_place child (take at map) field
    same_place child field h =
        field_same child at field (λ i. get_or map i 0) (λ i. get_or (take at map) i 0) (λ i m. sym (get_or-take at map i 0 m)) h

    -- What follows from what was made, by what the code told of it and by the room that it left.
    abbrev Law : Making → Type 0
    Law m =
        MakeLaw cap store r.kind r.letter (left_place (take at map) r) (right_place (take at map) r) m

    abbrev Goes : Making → Type 0
    Goes m = loading_in room₀ places card ≡ go_on cap (take at map) (drop (suc at) (records card)) m

    exit_is : {exit : List ℕ} (store' : List Record) → exit ≡ laid store' room → length store ≤ length store' → exit ≡ laid store' room₀
    exit_is store' x n = x ∙ ap (laid store') u.room_is ∙ laid_laid store store' room₀ n

    full_answers : {stood : ℕ} {told : Made} → told ≡ Full stood → {exit : List ℕ} {m : Making}
        → Law m → told ≡ told_making m → exit ≡ laid (after m) room → Goes m → Answers room₀ places card (AllFull stood) exit map
    full_answers t (was_placed p) w x g = absurd (not_both w t)
    full_answers {stood} t (was_full {store'} q) w x g =
        let n : stood ≡ length store' = cc in
        rw g (ap AllFull n, (exit_is store' x (grows_length q.kept.grows), tt))

    placed_fits : {place taken' : ℕ} {told : Made} → told ≡ Placed place taken' → {m : Making} → Law m → told ≡ told_making m → place < 65536
    placed_fits {place} t (was_placed {place = place'} p) w =
        let n : place ≡ place' = cc in
        let inside = p.inside in
        let ready = p.kept.ready in
        omega arith
    placed_fits t (was_full q) w = absurd (not_both t w)

    placed_underway : {place taken' : ℕ} {told : Made} → told ≡ Placed place taken' → {exit : List ℕ} {m : Making}
        → Law m → told ≡ told_making m → exit ≡ laid (after m) room → Goes m
        → Underway room₀ places card exit (set map at place) taken' (at + 1)
    placed_underway {place} {taken'} t (was_placed {place = place'} {store'} p) w x g =
        let n : place ≡ place' = cc in
        let places-are : take (at + 1) (set map at place) ≡ take at map ++ place' ∷ [] = rw (add-one, take-suc-set map at place in_map, n) in
        record {
          good = u.good;
          good_card = u.good_card;
          mapped = simp length-set u.mapped;
          store = store';
          room_is = exit_is store' x (grows_length p.kept.grows);
          taken_is = cc;
          kept = kept_trans u.kept p.kept;
          standing =
              rw places-are
              (next_standing cap (records card) u.good_card store (take at map) (take at (records card)) r (drop (suc at) (records card))
              split as_many u.kept.ready u.standing p);
          rest = rw (places-are, add-one at) g;
        }
    placed_underway t (was_full q) w x g = absurd (not_both t w)

    module _ {k : Kind} (e : k ≡ kind_of r.kind) {columns-read : Columns} (c : columns-read ≡ columns k) {left right : ℕ}
        (f : left ≡ child_place columns-read.left map r.left) (f' : right ≡ child_place columns-read.right map r.right) where
      columns_are : columns-read ≡ columns (kind_of r.kind)
      columns_are = c ∙ ap columns e

      left_is : left ≡ left_place (take at map) r
      left_is = f ∙ ap (λ (c : Columns). child_place c.left map r.left) columns_are ∙ same_place (columns (kind_of r.kind)).left r.left line.left

      right_is : right ≡ right_place (take at map) r
      right_is = f' ∙ ap (λ (c : Columns). child_place c.right map r.right) columns_are ∙ same_place (columns (kind_of r.kind)).right r.right line.right

      -- The record can be made.
      makeable : Makeable store r.kind r.letter left right
      makeable =
          rw (left_is, right_is)
          (can cap (records card) u.good_card store (take at map) (take at (records card)) r (drop (suc at) (records card))
          split as_many u.kept.ready u.standing)

      -- The code gives the kind that the record's number names, and that kind has this number.
      kind_number : number k ≡ r.kind
      kind_number = sym (number_of_kind r.kind line.known (sym e))

      pub can_make : Makeable (store_in room taken) (number k) r.letter left right
      can_make = rw (store_now, kind_number) makeable

      -- What the code makes is what the definition makes.
      made_is : make (places_of room) (store_in room taken) (number k) r.letter left right ≡ make_loaded cap store (take at map) r
      made_is = rw (places_now, store_now, kind_number, left_is, right_is)

      go_on_is : Goes (make_loaded cap store (take at map) r)
      unfolding load_after
      go_on_is = u.rest ∙ rw (drop-cons (records card) at no_record in_card, here)

      made_law : Law (make_loaded cap store (take at map) r)
      made_law = make_law u.kept.ready (rw (left_is, right_is) at makeable)

      -- What the code answers, of what the definition makes.
      module _ {answer : Result ℕ Refusal} {exit : List ℕ} {taken' : ℕ}
          (makes : Makes room (make (places_of room) (store_in room taken) (number k) r.letter left right) answer exit taken') where
        told_is : made_of answer taken' ≡ told_making (make_loaded cap store (take at map) r)
        told_is = makes_told makes ∙ ap told_making made_is

        exit_made : exit ≡ laid (after (make_loaded cap store (take at map) r)) room
        exit_made = makes.leaves ∙ ap (λ (m : Making). laid (after m) room) made_is

        pub place_fits : {place : ℕ} → answer ≡ Ok place → place < 65536
        place_fits e = placed_fits (ap (λ (a : Result ℕ Refusal). made_of a taken') e) made_law told_is

        pub when_full : {refusal : Refusal} → answer ≡ Err refusal
            → (refusal ≡ NoFreePlace) × Answers room₀ places card (AllFull taken') exit map
        when_full e =
            (full_by _ (sym e ∙ makes.answers), full_answers (ap (λ (a : Result ℕ Refusal). made_of a taken') e) made_law told_is exit_made go_on_is)

        pub when_placed : {place : ℕ} → answer ≡ Ok place → Underway room₀ places card exit (set map at place) taken' (at + 1)
        when_placed e = placed_underway (ap (λ (a : Result ℕ Refusal). made_of a taken') e) made_law told_is exit_made go_on_is
