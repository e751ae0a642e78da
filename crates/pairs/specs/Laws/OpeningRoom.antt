-- Opening two cards in a room: the fresh store is good in a legal room, and what entering a card answers, with the room that it leaves, is
-- what entering the next goes on from, since the store that stands in the room is good again.
use Rattle.std.specs.Prelude.{ℕ, ◌/◌, ◌≤◌, ◌≡◌, refl}
use Rattle.std.proofs.Common.{arith, ◌∙◌, ap₂}
use mathlib.Core.List.{List, []}
use Rattle.std.proofs.Math.Path.{ap}
use Rattle.std.proofs.Math.ListN.{length}
use Rattle.language.specs.Word.{Bytes}
use Rattle.records.specs.declared.record.Record.{Record}
use Rattle.refusals.specs.Order.{Good}
use Rattle.records.specs.Record.{records}
use Rattle.cards.specs.Examine.{pattern_card}
use Rattle.loading.proofs.Laws.Told.{Entered}
use Rattle.loading.proofs.Laws.Told.{At, NotEntered}
use Rattle.store.specs.Room.{store_in, places_of, laid, fresh_store}
use Rattle.refusals.specs.Limits.{least_room}
use Rattle.loading.specs.Loading.{Loading, loaded, no_room, load, root}
use Rattle.loading.proofs.Laws.Told.{EntersRoom}
use Rattle.store.specs.Good.{GoodStore}
use Rattle.store.proofs.Laws.Room.{laid_laid, store_of_laid}
use Rattle.store.specs.Laws.Wall.{Kept}
use Rattle.store.proofs.Laws.Wall.{grows_length}
use Rattle.store.proofs.Laws.GoodRoom.{places_after, store_after}
use Rattle.store.proofs.Laws.LegalRoom.{LegalRoom, legal_room}
use Rattle.loading.proofs.Laws.Loading.{LoadLaw, all_loaded, was_full, load_law}
use Rattle.loading.proofs.Laws.Cards.{good_card}
use Rattle.pairs.specs.Laws.Told.{Opened}
use Rattle.pairs.specs.Laws.Told.{OpenedAt, NotOpened}
use Rattle.pairs.specs.Opening.{Opening, right_opened, left_opened, open_both, after_opening}
use Rattle.pairs.specs.Laws.Told.{CanOpenRoom, OpensRoom}
use Rattle.loading.proofs.Laws.FreshRoom.{length_fresh, fresh_in, fresh_is_ready, over_fresh, grown_good}

-- What the code told of entering a card is one thing.
not_both : {answer : Entered} {place taken stood : ℕ} → answer ≡ At place taken → answer ≡ NotEntered stood → ⊥
not_both e f = let z : ◌≡◌ {A = ℕ} 0 1 = cc in omega arith

-- The right card, entered or not.
module _ {room room₁ : List ℕ} {answer : Entered} (x : ℕ) where
  pub right_at : (l : Loading) → EntersRoom room l answer room₁ → {y taken : ℕ} → answer ≡ At y taken
      → OpensRoom room (right_opened x l) (OpenedAt x y taken) room₁
  right_at (loaded places store) n {y} {taken} e =
      let a = n.answers in
      let i : y ≡ root places = cc in
      let j : taken ≡ length store = cc in
      record { answers = ap₂ (OpenedAt x) i j; leaves = n.leaves }
  right_at (no_room store) n e = absurd (not_both e n.answers)

  pub right_full : (l : Loading) → EntersRoom room l answer room₁ → {taken : ℕ} → answer ≡ NotEntered taken
      → OpensRoom room (right_opened x l) (NotOpened taken) room₁
  right_full (loaded places store) n e = absurd (not_both n.answers e)
  right_full (no_room store) n {taken} e =
      let a = n.answers in
      let j : taken ≡ length store = cc in
      record { answers = ap NotOpened j; leaves = n.leaves }

-- The store only grows while the right card is entered.
right_longer : (x : ℕ) {room : ℕ} {card store rest : List Record} {places : List ℕ} {l : Loading} → LoadLaw room card store places rest l
    → length store ≤ length (after_opening (right_opened x l))
right_longer x (all_loaded a) = grows_length a.kept.grows
right_longer x (was_full f) = grows_length f.kept.grows

-- The left card was entered: x is its root's place, and `store` stands in the room.
record LeftEntered (room : List ℕ) (l : Loading) (x taken : ℕ) (room₁ : List ℕ) : Type 0 where
  places : List ℕ
  store : List Record
  is : l ≡ loaded places store
  place_is : x ≡ root places
  taken_is : taken ≡ length store
  room_is : room₁ ≡ laid store room
  kept : Kept (places_of room) fresh_store store

module _ {room : List ℕ} {l : Loading} {x taken : ℕ} {room₁ : List ℕ} (n : LeftEntered room l x taken room₁) where
  -- The store that stands is good.
  left_stands : Bytes room → LegalRoom (length room) → GoodStore room₁ taken
  left_stands bytes legal = rw (n.room_is, n.taken_is) (grown_good room bytes legal n.kept)

  -- What the right card comes to in that store is what opening comes to.
  module _ (right : List ℕ) (rights : Bytes right) (good : pattern_card right ≡ Good) where
    abbrev onward : Opening
    onward = right_opened (root n.places) (load (places_of room) n.store (records right))

    same_onward : right_opened x (load (places_of room₁) (store_in room₁ taken) (records right)) ≡ onward
    same_onward =
        let room-as-large : places_of room₁ ≡ places_of room = ap places_of n.room_is ∙ places_after room n.kept in
        let stood : store_in room₁ taken ≡ n.store = ap₂ store_in n.room_is n.taken_is ∙ store_after room n.kept in
        rw (room-as-large, stood, n.place_is)

    longer : length n.store ≤ length (after_opening onward)
    longer = right_longer (root n.places) (load_law (places_of room) (records right) (good_card right rights good) n.store n.kept.ready)

    told_of_room : {answer : Opened} {room₂ : List ℕ}
        → OpensRoom room₁ (right_opened x (load (places_of room₁) (store_in room₁ taken) (records right))) answer room₂
        → OpensRoom room (left_opened (places_of room) (records right) l) answer room₂
    told_of_room o =
        let p = rw same_onward at o in
        rw n.is
        (record {
          answers = p.answers;
          leaves = p.leaves ∙ ap (laid (after_opening onward)) n.room_is ∙ laid_laid n.store (after_opening onward) room longer;
        })

module _ (left right room : List ℕ) (lefts : Bytes left) (rights : Bytes right) (bytes : Bytes room) (can : CanOpenRoom left right room) where
  -- The room has space for a fresh store.

  legal : LegalRoom (length room)
  legal = legal_room (length room) can.room_legal

  pub room_enough : least_room ≤ length room
  room_enough = legal.enough

  -- The left card is loaded into it.
  left_law : LoadLaw (places_of room) (records left) fresh_store [] (records left) (load (places_of room) fresh_store (records left))
  left_law = load_law (places_of room) (records left) (good_card left lefts can.left_good) fresh_store (fresh_is_ready legal)

  -- The fresh store is lent to the left card.
  module _ {room₁ : List ℕ} {n : ℕ} (r : room₁ ≡ laid fresh_store room) (two : n ≡ 2) where
    pub lent_fresh : GoodStore room₁ n
    lent_fresh = rw (r, two) (fresh_in room bytes legal)

    loads_fresh : load (places_of room₁) (store_in room₁ n) (records left) ≡ load (places_of room) fresh_store (records left)
    loads_fresh =
        rw (r, two, store_of_laid fresh_store room)
        (ap (λ (k : ℕ). load (k / 8) fresh_store (records left)) (length_fresh room room_enough))

    module _ {entered : Entered} {room₂ : List ℕ} (c : EntersRoom room₁ (load (places_of room₁) (store_in room₁ n) (records left)) entered room₂) where
      comes : EntersRoom (laid fresh_store room) (load (places_of room) fresh_store (records left)) entered room₂
      comes = rw (loads_fresh, r) at c

      -- The left card is entered: its store is lent to the right card.
      module _ {x taken : ℕ} (e : entered ≡ At x taken) where
        left_entered : LeftEntered room (load (places_of room) fresh_store (records left)) x taken room₂
        left_entered = go left_law comes
          where
            go : {l : Loading} → LoadLaw (places_of room) (records left) fresh_store [] (records left) l
                → EntersRoom (laid fresh_store room) l entered room₂ → LeftEntered room l x taken room₂
            go (all_loaded {places' = places} {store' = store} a) t =
                let told = t.answers in
                record {
                  places = places;
                  store = store;
                  is = refl;
                  place_is = cc;
                  taken_is = cc;
                  room_is = t.leaves ∙ over_fresh room a.kept;
                  kept = a.kept;
                }
            go (was_full f) t = absurd (not_both e t.answers)

        pub lent_left : GoodStore room₂ taken
        lent_left = left_stands left_entered bytes legal

        pub both_told : {answer : Opened} {room₃ : List ℕ}
            → OpensRoom room₂ (right_opened x (load (places_of room₂) (store_in room₂ taken) (records right))) answer room₃
            → OpensRoom room (open_both (places_of room) (records left) (records right)) answer room₃
        unfolding open_both
        both_told o = told_of_room left_entered right rights can.right_good o

      -- The room is full.
      pub full_told : {taken : ℕ} → entered ≡ NotEntered taken → OpensRoom room (open_both (places_of room) (records left) (records right)) (NotOpened taken) room₂
      unfolding open_both
      full_told {taken} e = go left_law comes
        where
          go : {l : Loading} → LoadLaw (places_of room) (records left) fresh_store [] (records left) l
              → EntersRoom (laid fresh_store room) l entered room₂ → OpensRoom room (left_opened (places_of room) (records right) l) (NotOpened taken) room₂
          go (all_loaded a) t = absurd (not_both t.answers e)
          go (was_full {store' = store} f) t =
              let told = t.answers in
              let stood : taken ≡ length store = cc in
              record { answers = ap NotOpened stood; leaves = t.leaves ∙ over_fresh room f.kept }
