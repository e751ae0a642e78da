-- A fresh store in a legal room: it is good there, and so is every store that grows from it; a card entered into the room that holds it
-- is loaded from the fresh store, and the room as lent then holds what that comes to.
use Rattle.std.specs.Prelude.{ℕ, ◌/◌, ◌≤◌, List, [], ◌≡◌, length}
use Rattle.std.proofs.Common.{arith, sym, ◌∙◌, ap, subst}
use Rattle.language.specs.Word.{Bytes}
use Rattle.records.specs.declared.record.Record.{Record}
use Rattle.refusals.specs.Order.{Good}
use Rattle.records.specs.Record.{records}
use Rattle.cards.specs.Examine.{pattern_card}
use Rattle.loading.proofs.Laws.Told.{Entered}
use Rattle.store.specs.Room.{places_of, laid, fresh_store}
use Rattle.loading.specs.Loading.{Loading, load, after_loading}
use Rattle.loading.proofs.Laws.Told.{EntersRoom}
use Rattle.store.specs.Good.{GoodStore}
use Rattle.store.proofs.Laws.Room.{store_of_laid, laid_laid, length_laid, bytes_laid}
use Rattle.store.specs.Laws.Wall.{Ready, Kept}
use Rattle.store.proofs.Laws.Wall.{grows_length}
use Rattle.loading.proofs.Laws.Fresh.{fresh_good, fresh_ready}
use Rattle.loading.proofs.Laws.Loading.{LoadLaw, all_loaded, was_full, load_law}
use Rattle.store.proofs.Laws.GoodRoom.{good_fits, good_after}
use Rattle.store.proofs.Laws.LegalRoom.{LegalRoom}
use Rattle.loading.proofs.Laws.LoadingRoom.{loading_in}
use Rattle.loading.proofs.Laws.Cards.{good_card}

-- A legal room has places for the fresh store.
pub fresh_is_ready : {size : ℕ} → LegalRoom size → Ready (size / 8) fresh_store
fresh_is_ready {size} legal =
    let a = legal.enough in
    fresh_ready (size / 8) (omega arith)

-- A card in good standing, loaded into the fresh store of a legal room.
pub load_fresh_law : {size : ℕ} → LegalRoom size → (card : List ℕ) → Bytes card → pattern_card card ≡ Good
    → LoadLaw (size / 8) (records card) fresh_store [] (records card) (load (size / 8) fresh_store (records card))
load_fresh_law {size} legal card cards good =
    load_law (size / 8) (records card) (good_card card cards good) fresh_store (fresh_is_ready legal)

-- Loading keeps the store, where it stops too.
pub loading_kept : {room : ℕ} {card store : List Record} {places : List ℕ} {rest : List Record} {l : Loading} → LoadLaw room card store places rest l
    → Kept room store (after_loading l)
loading_kept (all_loaded h) = h.kept
loading_kept (was_full h) = h.kept

-- What loading a card into the fresh store of a room comes to.
abbrev pub loading_fresh : List ℕ → List ℕ → Loading
loading_fresh card room = load (places_of room) fresh_store (records card)

-- The fresh store leaves the room's length.
pub length_fresh : (room : List ℕ) → 16 ≤ length room → length (laid fresh_store room) ≡ length room
length_fresh room l = length_laid fresh_store room l

-- A store that grew from the fresh one covers it.
pub over_fresh : (room : List ℕ) {store : List Record} → Kept (places_of room) fresh_store store → laid store (laid fresh_store room) ≡ laid store room
over_fresh room {store} k = laid_laid fresh_store store room (grows_length k.grows)

module _ (room : List ℕ) (bytes : Bytes room) (legal : LegalRoom (length room)) where
  -- The fresh store is good in the room.
  pub fresh_in : GoodStore (laid fresh_store room) 2
  fresh_in =
      let a = legal.enough in
      let b = legal.not_large in
      let n = length_fresh room a in
      record {
        bytes = bytes_laid fresh_store (good_fits fresh_good (omega arith)) bytes;
        fits = omega arith;
        short = omega arith;
        good = rw (store_of_laid fresh_store room) fresh_good;
      }

  -- So is a store that grew from it.
  pub grown_good : {store : List Record} → Kept (places_of room) fresh_store store → GoodStore (laid store room) (length store)
  grown_good {store} k =
      let kept = subst (λ (n : ℕ). Kept (n / 8) fresh_store store) (sym (length_fresh room legal.enough)) k in
      rw (over_fresh room k) at (good_after (laid fresh_store room) kept fresh_in)

  -- The room with the fresh store in it, and the number of its places.
  module _ {room₁ : List ℕ} {places : ℕ} (r : room₁ ≡ laid fresh_store room) (two : places ≡ 2) where
    pub lent_fresh : GoodStore room₁ places
    lent_fresh = rw (r, two) fresh_in

    loads_fresh : (card : List ℕ) → loading_in room₁ places card ≡ loading_fresh card room
    loads_fresh card =
        rw (r, two, store_of_laid fresh_store room)
        (ap (λ (n : ℕ). load (n / 8) fresh_store (records card)) (length_fresh room legal.enough))

    -- A card entered there is loaded from the fresh store.
    pub entered_fresh : (card : List ℕ) → Bytes card → pattern_card card ≡ Good → {answer : Entered} {room₂ : List ℕ}
        → EntersRoom room₁ (loading_in room₁ places card) answer room₂ → EntersRoom room (loading_fresh card room) answer room₂
    entered_fresh card cards good e =
        let f = rw (loads_fresh card, r) at e in
        record { answers = f.answers; leaves = f.leaves ∙ over_fresh room (loading_kept (load_fresh_law legal card cards good)) }
