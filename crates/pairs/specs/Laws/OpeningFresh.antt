-- Opening two cards in a legal room, which a call lays its fresh store in: what is told, and what stands in the room, over the room as it was lent.
use Rattle.std.specs.Prelude.{ℕ, ◌/◌, ◌≤◌, ◌≡◌, List, length}
use Rattle.std.proofs.Common.{◌∙◌, ap}
use Rattle.std.specs.declared.result.Result.{Result}
use Rattle.language.specs.Word.{Bytes}
use Rattle.refusals.specs.declared.refusal.Refusal.{Refusal}
use Rattle.records.specs.Record.{records}
use Rattle.store.specs.declared.work.Work.{Work}
use Rattle.store.specs.Room.{places_of, laid, fresh_store}
use Rattle.store.specs.Work.{store_of, space_of}
use Rattle.store.proofs.Laws.Room.{laid_laid}
use Rattle.store.proofs.Laws.Wall.{grows_length}
use Rattle.store.proofs.Laws.LegalRoom.{legal_room}
use Rattle.loading.specs.Loading.{load}
use Rattle.loading.specs.Told.{Begun}
use Rattle.loading.proofs.Laws.FreshRoom.{length_fresh}
use Rattle.pairs.specs.Opening.{Opening, left_opened, open_both, after_opening}
use Rattle.pairs.specs.Told.{Opens, opening_answer}
use Rattle.pairs.specs.Laws.Told.{CanOpenRoom}
use Rattle.pairs.specs.Laws.Opening.{OpenLaw, both_opened, was_filled, open_law}
use Rattle.pairs.specs.Laws.OpeningWork.{opens_fresh}

module _ {left right room : List ℕ} (lefts : Bytes left) (rights : Bytes right) (can : CanOpenRoom left right room) where
  -- What opening comes to in the room.
  abbrev opening : Opening
  opening = open_both (places_of room) (records left) (records right)

  -- It leaves a store that covers the fresh one.
  covers : {o : Opening} → OpenLaw left right (places_of room) o → length fresh_store ≤ length (after_opening o)
  covers (both_opened h) = grows_length h.kept.grows
  covers (was_filled h) = grows_length h.kept.grows

  covered : length fresh_store ≤ length (after_opening opening)
  covered = covers (open_law left right lefts rights (length room) can.left_good can.right_good can.room_legal)

  module _ {w : Work} (begun : Begun w) (lent : w.room.now ≡ laid fresh_store room) {answer : Result (ℕ × ℕ) Refusal} {w' : Work}
      (o : Opens w (left_opened (space_of w) (records right) (load (space_of w) (store_of w) (records left))) answer w') where
    same_space : space_of w ≡ places_of room
    same_space = ap places_of lent ∙ ap (λ (n : ℕ). n / 8) (length_fresh room (legal_room (length room) can.room_legal).enough)

    opens : Opens w opening answer w'
    opens = rw same_space at (opens_fresh begun (records left) (records right) o)

    pub opening_told : answer ≡ opening_answer opening
    opening_told = opens.answers

    pub opening_taken : w'.places ≡ length (after_opening opening)
    opening_taken = opens.holds.taken

    pub opening_leaves : {room' : List ℕ} → room' ≡ w'.room.now → room' ≡ laid (after_opening opening) room
    opening_leaves r =
        r ∙ opens.holds.leaves ∙ ap (laid (after_opening opening)) lent ∙ laid_laid fresh_store (after_opening opening) room covered
