-- Making a record in the room of a good store: the store that it leaves is good again, the place that it gives stands in it, and no place
-- that was taken is given up.
use Rattle.std.specs.Prelude.{ℕ, IfOk, ◌<◌, ◌≤◌, List, length}
use Rattle.std.proofs.Common.{arith, ⊎_elim}
use Rattle.std.specs.declared.result.Result.{Result}
use Rattle.refusals.specs.declared.refusal.Refusal.{Refusal}
use Rattle.records.specs.declared.record.Record.{Record}
use Rattle.cards.proofs.Laws.Line.{lower_left, lower_right}
use Rattle.store.specs.Room.{store_in, places_of}
use Rattle.store.specs.Making.{Making, make, after}
use Rattle.store.specs.Told.{making_answer, Makes}
use Rattle.store.specs.Good.{GoodStore, Makeable}
use Rattle.store.specs.Laws.Wall.{Kept}
use Rattle.store.proofs.Laws.Wall.{grows_length, MakeLaw, was_placed, was_full}
use Rattle.store.proofs.Laws.Making.{make_law}
use Rattle.store.proofs.Laws.GoodRoom.{room_ready, length_store_in, good_after}

-- What making keeps, and the place that it gives, whether it came to a place or found none free.
module _ {cap : ℕ} {store : List Record} {kind letter left right : ℕ} where
  law_keeps : {m : Making} → MakeLaw cap store kind letter left right m → Kept cap store (after m)
  law_keeps (was_placed p) = p.kept
  law_keeps (was_full q) = q.kept

  law_inside : {m : Making} → MakeLaw cap store kind letter left right m → IfOk (making_answer m) (λ place. place < length (after m))
  law_inside (was_placed p) = p.inside
  law_inside (was_full q) = tt

module _ {room : List ℕ} {places : ℕ} (good : GoodStore room places) {kind letter left right : ℕ}
    (can : Makeable (store_in room places) kind letter left right) where
  -- The children of a record that can be made stand; a field that names none is 0, and stands too.
  pub children_stand : (left < places) × (right < places)
  children_stand =
      let some = good.good.some in
      let n = length_store_in room places in (
        ⊎_elim (λ h. omega (arith, n)) (λ h. omega (arith, n)) (lower_left can.line),
        ⊎_elim (λ h. omega (arith, n)) (λ h. omega (arith, n)) (lower_right can.line),
      )

  here : MakeLaw (places_of room) (store_in room places) kind letter left right (make (places_of room) (store_in room places) kind letter left right)
  here = make_law (room_ready good) can

  module _ {answer : Result ℕ Refusal} {room' : List ℕ} {places' : ℕ}
      (makes : Makes room (make (places_of room) (store_in room places) kind letter left right) answer room' places') where
    pub made_good : GoodStore room' places'
    made_good = rw (makes.leaves, makes.taken) (good_after room (law_keeps here) good)

    pub made_inside : IfOk answer (λ place. place < places')
    made_inside = rw (makes.answers, makes.taken) (law_inside here)

    pub made_grows : places ≤ places'
    made_grows = omega (arith, makes.taken, grows_length (law_keeps here).grows, length_store_in room places)
