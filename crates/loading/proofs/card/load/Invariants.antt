-- `load` answers as the definition does: with the records before `at` loaded, the store that stands in the room and the places that
-- begin the map are those from which the definition loads the rest.
use Rattle.std.specs.Prelude.{◌≡◌}
use Rattle.loading.proofs.Laws.LoadingRoom.{Underway}
use Rattle.loading.proofs.card.load.Given as goal

abbrev pub invariant-loop-at : goal.invariant-loop-at
invariant-loop-at l =
    Underway l.initial.work.room.now l.initial.work.places l.card l.work.room.now l.map l.work.places l.at
    × ((l.work.room.ghost_name ≡ l.initial.work.room.ghost_name) × (l.work.budget ≡ l.initial.work.budget))
