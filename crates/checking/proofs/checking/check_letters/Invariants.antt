-- `check_letters` answers as the definition does: with the letters before this one passed, the store that stands in the room is the one from which
-- the definition goes on with the rest.
use mathlib.Core.Path.{◌≡◌}
use Rattle.checking.specs.Listed.{mapped_list}
use Rattle.checking.proofs.Laws.Rooms.{ByLetters}
use Rattle.checking.proofs.checking.check_letters.Given as goal

abbrev pub invariant-loop-letter : goal.invariant-loop-letter
invariant-loop-letter l =
    (l.work.room.ghost_name ≡ l.initial.work.room.ghost_name)
    × ByLetters (mapped_list l.listed.map.now l.listed.list.now) l.n l.x l.y l.letters l.initial.work l.work l.letter-index
