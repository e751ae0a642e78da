-- `check_pairs` answers as the definition does: with the pairs before n passed, the store that stands in the room is the one from which the
-- definition goes on with the rest.
use mathlib.Core.Path.{◌≡◌}
use Rattle.checking.specs.Listed.{mapped_list}
use Rattle.checking.proofs.Laws.Rooms.{ByPairs}
use Rattle.checking.proofs.checking.check_pairs.Given as goal

abbrev pub invariant-loop-n : goal.invariant-loop-n
invariant-loop-n l =
    (l.work.room.ghost_name ≡ l.initial.work.room.ghost_name)
    × ByPairs l.letters (mapped_list l.listed.map.now l.listed.list.now) l.initial.work l.work l.n
