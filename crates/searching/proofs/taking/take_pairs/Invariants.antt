-- `take_pairs` answers as the definition does: with the pairs before n taken, the store and the table that stand in the two rooms are those from
-- which the definition takes the rest. The measure is the number of pairs that the pair room still has space for.
use Rattle.std.specs.Prelude.{◌≡◌, ◌-◌}
use Rattle.pairs.specs.Room.{pairs_of}
use Rattle.searching.proofs.Laws.Pairs.{PairsUnderway}
use Rattle.searching.proofs.taking.take_pairs.Given as goal

abbrev pub invariant-loop-n : goal.invariant-loop-n
invariant-loop-n l =
    PairsUnderway l.initial.work.room.now l.initial.work.places l.initial.table.room.now l.initial.table.pairs l.letters l.initial.work.budget
    l.work.room.now l.table.room.now l.work.places l.table.pairs l.work.budget l.n
    × l.work.room.ghost_name ≡ l.initial.work.room.ghost_name
    × l.table.room.ghost_name ≡ l.initial.table.room.ghost_name

abbrev pub decreases-loop-n : goal.decreases-loop-n
decreases-loop-n l = pairs_of l.initial.table.room.now - l.n
