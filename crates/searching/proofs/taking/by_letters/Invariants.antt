-- `by_letters` answers as the definition does: with the letters before this one done, the store and the table that stand in the two rooms are those
-- from which the definition goes on with the rest.
use Rattle.std.specs.Prelude.{◌≡◌}
use Rattle.searching.proofs.Laws.Letters.{LettersUnderway}
use Rattle.searching.proofs.taking.by_letters.Given as goal

abbrev pub invariant-loop-letter : goal.invariant-loop-letter
invariant-loop-letter l =
    LettersUnderway l.initial.work.room.now l.initial.work.places l.initial.table.room.now l.initial.table.pairs l.n l.letters l.initial.work.budget
    l.work.room.now l.table.room.now l.work.places l.table.pairs l.work.budget l.letter-index
    × l.work.room.ghost_name ≡ l.initial.work.room.ghost_name
    × l.table.room.ghost_name ≡ l.initial.table.room.ghost_name
