-- `follow` answers as the definition does: with the letters before this one followed, the store that stands in the room and the place reached are
-- those from which the definition follows the rest.
use Rattle.matching.proofs.Laws.Rooms.{Underway}
use Rattle.matching.proofs.following.follow.Given as goal

abbrev pub invariant-loop-letter : goal.invariant-loop-letter
invariant-loop-letter l = Underway l.initial.work l.place l.word l.work l.here l.letter-index
