-- `follow` answers as the definition does: with the letters before this one followed, the store that stands in the room and the place reached are
-- those from which the definition follows the rest.
use Rattle.std.proofs.Common.{arith}
use Rattle.std.proofs.lemmas.Result.{err_from_is_err_and}
use Rattle.matching.proofs.Laws.Rooms.{at_first, at_last, when_stopped, when_derived}
use Rattle.matching.proofs.following.follow.Goals as goal

pub loop-letter-init : goal.loop-letter-init
loop-letter-init c = at_first c.args.work.now c.args.word.now c.requires

pub returns-in_err-here-clause-comes : goal.returns-in_err-here-clause-comes
returns-in_err-here-clause-comes c =
    let l = c.loop-letter in
    let told = err_from_is_err_and c.from_residual.result c.from_residual.ensures.1 in
    rw (told.1, told.2)
    (when_stopped l.invariant (omega arith) (omega arith) c.step.ensures.comes c.in_err-here.was)

pub loop-letter-preserved : goal.loop-letter-preserved
loop-letter-preserved c =
    let l = c.loop-letter in
    when_derived l.invariant (omega arith) (omega arith) c.step.ensures.comes c.step.ensures.same_room
    c.in_ok-here.was
    c.in_ok-here.ensures.inside

pub returns-clause-comes : goal.returns-clause-comes
returns-clause-comes c = at_last c.loop-letter.invariant (omega arith)
