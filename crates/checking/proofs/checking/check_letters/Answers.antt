-- `check_letters` answers as the definition does: with the letters before this one passed, the store that stands in the room is the one from which
-- the definition goes on with the rest.
use native.Mathlib.Omega.{arith}
use mathlib.Core.Path.{refl, ◌∙◌}
use Rattle.std.proofs.lemmas.Result.{err_from_is_err_and}
use Rattle.checking.specs.Listed.{mapped_list}
use Rattle.checking.proofs.Laws.Rooms.{both_inside, letters_first, letters_done, letter_passed, letter_ended}
use Rattle.checking.proofs.checking.check_letters.Goals as goal

pub loop-letter-init : goal.loop-letter-init
loop-letter-init c =
    let a = c.args in
    (refl, letters_first (mapped_list a.listed.map.now a.listed.list.now) a.n a.x a.y a.letters.now a.work.now)

pub check_letter-requires : goal.check_letter-requires
check_letter-requires c = both_inside c.loop-letter.invariant.1.leaves c.requires

pub returns-in_err-check_letter-clause-goes : goal.returns-in_err-check_letter-clause-goes
returns-in_err-check_letter-clause-goes c =
    let a = c.args in
    let told = err_from_is_err_and c.from_residual.result c.from_residual.ensures.1 in
    rw (told.1, told.2)
    (letter_ended (mapped_list a.listed.map.now a.listed.list.now) a.n a.x a.y a.letters.now c.loop-letter.invariant.1 (omega arith)
    c.check_letter.ensures.goes c.in_err-check_letter.was)

pub loop-letter-preserved : goal.loop-letter-preserved
loop-letter-preserved c =
    let a = c.args in (
      c.check_letter.ensures.same_room ∙ c.loop-letter.invariant.0,
      letter_passed (mapped_list a.listed.map.now a.listed.list.now) a.n a.x a.y a.letters.now c.loop-letter.invariant.1 (omega arith)
          c.check_letter.ensures.goes c.in_ok-check_letter.was,
    )

pub returns-clause-goes : goal.returns-clause-goes
returns-clause-goes c =
    let a = c.args in
    letters_done (mapped_list a.listed.map.now a.listed.list.now) a.n a.x a.y a.letters.now c.loop-letter.invariant.1 (omega arith)
