-- `fits` comes to its outcome: refused at once it tells that; else it begins with a fresh store in the room, and what is judged there is told.
use Rattle.std.proofs.Common.{rules, refl}
use Rattle.language.proofs.Laws.Words.{bytes_all}
use Rattle.matching.proofs.Laws.Call.{Lent, refused_at_once, right_room, good, judged_call}
use Rattle.matching.proofs.fits.Goals as goal
use Rattle.matching.proofs.fits.Goals.{After-standing}

-- What is known once the refusals were asked.
lent : (c : After-standing) → Lent c.args.card.now c.args.word.now c.args.room.now c.standing.result
lent c =
    record {
      cards = bytes_all c.args.card.now (λ i. (c.type_inv.card i).fits);
      letters = bytes_all c.args.word.now (λ i. (c.type_inv.word i).fits);
      standing = c.standing.ensures;
    }

pub returns-in-Err : goal.returns-in-Err
returns-in-Err c =
    let number = c.number.ensures in
    rw number (refused_at_once c.args.budget (lent (goal.at.returns-in-Err c).After-standing) c.in-Err.is)

pub begin-work-requires : goal.begin-work-requires
begin-work-requires c = right_room c.args.budget (lent (goal.at.begin-work-requires c).After-standing) c.in_default.is

pub judge-judged-requires : goal.judge-judged-requires
judge-judged-requires c = good c.args.budget (lent (goal.at.judge-judged-requires c).After-standing) c.in_default.is

pub returns-in-Ok-true : goal.returns-in-Ok-true
returns-in-Ok-true c =
    let b = c.begin-work.ensures in
    let says = c.in-Ok-true.field-0-test in
    judged_call c.args.budget (lent (goal.at.returns-in-Ok-true c).After-standing) c.in_default.is b.begun b.room_after b.budget
    c.in-Ok-true.ensures.judges
    (rw says refl)
    (search rules)

pub returns-in-Ok-false : goal.returns-in-Ok-false
returns-in-Ok-false c =
    let b = c.begin-work.ensures in
    let says = c.in-Ok-false.field-0-test in
    judged_call c.args.budget (lent (goal.at.returns-in-Ok-false c).After-standing) c.in_default.is b.begun b.room_after b.budget
    c.in-Ok-false.ensures.judges
    (rw says refl)
    (search rules)

pub returns-in-Err-judged : goal.returns-in-Err-judged
returns-in-Err-judged c =
    let b = c.begin-work.ensures in
    let number = c.number-in-Err-judged.ensures in
    judged_call c.args.budget (lent (goal.at.returns-in-Err-judged c).After-standing) c.in_default.is b.begun b.room_after b.budget
    c.in-Err-judged.ensures.judges
    (rw number refl)
    (search rules)
