-- `check` comes to its outcome: refused at once it tells that; else it checks the cards as the definition does, and what is so told is true.
use Rattle.std.proofs.Common.{rules}
use Rattle.language.proofs.Laws.Words.{bytes_all}
use Rattle.checking.proofs.Laws.Call.{Lent, refused_at_once, not_refused, good_proof, can_open, still_legal, call_told}
use Rattle.checking.proofs.check.Goals as goal
use Rattle.checking.proofs.check.Goals.{After-standing}

-- What is known once the refusals were asked.
lent : (c : After-standing) → Lent c.args.left.now c.args.right.now c.args.proof.now c.args.list.now c.args.room.now c.args.budget c.standing.result
lent c =
    record {
      lefts = bytes_all c.args.left.now (λ i. (c.type_inv.left i).fits);
      rights = bytes_all c.args.right.now (λ i. (c.type_inv.right i).fits);
      proofs = bytes_all c.args.proof.now (λ i. (c.type_inv.proof i).fits);
      lists = bytes_all c.args.list.now (λ i. (c.type_inv.list i).fits);
      standing = c.standing.ensures;
    }

pub returns-in-Err : goal.returns-in-Err
returns-in-Err c =
    let number = c.number.ensures in
    rw number (refused_at_once (lent (goal.at.returns-in-Err c).After-standing) c.in-Err.is)

pub begin-work-requires : goal.begin-work-requires
begin-work-requires c = (not_refused (lent (goal.at.begin-work-requires c).After-standing) c.in_default.is).room_legal

pub check_cards-checked-requires-clause-can_open : goal.check_cards-checked-requires-clause-can_open
check_cards-checked-requires-clause-can_open c =
    can_open (lent (goal.at.check_cards-checked-requires-clause-can_open c).After-standing) c.in_default.is c.begin-work.ensures.begun c.begin-work.ensures.room_after

pub check_cards-checked-requires-clause-room_legal : goal.check_cards-checked-requires-clause-room_legal
check_cards-checked-requires-clause-room_legal c =
    still_legal (lent (goal.at.check_cards-checked-requires-clause-room_legal c).After-standing) c.in_default.is c.begin-work.ensures.begun
    c.begin-work.ensures.room_after

pub check_cards-checked-requires-clause-good_proof : goal.check_cards-checked-requires-clause-good_proof
check_cards-checked-requires-clause-good_proof c =
    good_proof (lent (goal.at.check_cards-checked-requires-clause-good_proof c).After-standing) c.in_default.is

pub returns : goal.returns
returns c =
    let b = c.begin-work.ensures in
    let answer = c.answer.ensures in
    rw answer
    (call_told (lent (goal.at.returns c).After-standing) c.in_default.is b.begun b.room_after b.budget c.check_cards-checked.ensures.tells (search rules))
