-- `check_cards` opens the two pattern cards; what is told from there of the proof card and the list is told of all three cards.
use Rattle.std.proofs.lemmas.Result.{err_from_is_err_and}
use Rattle.language.proofs.Laws.Words.{bytes_all}
use Rattle.records.specs.Record.{records}
use Rattle.pairs.specs.Laws.OpeningWork.{opens_fresh}
use Rattle.checking.proofs.Laws.Call.{cards_full, cards_opened, told_from}
use Rattle.checking.proofs.opened.check_cards.Goals as goal

pub returns-in_err-x-clause-tells : goal.returns-in_err-x-clause-tells
returns-in_err-x-clause-tells c =
    let a = c.args in
    let told = err_from_is_err_and c.from_residual.result c.from_residual.ensures.1 in
    rw (told.1, told.2)
    (cards_full (bytes_all a.left.now (λ i. (c.type_inv.left i).fits)) (bytes_all a.right.now (λ i. (c.type_inv.right i).fits))
    c.requires.can_open c.requires.room_legal
    (opens_fresh c.requires.can_open.begun (records a.left.now) (records a.right.now) c.open_in.ensures.opens) _ a.proof.now a.list.now c.in_err-x.was)

pub returns-clause-tells : goal.returns-clause-tells
returns-clause-tells c =
    let a = c.args in
    told_from
    (cards_opened (bytes_all a.left.now (λ i. (c.type_inv.left i).fits)) (bytes_all a.right.now (λ i. (c.type_inv.right i).fits))
    c.requires.can_open c.requires.room_legal
    (opens_fresh c.requires.can_open.begun (records a.left.now) (records a.right.now) c.open_in.ensures.opens) c.in_ok-x.was)
    _ a.proof.now a.list.now (rw c.letters_tried-letters.ensures at c.check_opened.ensures.tells)
