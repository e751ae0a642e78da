-- `open_in` enters the left card, then the right: the right card goes on from the store that the left card leaves.
use Rattle.std.proofs.lemmas.Result.{err_from_is_err_and}
use Rattle.language.proofs.Laws.Words.{bytes_all}
use Rattle.pairs.specs.Laws.OpeningWork.{right_at, right_full, both_told, full_told}
use Rattle.pairs.proofs.opening.open_in.Goals as goal

pub returns-in_err-x-clause-opens : goal.returns-in_err-x-clause-opens
returns-in_err-x-clause-opens c =
    let told = err_from_is_err_and c.from_residual.result c.from_residual.ensures.1 in
    rw (told.1, told.2)
    (full_told c.args.left.now c.args.right.now c.args.work.now
    (bytes_all c.args.left.now (λ i. (c.type_inv.left i).fits))
    (bytes_all c.args.right.now (λ i. (c.type_inv.right i).fits))
    c.requires
    c.enter.ensures.enters
    c.in_err-x.was)

pub returns-in_err-y-clause-opens : goal.returns-in_err-y-clause-opens
returns-in_err-y-clause-opens c =
    let told = err_from_is_err_and c.from_residual-in_err-y.result c.from_residual-in_err-y.ensures.1 in
    rw (told.1, told.2)
    (both_told c.args.left.now c.args.right.now c.args.work.now
    (bytes_all c.args.left.now (λ i. (c.type_inv.left i).fits))
    (bytes_all c.args.right.now (λ i. (c.type_inv.right i).fits))
    c.requires
    c.enter.ensures.enters
    c.in_ok-x.was
    (right_full c.in_ok-x.x _ c.enter-2.ensures.enters c.in_err-y.was))

pub returns-clause-opens : goal.returns-clause-opens
returns-clause-opens c =
    both_told c.args.left.now c.args.right.now c.args.work.now
    (bytes_all c.args.left.now (λ i. (c.type_inv.left i).fits))
    (bytes_all c.args.right.now (λ i. (c.type_inv.right i).fits))
    c.requires
    c.enter.ensures.enters
    c.in_ok-x.was
    (right_at c.in_ok-x.x _ c.enter-2.ensures.enters c.in_ok-y.was)
