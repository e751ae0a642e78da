-- `open_both` begins a call in the room, and opens both cards in it.
use Rattle.std.proofs.Common.{rules}
use Rattle.language.proofs.Laws.Words.{bytes_all}
use Rattle.pairs.specs.Laws.OpeningFresh.{opening_told, opening_taken, opening_leaves}
use Rattle.pairs.proofs.opening.open_both.Goals as goal

pub returns-clause-answers : goal.returns-clause-answers
returns-clause-answers c =
    opening_told (bytes_all c.args.left.now (λ i. (c.type_inv.left i).fits)) (bytes_all c.args.right.now (λ i. (c.type_inv.right i).fits)) c.requires
    c.begin-work.ensures.begun
    c.begin-work.ensures.room_after
    c.open_in-opened.ensures.opens

pub returns-clause-taken : goal.returns-clause-taken
returns-clause-taken c =
    opening_taken (bytes_all c.args.left.now (λ i. (c.type_inv.left i).fits)) (bytes_all c.args.right.now (λ i. (c.type_inv.right i).fits)) c.requires
    c.begin-work.ensures.begun
    c.begin-work.ensures.room_after
    c.open_in-opened.ensures.opens

pub returns-clause-leaves : goal.returns-clause-leaves
returns-clause-leaves c =
    opening_leaves (bytes_all c.args.left.now (λ i. (c.type_inv.left i).fits)) (bytes_all c.args.right.now (λ i. (c.type_inv.right i).fits)) c.requires
    c.begin-work.ensures.begun
    c.begin-work.ensures.room_after
    c.open_in-opened.ensures.opens
    (search rules)
