-- `search` looks at the opening pair in an empty table, and takes the pairs from there.
use Rattle.std.proofs.Common.{ap}
use Rattle.std.proofs.lemmas.Result.{err_from_is_err_and}
use Rattle.language.proofs.Laws.Words.{bytes_all}
use Rattle.searching.proofs.Laws.Told.{going_of, goes_rooms, ends_rooms, rooms_end}
use Rattle.searching.proofs.Laws.Pairs.{legal, none_placed, opening_ended, take_call, then_taken}
use Rattle.searching.proofs.Laws.Leaving.{search_leaves}
use Rattle.searching.proofs.taking.search.Goals as goal

pub look-requires-clause-tabled : goal.look-requires-clause-tabled
look-requires-clause-tabled c =
    let w = c.args.work.now in
    let t = c.args.table.now in
    rw c.requires.empty (none_placed w.room.now w.places t.room.now (legal t.good)).tabled

pub returns-in_err-look-clause-ends : goal.returns-in_err-look-clause-ends
returns-in_err-look-clause-ends c =
    let told = err_from_is_err_and c.from_residual.result c.from_residual.ensures.1 in
    let w = c.args.work.now in
    let bytes = bytes_all c.args.letters.now (λ i. (c.type_inv.letters i).fits) in
    let looked = rw c.requires.empty at (goes_rooms c.look.ensures.goes) in
    let ended = ap (λ r. going_of r w.places c.look.new.table.pairs w.budget) c.in_err-look.was in
    rw (told.1, told.2) (rooms_end _ (opening_ended w c.args.table.now c.requires.stand bytes looked ended))

pub take_pairs-requires : goal.take_pairs-requires
take_pairs-requires c =
    let w = c.args.work.now in
    let bytes = bytes_all c.args.letters.now (λ i. (c.type_inv.letters i).fits) in
    let looked = rw c.requires.empty at (goes_rooms c.look.ensures.goes) in
    let went = ap (λ r. going_of r w.places c.look.new.table.pairs w.budget) c.in_ok-look.was in
    (take_call w c.args.table.now c.requires.stand bytes looked went).1.tabled

pub returns-clause-ends : goal.returns-clause-ends
returns-clause-ends c =
    let w = c.args.work.now in
    let bytes = bytes_all c.args.letters.now (λ i. (c.type_inv.letters i).fits) in
    let looked = rw c.requires.empty at (goes_rooms c.look.ensures.goes) in
    let went = ap (λ r. going_of r w.places c.look.new.table.pairs w.budget) c.in_ok-look.was in
    rooms_end _ (then_taken w c.args.table.now c.requires.stand bytes looked went (ends_rooms c.take_pairs.ensures.ends))

-- What is left of the budget, and the order of the table, follow from that.

pub returns-in_err-look-clause-spent : goal.returns-in_err-look-clause-spent
returns-in_err-look-clause-spent c =
    (search_leaves c.requires.stand (bytes_all c.args.letters.now (λ i. (c.type_inv.letters i).fits)) (returns-in_err-look-clause-ends c)).0

pub returns-in_err-look-clause-ordered : goal.returns-in_err-look-clause-ordered
returns-in_err-look-clause-ordered c =
    (search_leaves c.requires.stand (bytes_all c.args.letters.now (λ i. (c.type_inv.letters i).fits)) (returns-in_err-look-clause-ends c)).1

pub returns-clause-spent : goal.returns-clause-spent
returns-clause-spent c =
    (search_leaves c.requires.stand (bytes_all c.args.letters.now (λ i. (c.type_inv.letters i).fits)) (returns-clause-ends c)).0

pub returns-clause-ordered : goal.returns-clause-ordered
returns-clause-ordered c =
    (search_leaves c.requires.stand (bytes_all c.args.letters.now (λ i. (c.type_inv.letters i).fits)) (returns-clause-ends c)).1
