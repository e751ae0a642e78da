-- `by_letter` derives both places of its pair as the definition does, and looks at the pair that they come to.
use Rattle.std.proofs.Common.{ap}
use Rattle.std.proofs.lemmas.Result.{err_from_is_err_and}
use Rattle.derivative.proofs.Laws.Told.{both_of, both_come_room}
use Rattle.searching.proofs.Laws.Told.{goes_rooms, rooms_go}
use Rattle.searching.proofs.Laws.Letters.{one_letter, can_derive, can_look, then_looked, then_stopped}
use Rattle.searching.proofs.taking.by_letter.Goals as goal

pub derive_both-requires : goal.derive_both-requires
derive_both-requires c =
    let w = c.args.work.now in
    let call = one_letter w c.args.table.now c.requires.tabled c.requires.placed c.ranges.letter.fits in
    can_derive call w.budget c.pair-p.ensures

pub returns-in_err-x-clause-goes : goal.returns-in_err-x-clause-goes
returns-in_err-x-clause-goes c =
    let told = err_from_is_err_and c.from_residual.result c.from_residual.ensures.1 in
    let w = c.args.work.now in
    let w' = c.derive_both.new.work in
    let call = one_letter w c.args.table.now c.requires.tabled c.requires.placed c.ranges.letter.fits in
    rw (told.1, told.2)
    (rooms_go _ (then_stopped call w.budget c.pair-p.ensures (both_come_room c.derive_both.ensures.comes) (ap (λ r. both_of r w'.places w'.budget) c.in_err-x.was)))

pub look-requires-clause-tabled : goal.look-requires-clause-tabled
look-requires-clause-tabled c =
    let w = c.args.work.now in
    let w' = c.derive_both.new.work in
    let call = one_letter w c.args.table.now c.requires.tabled c.requires.placed c.ranges.letter.fits in
    (can_look call w.budget c.pair-p.ensures (both_come_room c.derive_both.ensures.comes) (ap (λ r. both_of r w'.places w'.budget) c.in_ok-x.was)).good_pairs.tabled

pub returns-clause-goes : goal.returns-clause-goes
returns-clause-goes c =
    let w = c.args.work.now in
    let w' = c.derive_both.new.work in
    let call = one_letter w c.args.table.now c.requires.tabled c.requires.placed c.ranges.letter.fits in
    rooms_go _
    (then_looked call w.budget c.pair-p.ensures (both_come_room c.derive_both.ensures.comes) (ap (λ r. both_of r w'.places w'.budget) c.in_ok-x.was)
    (goes_rooms c.look.ensures.goes))
