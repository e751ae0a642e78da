-- `check_pair` compares the marks at the two places of the mapped pair, which are places of the store, and goes on with the letters.
use Rattle.checking.specs.Listed.{mapped_list}
use Rattle.checking.proofs.Laws.Listing.{pair_inside}
use Rattle.checking.proofs.Laws.Rooms.{told_differing, on_agreeing}
use Rattle.checking.proofs.checking.check_pair.Goals as goal

pub marks_agree-requires : goal.marks_agree-requires
marks_agree-requires c = pair_inside c.requires.inside c.args.n c.requires.n_bound c.mapped_pair-p.ensures

pub returns-then-not-marks_agree-clause-goes : goal.returns-then-not-marks_agree-clause-goes
returns-then-not-marks_agree-clause-goes c =
    let a = c.args in
    told_differing a.work.now a.letters.now (mapped_list a.listed.map.now a.listed.list.now) a.n c.mapped_pair-p.ensures c.marks_agree.ensures
    c.if-not-marks_agree.true

pub check_letters-requires : goal.check_letters-requires
check_letters-requires c = pair_inside c.requires.inside c.args.n c.requires.n_bound c.mapped_pair-p.ensures

pub returns-clause-goes : goal.returns-clause-goes
returns-clause-goes c =
    let a = c.args in
    on_agreeing a.work.now a.letters.now (mapped_list a.listed.map.now a.listed.list.now) a.n c.mapped_pair-p.ensures c.marks_agree.ensures
    c.if-not-marks_agree.false c.check_letters.ensures.goes
