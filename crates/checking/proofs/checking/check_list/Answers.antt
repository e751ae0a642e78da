-- `check_list` looks the opening pair up, and goes through the pairs where it is listed.
use Rattle.checking.specs.Listed.{mapped_list}
use Rattle.checking.proofs.Laws.Rooms.{told_missing, on_listed}
use Rattle.checking.proofs.checking.check_list.Goals as goal

pub returns-then-not-stands_listed-clause-ends : goal.returns-then-not-stands_listed-clause-ends
returns-then-not-stands_listed-clause-ends c =
    let a = c.args in
    told_missing a.work.now a.letters.now (mapped_list a.listed.map.now a.listed.list.now) a.x a.y c.stands_listed.ensures c.if-not-stands_listed.true

pub returns-clause-ends : goal.returns-clause-ends
returns-clause-ends c =
    let a = c.args in
    on_listed a.work.now a.letters.now (mapped_list a.listed.map.now a.listed.list.now) a.x a.y c.stands_listed.ensures c.if-not-stands_listed.false
    c.check_pairs.ensures.ends
