-- `choice_of` makes the choice, and takes nothing from the budget.
use Rattle.records.specs.Kind.{choice_kind}
use Rattle.store.specs.Making.{make}
use Rattle.store.specs.Work.{store_of, space_of}
use Rattle.derivative.proofs.Laws.Told.{making_comes}
use Rattle.derivative.proofs.Laws.Rooms.{choice_makeable}
use Rattle.derivative.proofs.choice_of.Goals as goal

pub make-requires : goal.make-requires
make-requires c = choice_makeable c.args.work.now.room.now c.requires

pub returns-clause-comes : goal.returns-clause-comes
returns-clause-comes c =
    let a = c.args in
    making_comes (make (space_of a.work.now) (store_of a.work.now) choice_kind 0 a.x a.y) c.make.ensures.makes c.make.ensures.unspent
