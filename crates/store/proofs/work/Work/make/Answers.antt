-- A record that may stand is made of children that stand, and what its making leaves is good again.
use Rattle.store.proofs.Laws.MakingRoom.{children_stand, made_good, made_inside, made_grows}
use Rattle.store.proofs.work.Work.make.Goals as goal

pub make-requires-clause-children_stand : goal.make-requires-clause-children_stand
make-requires-clause-children_stand c = children_stand c.args.self.now.good c.requires

pub invariant_of-self : goal.invariant_of-self
invariant_of-self c = record { good = made_good c.args.self.now.good c.requires (rw c.number.ensures at c.make.ensures) }

pub returns-clause-inside : goal.returns-clause-inside
returns-clause-inside c = made_inside c.args.self.now.good c.requires (rw c.number.ensures at c.make.ensures)

pub returns-clause-grows : goal.returns-clause-grows
returns-clause-grows c = made_grows c.args.self.now.good c.requires (rw c.number.ensures at c.make.ensures)
