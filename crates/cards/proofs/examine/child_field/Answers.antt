-- `child_field` answers by its test of the line.

use Rattle.cards.proofs.examine.child_field.Goals as goal

pub returns-then-child : goal.returns-then-child
returns-then-child c = rw c.if-child.true

pub returns-else-child : goal.returns-else-child
returns-else-child c = rw c.if-child.false
