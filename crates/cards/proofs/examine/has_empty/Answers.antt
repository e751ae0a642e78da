-- `has_empty` answers by its match: each arm is a line of the definition.
use Rattle.cards.proofs.examine.has_empty.Goals as goal

pub returns-in-Choice : goal.returns-in-Choice
returns-in-Choice c = rw c.in-Choice.is

pub returns-in-Sequence : goal.returns-in-Sequence
returns-in-Sequence c = rw c.in-Sequence.is
