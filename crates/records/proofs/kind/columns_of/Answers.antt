-- `columns_of` answers by its match: each arm is a line of the kind table.
use Rattle.records.proofs.kind.columns_of.Goals as goal

pub returns-in-Nothing : goal.returns-in-Nothing
returns-in-Nothing c = rw c.in-Nothing.is c.line.ensures

pub returns-in-EmptyWord : goal.returns-in-EmptyWord
returns-in-EmptyWord c = rw c.in-EmptyWord.is c.line-in-EmptyWord.ensures

pub returns-in-Letter : goal.returns-in-Letter
returns-in-Letter c = rw c.in-Letter.is c.line-in-Letter.ensures

pub returns-in-Choice : goal.returns-in-Choice
returns-in-Choice c = rw c.in-Choice.is c.line-in-Choice.ensures

pub returns-in-Sequence : goal.returns-in-Sequence
returns-in-Sequence c = rw c.in-Sequence.is c.line-in-Sequence.ensures

pub returns-in-Repeat : goal.returns-in-Repeat
returns-in-Repeat c = rw c.in-Repeat.is c.line-in-Repeat.ensures

pub returns-in-Unknown : goal.returns-in-Unknown
returns-in-Unknown c = rw c.in-Unknown.is
