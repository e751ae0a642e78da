-- `visit` reads the record and tells what it asks for, by its kind.
use native.Mathlib.Omega.{arith}
use mathlib.Core.Path.{◌∙◌, ap}
use Rattle.derivative.specs.declared.Visited.TheVariants.{Leaf}
use Rattle.derivative.proofs.Laws.Rooms.{children_lower, asked_by}
use Rattle.derivative.proofs.visit.Goals as goal

pub marked-requires : goal.marked-requires
marked-requires c =
    let a = c.args in
    let l = children_lower a.letter a.work.now.good a.place c.requires c.read-r.ensures c.from.ensures c.in-Sequence.is in
    omega (arith, l.left)

pub returns-in-Nothing : goal.returns-in-Nothing
returns-in-Nothing c = let a = c.args in asked_by a.letter a.work.now.good a.place c.requires c.read-r.ensures c.from.ensures c.in-Nothing.is

pub returns-in-EmptyWord : goal.returns-in-EmptyWord
returns-in-EmptyWord c = let a = c.args in asked_by a.letter a.work.now.good a.place c.requires c.read-r.ensures c.from.ensures c.in-EmptyWord.is

pub returns-in-Letter : goal.returns-in-Letter
returns-in-Letter c = let a = c.args in ap Leaf c.as_mark.ensures ∙ asked_by a.letter a.work.now.good a.place c.requires c.read-r.ensures c.from.ensures c.in-Letter.is

pub returns-in-Choice : goal.returns-in-Choice
returns-in-Choice c = let a = c.args in asked_by a.letter a.work.now.good a.place c.requires c.read-r.ensures c.from.ensures c.in-Choice.is

pub returns-in-Sequence : goal.returns-in-Sequence
returns-in-Sequence c = let a = c.args in rw c.marked.ensures (asked_by a.letter a.work.now.good a.place c.requires c.read-r.ensures c.from.ensures c.in-Sequence.is)

pub returns-in-Repeat : goal.returns-in-Repeat
returns-in-Repeat c = let a = c.args in asked_by a.letter a.work.now.good a.place c.requires c.read-r.ensures c.from.ensures c.in-Repeat.is

pub returns-in-Unknown : goal.returns-in-Unknown
returns-in-Unknown c = let a = c.args in asked_by a.letter a.work.now.good a.place c.requires c.read-r.ensures c.from.ensures c.in-Unknown.is
