-- `lay` stores the 8 bytes one by one from the start, a number's two at once, which is those bytes put before the rest.
use native.Mathlib.Omega.{arith}
use mathlib.Core.Path.{ap}
use lib.ListN.{length, length-set}
use lib.Seq.{sets-eq}
use Rattle.records.specs.Record.{bytes_of}
use Rattle.records.proofs.record.RecordItem.lay.Goals as goal

pub bounds-part-1 : goal.bounds-part-1
bounds-part-1 c = simp length-set (omega arith)

pub bounds-part-2 : goal.bounds-part-2
bounds-part-2 c = simp length-set (omega arith)

pub bounds-part-3 : goal.bounds-part-3
bounds-part-3 c = simp length-set (omega arith)

pub lay_two-requires : goal.lay_two-requires
lay_two-requires c = simp length-set (omega arith)

pub lay_two-requires-2 : goal.lay_two-requires-2
lay_two-requires-2 c = rw c.lay_two.ensures (simp length-set (omega arith))

pub shape_of-part : goal.shape_of-part
shape_of-part c = omega (arith, simp length-set at (ap length c.lay_two.ensures))

pub returns : goal.returns
returns c =
    let a = c.args in
    rw (c.lay_two-2.ensures, c.lay_two.ensures)
    (sets-eq (bytes_of a.self) a.part.now 0 (omega arith))
