-- `lay` stores the 8 bytes from the start, a number's two at once, which is those bytes put before the rest.
use native.Mathlib.Omega.{arith}
use lib.ListN.{length-set}
use lib.Seq.{sets-eq}
use Rattle.pairs.specs.Pair.{bytes_of_pair}
use Rattle.pairs.proofs.pair.PairItem.lay.Goals as goal

pub bounds-part-7 : goal.bounds-part-7
bounds-part-7 c = simp length-set (omega arith)

pub shape_of-part : goal.shape_of-part
shape_of-part c = simp length-set (omega arith)

pub returns : goal.returns
returns c =
    let third = c in
    let second = third in
    let first = second in
    let a = first.args in
    rw (third.lay_two-3.ensures, second.lay_two-2.ensures, first.lay_two.ensures)
    (sets-eq (bytes_of_pair a.self) a.part.now 0 (omega arith))
