-- `look_in` answers by its tests as the definition does: the marks read in the work room are those of the store that stands there, the pair is
-- looked up in the table that stands in the pair room, and placed behind it.
use native.Mathlib.Omega.{arith}
use Rattle.searching.proofs.Laws.Told.{rooms_go_in}
use Rattle.searching.proofs.Laws.Looking.{looking, look_differs, look_stands, look_placed, look_full, look_leaves}
use Rattle.searching.proofs.looking.look_in.Goals as goal

pub returns-then-left_has-right_has-clause-goes : goal.returns-then-left_has-right_has-clause-goes
returns-then-left_has-right_has-clause-goes c left =
    let a = c.args in
    let call = looking a.table.now c.requires.good_store c.requires.stand c.requires.tabled c.requires.origin_placed in
    rooms_go_in _
    (look_differs call a.letter left c.marked_at-left_has.ensures c.marked_at-right_has.ensures c.if-left_has-right_has.true)

pub returns-then-has-clause-goes : goal.returns-then-has-clause-goes
returns-then-has-clause-goes c left =
    let a = c.args in
    let call = looking a.table.now c.requires.good_store c.requires.stand c.requires.tabled c.requires.origin_placed in
    rooms_go_in _
    (look_stands call a.letter left c.marked_at-left_has.ensures c.marked_at-right_has.ensures c.if-left_has-right_has.false c.has.ensures c.if-has.true)

pub returns-then-table-clause-goes : goal.returns-then-table-clause-goes
returns-then-table-clause-goes c left =
    let a = c.args in
    let call = looking a.table.now c.requires.good_store c.requires.stand c.requires.tabled c.requires.origin_placed in
    rooms_go_in _
    (look_full call a.letter left c.marked_at-left_has.ensures c.marked_at-right_has.ensures c.if-left_has-right_has.false c.has.ensures c.if-has.false (omega arith))

pub invariant_of-table : goal.invariant_of-table
invariant_of-table c =
    let a = c.args in
    let call = looking a.table.now c.requires.good_store c.requires.stand c.requires.tabled c.requires.origin_placed in
    record {
      good = look_leaves call a.letter 0 c.ranges.letter.fits
          (look_placed call a.letter 0 c.marked_at-left_has.ensures c.marked_at-right_has.ensures c.if-left_has-right_has.false c.has.ensures c.if-has.false (omega arith) c.place.ensures);
    }

pub returns-clause-goes : goal.returns-clause-goes
returns-clause-goes c left =
    let a = c.args in
    let call = looking a.table.now c.requires.good_store c.requires.stand c.requires.tabled c.requires.origin_placed in
    rooms_go_in _
    (look_placed call a.letter left c.marked_at-left_has.ensures c.marked_at-right_has.ensures c.if-left_has-right_has.false c.has.ensures c.if-has.false (omega arith) c.place.ensures)
