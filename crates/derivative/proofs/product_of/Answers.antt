-- `product_of` makes the product where it is asked for, and else leaves the room as it is.
use Rattle.std.specs.declared.result.Result.TheVariants.{Ok}
use Rattle.records.specs.Kind.{sequence_kind}
use Rattle.store.specs.Making.{make}
use Rattle.store.specs.Work.{store_of, space_of}
use Rattle.derivative.proofs.Laws.Told.{room_comes, making_comes}
use Rattle.derivative.proofs.Laws.Rooms.{sequence_makeable, product_unasked}
use Rattle.derivative.proofs.product_of.Goals as goal

pub make-requires : goal.make-requires
make-requires c = sequence_makeable c.args.work.now.room.now c.requires

pub returns-then-product-clause-comes : goal.returns-then-product-clause-comes
returns-then-product-clause-comes c =
    let a = c.args in
    rw c.if-product.true
    (making_comes (make (space_of a.work.now) (store_of a.work.now) sequence_kind 0 a.x a.right) c.make.ensures.makes c.make.ensures.unspent)

pub returns-else-product-clause-comes : goal.returns-else-product-clause-comes
returns-else-product-clause-comes c =
    let a = c.args in
    room_comes _ (Ok a.x) (product_unasked a.work.now.good a.x a.right a.work.now.budget c.if-product.false)
