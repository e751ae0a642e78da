-- `load` answers as the definition does: with the records before `at` loaded, the store that stands in the room and the places that
-- begin the map are those from which the definition loads the rest; where no place is free, the loading stops with the same store.
use native.Mathlib.Omega.{arith}
use Rattle.std.specs.Prelude.{refl}
use Rattle.std.proofs.Common.{◌∙◌}
use Rattle.std.proofs.lemmas.Result.{err_from_is_err_and}
use Rattle.loading.proofs.Laws.Told.{told_loads, told_not_loaded}
use Rattle.loading.proofs.Laws.LoadingRoom.{at_first, at_last, left_mapped, right_mapped, can_make, place_fits, when_full, when_placed}
use Rattle.loading.proofs.card.load.Goals as goal

pub loop-at-init : goal.loop-at-init
loop-at-init c = (
  at_first c.args.work.now.room.now c.args.work.now.places c.args.card.now c.args.map.now c.args.work.now.good c.requires
      (λ i. (c.type_inv.card i).fits),
  (refl, refl),
)

pub child_place-left-requires : goal.child_place-left-requires
child_place-left-requires c = left_mapped c.loop-at.invariant.0 c.loop-at-test.true c.read-r.ensures

pub child_place-right-requires : goal.child_place-right-requires
child_place-right-requires c = right_mapped c.loop-at.invariant.0 c.loop-at-test.true c.read-r.ensures

pub make-requires : goal.make-requires
make-requires c =
    can_make c.loop-at.invariant.0 c.loop-at-test.true c.read-r.ensures
    c.from-kind.ensures
    c.columns_of-line.ensures
    c.child_place-left.ensures
    c.child_place-right.ensures

pub returns-in_err-place-clause-loads : goal.returns-in_err-place-clause-loads
returns-in_err-place-clause-loads c =
    let told = err_from_is_err_and c.from_residual.result c.from_residual.ensures.1 in
    let full = when_full c.loop-at.invariant.0 c.loop-at-test.true c.read-r.ensures
    c.from-kind.ensures
    c.columns_of-line.ensures
    c.child_place-left.ensures
    c.child_place-right.ensures
    c.make.ensures.makes
    c.in_err-place.was in
    rw (told.1, told.2, full.0) (told_not_loaded _ full.1.0 full.1.1.0 (c.make.ensures.unspent ∙ c.loop-at.invariant.1.1))

pub returns-in_err-place-clause-mapped : goal.returns-in_err-place-clause-mapped
returns-in_err-place-clause-mapped c =
    let full = when_full c.loop-at.invariant.0 c.loop-at-test.true c.read-r.ensures
    c.from-kind.ensures
    c.columns_of-line.ensures
    c.child_place-left.ensures
    c.child_place-right.ensures
    c.make.ensures.makes
    c.in_err-place.was in
    full.1.1.1

pub overflow_cast-map : goal.overflow_cast-map
overflow_cast-map c =
    record {
      fits = place_fits c.loop-at.invariant.0 c.loop-at-test.true c.read-r.ensures
          c.from-kind.ensures
          c.columns_of-line.ensures
          c.child_place-left.ensures
          c.child_place-right.ensures
          c.make.ensures.makes
          c.in_ok-place.was;
    }

pub loop-at-preserved : goal.loop-at-preserved
loop-at-preserved c =
    let next = when_placed c.loop-at.invariant.0 c.loop-at-test.true c.read-r.ensures
    c.from-kind.ensures
    c.columns_of-line.ensures
    c.child_place-left.ensures
    c.child_place-right.ensures
    c.make.ensures.makes
    c.in_ok-place.was in
    (next, (c.make.ensures.same_room ∙ c.loop-at.invariant.1.0, c.make.ensures.unspent ∙ c.loop-at.invariant.1.1))

pub returns-clause-loads : goal.returns-clause-loads
returns-clause-loads c =
    let told = at_last c.loop-at.invariant.0 (omega arith) in
    told_loads _ told.0 told.1.0 c.loop-at.invariant.1.1

pub returns-clause-mapped : goal.returns-clause-mapped
returns-clause-mapped c =
    let told = at_last c.loop-at.invariant.0 (omega arith) in
    told.1.1
