-- `check_pairs` answers as the definition does: with the pairs before n passed, the store that stands in the room is the one from which the
-- definition goes on with the rest.
use native.Mathlib.Omega.{arith}
use mathlib.Core.Path.{refl, ◌∙◌}
use Rattle.std.proofs.lemmas.Result.{err_from_is_err_and}
use Rattle.checking.specs.Listed.{mapped_list}
use Rattle.checking.proofs.Laws.Listing.{length_listed}
use Rattle.checking.proofs.Laws.Rooms.{inside_now, pairs_first, pairs_alike, pairs_done, pair_passed, pair_ended}
use Rattle.checking.proofs.checking.check_pairs.Goals as goal

pub loop-n-init : goal.loop-n-init
loop-n-init c =
    let a = c.args in
    (refl, pairs_first a.letters.now (mapped_list a.listed.map.now a.listed.list.now) a.work.now)

pub check_pair-requires : goal.check_pair-requires
check_pair-requires c = record { inside = inside_now c.loop-n.invariant.1.leaves c.requires; n_bound = omega arith }

-- The pair is checked in the room, with the places and with the budget that the pairs before it left: `pairs_alike` asks for each.

pub returns-in_err-check_pair-clause-ends : goal.returns-in_err-check_pair-clause-ends
returns-in_err-check_pair-clause-ends c =
    let a = c.args in
    let told = err_from_is_err_and c.from_residual.result c.from_residual.ensures.1 in
    rw (told.1, told.2)
    (pair_ended a.letters.now (mapped_list a.listed.map.now a.listed.list.now)
    (pairs_alike a.letters.now (mapped_list a.listed.map.now a.listed.list.now) refl refl refl c.loop-n.invariant.1)
    (omega (arith, length_listed a.listed.map.now a.listed.list.now))
    c.check_pair.ensures.goes c.in_err-check_pair.was)

pub loop-n-preserved : goal.loop-n-preserved
loop-n-preserved c =
    let a = c.args in (
      c.check_pair.ensures.same_room ∙ c.loop-n.invariant.0,
      pair_passed a.letters.now (mapped_list a.listed.map.now a.listed.list.now)
          (pairs_alike a.letters.now (mapped_list a.listed.map.now a.listed.list.now) refl refl refl c.loop-n.invariant.1)
          (omega (arith, length_listed a.listed.map.now a.listed.list.now))
          c.check_pair.ensures.goes c.in_ok-check_pair.was,
    )

pub returns-clause-ends : goal.returns-clause-ends
returns-clause-ends c =
    let a = c.args in
    pairs_done a.letters.now (mapped_list a.listed.map.now a.listed.list.now) c.loop-n.invariant.1
    (omega (arith, length_listed a.listed.map.now a.listed.list.now))
