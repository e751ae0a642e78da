-- `set_of_both` answers as the definition does: where a set is used up by the other, and else by the lower first member put before the set of
-- what is left of both. The measure is the sum of both places: what is behind a member stands lower.
use native.Mathlib.Omega.{arith}
use Rattle.std.proofs.lemmas.Result.{err_from_is_err_and}
use Rattle.store.proofs.Laws.MergingRoom.{tells_right, tells_left, falls as merge-falls, insides, can_put, put, filled}
use Rattle.store.proofs.merging.+set_of_both.Goals as goal

pub returns-then-left-right : goal.returns-then-left-right
returns-then-left-right t c =
    let r = c.requires in
    tells_right r.set_kind r.good_store c.args.left c.args.right r.sets_stand c.if-left-right.true

pub returns-then-right-eq-NOTHING_PLACE : goal.returns-then-right-eq-NOTHING_PLACE
returns-then-right-eq-NOTHING_PLACE t c =
    let r = c.requires in
    tells_left r.set_kind r.good_store c.args.left c.args.right r.sets_stand c.if-right-eq-NOTHING_PLACE.true

pub set_of_both-requires : goal.set_of_both-requires
set_of_both-requires t c =
    let r = c.requires in
    let less = merge-falls r.set_kind r.good_store c.args.left c.args.right r.sets_stand
    c.if-left-right.false
    c.if-right-eq-NOTHING_PLACE.false
    c.read_side-one.ensures
    c.read_side-other.ensures
    c.lower-member.ensures
    c.past.ensures
    c.past-2.ensures in
    let i = insides r.set_kind r.good_store c.args.left c.args.right r.sets_stand
    c.if-left-right.false
    c.if-right-eq-NOTHING_PLACE.false
    c.read_side-one.ensures
    c.read_side-other.ensures
    c.lower-member.ensures
    c.past.ensures
    c.past-2.ensures in
    (omega (arith, less, c.decreases), (r.good_store, (i, r.set_kind)))

pub put_before-requires : goal.put_before-requires
put_before-requires t c =
    let r = c.requires in
    let told = can_put r.set_kind r.good_store c.args.left c.args.right r.sets_stand
    c.if-left-right.false
    c.if-right-eq-NOTHING_PLACE.false
    c.read_side-one.ensures
    c.read_side-other.ensures
    c.lower-member.ensures
    c.past.ensures
    c.past-2.ensures
    c.set_of_both.ensures
    c.in_ok-rest.was in
    record { good_store = told.0; both_stand = told.1 }

pub returns : goal.returns
returns t c =
    let r = c.requires in
    put r.set_kind r.good_store c.args.left c.args.right r.sets_stand
    c.if-left-right.false
    c.if-right-eq-NOTHING_PLACE.false
    c.read_side-one.ensures
    c.read_side-other.ensures
    c.lower-member.ensures
    c.past.ensures
    c.past-2.ensures
    c.set_of_both.ensures
    c.in_ok-rest.was
    c.put_before.ensures

pub returns-in_err-rest : goal.returns-in_err-rest
returns-in_err-rest t c =
    let r = c.requires in
    let told = err_from_is_err_and c.from_residual.result c.from_residual.ensures.1 in
    rw (told.1, told.2)
    (filled r.set_kind r.good_store c.args.left c.args.right r.sets_stand
    c.if-left-right.false
    c.if-right-eq-NOTHING_PLACE.false
    c.read_side-one.ensures
    c.read_side-other.ensures
    c.lower-member.ensures
    c.past.ensures
    c.past-2.ensures
    c.set_of_both.ensures
    c.in_err-rest.was)
