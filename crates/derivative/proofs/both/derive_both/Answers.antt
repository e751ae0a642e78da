-- `derive_both` derives the left place, and then the right one in the store that stands in the room by then, which is good again.
use mathlib.Core.Path.{refl}
use Rattle.std.specs.declared.result.Result.TheVariants.{Ok, Err}
use Rattle.std.proofs.lemmas.Result.{err_from_is_err_and}
use Rattle.derivative.proofs.Laws.Told.{comes_room, room_both_come}
use Rattle.derivative.proofs.Laws.Both.{at_depth, first_stopped, then_second, right_at, right_stopped}
use Rattle.derivative.proofs.both.derive_both.Goals as goal

pub returns-in_err-next_x-clause-comes : goal.returns-in_err-next_x-clause-comes
returns-in_err-next_x-clause-comes c =
    let a = c.args in
    let w = a.work.now in
    let told = err_from_is_err_and c.from_residual.result c.from_residual.ensures.1 in
    rw (told.1, told.2)
    (room_both_come _ (Err c.in_err-next_x.field-0.0)
    (first_stopped w.good a.letter c.ranges.letter.fits a.x a.y c.requires w.budget
    (at_depth w.room.now w.places a.x a.letter w.budget (λ d l. comes_room (c.in_err-next_x.ensures.comes d l))) refl))

pub returns-in_err-next_y-clause-comes : goal.returns-in_err-next_y-clause-comes
returns-in_err-next_y-clause-comes c =
    let a = c.args in
    let w = a.work.now in
    let w₁ = c.derive.new.work in
    let told = err_from_is_err_and c.from_residual-in_err-next_y.result c.from_residual-in_err-next_y.ensures.1 in
    rw (told.1, told.2)
    (room_both_come _ (Err c.in_err-next_y.field-0.0)
    (then_second w.good a.letter c.ranges.letter.fits a.x a.y c.requires w.budget
    (at_depth w.room.now w.places a.x a.letter w.budget (λ d l. comes_room (c.in_ok-next_x.ensures.comes d l))) refl
    (right_stopped
    (at_depth w₁.room.now w₁.places a.y a.letter w₁.budget (λ d l. comes_room (c.in_err-next_y.ensures.comes d l))) c.in_ok-next_x.next_x refl)))

pub returns-clause-comes : goal.returns-clause-comes
returns-clause-comes c =
    let a = c.args in
    let w = a.work.now in
    let w₁ = c.derive.new.work in
    room_both_come _ (Ok (c.in_ok-next_x.next_x, c.in_ok-next_y.next_y))
    (then_second w.good a.letter c.ranges.letter.fits a.x a.y c.requires w.budget
    (at_depth w.room.now w.places a.x a.letter w.budget (λ d l. comes_room (c.in_ok-next_x.ensures.comes d l))) refl
    (right_at
    (at_depth w₁.room.now w₁.places a.y a.letter w₁.budget (λ d l. comes_room (c.in_ok-next_y.ensures.comes d l))) c.in_ok-next_x.next_x refl))
