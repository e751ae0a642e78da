-- `check_letter` derives both places and looks the two that are reached up in the list, as the definition does by a single letter.
use native.Mathlib.Omega.{arith}
use Rattle.std.proofs.lemmas.Result.{err_from_is_err_and}
use Rattle.checking.specs.Listed.{mapped_list}
use Rattle.checking.proofs.Laws.Rooms.{reached_fit, letter_passes, letter_misses, letter_stops}
use Rattle.checking.proofs.checking.check_letter.Goals as goal

pub returns-in_err-next_x-clause-goes : goal.returns-in_err-next_x-clause-goes
returns-in_err-next_x-clause-goes c =
    let a = c.args in
    let told = err_from_is_err_and c.from_residual.result c.from_residual.ensures.1 in
    rw (told.1, told.2)
    (letter_stops a.x a.y a.letter (omega arith) c.requires c.derive_both.ensures.comes (mapped_list a.listed.map.now a.listed.list.now) a.n c.in_err-next_x.was)

pub overflow_cast-next_x : goal.overflow_cast-next_x
overflow_cast-next_x c =
    let a = c.args in
    let fit = reached_fit a.x a.y a.letter (omega arith) c.requires c.derive_both.ensures.comes c.in_ok-next_x.was in
    record { fits = fit.0 }

pub overflow_cast-next_y : goal.overflow_cast-next_y
overflow_cast-next_y c =
    let a = c.args in
    let fit = reached_fit a.x a.y a.letter (omega arith) c.requires c.derive_both.ensures.comes c.in_ok-next_x.was in
    record { fits = fit.1 }

pub returns-then-not-stands_listed-clause-goes : goal.returns-then-not-stands_listed-clause-goes
returns-then-not-stands_listed-clause-goes c =
    let a = c.args in
    letter_misses a.x a.y a.letter (omega arith) c.requires c.derive_both.ensures.comes (mapped_list a.listed.map.now a.listed.list.now) a.n c.in_ok-next_x.was
    c.stands_listed.ensures c.if-not-stands_listed.true

pub returns-clause-goes : goal.returns-clause-goes
returns-clause-goes c =
    let a = c.args in
    letter_passes a.x a.y a.letter (omega arith) c.requires c.derive_both.ensures.comes (mapped_list a.listed.map.now a.listed.list.now) a.n c.in_ok-next_x.was
    c.stands_listed.ensures c.if-not-stands_listed.false
