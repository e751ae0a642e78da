-- `first_digit` refuses what is no digit, and a digit that is too large.
use native.Mathlib.Omega.{arith}
use Rattle.text.specs.Laws.Growing.{is_digit_of, is_no_digit, first_of_number, first_too_large, no_first_digit}
use Rattle.text.proofs.decimal.first_digit.Goals as goal

pub returns-in_err-value : goal.returns-in_err-value
returns-in_err-value c = rw c.from_residual.ensures (no_first_digit c.args.digit c.args.most (is_no_digit c.in_err-value.ensures))

pub returns-then-most-value : goal.returns-then-most-value
returns-then-most-value c =
    let d = is_digit_of c.in_ok-value.ensures in
    let v = d.value in
    first_too_large c.args.digit c.args.most d.digit (omega arith)

pub returns : goal.returns
returns c =
    let d = is_digit_of c.in_ok-value.ensures in
    let v = d.value in
    rw v (first_of_number c.args.digit c.args.most d.digit (omega arith))
