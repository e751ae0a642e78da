-- `with_digit` goes on with a digit alone, not behind a zero, and not above the largest number.
use native.Mathlib.Omega.{arith}
use Rattle.text.specs.Laws.Growing.{is_digit_of, is_no_digit, no_digit_more, zero_first, too_large, one_digit_more}
use Rattle.text.proofs.decimal.with_digit.Goals as goal

pub returns-in_err-last : goal.returns-in_err-last
returns-in_err-last c = rw c.from_residual.ensures (no_digit_more c.args.value c.args.digit c.args.most (is_no_digit c.in_err-last.ensures))

pub returns-then-value-eq0 : goal.returns-then-value-eq0
returns-then-value-eq0 c = zero_first c.args.value c.args.digit c.args.most c.if-value-eq0.true

pub returns-then-from-more : goal.returns-then-from-more
returns-then-from-more c =
    let v = (is_digit_of c.in_ok-last.ensures).value in
    too_large c.args.value c.args.digit c.args.most c.if-value-eq0.false (omega arith)

pub returns : goal.returns
returns c =
    let d = is_digit_of c.in_ok-last.ensures in
    let v = d.value in
    rw (c.from.ensures, c.from-2.ensures, v)
    (one_digit_more c.args.value c.args.digit c.args.most c.if-value-eq0.false d.digit (omega arith))
