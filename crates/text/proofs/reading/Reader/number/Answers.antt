-- `number` reads one digit a turn: the digits read so far are those of the number so far. The measure is what is left of the text.
use native.Mathlib.Omega.{arith}
use mathlib.Core.Path.{◌∙◌, ap}
use Rattle.std.proofs.Common.{length}
use Rattle.text.specs.Laws.Reading.{goes_further, digit_goes_on, number_no_digit, number_not_first, number_done, number_more, number_too_far}
use Rattle.text.proofs.reading.Reader.number.Goals as goal

pub returns-in_err-digit-clause-reads : goal.returns-in_err-digit-clause-reads
returns-in_err-digit-clause-reads c = rw c.from_residual.ensures (number_no_digit c.args.most c.in_err-digit.ensures.reads)

pub returns-in_err-digit-clause-goes_on : goal.returns-in_err-digit-clause-goes_on
returns-in_err-digit-clause-goes_on c = digit_goes_on c.in_err-digit.ensures.reads

pub returns-in_err-value-clause-reads : goal.returns-in_err-value-clause-reads
returns-in_err-value-clause-reads c =
    rw c.from_residual-in_err-value.ensures (number_not_first c.in_ok-digit.ensures.reads c.in_err-value.ensures)

pub returns-in_err-value-clause-goes_on : goal.returns-in_err-value-clause-goes_on
returns-in_err-value-clause-goes_on c = digit_goes_on c.in_ok-digit.ensures.reads

pub returns-in_err-value-2-clause-goes_on : goal.returns-in_err-value-2-clause-goes_on
returns-in_err-value-2-clause-goes_on c =
    let n = digit_goes_on c.in-Some.ensures.reads in
    let m = c.loop-digit.invariant.goes_on in
    omega arith

pub returns-in_err-value-2-clause-reads : goal.returns-in_err-value-2-clause-reads
returns-in_err-value-2-clause-reads c =
    let h = c.loop-digit.invariant in
    let r = c.in-Some.ensures.reads in
    rw c.from_residual-in_err-value-2.ensures (number_too_far h.so_far (rw h.same_text at r) c.in_err-value-2.ensures)

pub loop-digit-smaller : goal.loop-digit-smaller
loop-digit-smaller c =
    let f = goes_further c.in-Some.ensures.reads in
    let l = f.inside in
    let n = f.next in
    let same = ap length c.in-Some.ensures.same_text in
    omega arith

pub loop-digit-preserved : goal.loop-digit-preserved
loop-digit-preserved c =
    let h = c.loop-digit.invariant in
    let r = c.in-Some.ensures.reads in
    record {
      same_text = c.in-Some.ensures.same_text ∙ h.same_text;
      so_far = number_more h.so_far (rw h.same_text at r) c.in_ok-value-2.ensures;
      goes_on = let n = digit_goes_on r in let m = h.goes_on in omega arith;
    }

pub returns-clause-reads : goal.returns-clause-reads
returns-clause-reads c =
    let h = c.loop-digit.invariant in
    let n = c.in_default.ensures.reads in
    number_done h.so_far (rw h.same_text at n)

pub returns-clause-goes_on : goal.returns-clause-goes_on
returns-clause-goes_on c =
    let n = digit_goes_on c.in_default.ensures.reads in
    let m = c.loop-digit.invariant.goes_on in
    omega arith
