-- `digit` takes the number at the reader's place, if it is a digit.
use native.Mathlib.Omega.{arith}
use Rattle.std.proofs.Common.{rules, ◌≡◌, get_or}
use Rattle.text.specs.Laws.Reading.{digit_read, digit_other, digit_ended}
use Rattle.text.proofs.reading.Reader.digit.Goals as goal

pub returns-in_err-digit-clause-reads : goal.returns-in_err-digit-clause-reads
returns-in_err-digit-clause-reads c =
    let s = c.args.self.now in
    let h = c.in_err-digit.ensures.lookup in
    rw c.from_residual.ensures (digit_ended s.text.now s.at (omega arith))

pub returns-in_err-value_of-clause-reads : goal.returns-in_err-value_of-clause-reads
returns-in_err-value_of-clause-reads c =
    let s = c.args.self.now in
    let h = c.in_ok-digit.ensures.lookup in
    let e : c.in_ok-digit.field-0.now ≡ get_or s.text.now s.at 0 = search rules in
    rw c.from_residual-in_err-value_of.ensures (digit_other s.text.now s.at (omega arith) e c.in_err-value_of.ensures)

pub returns-clause-reads : goal.returns-clause-reads
returns-clause-reads c =
    let s = c.args.self.now in
    let h = c.in_ok-digit.ensures.lookup in
    let e : c.in_ok-digit.field-0.now ≡ get_or s.text.now s.at 0 = search rules in
    digit_read s.text.now s.at (omega arith) e c.in_ok-value_of.ensures
