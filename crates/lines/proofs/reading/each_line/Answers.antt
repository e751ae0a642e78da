-- Each turn that takes bytes answers the lines that they end; the turn that takes none answers the last.
use Rattle.std.proofs.Common.{ℕ, ◌≡◌, [], take, arith, rules, subst, OnOk, Result, Ok, Err}
use Rattle.std.proofs.lemmas.List.{length-take-le}
use Rattle.std.specs.Io.KnownBytes.{Consumes}
use Rattle.lines.proofs.Reached.{ReachedIn, begins, goes, ends, no_more_turns}
use Rattle.lines.proofs.reading.each_line.Goals as goal

on_ok : {A E : Type 0} {P Q : Type 0} (r : Result A E) → OnOk r P → (P → Q) → OnOk r Q
on_ok (Ok x) p f = f p
on_ok (Err e) p f = tt

pub loop-init : goal.loop-init
loop-init g c = record {
  callable = search rules;
  reached = begins 400000 18446744073709551615 (goal.F-step g) (g.R.Read.remaining c.args.input.now) c.args.answer c.new-line.result c.new-line.ensures;
}

pub loop-preserved : goal.loop-preserved
loop-preserved g c =
    let count = c.in_ok-count.count in
    let chunk = c.read.new.buf in
    let whole = length-take-le count chunk c.in_ok-count.ensures.bound.0 in
    record {
      callable = c.in_ok-answer_each.ensures.callable;
      reached = goes 400000 18446744073709551615 (goal.F-step g) (g.R.Read.remaining c.args.input.now) _ _ c.args.answer _ _ c.loop.counter _ _
          (take count chunk) c.loop.invariant.reached c.in_ok-count.ensures.bytes.0 (omega (arith, whole, c.if-count-eq0.false))
          c.in_ok-answer_each.ensures.answers;
    }

pub returns-then-count-eq0 : goal.returns-then-count-eq0
returns-then-count-eq0 g c =
    let none : Consumes (g.R.Read.remaining c.loop.input) (g.R.Read.remaining c.read.new.self) [] =
    subst (λ (n : ℕ). Consumes (g.R.Read.remaining c.loop.input) (g.R.Read.remaining c.read.new.self) (take n c.read.new.buf)) c.if-count-eq0.true
    c.in_ok-count.ensures.bytes.0 in
    let end = c.in_ok-count.ensures.bytes.1 c.if-count-eq0.true (omega arith) in
    on_ok c.answer_last.result c.answer_last.ensures
    (ends 400000 18446744073709551615 (goal.F-step g) (g.R.Read.remaining c.args.input.now) _ _ c.args.answer _ c.loop.counter _
    c.loop.invariant.reached none end)

pub returns : goal.returns
returns g c =
    let last : c.loop.counter ≡ 18446744073709551615 = omega (arith, c.loop-test.false, c.loop.auto.counter-end) in
    no_more_turns 400000 18446744073709551615 (goal.F-step g) (g.R.Read.remaining c.args.input.now) (g.R.Read.remaining c.loop.input) c.args.answer
    c.loop.answer c.loop.line
    (subst (λ (n : ℕ). ReachedIn 400000 18446744073709551615 (goal.F-step g) (g.R.Read.remaining c.args.input.now) c.args.answer n
    (g.R.Read.remaining c.loop.input) c.loop.answer c.loop.line) last c.loop.invariant.reached)
