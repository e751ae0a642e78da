-- How far the lines are answered.
use Rattle.lines.proofs.Reached.{ReachedIn}
use Rattle.lines.proofs.reading.each_line.Given as goal

abbrev pub invariant-loop : goal.invariant-loop
invariant-loop g l = record {
  callable : goal.F-IsAlwaysCallable g l.answer;
  reached : ReachedIn 400000 18446744073709551615 (goal.F-step g) (g.R.Read.remaining l.initial.input) l.initial.answer
      l.counter (g.R.Read.remaining l.input) l.answer l.line;
}
