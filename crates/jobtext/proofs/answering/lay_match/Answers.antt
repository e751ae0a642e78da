-- `lay_match` lays down the verdict's line, then the two counts.
use native.Mathlib.Omega.{arith}
use mathlib.Core.Path.{ap}
use lib.ListN.{length}
use Rattle.text.specs.Laws.Writing.{put_both}
use Rattle.std.proofs.Common.{rules}
use Rattle.jobtext.specs.Laws.Answering.{lays, lays_there}
use Rattle.jobtext.proofs.answering.lay_match.Goals as goal

pub returns : goal.returns
returns c =
    let n = c.new-writer.ensures in
    let first = rw (n.contents, n.place) at c.put.ensures.puts in
    let e = first.ends in
    let l = c.put_two_counts.ensures.upper_bound in
    lays_there
    (lays (put_both first c.put_two_counts.ensures.puts) (omega (arith, c.requires.verdict_short))
    (omega (arith, c.put_two_counts.ensures.as_long, c.put.ensures.as_long, ap length n.contents, c.requires.most_answer_in_bounds)))
    (search rules)
