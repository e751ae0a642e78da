-- `lay_refusal` lays down the verdict, then the number's line.
use native.Mathlib.Omega.{arith}
use mathlib.Core.Path.{ap}
use lib.ListN.{length}
use Rattle.text.specs.Ascii.{ascii}
use Rattle.jobtext.specs.Answer.{refused_text}
use Rattle.text.specs.Laws.Writing.{put_both}
use Rattle.std.proofs.Common.{rules}
use Rattle.jobtext.specs.Laws.Answering.{lays, lays_there}
use Rattle.jobtext.proofs.answering.lay_refusal.Goals as goal

pub returns : goal.returns
unfolding ascii refused_text
returns c =
    let n = c.new-writer.ensures in
    let first = rw (n.contents, n.place) at c.put.ensures.puts in
    let e = first.ends in
    let l = c.number.ensures.upper_bound in
    lays_there
    (lays (put_both first c.number.ensures.puts) (omega arith)
    (omega (arith, c.number.ensures.as_long, c.put.ensures.as_long, ap length n.contents, c.requires)))
    (search rules)
