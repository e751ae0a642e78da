-- `lay_different` lays down the verdict, the word's line, the side's and the three counts, one behind the other; a word that the word room holds has two
-- digits for each byte of it.
use native.Mathlib.Omega.{arith}
use mathlib.Core.Path.{ap}
use lib.ListN.{length}
use Rattle.text.specs.Ascii.{ascii}
use Rattle.jobtext.specs.Answer.{different_text}
use Rattle.text.specs.Laws.Writing.{put_both, line_length, hex_line_length}
use Rattle.std.proofs.Common.{rules}
use Rattle.jobtext.specs.Laws.Answering.{lays, lays_there}
use Rattle.jobtext.proofs.answering.lay_different.Goals as goal

pub line-requires : goal.line-requires
unfolding ascii
line-requires c =
    let n = c.new-writer.ensures in
    let e = c.put.ensures.puts.ends in
    let f = c.hex_line.ensures.puts.ends in
    omega (arith, n.place, e, f, hex_line_length (ascii "word=") c.args.word.now, c.hex_line.ensures.as_long, c.put.ensures.as_long, ap length n.contents, c.requires.most_answer_in_bounds, c.requires.word_short, c.requires.side_short)

pub put_three_counts-requires : goal.put_three_counts-requires
unfolding ascii
put_three_counts-requires c =
    let n = c.new-writer.ensures in
    let e = c.put.ensures.puts.ends in
    let f = c.hex_line.ensures.puts.ends in
    let g = c.line.ensures.puts.ends in
    omega (arith, n.place, e, f, g, hex_line_length (ascii "word=") c.args.word.now, line_length (ascii "only=") c.args.side.now, c.line.ensures.as_long, c.hex_line.ensures.as_long, c.put.ensures.as_long, ap length n.contents, c.requires.most_answer_in_bounds, c.requires.word_short, c.requires.side_short)

pub returns : goal.returns
unfolding ascii different_text
returns c =
    let n = c.new-writer.ensures in
    let first = rw (n.contents, n.place) at c.put.ensures.puts in
    let e = first.ends in
    let f = c.hex_line.ensures.puts.ends in
    let g = c.line.ensures.puts.ends in
    let l = c.put_three_counts.ensures.upper_bound in
    lays_there
    (lays (put_both (put_both (put_both first c.hex_line.ensures.puts) c.line.ensures.puts) c.put_three_counts.ensures.puts)
    (omega (arith, hex_line_length (ascii "word=") c.args.word.now, line_length (ascii "only=") c.args.side.now, c.requires.word_short, c.requires.side_short))
    (omega (arith, c.put_three_counts.ensures.as_long, c.line.ensures.as_long, c.hex_line.ensures.as_long, c.put.ensures.as_long, ap length n.contents, c.requires.most_answer_in_bounds)))
    (search rules)
