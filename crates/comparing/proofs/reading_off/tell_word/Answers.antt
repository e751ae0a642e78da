-- `tell_word` tells the empty word where no pair is placed; else it counts the word and its last letter, and writes it where it fits.
use native.Mathlib.Omega.{arith}
use Rattle.comparing.proofs.Laws.ReadOff.{few_letters, told_none, told_short, told_written}
use Rattle.comparing.proofs.reading_off.tell_word.Goals as goal

pub returns-then-placed-eq0 : goal.returns-then-placed-eq0
returns-then-placed-eq0 c =
    let a = c.args in
    told_none a.pairs.now a.placed a.from a.letter a.word.now c.if-placed-eq0.true

pub overflow_add-size : goal.overflow_add-size
overflow_add-size c =
    let s = c in
    let n = c.word_length-size.ensures in
    omega (arith, few_letters s.requires.ordered_pairs {at = s.args.from} (omega arith))

pub returns-then-word-size : goal.returns-then-word-size
returns-then-word-size c =
    let a = c.args in
    let n = c.word_length-size.ensures in
    told_short a.pairs.now a.placed a.from a.letter a.word.now (omega arith) (omega arith) c.if-word-size.true

pub returns : goal.returns
returns c =
    let a = c.args in
    let n = c.word_length-size.ensures in
    told_written a.pairs.now a.placed a.from a.letter a.word.now (omega arith) (omega arith)
    c.if-word-size.false
    c.write_word.ensures
