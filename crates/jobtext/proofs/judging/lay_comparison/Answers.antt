-- `lay_comparison` lays down the text of the case that the answer is.
use native.Mathlib.Omega.{arith}
use mathlib.Core.Path.{ap}
use lib.Dec.{lit≤}
use Rattle.answers.specs.declared.Comparison.TheVariants.{Same, Refused, WordRoomShort}
use Rattle.text.specs.Ascii.{ascii}
use Rattle.jobtext.specs.Answer.{side}
use Rattle.jobtext.specs.Laws.Judging.{laid_as, word_within, word_short, different_laid}
use Rattle.jobtext.proofs.judging.lay_comparison.Goals as goal

pub slice_bounds-lay_different-end : goal.slice_bounds-lay_different-end
slice_bounds-lay_different-end c = omega (arith, word_within c.args.word.now c.in-Different.is c.requires.word_told_length, c.told-word)

pub lay_different-requires : goal.lay_different-requires
lay_different-requires c =
    let a = c in
    let s = a in
    let r = s.args.word.now in
    record {
      most_answer_in_bounds = s.requires.most_answer_in_bounds;
      word_short = word_short r (word_within r a.in-Different.is s.requires.word_told_length) s.told-word;
      side_short = lit≤ tt;
    }

pub slice_bounds-lay_different-end-else-left_has : goal.slice_bounds-lay_different-end-else-left_has
slice_bounds-lay_different-end-else-left_has c = omega (arith, word_within c.args.word.now c.in-Different.is c.requires.word_told_length, c.told-word)

pub lay_different-requires-else-left_has : goal.lay_different-requires-else-left_has
lay_different-requires-else-left_has c =
    let a = c in
    let s = a in
    let r = s.args.word.now in
    record {
      most_answer_in_bounds = s.requires.most_answer_in_bounds;
      word_short = word_short r (word_within r a.in-Different.is s.requires.word_told_length) s.told-word;
      side_short = lit≤ tt;
    }

pub returns-in-Same : goal.returns-in-Same
returns-in-Same c = let a = c in laid_as a.args.word.now (Same _ _ _) a.in-Same.is c.lay_same.ensures

pub returns-then-left_has : goal.returns-then-left_has
unfolding ascii
returns-then-left_has c =
    let a = c in
    different_laid a.args.word.now a.in-Different.is (ascii "left") (ap side c.if-left_has.true) c.lay_different.ensures

pub returns-else-left_has : goal.returns-else-left_has
unfolding ascii
returns-else-left_has c =
    let a = c in
    different_laid a.args.word.now a.in-Different.is (ascii "right") (ap side c.if-left_has.false) c.lay_different-else-left_has.ensures

pub returns-in-Refused : goal.returns-in-Refused
returns-in-Refused c = let a = c in laid_as a.args.word.now (Refused _ _ _ _) a.in-Refused.is c.lay_refusal.ensures

pub returns-in-WordRoomShort : goal.returns-in-WordRoomShort
returns-in-WordRoomShort c = let a = c in laid_as a.args.word.now (WordRoomShort _ _ _ _) a.in-WordRoomShort.is (rw c.number.ensures at c.lay_refusal-in-WordRoomShort.ensures)
