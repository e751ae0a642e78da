-- `write_word` goes from each pair to the one that it came from and writes its letter in front of those that are written: the word that is
-- left, in front of what is written, is the word. The measure is the pair's number, since a pair comes from one with a lower number.
use Prim.Native.Nat.{◌-◌}
use native.Mathlib.Omega.{arith}
use mathlib.Core.Path.{◌∙◌}
use lib.ListN.{length-set}
use Rattle.comparing.proofs.Laws.ReadOff.{can_read, comes_from, none_written, one_left, one_written, whole_written}
use Rattle.comparing.proofs.reading_off.write_word.Goals as goal

pub loop-at-init : goal.loop-at-init
loop-at-init c =
    let s = c in
    let n = length-set s.args.word.now (s.args.size - 1) s.args.letter in
    let e = s.requires.size_value in
    none_written _ _ _ _ _ s.requires.from_lt_placed (omega arith) (omega arith)

pub read-p-requires : goal.read-p-requires
read-p-requires c = can_read c.requires.ordered_pairs c.loop-at.invariant.inside

pub overflow_sub-end-in-loop-at : goal.overflow_sub-end-in-loop-at
overflow_sub-end-in-loop-at c =
    let l = c.loop-at in
    let f = comes_from c.requires.ordered_pairs l.invariant.inside c.loop-at-test.true c.read-p.ensures in
    one_left l.invariant f

pub bounds-word-end-in-loop-at : goal.bounds-word-end-in-loop-at
bounds-word-end-in-loop-at c =
    let l = c.loop-at in
    let r = l.invariant.room in
    let f = comes_from c.requires.ordered_pairs l.invariant.inside c.loop-at-test.true c.read-p.ensures in
    omega (arith, one_left l.invariant f)

pub loop-at-smaller : goal.loop-at-smaller
loop-at-smaller c =
    let l = c.loop-at in
    let f = comes_from c.requires.ordered_pairs l.invariant.inside c.loop-at-test.true c.read-p.ensures in
    f.lower

pub loop-at-preserved : goal.loop-at-preserved
loop-at-preserved c =
    let l = c.loop-at in
    let f = comes_from c.requires.ordered_pairs l.invariant.inside c.loop-at-test.true c.read-p.ensures in
    one_written l.invariant f

pub shape_of-word : goal.shape_of-word
shape_of-word c =
    let a = c.args in
    c.loop-at.invariant.as_long ∙ length-set a.word.now (a.size - 1) a.letter

pub returns : goal.returns
returns c =
    let s = c in
    let e = s.requires.size_value in
    whole_written s.args.word.now s.args.size s.args.letter c.loop-at.invariant c.loop-at-test.false
    (omega arith)
    s.requires.size_in_bounds
