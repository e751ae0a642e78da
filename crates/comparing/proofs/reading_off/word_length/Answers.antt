-- `word_length` goes from each pair to the one that it came from and counts the pairs: what is counted and the word that is left are together
-- as long as the word. The measure is the pair's number, since a pair comes from one with a lower number.
use native.Mathlib.Omega.{arith}
use Rattle.comparing.proofs.Laws.ReadOff.{can_read, comes_from, few_letters, none_counted, one_counted, all_counted}
use Rattle.comparing.proofs.reading_off.word_length.Goals as goal

pub loop-at-init : goal.loop-at-init
loop-at-init c = none_counted _ _ _ c.requires.from_lt_placed

pub read-p-requires : goal.read-p-requires
read-p-requires c = can_read c.requires.ordered_pairs c.loop-at.invariant.inside

pub overflow_add-count : goal.overflow_add-count
overflow_add-count c =
    let s = c in
    let n = c.loop-at.invariant.counted in
    omega (arith, few_letters s.requires.ordered_pairs s.requires.from_lt_placed)

pub loop-at-smaller : goal.loop-at-smaller
loop-at-smaller c =
    let l = c.loop-at in
    let f = comes_from c.requires.ordered_pairs l.invariant.inside c.loop-at-test.true c.read-p.ensures in
    f.lower

pub loop-at-preserved : goal.loop-at-preserved
loop-at-preserved c =
    let l = c.loop-at in
    let f = comes_from c.requires.ordered_pairs l.invariant.inside c.loop-at-test.true c.read-p.ensures in
    one_counted l.invariant f

pub returns : goal.returns
returns c = all_counted c.loop-at.invariant c.loop-at-test.false
