-- `word_length` goes from each pair to the one that it came from and counts the pairs: what is counted and the word that is left are together
-- as long as the word. The measure is the pair's number, since a pair comes from one with a lower number.
use Rattle.comparing.proofs.Laws.ReadOff.{Counting}
use Rattle.comparing.proofs.reading_off.word_length.Given as goal

abbrev pub invariant-loop-at : goal.invariant-loop-at
invariant-loop-at l = Counting l.pairs l.placed l.from l.at l.count

abbrev pub decreases-loop-at : goal.decreases-loop-at
decreases-loop-at l = l.at
