-- `write_word` goes from each pair to the one that it came from and writes its letter in front of those that are written: the word that is
-- left, in front of what is written, is the word. The measure is the pair's number, since a pair comes from one with a lower number.
use Rattle.comparing.proofs.Laws.ReadOff.{Writing}
use Rattle.comparing.proofs.reading_off.write_word.Given as goal

abbrev pub invariant-loop-at : goal.invariant-loop-at
invariant-loop-at l = Writing l.pairs l.placed l.from l.initial.word l.initial.end l.word l.end l.at

abbrev pub decreases-loop-at : goal.decreases-loop-at
decreases-loop-at l = l.at
