-- `number` reads one digit a turn: the digits read so far are those of the number so far. The measure is what is left of the text.
use Rattle.std.proofs.Common.{◌≡◌, ◌≤◌, ◌-◌, length}
use Rattle.text.specs.Laws.Reading.{NumberSoFar}
use Rattle.text.proofs.reading.Reader.number.Given as goal

abbrev pub invariant-loop-digit : goal.invariant-loop-digit
invariant-loop-digit l = record {
  same_text : l.self.text.now ≡ l.fn.self.text.now;
  so_far : NumberSoFar l.fn.self.text.now l.fn.self.at l.most l.value l.self.at;
  goes_on : l.fn.self.at ≤ l.self.at;
}

abbrev pub decreases-loop-digit : goal.decreases-loop-digit
decreases-loop-digit l = length l.self.text.now - l.self.at
