-- `hex` reads a byte a turn: the bytes read so far stand at the start of the room, and their digits in front of what is left of the text.
use Rattle.std.proofs.Common.{◌≡◌}
use Rattle.text.specs.Laws.Reading.{HexSoFar}
use Rattle.text.proofs.reading.Reader.hex.Given as goal

abbrev pub invariant-loop-count : goal.invariant-loop-count
invariant-loop-count l = record {
  same_text : l.self.text.now ≡ l.initial.self.text.now;
  so_far : HexSoFar l.initial.self.text.now l.initial.self.at l.initial.room l.room l.count l.self.at;
}
