-- `hex` lays down two digits a turn: those of the bytes so far stand behind the writer's first place.
use Rattle.std.proofs.Common.{◌≡◌, length, take}
use Rattle.text.specs.Digits.{hex}
use Rattle.text.specs.Told.{Puts}
use Rattle.text.proofs.writing.Writer.hex.Given as goal

abbrev pub invariant-loop-byte : goal.invariant-loop-byte
invariant-loop-byte l = record {
  same_room : l.self.out.ghost_name ≡ l.fn.self.out.ghost_name;
  as_long : length l.self.out.now ≡ length l.fn.self.out.now;
  puts : Puts l.fn.self.out.now l.fn.self.at (hex (take l.byte-index l.bytes)) l.self.at l.self.out.now;
}
