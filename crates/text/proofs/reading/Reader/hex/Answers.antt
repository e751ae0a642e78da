-- `hex` reads a byte a turn: the bytes read so far stand at the start of the room, and their digits in front of what is left of the text.
use native.Mathlib.Omega.{arith}
use mathlib.Core.Path.{refl, ◌∙◌}
use Rattle.text.specs.Laws.Reading.{no_hex_yet, hex_more}
use Rattle.text.proofs.reading.Reader.hex.Goals as goal

pub loop-count-init : goal.loop-count-init
loop-count-init c =
    let s = c.args.self.now in
    record { same_text = refl; so_far = no_hex_yet s.text.now s.at c.args.room.now s.inside }

pub loop-count-preserved : goal.loop-count-preserved
loop-count-preserved c =
    let h = c.loop-count.invariant in
    let n = h.so_far.as_long in
    let r = c.in-Some.ensures.reads in
    record {
      same_text = c.in-Some.ensures.same_text ∙ h.same_text;
      so_far = hex_more h.so_far (omega arith) (rw h.same_text at r);
    }
