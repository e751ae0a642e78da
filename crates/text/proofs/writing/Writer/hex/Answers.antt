-- `hex` lays down two digits a turn: those of the bytes so far stand behind the writer's first place.
use native.Mathlib.Omega.{arith}
use mathlib.Core.Path.{refl, ◌∙◌}
use Rattle.std.proofs.Common.{take, length-take, take_all}
use Rattle.text.specs.Digits.{hex}
use Rattle.text.specs.Laws.Hex.{length_hex}
use Rattle.text.specs.Laws.Writing.{put_nothing, put_both, hex_next}
use Rattle.text.proofs.writing.Writer.hex.Goals as goal

pub loop-byte-init : goal.loop-byte-init
unfolding hex
loop-byte-init c = let s = c.args.self.now in record { same_room = refl; as_long = refl; puts = put_nothing s.out.now s.at }

pub put-requires : goal.put-requires
put-requires c =
    let i = c.loop-byte.invariant in
    let n = i.as_long in
    let e = i.puts.ends in
    omega (arith, length_hex (take c.loop-byte.byte-index c.args.bytes.now), length-take c.loop-byte.byte-index c.args.bytes.now)

pub loop-byte-preserved : goal.loop-byte-preserved
loop-byte-preserved c =
    let i = c.loop-byte.invariant in
    let p = c.put.ensures.puts in
    record {
      same_room = c.put.ensures.same_room ∙ i.same_room;
      as_long = c.put.ensures.as_long ∙ i.as_long;
      puts = rw (← hex_next c.args.bytes.now c.loop-byte.byte-index c.loop-byte-test.true) (put_both i.puts (rw (c.digit_of.ensures, c.digit_of-in-loop-byte.ensures) at p));
    }

pub returns-clause-puts : goal.returns-clause-puts
returns-clause-puts c =
    let p = c.loop-byte.invariant.puts in
    rw (take_all c.loop-byte.byte-index c.args.bytes.now c.loop-byte-test.false) at p
