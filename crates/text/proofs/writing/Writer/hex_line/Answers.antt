-- `hex_line` lays down the name, the digits and a line feed, one behind the other.
use native.Mathlib.Omega.{arith}
use Rattle.text.specs.Laws.Hex.{length_hex}
use Rattle.text.specs.Laws.Writing.{put_both}
use Rattle.text.proofs.writing.Writer.hex_line.Goals as goal

pub put-requires-2 : goal.put-requires-2
put-requires-2 c =
    let e = c.put.ensures.puts.ends in
    let k = c.put.ensures.as_long in
    let f = c.hex.ensures.puts.ends in
    let m = c.hex.ensures.as_long in
    omega (arith, length_hex c.args.bytes.now)

pub returns-clause-puts : goal.returns-clause-puts
returns-clause-puts c = put_both (put_both c.put.ensures.puts c.hex.ensures.puts) c.put-2.ensures.puts
