-- `number` lays down the name, the digits and a line feed, one behind the other; a number in 64 bits has at most 20 digits.
use native.Mathlib.Omega.{arith}
use Rattle.text.specs.Laws.Writing.{put_both, number_short}
use Rattle.text.proofs.writing.Writer.number.Goals as goal

pub decimal-requires : goal.decimal-requires
decimal-requires c =
    let e = c.put.ensures.puts.ends in
    let k = c.put.ensures.as_long in
    omega (arith, number_short c.args.n c.ranges.n.fits)

pub put-requires-2 : goal.put-requires-2
put-requires-2 c =
    let e = c.put.ensures.puts.ends in
    let k = c.put.ensures.as_long in
    let f = c.decimal.ensures.puts.ends in
    let m = c.decimal.ensures.as_long in
    omega (arith, number_short c.args.n c.ranges.n.fits)

pub returns-clause-puts : goal.returns-clause-puts
returns-clause-puts c = put_both (put_both c.put.ensures.puts c.decimal.ensures.puts) c.put-2.ensures.puts

pub returns-clause-upper_bound : goal.returns-clause-upper_bound
returns-clause-upper_bound c =
    let e = c.put.ensures.puts.ends in
    let f = c.decimal.ensures.puts.ends in
    let g = c.put-2.ensures.puts.ends in
    omega (arith, number_short c.args.n c.ranges.n.fits)
