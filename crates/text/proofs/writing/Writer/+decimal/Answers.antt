-- `decimal` lays down the tenth part's digits, then the last digit, as the definition does. The measure is the number, whose tenth part is lower.
use native.Mathlib.Omega.{arith}
use Rattle.text.specs.Laws.Decimal.{some_digits}
use Rattle.text.specs.Laws.Writing.{tenth_room, digit_put, digit_behind}
use Rattle.text.proofs.writing.Writer.+decimal.Goals as goal
use Rattle.text.proofs.writing.Writer.+decimal.Goals.{then-n-ge10, else-n-ge10}

pub decimal-requires : goal.decimal-requires
decimal-requires t c =
    let s = c.args.self.now in
    let r = tenth_room s.at c.args.n s.out.now c.if-n-ge10.true c.requires in
    let e = c.decreases in
    (omega arith, omega arith)

pub put-requires : goal.put-requires
put-requires t c =
    let s = c.args.self.now in
    elim c.if-n-ge10.branch [
      | then-n-ge10 w ↦
          let r = tenth_room s.at c.args.n s.out.now w.if-n-ge10.true c.requires in
          let e = w.decimal.ensures.puts.ends in
          let l = w.decimal.ensures.as_long in
          rw w.self-is (omega arith)
      | else-n-ge10 w ↦ rw w.self-is (omega (arith, some_digits c.args.n))
    ]

pub returns-clause-puts : goal.returns-clause-puts
returns-clause-puts t c =
    let p = c.put.ensures.puts in
    elim c.if-n-ge10.branch [
      | then-n-ge10 w ↦ digit_behind w.if-n-ge10.true w.decimal.ensures.puts (rw w.self-is at p)
      | else-n-ge10 w ↦ digit_put w.if-n-ge10.false (rw w.self-is at p)
    ]
