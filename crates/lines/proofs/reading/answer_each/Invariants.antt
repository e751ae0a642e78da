-- The bytes before the place have come, and the lines that they end are answered.
use Rattle.std.proofs.Common.{ℕ, List, ◌+◌, ◌≤◌, length, take}
use denote.Param.Always.{always_mut}
use Rattle.lines.specs.Kept.{Holds, GoesOn}
use Rattle.lines.proofs.reading.answer_each.Given as goal

abbrev pub invariant-loop-byte : goal.invariant-loop-byte
invariant-loop-byte g l = record {
  callable : always_mut g.F.FnMut l.initial.answer → always_mut g.F.FnMut l.answer;
  answered : (came : List ℕ) → Holds 400000 l.initial.line came → length came + length l.bytes ≤ 18446744073709551615
      → GoesOn 400000 (goal.F-step g) l.initial.answer came (take l.byte-index l.bytes) l.answer l.line;
}
