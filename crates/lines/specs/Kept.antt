-- What is kept of a line as it comes, and how the lines go on.
use Rattle.std.specs.Prelude.{ℕ, ◌+◌, ◌≤◌, ◌≡◌, List, ◌++◌, length, take, Option, Result, ⊤}
use Rattle.std.specs.Borrow.{Bor}
use Rattle.lines.specs.Answered.{lines_of, EachAnswered}
use Rattle.lines.specs.declared.reading.Line.{Line}

-- These bytes of a line came: their number is kept, and the bytes as far as there is room.
pub record Holds (longest : ℕ) (line : Line) (came : List ℕ) : Type 0 where
  pub counted : line.length ≡ length came
  pub kept : length came ≤ longest → take (length came) line.bytes ≡ came

-- Some bytes come behind those that came of a line: whatever comes behind them, where its lines are answered from here on, all of them are.
pub record GoesOn {F E : Type 0} (longest : ℕ) (step : F → Option (Bor (List ℕ)) → Result ⊤ E → F → Type 0) (f : F) (came bytes : List ℕ)
    (f' : F) (line' : Line) : Type 0 where
  pub came' : List ℕ
  pub holds : Holds longest line' came'
  pub fits : length came' ≤ length came + length bytes
  pub goes_on : (rest : List ℕ) (last : F) → EachAnswered longest step f' (lines_of rest came') last
      → EachAnswered longest step f (lines_of (bytes ++ rest) came) last
