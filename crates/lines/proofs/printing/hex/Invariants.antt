-- The digits of the bytes before those that are left are written.
use Rattle.std.proofs.Common.{List, ℕ, ◌≡◌, ◌++◌}
use Rattle.std.specs.Io.KnownBytes.{Appends}
use Rattle.std.specs.Slice.Iter.{chunks_rest, chunks_size}
use Rattle.text.specs.Digits.{hex}
use Rattle.lines.proofs.printing.hex.Given as goal

abbrev pub invariant-loop-piece : goal.invariant-loop-piece
invariant-loop-piece g l =
    (goal.iterator-loop-piece g).can_next l.piece-iterator
    × (goal.iterator-loop-piece g).is_finite l.piece-iterator
    × (chunks_size l.piece-iterator ≡ 2048)
    × ((done : List ℕ) × Appends (g.W.Write.contents l.initial.output) (g.W.Write.contents l.output) (hex done)
    × (done ++ chunks_rest l.piece-iterator ≡ l.fn.shown))
