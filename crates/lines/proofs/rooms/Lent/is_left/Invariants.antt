-- The bytes before the place are as they were lent, from the first place that counts on.
use Rattle.std.proofs.Common.{ℕ, ◌≤◌, ◌≡◌, ◌<◌}
use Rattle.std.specs.Prelude.{slice_index}
use Rattle.lines.specs.Lent.{lent_byte}
use Rattle.lines.proofs.rooms.Lent.is_left.Given as goal

abbrev pub invariant-loop-place : goal.invariant-loop-place
invariant-loop-place l = (at : ℕ) → l.from ≤ at → at < l.place → slice_index l.room at ≡ lent_byte l.self.fill l.self.was.now at
