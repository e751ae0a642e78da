-- When the pairs placed in a pair room stand as a table.
use Rattle.std.specs.Prelude.{ℕ, ◌≤◌, List, length}
use Rattle.refusals.specs.Limits.{most_pair_room}
use Rattle.pairs.specs.Room.{TableStands}

-- The table of so many pairs stands in a pair room of legal length.
pub record GoodTable (room : List ℕ) (pairs : ℕ) : Type 0 where
  pub stands : TableStands room pairs
  pub short : length room ≤ most_pair_room
