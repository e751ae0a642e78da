-- When a table stands well over a store.
use Rattle.std.specs.Prelude.{ℕ, ◌<◌, ◌≤◌, List, ◌≡◌, length}
use Rattle.records.specs.declared.record.Record.{Record}
use Rattle.pairs.specs.declared.pair.Pair.{Pair}
use Rattle.pairs.specs.Pair.{pair_at}
use Rattle.searching.specs.Laws.Words.{Ordered}

-- A table over a store: its places are places of the store, each pair comes from one with a lower number, its letters are bytes, and it
-- fits the pair room.
pub record Tabled (pairs : ℕ) (store : List Record) (table : List Pair) : Type 0 where
  pub inside : (n : ℕ) → n < length table → ((pair_at table n).left < length store) × ((pair_at table n).right < length store)
  pub ordered : Ordered table
  pub origins : (n : ℕ) → n < length table → (pair_at table n).origin ≤ n
  pub letters : (n : ℕ) → n < length table → (pair_at table n).letter < 256
  pub distinct : (n m : ℕ) → n < m → m < length table → (pair_at table n).left ≡ (pair_at table m).left → (pair_at table n).right ≡ (pair_at table m).right → ⊥
  pub fits : length table ≤ pairs
