-- What a step of the store keeps. What is proved of it stands in proofs/Laws/Wall.antt.
use Rattle.std.specs.Prelude.{ℕ, ◌≤◌, List, ◌++◌, ◌≡◌, length}
use Rattle.records.specs.declared.record.Record.{Record}
use Rattle.store.specs.Good.{Good}

-- The second store is the first with records added at the end.
pub record Grows (store store' : List Record) : Type 0 where
  pub more : List Record
  pub is : store' ≡ store ++ more

-- A store that can be worked on in a room of so many places.
pub record Ready (room : ℕ) (store : List Record) : Type 0 where
  pub within : length store ≤ room
  pub good : Good store

-- What a step leaves, where it stops too.
pub record Kept (room : ℕ) (store store' : List Record) : Type 0 where
  pub grows : Grows store store'
  pub ready : Ready room store'
