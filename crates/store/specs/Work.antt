-- What stands in what a call works with.
use Rattle.std.specs.Prelude.{ℕ, List, ◌≡◌, length}
use Rattle.records.specs.declared.record.Record.{Record}
use Rattle.store.specs.declared.work.Work.{Work}
use Rattle.store.specs.Room.{store_in, places_of, laid}

-- The store, and the places of the work room.
abbrev pub store_of : Work → List Record
store_of w = store_in w.room.now w.places

abbrev pub space_of : Work → ℕ
space_of w = places_of w.room.now

-- This store stands in the work room afterwards, every other byte as it was.
pub record Holds (w : Work) (store : List Record) (w' : Work) : Type 0 where
  pub taken : w'.places ≡ length store
  pub leaves : w'.room.now ≡ laid store w.room.now
