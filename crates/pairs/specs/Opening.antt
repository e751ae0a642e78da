-- Opening two cards. Document 01: "A comparison loads left, then right; the checker then loads the proof card."
use Rattle.std.specs.Prelude.{ℕ, List}
use Rattle.records.specs.declared.record.Record.{Record}
use Rattle.store.specs.Room.{fresh_store}
use Rattle.loading.specs.Loading.{Loading, loaded, no_room, load, root}

-- What opening comes to: the places of the two roots, which are the opening pair, and the store; or a full room and the store as it stands.
pub data Opening : Type 0 where
  opened : (left right : ℕ) (store : List Record) → Opening
  unopened : (store : List Record) → Opening

-- The right card loaded, the left root being at x.
abbrev pub right_opened : ℕ → Loading → Opening
right_opened x (loaded places store) = opened x (root places) store
right_opened x (no_room store) = unopened store

abbrev pub left_opened : ℕ → List Record → Loading → Opening
left_opened room right (loaded places store) = right_opened (root places) (load room store right)
left_opened room right (no_room store) = unopened store

-- Two cards' records, in a fresh store in a room of so many places.
unfoldable pub open_both : ℕ → List Record → List Record → Opening
unfolding load
open_both room left right = left_opened room right (load room fresh_store left)

-- The store afterwards.
abbrev pub after_opening : Opening → List Record
after_opening (opened left right store) = store
after_opening (unopened store) = store
