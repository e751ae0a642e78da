-- What the code answers, of what loading comes to. Named by inner contracts alone.
use Rattle.std.specs.Prelude.{ℕ, ◌/◌, ◌<◌, ◌≤◌, List, ◌≡◌, length, take}
use Rattle.std.specs.declared.result.Result.{Result}
use Rattle.std.specs.declared.result.Result.TheVariants.{Ok, Err}
use Rattle.refusals.specs.declared.refusal.Refusal.{Refusal}
use Rattle.refusals.specs.declared.refusal.Refusal.TheVariants.{NoFreePlace}
use Rattle.records.specs.Record.{records, child}
use Rattle.cards.specs.Standing.{Obeys}
use Rattle.store.specs.declared.work.Work.{Work}
use Rattle.store.specs.Room.{fresh_store}
use Rattle.store.specs.Work.{store_of, Holds}
use Rattle.loading.specs.Loading.{Loading, loaded, no_room, after_loading, root}

-- A card that can be loaded with a map of so many entries: its records obey the kind table, and the map has an entry for each.
pub record Loadable (card map : List ℕ) : Type 0 where
  pub mapped : length card / 8 ≤ length map
  pub obeys : (at : ℕ) → at < length card / 8 → Obeys at (child (records card) at)

-- The map begins with the place of each record of the card.
abbrev pub Mapped : Loading → List ℕ → Type 0
Mapped (loaded places store) map = take (length places) map ≡ places
Mapped (no_room store) map = Unit {0}

-- Every record was made, or no place was free.
abbrev pub loading_answer : Loading → Result (Unit {0}) Refusal
loading_answer (loaded places store) = Ok tt
loading_answer (no_room store) = Err NoFreePlace

-- Entering a card answers the place of its root.
abbrev pub entering_answer : Loading → Result ℕ Refusal
entering_answer (loaded places store) = Ok (root places)
entering_answer (no_room store) = Err NoFreePlace

-- The answer tells what loading comes to, the room holds its store, and no visit is made.
pub record Loads (w : Work) (l : Loading) (answer : Result (Unit {0}) Refusal) (w' : Work) : Type 0 where
  pub answers : answer ≡ loading_answer l
  pub holds : Holds w (after_loading l) w'
  pub unspent : w'.budget ≡ w.budget

pub record Enters (w : Work) (l : Loading) (answer : Result ℕ Refusal) (w' : Work) : Type 0 where
  pub answers : answer ≡ entering_answer l
  pub holds : Holds w (after_loading l) w'
  pub unspent : w'.budget ≡ w.budget

-- A call begins: a fresh store stands in its room.
pub record Begun (w : Work) : Type 0 where
  pub fresh : store_of w ≡ fresh_store
