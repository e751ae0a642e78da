-- What the code answers, of what making comes to: the place of the record, or the refusal that no place is free.
use Rattle.std.specs.Prelude.{ℕ, List, ◌≡◌, length}
use Rattle.std.specs.declared.result.Result.{Result}
use Rattle.std.specs.declared.result.Result.TheVariants.{Ok, Err}
use Rattle.refusals.specs.declared.refusal.Refusal.{Refusal}
use Rattle.refusals.specs.declared.refusal.Refusal.TheVariants.{NoFreePlace}
use Rattle.store.specs.declared.merging.Side.{Side}
use Rattle.records.specs.declared.record.Record.{Record}
use Rattle.store.specs.Room.{laid}
use Rattle.store.specs.Making.{Making, placed, full, first, behind, after}

abbrev pub making_answer : Making → Result ℕ Refusal
making_answer (placed place store) = Ok place
making_answer (full store) = Err NoFreePlace

-- The answer tells what making comes to, the places taken are those of its store, and the room holds it.
pub record Makes (room : List ℕ) (m : Making) (answer : Result ℕ Refusal) (room' : List ℕ) (places' : ℕ) : Type 0 where
  pub answers : answer ≡ making_answer m
  pub taken : places' ≡ length (after m)
  pub leaves : room' ≡ laid (after m) room

-- A set of a kind, whose record was read: its first member and the place of the set behind that.
abbrev pub side : ℕ → List Record → ℕ → Side
side kind store place = record { first = first kind store place; behind = behind kind store place }
