-- What the code answers, of what a derivation comes to.
use Rattle.std.specs.Prelude.{ℕ, List, ◌≡◌}
use Rattle.std.specs.declared.result.Result.{Result}
use Rattle.std.specs.declared.result.Result.TheVariants.{Ok, Err}
use Rattle.refusals.specs.declared.refusal.Refusal.{Refusal}
use Rattle.refusals.specs.Number.{number}
use Rattle.records.specs.declared.record.Record.{Record}
use Rattle.store.specs.declared.work.Work.{Work}
use Rattle.store.specs.Room.{laid}
use Rattle.store.specs.Work.{store_of}
use Rattle.derivative.specs.Derivative.{Deriving, derived, stopped}
use Rattle.derivative.specs.Both.{DerivingBoth, both_derived, one_stopped}

-- The derivation that an answer tells, with the store that then stands and the budget left: the place derived, or the number that stopped it.
abbrev pub deriving_told : Result ℕ Refusal → List Record → ℕ → Deriving
deriving_told (Ok place) store budget = derived place store budget
deriving_told (Err refusal) store budget = stopped (number refusal) store budget

-- The derivation is the one that the answer tells, and every byte of the room behind its store is as it was.
pub record Comes (w : Work) (d : Deriving) (answer : Result ℕ Refusal) (w' : Work) : Type 0 where
  pub is : d ≡ deriving_told answer (store_of w') w'.budget
  pub leaves : w'.room.now ≡ laid (store_of w') w.room.now

-- The same of two places derived by one letter.
abbrev pub both_told : Result (ℕ × ℕ) Refusal → List Record → ℕ → DerivingBoth
both_told (Ok p) store budget = both_derived p.0 p.1 store budget
both_told (Err refusal) store budget = one_stopped (number refusal) store budget

pub record BothCome (w : Work) (d : DerivingBoth) (answer : Result (ℕ × ℕ) Refusal) (w' : Work) : Type 0 where
  pub is : d ≡ both_told answer (store_of w') w'.budget
  pub leaves : w'.room.now ≡ laid (store_of w') w.room.now
