-- The store as a machine: its places are the states, and what it has is a work room of so many places, the store in it and the budget left.
-- What is meant by it, and that it is lawful, stand in proofs/Laws/StoreMachine.antt.
use Rattle.std.specs.Prelude.{ℕ, List}
use Rattle.machine.specs.Laws.Machine.{Stepped, stepped, halted, Machine}
use Rattle.records.specs.declared.record.Record.{Record}
use Rattle.records.specs.Record.{child}
use Rattle.cards.specs.Mark.{marked}
use Rattle.derivative.specs.Derivative.{Deriving, derived, stopped as unfinished, derive}
use Rattle.pairs.specs.declared.pair.Pair.{Pair}
use Rattle.pairs.specs.Pair.{no_pair}
use Rattle.pairs.specs.Laws.Table.{has_places}

-- What the machine has.
pub record Having : Type 0 where
  pub room : ℕ
  pub store : List Record
  pub budget : ℕ

abbrev pub having : ℕ → List Record → ℕ → Having
having room store budget = record { room = room; store = store; budget = budget }

-- A derivation as a step.
abbrev pub of_deriving : ℕ → Deriving → Stepped ℕ Having
of_deriving room (derived place store budget) = stepped place (having room store budget)
of_deriving room (unfinished number store budget) = halted number (having room store budget)

-- The machine: marks and derivations of places, and pairs of places as rows.
abbrev pub store_machine : Machine ℕ Having Pair
store_machine =
    record {
      mark = λ h x. marked (child h.store x);
      step = λ c x h. of_deriving h.room (derive h.room c x h.store h.budget);
      row = λ x y origin letter. record { left = x; right = y; origin = origin; letter = letter };
      left = λ p. p.left;
      right = λ p. p.right;
      origin = λ p. p.origin;
      letter = λ p. p.letter;
      no_row = no_pair;
      has_states = λ p x y. has_places x y p;
    }
