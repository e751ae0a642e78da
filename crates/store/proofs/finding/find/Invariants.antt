-- `find` compares records by their numbers, which tell records apart: no record passed has the number wanted, so what the definition
-- says of the whole store is what it says of the records from `at` on. The records below the place where looking begins are passed at once: the
-- store is good, so each obeys the kind table at its place, which the record wanted would not.
use Prim.Native.Nat.{ℕ, ◌<◌}
use mathlib.Core.Path.{◌≡◌}
use Rattle.records.specs.Record.{record_at, number_of}
use Rattle.store.proofs.finding.find.Given as goal

abbrev pub invariant-loop-at : goal.invariant-loop-at
invariant-loop-at l = (k : ℕ) → k < l.at → k < l.places → number_of (record_at l.room k) ≡ l.wanted → ⊥
