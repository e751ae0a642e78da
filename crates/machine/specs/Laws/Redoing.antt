-- Steps done again. What a machine has may differ in what plays no part (a larger room, another budget) and stand beside what it had: a step that was
-- done, on the way to what stood at an end, is then done again, to the same state, and what it has stands beside again.
use Rattle.std.specs.Prelude.{ℕ, ◌≡◌}
use Rattle.language.specs.Word.{IsByte}
use Rattle.machine.specs.Laws.Machine.{Stepped, stepped, Machine, Sense}

-- The step comes to this state, beside what the machine had there.
pub data Redone {State Has : Type 0} (Beside : Has → Has → Type 0) (y : State) (k : Has) : Stepped State Has → Type 0 where
  redone : {k' : Has} → Beside k k' → Redone Beside y k (stepped y k')

-- Every step whose end still grows to the end given is done again.
pub record Redoing {State Has Row : Type 0} (M : Machine State Has Row) (S : Sense State Has) (end : Has) (Beside : Has → Has → Type 0) : Type 0 where
  pub marks : {h h' : Has} → Beside h h' → (x : State) → M.mark h' x ≡ M.mark h x
  pub steps : {h h' : Has} → Beside h h' → S.Ready h → (c : ℕ) → IsByte c → (x : State) → S.Stands h x
      → {y : State} {k : Has} → M.step c x h ≡ stepped y k → S.Grows k end → Redone Beside y k (M.step c x h')
