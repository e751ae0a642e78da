-- A machine, for the search and the checker: its states, what it has, and its steps. A store that grows is what one machine has, and its places are
-- the states. Both sides of a pair are states of one machine: where the two have steps of their own, a state says whose it is.
--   Machine   what is computed: marks, steps, and the rows of a table of pairs
--   Sense     what is meant: the language that a state accepts, when a machine has grown, where a step leads, why one stops
--   Lawful    what must hold of both for the laws of the search and of the checker
use Rattle.std.specs.Prelude.{ℕ, Bool, [], ◌≡◌}
use Rattle.language.specs.Word.{IsByte}
use Rattle.language.specs.Language.{Language, Equal}
use Rattle.language.proofs.Laws.Tests.{Tells}
use Rattle.language.proofs.Laws.Quotient.{Quotient}

-- What a step comes to: a state, with what the machine then has; or a stop by a number.
pub data Stepped (State Has : Type 0) : Type 0 where
  stepped : (state : State) (has : Has) → Stepped State Has
  halted : (number : ℕ) (has : Has) → Stepped State Has

-- The machine, and the rows of its tables: a row is a pair of states, with the number of the pair that it came from and the letter.
pub record Machine (State Has Row : Type 0) : Type 0 where
  -- The mark of a state: whether it accepts the empty word.
  pub mark : Has → State → Bool
  -- The step by a letter. It may add to what the machine has.
  pub step : ℕ → State → Has → Stepped State Has
  pub row : (left right : State) (origin letter : ℕ) → Row
  pub left : Row → State
  pub right : Row → State
  pub origin : Row → ℕ
  pub letter : Row → ℕ
  -- A row that is not there reads as this one.
  pub no_row : Row
  -- Whether a row has these two states.
  pub has_states : Row → State → State → Bool

-- What is meant.
pub record Sense (State Has : Type 0) : Type 1 where
  -- The language that a state accepts.
  pub accepts : Has → State → Language
  -- The state is one of those that the machine has.
  pub Stands : Has → State → Type 0
  -- The machine can go on from here.
  pub Ready : Has → Type 0
  -- The second is the first, grown.
  pub Grows : Has → Has → Type 0
  -- The letter leads from one state to the other, and the step adds nothing.
  pub Leads : Has → ℕ → State → State → Type 0
  -- Why a step stops with this number.
  pub Stops : Has → ℕ → Type 0

-- The law of a step: it leads to a state that then stands; or it stops, and what was added by then stays.
pub data StepLaw {State Has : Type 0} (S : Sense State Has) (h : Has) (letter : ℕ) (x : State) : Stepped State Has → Type 0 where
  was_stepped : {y : State} {k : Has} → S.Grows h k → S.Ready k → S.Stands k y → S.Leads k letter x y → StepLaw S h letter x (stepped y k)
  was_halted : {number : ℕ} {k : Has} → S.Grows h k → S.Ready k → S.Stops k number → StepLaw S h letter x (halted number k)

-- The two states of a row.
pub record States {State Has Row : Type 0} (M : Machine State Has Row) (r : Row) (x y : State) : Type 0 where
  pub left : M.left r ≡ x
  pub right : M.right r ≡ y

pub record Lawful {State Has Row : Type 0} (M : Machine State Has Row) (S : Sense State Has) : Type 0 where
  -- A row has what was put into it, and its two states can be told.
  pub row_left : (x y : State) (n c : ℕ) → M.left (M.row x y n c) ≡ x
  pub row_right : (x y : State) (n c : ℕ) → M.right (M.row x y n c) ≡ y
  pub row_origin : (x y : State) (n c : ℕ) → M.origin (M.row x y n c) ≡ n
  pub row_letter : (x y : State) (n c : ℕ) → M.letter (M.row x y n c) ≡ c
  pub has_states_tells : (r : Row) (x y : State) → Tells (M.has_states r x y) (States M r x y)
  -- States stay what they were when the machine has grown.
  pub grows_refl : (h : Has) → S.Grows h h
  pub grows_trans : {h k l : Has} → S.Grows h k → S.Grows k l → S.Grows h l
  pub stands_kept : {h k : Has} → S.Grows h k → (x : State) → S.Stands h x → S.Stands k x
  pub mark_kept : {h k : Has} → S.Grows h k → (x : State) → S.Stands h x → M.mark k x ≡ M.mark h x
  pub accepts_kept : {h k : Has} → S.Grows h k → (x : State) → S.Stands h x → Equal (S.accepts k x) (S.accepts h x)
  pub leads_kept : {h k : Has} → S.Ready h → S.Grows h k → (c : ℕ) → IsByte c → (x : State) → S.Stands h x → (y : State) → S.Leads h c x y → S.Leads k c x y
  -- The mark tells whether the empty word is accepted, a step leads to the quotient, and to one state alone.
  pub mark_tells : {h : Has} → S.Ready h → (x : State) → S.Stands h x → Tells (M.mark h x) (S.accepts h x [])
  pub leads_means : {h : Has} → S.Ready h → (c : ℕ) → IsByte c → (x : State) → S.Stands h x → (y : State) → S.Leads h c x y
      → Equal (S.accepts h y) (Quotient c (S.accepts h x))
  pub leads_once : {h : Has} (c : ℕ) (x : State) {y z : State} → S.Leads h c x y → S.Leads h c x z → y ≡ z
  pub step_law : {h : Has} → S.Ready h → (c : ℕ) → IsByte c → (x : State) → S.Stands h x → StepLaw S h c x (M.step c x h)
