-- What steps cost: a step from a state has a price, which stays the same when the machine has grown, and is paid from what is unspent. A machine that
-- pays for nothing has the price 0. A table costs, for each pair and each letter, the prices of both states.
use Rattle.std.specs.Prelude.{ℕ, ◌+◌, ◌≡◌}
use mathlib.Core.List.{List, [], ◌∷◌}
use Rattle.language.specs.Word.{IsByte}
use Rattle.machine.specs.Laws.Machine.{stepped, Machine, Sense}

pub record Priced {State Has Row : Type 0} (M : Machine State Has Row) (S : Sense State Has) : Type 0 where
  -- What is unspent, and the same machine with so much unspent.
  pub unspent : Has → ℕ
  pub with_unspent : Has → ℕ → Has
  pub price : Has → State → ℕ
  pub marks : (h : Has) (n : ℕ) (x : State) → M.mark (with_unspent h n) x ≡ M.mark h x
  pub price_kept : {h k : Has} → S.Grows h k → (x : State) → S.Stands h x → price k x ≡ price h x
  -- A step that was done is paid; one that leads somewhere is done again at its price.
  pub paid : {h : Has} → S.Ready h → (c : ℕ) → IsByte c → (x : State) → S.Stands h x → {y : State} {k : Has} → M.step c x h ≡ stepped y k → unspent h ≡ price h x + unspent k
  pub leads_again : {h : Has} (c : ℕ) (x y : State) → S.Leads h c x y → (rest : ℕ) → M.step c x (with_unspent h (price h x + rest)) ≡ stepped y (with_unspent h rest)

module _ {State Has Row : Type 0} {M : Machine State Has Row} {S : Sense State Has} (P : Priced M S) where
  -- Two states by each of these letters.
  unfoldable pub letters_cost : Has → State → State → List ℕ → ℕ
  letters_cost h x y [] = 0
  letters_cost h x y (letter ∷ rest) = P.price h x + (P.price h y + letters_cost h x y rest)

  -- The rows of a table by each of these letters.
  unfoldable pub table_cost : List ℕ → Has → List Row → ℕ
  unfolding letters_cost
  table_cost letters h [] = 0
  table_cost letters h (r ∷ rest) = letters_cost h (M.left r) (M.right r) letters + table_cost letters h rest
