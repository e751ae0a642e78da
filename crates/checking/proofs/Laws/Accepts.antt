-- The checker accepts every good table, in the store it stands in, at the cost of the visits, and adds nothing: the law over any machine, for the store.
use Rattle.std.specs.Prelude.{ℕ, ◌+◌, List, ◌≡◌}
use Rattle.std.proofs.Common.{sym, ◌∙◌, ap}
use Rattle.machine.specs.Laws.Accepts as machine
use Rattle.records.specs.declared.record.Record.{Record}
use Rattle.pairs.specs.declared.pair.Pair.{Pair}
use Rattle.searching.specs.Cost.{list_cost}
use Rattle.searching.specs.Laws.StoreMachine.{having}
use Rattle.searching.proofs.Laws.StoreMachine.{store_lawful, store_priced}
use Rattle.searching.proofs.Laws.Cost.{list_cost_is}
use Rattle.checking.specs.Check.{accepted, check_list}
use Rattle.checking.specs.Point.{GoodTable}
use Rattle.checking.proofs.Laws.Unfolds.{told, list_is}
use Rattle.checking.proofs.Laws.Point.{good_to}

-- In a room of any size.
pub good_accepted : (room : ℕ) (letters : List ℕ) (store : List Record) (pairs : List Pair) (x y : ℕ) → GoodTable letters store pairs x y → (left : ℕ)
    → check_list room letters pairs x y store (list_cost letters store pairs + left) ≡ accepted store left
unfolding store_priced
good_accepted room letters store pairs x y g left =
    ap (λ (n : ℕ). check_list room letters pairs x y store (n + left)) (sym (list_cost_is letters (having room store 0) pairs))
    ∙ list_is room pairs letters x y store _
    ∙ ap told (machine.good_accepted store_lawful store_priced {h = having room store 0} (good_to g) left)
