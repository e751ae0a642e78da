-- The outcome of a comparison's search is the outcome over the store as a machine: what is told, the store, the table and the word written.
use Rattle.std.specs.Prelude.{ℕ, ◌-◌, Bool, true, false, List, ◌≡◌, refl, ltb, length}
use Rattle.std.proofs.Common.{◌∙◌, ap}
use Rattle.machine.specs.Laws.Search as machine
use Rattle.machine.specs.Laws.Outcome.{of_word as machine-of-word, of_search as machine-of-search}
use Rattle.machine.specs.Laws.Outcome as machine-outcome
use Rattle.pairs.specs.declared.pair.Pair.{Pair}
use Rattle.searching.specs.Search.{search}
use Rattle.searching.specs.Laws.StoreMachine.{Having, store_machine}
use Rattle.searching.proofs.Laws.Unfolds.{told, search_is}
use Rattle.comparing.specs.Compare.{Outcome, told_at, of_word, of_search}

-- What the machine's outcome tells, of so much budget given.
abbrev pub compared : ℕ → machine-outcome.Outcome Having Pair → Outcome
compared budget o = told_at o.says o.has.store o.table (budget - o.has.budget) o.written

pub outcome_is : (word budget : ℕ) (s : machine.Search Having Pair) → of_search word budget (told s) ≡ compared budget (machine-of-search word s)
outcome_is word budget (machine.same h table) = refl
outcome_is word budget (machine.different w left_has h table) = go (ltb word (length w))
  where
    go : (short : Bool) → of_word w left_has h.store table (budget - h.budget) short ≡ compared budget (machine-of-word w left_has h table short)
    go true = refl
    go false = refl
outcome_is word budget (machine.stopped number h table) = refl

-- The same of the search from the opening pair.
pub searched_is : (pairs word : ℕ) (letters : List ℕ) (x y : ℕ) (h : Having) (budget : ℕ)
    → of_search word budget (search h.room pairs letters x y h.store h.budget)
    ≡ compared budget (machine-of-search word (machine.search store_machine pairs letters x y h))
searched_is pairs word letters x y h budget =
    ap (of_search word budget) (search_is pairs letters x y h) ∙ outcome_is word budget (machine.search store_machine pairs letters x y h)
