-- What a search costs: one that ends with "same" costs what its table costs in its store, by the law over any machine, since a step costs the visits of
-- its place.
use Rattle.std.specs.Prelude.{ℕ, ◌+◌, ◌<◌, List, [], ◌∷◌, ◌≡◌, refl, length}
use Rattle.std.proofs.Common.{◌∙◌, ap}
use Rattle.language.specs.Word.{IsByte, Listed}
use Rattle.machine.specs.Laws.Price as price
use Rattle.machine.specs.Laws.Cost as cost
use Rattle.records.specs.declared.record.Record.{Record}
use Rattle.store.specs.Laws.Wall.{Ready}
use Rattle.derivative.specs.Visits.{visits}
use Rattle.pairs.specs.declared.pair.Pair.{Pair}
use Rattle.searching.specs.Search.{same, search}
use Rattle.searching.specs.Cost.{letters_cost, list_cost}
use Rattle.searching.specs.Laws.StoreMachine.{Having, having}
use Rattle.searching.proofs.Laws.StoreMachine.{store_lawful, store_priced}
use Rattle.searching.proofs.Laws.Unfolds.{in_room, search_within}

-- What a list costs in a store is what a table costs over the machine.

letters_cost_is : (h : Having) (x y : ℕ) (letters : List ℕ) → price.letters_cost store_priced h x y letters ≡ letters_cost h.store x y letters
unfolding letters_cost price.letters_cost store_priced
letters_cost_is h x y [] = refl
letters_cost_is h x y (c ∷ rest) = ap (λ (n : ℕ). visits h.store x + (visits h.store y + n)) (letters_cost_is h x y rest)

pub list_cost_is : (letters : List ℕ) (h : Having) (table : List Pair) → price.table_cost store_priced letters h table ≡ list_cost letters h.store table
unfolding list_cost price.table_cost
list_cost_is letters h [] = refl
list_cost_is letters h (p ∷ rest) = rw (letters_cost_is h p.left p.right letters, list_cost_is letters h rest)

-- The search from the opening pair.
pub same_cost : (room pairs : ℕ) (letters : List ℕ) → ((c : ℕ) → Listed letters c → IsByte c) → (x y : ℕ) (store : List Record) (budget : ℕ)
    → Ready room store → x < length store → y < length store → (store' : List Record) (table : List Pair) (left : ℕ)
    → search room pairs letters x y store budget ≡ same store' table left → budget ≡ list_cost letters store' table + left
unfolding store_priced
same_cost room pairs letters bytes x y store budget ready x_inside y_inside store' table left e =
    cost.same_cost store_lawful store_priced pairs letters bytes x y ready x_inside y_inside
    (search_within pairs letters x y (having room store budget) ∙ ap (in_room room) e)
    ∙ ap (λ (n : ℕ). n + left) (list_cost_is letters (having room store' left) table)
