-- What a list of pairs costs in a store in which nothing has to be added: for each pair and each letter, the visits of both places.
use Rattle.std.specs.Prelude.{ℕ, ◌+◌, List, [], ◌∷◌}
use Rattle.records.specs.declared.record.Record.{Record}
use Rattle.derivative.specs.Visits.{visits}
use Rattle.pairs.specs.declared.pair.Pair.{Pair}

unfoldable pub letters_cost : List Record → ℕ → ℕ → List ℕ → ℕ
letters_cost store x y [] = 0
letters_cost store x y (letter ∷ rest) = visits store x + (visits store y + letters_cost store x y rest)

unfoldable pub list_cost : List ℕ → List Record → List Pair → ℕ
unfolding letters_cost
list_cost letters store [] = 0
list_cost letters store (p ∷ rest) = letters_cost store p.left p.right letters + list_cost letters store rest
