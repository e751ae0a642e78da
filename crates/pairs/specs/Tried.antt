-- The letters tried. Document 01: "Letters tried, ascending: those in a letter record of either pattern card."
use Rattle.std.specs.Prelude.{ℕ, Bool, ◌||◌, List}
use Rattle.refusals.specs.Limits.{most_letters}
use Rattle.records.specs.Record.{records}
use Rattle.cards.specs.Letters.{mentions, those_below}

-- A letter record of either card has the letter c.
abbrev pub mentioned : List ℕ → List ℕ → ℕ → Bool
mentioned left right c = mentions (records left) c || mentions (records right) c

unfoldable pub tried : List ℕ → List ℕ → List ℕ
unfolding those_below mentions
tried left right = those_below most_letters (mentioned left right)
