-- The word that leads to a pair. Document 01: "A word in exactly one language is read off the letters". It is read off up to pair number 0,
-- not up to an origin of 0: pairs that come from pair 0 have origin 0 too.
use Rattle.std.specs.Prelude.{ℕ, zero, suc, List, [], ◌∷◌, ◌++◌}
use Rattle.pairs.specs.declared.pair.Pair.{Pair}
use Rattle.pairs.specs.Pair.{pair_at}

-- A pair comes from one with a lower number, so a depth above the number is enough.
unfoldable pub word_to : ℕ → List Pair → ℕ → List ℕ
word_to zero table n = []
word_to (suc depth) table zero = []
word_to (suc depth) table (suc n) = word_to depth table (pair_at table (suc n)).origin ++ (pair_at table (suc n)).letter ∷ []

abbrev pub word_of : List Pair → ℕ → List ℕ
word_of table n = word_to (suc n) table n
