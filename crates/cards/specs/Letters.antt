-- The letters of a card, ascending, each once: those in a letter record, whether anything reaches it or not.
-- Document 01: "Letters tried, ascending: those in a letter record of either pattern card."
use Rattle.std.specs.Prelude.{ℕ, zero, suc, Bool, false, cond, ◌&&◌, ◌||◌, List, [], ◌∷◌, ◌++◌, eqb}
use Rattle.records.specs.declared.kind.Kind.{Kind}
use Rattle.records.specs.declared.record.Record.{Record}
use Rattle.records.specs.Kind.{kind_of, columns}

-- A record of this kind with this letter is a letter record of c: its kind has a letter, and it is c.
abbrev pub letter_of : Kind → ℕ → ℕ → Bool
letter_of kind letter c = (columns kind).letter && eqb letter c

-- Some letter record has the letter c.
unfoldable pub mentions : List Record → ℕ → Bool
mentions [] c = false
mentions (r ∷ rest) c = letter_of (kind_of r.kind) r.letter c || mentions rest c

-- The numbers below n for which the test holds, ascending.
unfoldable pub those_below : ℕ → (ℕ → Bool) → List ℕ
those_below zero test = []
those_below (suc n) test = those_below n test ++ cond (test n) (n ∷ []) []

-- The letters of a list of records.
unfoldable pub letters : List Record → List ℕ
unfolding those_below mentions
letters rs = those_below 256 (mentions rs)
