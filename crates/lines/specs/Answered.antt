-- The lines of what comes in, and what it is to answer each.
use Rattle.std.specs.Prelude.{ℕ, ◌<◌, ◌≡◌, List, [], ◌∷◌, ◌++◌, length, cond, eqb, Option, Some, None, Result, Ok, ⊤}
use Rattle.std.specs.List.{FoldsTo}
use Rattle.std.specs.Borrow.{Bor}

-- The lines of a text, of whose first line some bytes stand before it already. A line ends at a line feed, which is byte 10, and the last one at the
-- end of the text, where some bytes stand there.
abbrev pub lines_of : List ℕ → List ℕ → List (List ℕ)
lines_of [] [] = []
lines_of [] (k ∷ kept) = (k ∷ kept) ∷ []
lines_of (c ∷ text) kept = cond (eqb c 10) (kept ∷ lines_of text []) (lines_of text (kept ++ c ∷ []))

-- What a line is given as: itself, or none where it has more bytes than the longest one that is kept.
abbrev pub GivenAs : ℕ → List ℕ → Option (Bor (List ℕ)) → Type 0
GivenAs longest line None = longest < length line
GivenAs longest line (Some given) = given.now ≡ line

-- A closure is called with each line in turn, and no call fails. `step` says what a call does.
abbrev pub EachAnswered : {F E : Type 0} → ℕ → (F → Option (Bor (List ℕ)) → Result ⊤ E → F → Type 0) → F → List (List ℕ) → F → Type 0
EachAnswered longest step = FoldsTo (λ f line f'. (given : Option (Bor (List ℕ))) × GivenAs longest line given × step f given (Ok tt) f')
