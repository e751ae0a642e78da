-- What stands in a line from a place on.
use Rattle.std.specs.Prelude.{ℕ, ◌<◌, ◌≤◌, ◌≡◌, ◌⊎◌, List, ◌++◌, length, drop, codes}
use Rattle.text.specs.Told.{NoDigits, NoNumber}

-- A piece stands between two places.
pub record Stands (text : List ℕ) (from : ℕ) (piece : List ℕ) (to : ℕ) : Type 0 where
  pub inside : to ≤ length text
  pub stands : drop from text ≡ piece ++ drop to text

-- Behind so many bytes in hex no digits of another stand at the place where they end, unless the bytes are as many as find room.
abbrev pub DigitsEnd : List ℕ → ℕ → ℕ → ℕ → Type 0
DigitsEnd text to count most = count < most → NoDigits (drop to text)

-- A piece does not stand there.
abbrev pub IsNotThere : List ℕ → ℕ → List ℕ → Type 0
IsNotThere text from piece = (rest : List ℕ) → drop from text ≡ piece ++ rest → ⊥

-- No byte stands behind a key, or the key does not stand there; and the same of a number that is not too large.
abbrev pub NoByte : List ℕ → ℕ → List ℕ → Type 0
NoByte text from key = (rest : List ℕ) → drop from text ≡ key ++ rest → NoDigits rest

abbrev pub NoneUpTo : ℕ → List ℕ → ℕ → List ℕ → Type 0
NoneUpTo most text from key = (rest : List ℕ) → drop from text ≡ key ++ rest → NoNumber most rest

-- The line ends there, or an arrow stands there.
abbrev pub Ends : List ℕ → ℕ → Type 0
Ends text from = (from ≡ length text) ⊎ ((rest : List ℕ) × (drop from text ≡ codes " ->" ++ rest))
