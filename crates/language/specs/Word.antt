-- Letters and words.
-- Document 004, definition 2.1: "a word is a list of characters over an alphabet". Our letters are the messages of the link, and
-- each message is a byte: a number below 256.
use Rattle.std.specs.Prelude.{ℕ, ◌<◌}
use mathlib.Core.List.{List, [], ◌∷◌, Memᴰ}

-- A word: its letters in order.
abbrev pub Word : Type 0
Word = List ℕ

-- A number that is a letter.
abbrev pub IsByte : ℕ → Type 0
IsByte c = c < 256

-- Every letter of the word is one of those that P names.
pub data Over (P : ℕ → Type 0) : Word → Type 0 where
  none : Over P []
  one : {c : ℕ} {w : Word} → P c → Over P w → Over P (c ∷ w)

-- A word of bytes. Every promise that speaks of words speaks of these.
abbrev pub Bytes : Word → Type 0
Bytes w = Over IsByte w

-- The number stands in the list.
abbrev pub Listed : List ℕ → ℕ → Type 0
Listed l c = Memᴰ c l
