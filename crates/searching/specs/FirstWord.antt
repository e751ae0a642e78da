-- The first word that is in exactly one of two languages. Demand 3: "the shortest word in exactly one language, lowest in byte order"; document 01:
-- "never longer than the number of pairs placed".
use Rattle.std.specs.Prelude.{ℕ, ◌≤◌, Bool, true, false, length}
use Rattle.language.specs.Word.{Word, Bytes}
use Rattle.language.specs.Language.{Language}
use Rattle.language.specs.Order.{Before}

-- A word is in both languages or in neither.
pub record Alike (A B : Language) (v : Word) : Type 0 where
  pub to : A v → B v
  pub from : B v → A v

-- The word is in exactly one language, on the side told.
pub data OnlyOne (A B : Language) (word : Word) : Bool → Type 0 where
  only_left : A word → (B word → ⊥) → OnlyOne A B word true
  only_right : (A word → ⊥) → B word → OnlyOne A B word false

-- The word is in exactly one language, comes first of all words of bytes that are, and is no longer than the pairs placed.
pub record FirstWord (A B : Language) (word : Word) (left_has : Bool) (pairs : ℕ) : Type 0 where
  pub bytes : Bytes word
  pub only : OnlyOne A B word left_has
  pub first : (v : Word) → Bytes v → Before v word → Alike A B v
  pub not_longer : length word ≤ pairs
