-- What the call `fits` promises: its one outcome, and what the answer means.
-- Demand 2: "A word is judged to fit exactly when it belongs to the pattern's language, in the usual set meaning".
use Rattle.std.specs.Prelude.{ℕ, List, ◌≡◌, length}
use Rattle.answers.specs.declared.Match.{Match}
use Rattle.answers.specs.Matching.{yes, no, Told, told}
use Rattle.language.specs.Language.{language}
use Rattle.cards.specs.Meaning.{card_pattern}
use Rattle.store.specs.Room.{laid}
use Rattle.matching.specs.Fits.{fits_outcome}

-- What is told is true: yes of words in the card's language alone, no of words not in it.
pub record TrueOf (card word : List ℕ) (t : Told) : Type 0 where
  pub if_yes : t.says ≡ yes → language (card_pattern card) word
  pub if_no : t.says ≡ no → language (card_pattern card) word → ⊥

-- The promise, of the card, the word, the work room as lent, the budget, the answer and the work room afterwards.
pub record Fits (card word room : List ℕ) (budget : ℕ) (answer : Match) (room' : List ℕ) : Type 0 where
  pub tells : told answer ≡ (fits_outcome card word (length room) budget).tells
  pub leaves : room' ≡ laid (fits_outcome card word (length room) budget).store room
  pub means : TrueOf card word (told answer)
