-- Document 01's signed cases, those that are to be proved, and the pair of document 02's P3, in one list: each with its whole answer and all of its counts, in the rooms that the job
-- program lends. That they all hold is `signed`, in Laws/Signed.
use Rattle.std.specs.Prelude.{ℕ, true, false, List, [], ◌∷◌, ◌≡◌}
use Rattle.language.specs.Language.{Pattern, nothing as 𝟘, empty_word as 𝟙}
use Rattle.cards.specs.Meaning.{card_pattern}
use Rattle.matching.specs.Fits.{fits_outcome}
use Rattle.comparing.specs.Compare.{Outcome, compare_outcome}
use Rattle.answers.specs.declared.Match.{Match}
use Rattle.answers.specs.declared.Match.TheVariants.{Yes, No}
use Rattle.answers.specs.declared.Comparison.{Comparison}
use Rattle.answers.specs.declared.Comparison.TheVariants.{Same, Different, Refused}
use Rattle.answers.specs.Matching.{Told as ToldOfMatch, told as told-of-match}
use Rattle.answers.specs.Comparing.{told}
use Rattle.text.specs.Ascii.{ascii}
use Rattle.jobtext.specs.Answer.{lent_work, lent_pairs, lent_word}
use Rattle.signed.specs.Samples.{◌⊕◌, ◌·◌, ◌*, a, b, h, card_of}

-- Two patterns compared, with the answer and the word written, or a pattern and a word, with the answer.
pub data Case : Type 0 where
  comparison : (left right : Pattern) (budget : ℕ) (answer : Comparison) (written : List ℕ) → Case
  match_of : (pattern : Pattern) (word : List ℕ) (budget : ℕ) (answer : Match) → Case

-- What a comparison of two patterns' cards comes to in the program's rooms, and what a match tells.
abbrev pub comparing : Pattern → Pattern → ℕ → Outcome
comparing left right budget = compare_outcome (card_of left) (card_of right) lent_work lent_pairs lent_word budget

abbrev pub matching : Pattern → List ℕ → ℕ → ToldOfMatch
matching pattern word budget = (fits_outcome (card_of pattern) word lent_work budget).tells

-- A case holds when its cards mean its patterns, and the call comes to the answer signed.
pub data Holds : Case → Type 0 where
  compared : {left right : Pattern} {budget : ℕ} {answer : Comparison} {written : List ℕ} → card_pattern (card_of left) ≡ left → card_pattern (card_of right) ≡ right
      → (comparing left right budget).tells ≡ told answer → (comparing left right budget).written ≡ written → Holds (comparison left right budget answer written)
  matched : {pattern : Pattern} {word : List ℕ} {budget : ℕ} {answer : Match} → card_pattern (card_of pattern) ≡ pattern
      → matching pattern word budget ≡ told-of-match answer → Holds (match_of pattern word budget answer)

-- Every case of a list holds.
pub data AllHold : List Case → Type 0 where
  none : AllHold []
  more : {c : Case} {rest : List Case} → Holds c → AllHold rest → AllHold (c ∷ rest)

-- The list: the job printed in document 01 and each starred case below it in order, and the pair of P3. `Same` tells pairs, places and visits; `Different` before
-- them the word's length and whether the left side has it; `Refused` the number; `Yes` and `No` places and visits.
abbrev pub cases : List Case
cases =
    comparison (a *) (𝟙 ⊕ a · a *) 100 (Same 2 6 10) []
    ∷ comparison h (h ⊕ h · h) 100 (Different 2 false 2 6 9) (ascii "hh")
    ∷ comparison h (h ⊕ h · h) 8 (Refused 8 2 6 8) []
    ∷ match_of ((a *) * · b) (ascii "aa") 100 (No 9 13)
    ∷ match_of ((a *) * · b) (ascii "aab") 100 (Yes 9 21)
    ∷ comparison (a · a) a 100 (Different 1 false 1 4 3) (ascii "a")
    ∷ comparison (a · 𝟘) a 100 (Different 1 false 1 3 2) (ascii "a")
    ∷ comparison (a ⊕ 𝟙) a 100 (Different 0 true 0 4 0) []
    ∷ comparison (𝟘 *) 𝟘 100 (Different 0 true 0 3 0) []
    ∷ comparison 𝟙 (𝟘 *) 100 (Same 1 3 0) []
    ∷ comparison (a ⊕ b) (b ⊕ a) 100 (Same 3 5 20) []
    ∷ comparison ((a ⊕ a · a) *) (a *) 100 (Same 3 10 35) []
    ∷ []
