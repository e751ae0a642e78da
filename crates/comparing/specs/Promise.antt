-- What the call `compare` promises: its one outcome, and what the answer means.
-- Demand 3 and document 01: "same" is an equality of languages; "different" comes with a word in exactly one of the languages, the shortest and,
-- of those, the lowest in byte order, "never longer than the number of pairs placed".
use Rattle.std.specs.Prelude.{ℕ, ◌<◌, ◌≤◌, Bool, List, ◌++◌, ◌≡◌, length, drop}
use Rattle.language.specs.Word.{Word}
use Rattle.language.specs.Language.{Language, language, Equal}
use Rattle.refusals.specs.Numbers.{short_word_room}
use Rattle.cards.specs.Meaning.{card_pattern}
use Rattle.store.specs.Room.{laid}
use Rattle.pairs.specs.Room.{laid_pairs}
use Rattle.searching.specs.FirstWord.{FirstWord}
use Rattle.answers.specs.declared.Comparison.{Comparison}
use Rattle.answers.specs.Comparing.{Verdict, are_same, are_different, refused_by, word_room_short, told}
use Rattle.comparing.specs.Compare.{Outcome, compare_outcome}

-- What a verdict means, of the two languages, the pairs told, a word room of so many bytes and the word written in it.
pub data TrueVerdict (A B : Language) (pairs room : ℕ) (written : Word) : Verdict → Type 0 where
  same_true : Equal A B → TrueVerdict A B pairs room written are_same
  different_true : {left_has : Bool} → FirstWord A B written left_has pairs → length written ≤ room
      → TrueVerdict A B pairs room written (are_different (length written) left_has)
  short_true : (word : Word) (left_has : Bool) → FirstWord A B word left_has pairs → room < length word
      → TrueVerdict A B pairs room written (word_room_short short_word_room (length word))
  refused_true : {number : ℕ} → TrueVerdict A B pairs room written (refused_by number)

-- The answer tells an outcome, and each room holds what the outcome leaves there, every other byte as lent.
pub record Leaves (work pairs word : List ℕ) (o : Outcome) (answer : Comparison) (work' pairs' word' : List ℕ) : Type 0 where
  pub tells : told answer ≡ o.tells
  pub work_room : work' ≡ laid o.store work
  pub pair_room : pairs' ≡ laid_pairs o.table pairs
  pub word_room : word' ≡ o.written ++ drop (length o.written) word

-- The promise, of the two cards, the three rooms as lent, the budget, the answer and the three rooms afterwards.
pub record Compares (left right work pairs word : List ℕ) (budget : ℕ) (answer : Comparison) (work' pairs' word' : List ℕ) : Type 0 where
  pub leaves : Leaves work pairs word (compare_outcome left right (length work) (length pairs) (length word) budget) answer work' pairs' word'
  pub means : TrueVerdict (language (card_pattern left)) (language (card_pattern right)) (told answer).pairs (length word)
      (compare_outcome left right (length work) (length pairs) (length word) budget).written (told answer).says
