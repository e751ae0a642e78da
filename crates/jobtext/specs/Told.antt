-- What the inner functions ask and tell. Named by inner contracts alone.
use Rattle.std.specs.Prelude.{ℕ, ◌≤◌, List, ◌≡◌, length, take, drop}
use Rattle.answers.specs.Comparing.{told}
use Rattle.answers.specs.declared.Comparison.{Comparison}
use Rattle.answers.specs.declared.Comparison.TheVariants.{Same, Different, Refused, WordRoomShort}
use Rattle.jobtext.specs.Answer.{lent_work, lent_pairs, lent_word, comparison_text}
use Rattle.jobtext.specs.Promise.{most_answer}

-- The three rooms are those that the program lends.
pub record Lent (work pairs word : List ℕ) : Type 0 where
  pub work_size : length work ≡ lent_work
  pub pairs_size : length pairs ≡ lent_pairs
  pub word_size : length word ≡ lent_word

-- How long the word is that a comparison tells, and the text of what it tells, with that word at the start of the word room.
abbrev pub word_told : Comparison → ℕ
word_told (Same pairs places visits) = 0
word_told (Different length left_has pairs places visits) = length
word_told (Refused number pairs places visits) = 0
word_told (WordRoomShort wanted pairs places visits) = 0

abbrev pub told_text : Comparison → List ℕ → List ℕ
told_text answer room = comparison_text (told answer) (take (word_told answer) room)

-- A whole answer stands at the start of the room, up to where it ends; every byte behind it is as lent.
pub record Lays (lent text : List ℕ) (to : ℕ) (out' : List ℕ) : Type 0 where
  pub short : to ≤ most_answer
  pub fits : to ≤ length out'
  pub stands : take to out' ≡ text
  pub rest : drop to out' ≡ drop to lent

-- How long what is laid down can be: a verdict's line or a side, the last two counts and all three.
abbrev pub most_verdict : ℕ
most_verdict = 32

abbrev pub most_two_counts : ℕ
most_two_counts = 56

abbrev pub most_three_counts : ℕ
most_three_counts = 83
