-- What an answer of comparing tells. Document 01: "Number 10 also tells the length wanted".
use Rattle.std.specs.Prelude.{ℕ, Bool}
use Rattle.refusals.specs.Numbers.{short_word_room}
use Rattle.answers.specs.declared.Comparison.{Comparison}
use Rattle.answers.specs.declared.Comparison.TheVariants.{Same, Different, Refused, WordRoomShort}

-- What an answer says. "Different" tells the word's length and whether the left side has it; number 10 tells the length wanted.
pub data Verdict : Type 0 where
  are_same : Verdict
  are_different : (length : ℕ) (left_has : Bool) → Verdict
  refused_by : (number : ℕ) → Verdict
  word_room_short : (number wanted : ℕ) → Verdict

-- What is told: the verdict, the pairs, the places and the visits.
pub record Told : Type 0 where
  pub says : Verdict
  pub pairs : ℕ
  pub places : ℕ
  pub visits : ℕ

-- The paper's number and values for each case of the answer.
abbrev pub told : Comparison → Told
told (Same pairs places visits) = record { says = are_same; pairs = pairs; places = places; visits = visits }
told (Different length left_has pairs places visits) =
    record { says = are_different length left_has; pairs = pairs; places = places; visits = visits }
told (Refused number pairs places visits) = record { says = refused_by number; pairs = pairs; places = places; visits = visits }
told (WordRoomShort wanted pairs places visits) = record { says = word_room_short short_word_room wanted; pairs = pairs; places = places; visits = visits }
