-- The text of an answer. Document 01, "The job program": "It lends 32,768, 8,192 and 1,024 bytes." It prints `verdict=same`, `pairs=`, `places=` and
-- `visits=`, each in a line. ""Different" prints verdict, `word=` in lower-case hex, `only=left` or `only=right`, then the three counts. A match
-- prints `verdict=yes` or `no`, places, visits. A refusal prints `verdict=refused` and `reason=` only." Numbers are decimal.
use Rattle.std.specs.Prelude.{ℕ, Bool, true, false, List, ◌++◌}
use Rattle.refusals.specs.Limits.{most_room, most_pair_room, most_pairs}
use Rattle.matching.specs.Fits.{fits_outcome}
use Rattle.answers.specs.Matching.{Says, yes, no, refused, Told as ToldOfMatch}
use Rattle.comparing.specs.Compare.{Outcome, compare_outcome}
use Rattle.answers.specs.Comparing.{Verdict, are_same, are_different, refused_by, word_room_short, Told}
use Rattle.text.specs.Ascii.{ascii, line}
use Rattle.text.specs.Digits.{hex, decimal}
use Rattle.jobform.specs.Form.{Job, compare_job, match_job}

-- The bytes lent as work room, pair room and word room: the largest work room and pair room that a call takes, and a byte for each pair, since a word
-- is no longer than the pairs placed.
abbrev pub lent_work : ℕ
lent_work = most_room

abbrev pub lent_pairs : ℕ
lent_pairs = most_pair_room

abbrev pub lent_word : ℕ
lent_word = most_pairs

-- A refusal, by its number.
unfoldable pub refused_text : ℕ → List ℕ
unfolding ascii decimal
refused_text number = ascii "verdict=refused\n" ++ line (ascii "reason=") (decimal number)

-- The last two counts, and all three.
unfoldable pub two_counts : ℕ → ℕ → List ℕ
unfolding ascii decimal
two_counts places visits = line (ascii "places=") (decimal places) ++ line (ascii "visits=") (decimal visits)

unfoldable pub three_counts : ℕ → ℕ → ℕ → List ℕ
unfolding ascii decimal two_counts
three_counts pairs places visits = line (ascii "pairs=") (decimal pairs) ++ two_counts places visits

-- The side whose language has the word.
abbrev pub side : Bool → List ℕ
side true = ascii "left"
side false = ascii "right"

-- "Same", with the three counts.
unfoldable pub same_text : ℕ → ℕ → ℕ → List ℕ
unfolding ascii three_counts
same_text pairs places visits = ascii "verdict=same\n" ++ three_counts pairs places visits

-- "Different", with the word, the side that has it and the three counts.
unfoldable pub different_text : List ℕ → List ℕ → ℕ → ℕ → ℕ → List ℕ
unfolding ascii hex three_counts
different_text word side pairs places visits =
    ascii "verdict=different\n" ++ line (ascii "word=") (hex word) ++ line (ascii "only=") side ++ three_counts pairs places visits

-- Of a comparison: what it says, the word written, and the counts. Number 10 is "the word room is shorter than the word".
abbrev pub compared_text : Verdict → List ℕ → ℕ → ℕ → ℕ → List ℕ
compared_text are_same written pairs places visits = same_text pairs places visits
compared_text (are_different length left_has) written pairs places visits = different_text written (side left_has) pairs places visits
compared_text (refused_by number) written pairs places visits = refused_text number
compared_text (word_room_short number wanted) written pairs places visits = refused_text number

-- Of a match: what it says, and the counts.
abbrev pub matched_text : Says → ℕ → ℕ → List ℕ
matched_text yes places visits = ascii "verdict=yes\n" ++ two_counts places visits
matched_text no places visits = ascii "verdict=no\n" ++ two_counts places visits
matched_text (refused number) places visits = refused_text number

-- The text of what a comparison's outcome, or a match's, tells.
abbrev pub comparison_text : Told → List ℕ → List ℕ
comparison_text told written = compared_text told.says written told.pairs told.places told.visits

abbrev pub match_text : ToldOfMatch → List ℕ
match_text told = matched_text told.says told.places told.visits

-- The answer to a job: the text of its one outcome in the rooms lent.
abbrev pub outcome_text : Outcome → List ℕ
outcome_text outcome = comparison_text outcome.tells outcome.written

unfoldable pub answer_text : Job → List ℕ
unfolding ascii refused_text two_counts same_text different_text compare_outcome fits_outcome
answer_text (compare_job left right budget) = outcome_text (compare_outcome left right lent_work lent_pairs lent_word budget)
answer_text (match_job left word budget) = match_text (fits_outcome left word lent_work budget).tells
