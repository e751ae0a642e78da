-- The form of a job's text. Document 01, "The job program": "lines ended by a line feed, in this order: `job=compare` or `job=match`; `left=`
-- card in lower-case hex; `right=` card to compare, or `word=` in lower-case hex to match (may be empty); `budget=` 0 to 4,294,967,295, decimal,
-- no leading zeros". A text is of the form when it is the text of a well-formed job: what is read otherwise follows from this, and no reader
-- stands here. A card line may have no digits: the card is then empty, and the judge refuses it.
use Rattle.std.specs.Prelude.{ℕ, ◌≤◌, List, ◌++◌}
use Rattle.language.specs.Word.{Bytes}
use Rattle.refusals.specs.Limits.{most_budget}
use Rattle.text.specs.Ascii.{ascii, line}
use Rattle.text.specs.Digits.{hex, decimal}

-- What is asked: two cards to compare, or a card and a word to match, and the visits that it may cost.
pub data Job : Type 0 where
  compare_job : (left right : List ℕ) (budget : ℕ) → Job
  match_job : (left word : List ℕ) (budget : ℕ) → Job

-- The lines after the first: the left card, then a card or a word under its own name, and the budget.
unfoldable pub lines : List ℕ → List ℕ → List ℕ → ℕ → List ℕ
unfolding ascii hex decimal
lines name left second budget = line (ascii "left=") (hex left) ++ line name (hex second) ++ line (ascii "budget=") (decimal budget)

-- The text of a job.
unfoldable pub job_text : Job → List ℕ
unfolding ascii lines
job_text (compare_job left right budget) = ascii "job=compare\n" ++ lines (ascii "right=") left right budget
job_text (match_job left word budget) = ascii "job=match\n" ++ lines (ascii "word=") left word budget

-- Cards and words are bytes, and the budget is not too large.
pub data WellFormed : Job → Type 0 where
  well_compare : {left right : List ℕ} {budget : ℕ} → Bytes left → Bytes right → budget ≤ most_budget → WellFormed (compare_job left right budget)
  well_match : {left word : List ℕ} {budget : ℕ} → Bytes left → Bytes word → budget ≤ most_budget → WellFormed (match_job left word budget)
