-- What the call `answer` promises. Document 01: "12: program only: job over 65,536 bytes or not of the form below". Every other text is the text
-- of one well-formed job, and is answered by the text of that job's outcome.
use Rattle.std.specs.Prelude.{ℕ, ◌+◌, ◌*◌, ◌≤◌, List, ◌≡◌, length, take, drop}
use Rattle.refusals.specs.Numbers.{job_form}
use Rattle.refusals.specs.Limits.{most_job}
use Rattle.jobform.specs.Form.{Job, job_text, WellFormed}
use Rattle.jobtext.specs.Answer.{lent_word, answer_text, refused_text}

-- The room lent for an answer, in bytes: the longest answer tells a word that fills the word room, two digits a byte, and has five short lines besides.
abbrev pub most_answer : ℕ
most_answer = 2 * lent_word + 2048

-- What answers a text: the answer to the job that it is the text of, or a refusal by 12 where there is none.
pub data Answers (text : List ℕ) : List ℕ → Type 0 where
  answered : (j : Job) → WellFormed j → text ≡ job_text j → length text ≤ most_job → Answers text (answer_text j)
  refused_12 : ((j : Job) → WellFormed j → text ≡ job_text j → length text ≤ most_job → ⊥) → Answers text (refused_text job_form)

-- The answer stands at the start of the room, up to where it ends; every byte behind it is as lent.
pub record AnswersIn (text lent : List ℕ) (to : ℕ) (out : List ℕ) : Type 0 where
  pub short : to ≤ most_answer
  pub fits : to ≤ length out
  pub answers : Answers text (take to out)
  pub rest : drop to out ≡ drop to lent
