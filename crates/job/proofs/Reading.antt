-- What is read is the beginning of what comes in, and has the same answer.
use Rattle.std.proofs.Common.{ℕ, List, ◌≡◌, ◌<◌, ◌≤◌, ◌⊎◌, inl, inr, ◌++◌, [], Option, Some, None, IfSome, length, take, arith, subst, sym, ap, ◌∙◌, take_all, append-nil}
use Rattle.std.proofs.lemmas.List.{length-take}
use Rattle.std.proofs.Math.Nat.{eq-or-lt_of_le}
use Rattle.std.proofs.Math.Seq.{take-append_seam}
use Rattle.refusals.specs.Limits.{most_job}
use Rattle.jobtext.specs.Promise.{Answers, answered, refused_12}
use Rattle.job.specs.Promise.{most_read, ReadsJob}

-- The beginning of a text, as much of it as is read, where that is all of it, and where it is not.
beginning : (job rest : List ℕ) → length job ≤ most_read → (length job < most_read → rest ≡ []) → take most_read (job ++ rest) ≡ job
beginning job rest short whole = go (eq-or-lt_of_le short)
  where
    go : (length job ≡ most_read) ⊎ (length job < most_read) → take most_read (job ++ rest) ≡ job
    go (inl full) = ap (λ (n : ℕ). take n (job ++ rest)) (sym full) ∙ take-append_seam job rest
    go (inr less) = ap (λ (s : List ℕ). take most_read (job ++ s)) (whole less) ∙ ap (take most_read) (append-nil job) ∙ take_all most_read job short

pub job_begins : (coming left : Option (List ℕ)) (reads : ReadsJob coming left) → IfSome coming (λ text. take most_read text ≡ reads.job)
job_begins None left reads = tt
job_begins (Some text) None reads = absurd reads.read
job_begins (Some text) (Some rest) reads = ap (take most_read) reads.read ∙ beginning reads.job rest reads.short reads.whole

-- A text that is no longer than a job is read to its end.
all_read : (text : List ℕ) → length text ≤ most_job → take most_read text ≡ text
all_read text short = take_all most_read text (omega arith)

all_short : (text : List ℕ) → length (take most_read text) ≤ most_job → length text ≤ most_job
all_short text short = omega (arith, length-take most_read text)

-- The answer to the beginning is the answer to the text: either the text is read to its end, or neither is a job.
pub answers_all : (text answer : List ℕ) → Answers (take most_read text) answer → Answers text answer
answers_all text answer (answered j formed e short) =
    let same = all_read text (all_short text short) in
    answered j formed (sym same ∙ e) (all_short text short)
answers_all text answer (refused_12 none) =
    refused_12 (λ j formed e short. none j formed (all_read text short ∙ e) (subst (λ (s : List ℕ). length s ≤ most_job) (sym (all_read text short)) short))
