-- What the readers of a job tell. Named by inner contracts alone.
use Rattle.std.specs.Prelude.{ℕ, ◌≤◌, List, ◌≡◌, length, take, drop, Option, Some, None}
use Rattle.language.specs.Word.{Bytes}
use Rattle.jobform.specs.declared.Lines.{Lines}
use Rattle.jobform.specs.declared.Job.{Job as CodeJob}
use Rattle.jobform.specs.declared.Job.TheVariants.{Compare, Match}
use Rattle.jobform.specs.Form.{Job, compare_job, match_job, lines, job_text, WellFormed}
use Rattle.refusals.specs.Limits.{most_budget}

-- The lines after the first.
pub data ReadsLines (text : List ℕ) (from : ℕ) (name : List ℕ) : Option Lines → List ℕ → List ℕ → Type 0 where
  reads_lines : {h : Lines} {left second : List ℕ} → h.left ≤ length left → h.second ≤ length second → Bytes (take h.left left)
      → Bytes (take h.second second) → h.budget ≤ most_budget
      → drop from text ≡ lines name (take h.left left) (take h.second second) h.budget → ReadsLines text from name (Some h) left second
  reads_no_lines : {left second : List ℕ}
      → ((a b : List ℕ) (n : ℕ) → Bytes a → Bytes b → n ≤ most_budget → drop from text ≡ lines name a b n → ⊥)
      → ReadsLines text from name None left second

-- A text that no well-formed job has.
pub record NoJob (text : List ℕ) : Type 0 where
  pub none_has : (j : Job) → WellFormed j → text ≡ job_text j → ⊥

-- The whole job.
pub data Reads (text : List ℕ) : Option CodeJob → List ℕ → List ℕ → Type 0 where
  reads_compare : {l s budget : ℕ} {left second : List ℕ} → l ≤ length left → s ≤ length second
      → WellFormed (compare_job (take l left) (take s second) budget) → text ≡ job_text (compare_job (take l left) (take s second) budget)
      → Reads text (Some (Compare l s budget)) left second
  reads_match : {l s budget : ℕ} {left second : List ℕ} → l ≤ length left → s ≤ length second
      → WellFormed (match_job (take l left) (take s second) budget) → text ≡ job_text (match_job (take l left) (take s second) budget)
      → Reads text (Some (Match l s budget)) left second
  reads_no_job : {left second : List ℕ} → NoJob text → Reads text None left second
