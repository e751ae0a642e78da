-- From what is read and what is laid down to the promise: the job read is the one that the text is the text of, or there is none.
use Rattle.std.specs.Prelude.{ℕ, ◌-◌, ◌<◌, ◌≤◌, List, ◌≡◌, length, take, Option, Some, None}
use Rattle.std.proofs.Common.{le_trans, arith, refl, sym, ap₂, subst}
use Rattle.jobtext.specs.Laws.Judging.{from_start}
use Rattle.text.specs.Told.{Puts}
use Rattle.jobform.specs.declared.Job.{Job as CodeJob}
use Rattle.jobform.specs.declared.Job.TheVariants.{Compare, Match}
use Rattle.jobform.specs.Form.{Job, compare_job, match_job, job_text, WellFormed}
use Rattle.jobform.specs.Told.{Reads}
use Rattle.jobform.specs.Laws.Job.{JobRead, comparison_read, match_read, nothing_read}
use Rattle.jobtext.specs.Answer.{answer_text, refused_text}
use Rattle.jobtext.specs.Promise.{most_answer, Answers, answered, refused_12, AnswersIn}
use Rattle.refusals.specs.Limits.{most_job}
use Rattle.jobtext.specs.Told.{Lays}

-- A text that is put from the start.
pub lays : {out : List ℕ} {text : List ℕ} {to : ℕ} {out' : List ℕ} → Puts out 0 text to out' → to ≤ most_answer → most_answer ≤ length out'
    → Lays out text to out'
lays p l m = record { short = l; fits = le_trans l m; stands = p.stands; rest = p.rest }

-- The same of the room afterwards, which is what the writer leaves.
pub lays_there : {lent text : List ℕ} {to : ℕ} {out out' : List ℕ} → Lays lent text to out → out' ≡ out → Lays lent text to out'
lays_there l e = rw e l

-- The answer to the job read is the answer to the text.
job_answered : {text left second : List ℕ} {l s : ℕ} (j : Job) {lent : List ℕ} {to : ℕ} {out : List ℕ} → JobRead text left second l s j
    → length text ≤ most_job → Lays lent (answer_text j) to out → AnswersIn text lent to out
job_answered {text} j r m lay =
    record {
      short = lay.short;
      fits = lay.fits;
      answers = subst (λ (a : List ℕ). Answers text a) (sym lay.stands) (answered j r.well r.is m);
      rest = lay.rest;
    }

-- A job that is told is there.

pub comparison_there : {text left second : List ℕ} {j : Option CodeJob} {l s budget : ℕ} → Reads text j left second → j ≡ Some (Compare l s budget)
    → JobRead text left second l s (compare_job (take l left) (take s second) budget)
comparison_there {text} {left} {second} r e = comparison_read (subst (λ (o : Option CodeJob). Reads text o left second) e r) refl

pub match_there : {text left second : List ℕ} {j : Option CodeJob} {l s budget : ℕ} → Reads text j left second → j ≡ Some (Match l s budget)
    → JobRead text left second l s (match_job (take l left) (take s second) budget)
match_there {text} {left} {second} r e = match_read (subst (λ (o : Option CodeJob). Reads text o left second) e r) refl

pub comparison_answered : {text left second : List ℕ} {j : Option CodeJob} {l s budget : ℕ} {lent : List ℕ} {to : ℕ} {out : List ℕ} → Reads text j left second
    → j ≡ Some (Compare l s budget) → length text ≤ most_job → Lays lent (answer_text (compare_job (take (l - 0) left) (take (s - 0) second) budget)) to out
    → AnswersIn text lent to out
comparison_answered {text} {left} {second} {l = l} {s} {budget} {lent} {to} {out} r e m lay =
    job_answered (compare_job (take l left) (take s second) budget) (comparison_there r e) m
    (subst (λ (k : Job). Lays lent (answer_text k) to out) (ap₂ (λ (x y : List ℕ). compare_job x y budget) (from_start l left) (from_start s second)) lay)

pub match_answered : {text left second : List ℕ} {j : Option CodeJob} {l s budget : ℕ} {lent : List ℕ} {to : ℕ} {out : List ℕ} → Reads text j left second
    → j ≡ Some (Match l s budget) → length text ≤ most_job → Lays lent (answer_text (match_job (take (l - 0) left) (take (s - 0) second) budget)) to out
    → AnswersIn text lent to out
match_answered {text} {left} {second} {l = l} {s} {budget} {lent} {to} {out} r e m lay =
    job_answered (match_job (take l left) (take s second) budget) (match_there r e) m
    (subst (λ (k : Job). Lays lent (answer_text k) to out) (ap₂ (λ (x y : List ℕ). match_job x y budget) (from_start l left) (from_start s second)) lay)

-- No job is read, or the text is too long to be one.
none_answered : {text lent : List ℕ} {to : ℕ} {out : List ℕ} → ((j : Job) → WellFormed j → text ≡ job_text j → length text ≤ most_job → ⊥)
    → Lays lent (refused_text 12) to out → AnswersIn text lent to out
none_answered {text} n lay =
    record {
      short = lay.short;
      fits = lay.fits;
      answers = subst (λ (a : List ℕ). Answers text a) (sym lay.stands) (refused_12 n);
      rest = lay.rest;
    }

pub nothing_answered : {text left second : List ℕ} {j : Option CodeJob} {lent : List ℕ} {to : ℕ} {out : List ℕ} → Reads text j left second → j ≡ None
    → Lays lent (refused_text 12) to out → AnswersIn text lent to out
nothing_answered {text} {left} {second} r e =
    let n = nothing_read (subst (λ (o : Option CodeJob). Reads text o left second) e r) in
    none_answered (λ j w f m. n.none_has j w f)

pub too_long_answered : {text lent : List ℕ} {to : ℕ} {out : List ℕ} → most_job < length text → Lays lent (refused_text 12) to out
    → AnswersIn text lent to out
too_long_answered l = none_answered (λ j w f m. omega arith)
