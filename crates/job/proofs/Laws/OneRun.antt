-- Where the bytes that come in are known, a run of the program reads one thing and leaves one thing unread; where it is known too what the output held,
-- it holds one thing afterwards.
use Rattle.std.proofs.Common.{List, ℕ, ◌≡◌, ◌++◌, refl, take, drop, Some, sym, ap, ◌∙◌}
use Rattle.std.proofs.lemmas.List.{append_cancel_left, take-append-drop}
use Rattle.jobtext.specs.Laws.OneAnswer.{one_answer}
use Rattle.job.specs.Promise.{most_read, ReadsJob, WritesAnswer}
use Rattle.job.proofs.Reading.{job_begins}

-- "65,537 bytes": one more than the longest job has.
pub most_read_is : most_read ≡ 65537
most_read_is = refl

-- The job is the first so many bytes of what comes in, or all of it, and what is left is what comes behind them.
pub job_is : {coming left : List ℕ} (reads : ReadsJob (Some coming) (Some left)) → reads.job ≡ take most_read coming
job_is {coming} {left} reads = sym (job_begins (Some coming) (Some left) reads)

pub left_is : {coming left : List ℕ} → ReadsJob (Some coming) (Some left) → left ≡ drop most_read coming
left_is {coming} {left} reads =
    append_cancel_left reads.job left (drop most_read coming)
    (sym reads.read
    ∙ sym (take-append-drop most_read coming)
    ∙ ap (λ (s : List ℕ). s ++ drop most_read coming) (sym (job_is reads)))

-- The output holds what it held and the one answer behind it.
pub one_output : {held one other coming : List ℕ} → WritesAnswer (Some held) (Some one) coming → WritesAnswer (Some held) (Some other) coming → one ≡ other
one_output {held} p q = p.written ∙ ap (λ (s : List ℕ). held ++ s) (one_answer p.answers q.answers) ∙ sym q.written
