-- What is read is the beginning of what comes in, and what is written is its answer.
use Rattle.std.proofs.Common.{OnOk, IfSome, Result, Ok, Err, Option, Some, None, ℕ, List, ◌≡◌, ◌<◌, ◌≤◌, length, take, subst, sym, arith}
use Rattle.std.proofs.lemmas.List.{length-take-le}
use Rattle.std.specs.Io.KnownBytes.{Appends, Consumes, IsAtEnd}
use Rattle.jobtext.specs.Promise.{Answers}
use Rattle.job.specs.Promise.{most_read, ReadsJob, WritesAnswer}
use Rattle.job.proofs.Reading.{job_begins, answers_all}
use Rattle.job.proofs.answer_job.Goals as goal

-- The same over any reader and writer.
abbrev reads : (coming left : Option (List ℕ)) (room : List ℕ) (count : ℕ) → length room ≡ most_read → count ≤ length room
    → Consumes coming left (take count room) → (count < length room → IsAtEnd left) → ReadsJob coming left
reads coming left room count long inside read end =
    let same = length-take-le count room inside in
    record { job = take count room; read = read; short = omega arith; whole = λ less. end (omega arith) }

writes : (coming left held held' : Option (List ℕ)) (read : ReadsJob coming left) (answer : List ℕ) → Answers read.job answer → Appends held held' answer
    → IfSome coming (WritesAnswer held held')
writes None left held held' read answer answers done = tt
writes (Some text) left held held' read answer answers done =
    record {
      answer = answer;
      answers = answers_all text answer (subst (λ (s : List ℕ). Answers s answer) (sym (job_begins (Some text) left read)) answers);
      written = done;
    }

on_ok : {A E : Type 0} {P Q : Type 0} (r : Result A E) → OnOk r P → (P → Q) → OnOk r Q
on_ok (Ok x) p f = f p
on_ok (Err e) p f = tt

pub returns : goal.returns
returns g c =
    let was = c.in_ok-count.ensures in
    let read = reads _ _ c.read_full.new.room _ c.read_full.auto.room was.in_room was.bytes was.end in
    record {
      read = on_ok c.write_all.result c.write_all.ensures.bytes (λ _. read);
      written = on_ok c.write_all.result c.write_all.ensures.bytes (writes _ _ _ _ read _ c.answer-length.ensures.answers);
    }
