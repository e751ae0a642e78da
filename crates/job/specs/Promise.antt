-- What the program promises where the bytes that come in, and what the output holds, are known.
use Rattle.std.specs.Prelude.{ℕ, ◌+◌, ◌<◌, ◌≤◌, List, length, Option}
use Rattle.std.specs.Io.KnownBytes.{Appends, Consumes, IsAtEnd}
use Rattle.refusals.specs.Limits.{most_job}
use Rattle.jobtext.specs.Promise.{Answers}

-- What is read: all that comes in, or one byte more than the longest job has.
abbrev pub most_read : ℕ
most_read = most_job + 1

pub record ReadsJob (coming left : Option (List ℕ)) : Type 0 where
  pub job : List ℕ
  pub read : Consumes coming left job
  pub short : length job ≤ most_read
  pub whole : length job < most_read → IsAtEnd left

-- What is written: the answer to all that comes in, whole, and nothing else. It is the answer to what is read of it, since a text of more bytes than
-- the longest job has is no job.
pub record WritesAnswer (held held' : Option (List ℕ)) (coming : List ℕ) : Type 0 where
  pub answer : List ℕ
  pub answers : Answers coming answer
  pub written : Appends held held' answer
