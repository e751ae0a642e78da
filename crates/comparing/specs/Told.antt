-- What the code answers of the word that it reads off, with the room that it leaves. Named by inner contracts alone.
use Rattle.std.specs.Prelude.{ℕ, ◌<◌, ◌≤◌, List, ◌++◌, ◌≡◌, length, drop}
use Rattle.std.specs.declared.result.Result.{Result}
use Rattle.std.specs.declared.result.Result.TheVariants.{Ok, Err}

-- The word, of the length told, stands at the start of the word room, every other byte as lent; or the word room is too short for a word of that
-- length, and as lent.
pub data Wrote (w word : List ℕ) : Result ℕ ℕ → List ℕ → Type 0 where
  was_written : {word' : List ℕ} → length w ≤ length word → word' ≡ w ++ drop (length w) word → Wrote w word (Ok (length w)) word'
  was_short : length word < length w → Wrote w word (Err (length w)) word
