-- The order of words. Demand 3: "the shortest word in exactly one language, lowest in byte order".
-- So a word stands before another if it is shorter, or as long and lower at the first letter in which they differ.
use Rattle.std.specs.Prelude.{ℕ, ◌<◌, ◌∷◌, ◌≡◌, length}
use Rattle.language.specs.Word.{Word}

-- Lower in byte order: at the first letter in which they differ.
pub data Lower : Word → Word → Type 0 where
  here : {c d : ℕ} {w v : Word} → c < d → Lower (c ∷ w) (d ∷ v)
  after : {c : ℕ} {w v : Word} → Lower w v → Lower (c ∷ w) (c ∷ v)

pub data Before : Word → Word → Type 0 where
  shorter : {w v : Word} → length w < length v → Before w v
  lower : {w v : Word} → length w ≡ length v → Lower w v → Before w v
