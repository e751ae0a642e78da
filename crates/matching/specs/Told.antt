-- What the code answers, of what judging comes to. Named by inner contracts alone.
use Rattle.std.specs.Prelude.{ℕ, ◌-◌, Bool, cond, ◌≡◌}
use Rattle.std.specs.declared.result.Result.{Result}
use Rattle.std.specs.declared.result.Result.TheVariants.{Ok, Err}
use Rattle.refusals.specs.declared.refusal.Refusal.{Refusal}
use Rattle.refusals.specs.Number.{number}
use Rattle.answers.specs.Matching.{yes, no, refused, Told}
use Rattle.store.specs.declared.work.Work.{Work}
use Rattle.store.specs.Room.{laid}
use Rattle.matching.specs.Fits.{Outcome}

-- Whether the word fits, or a refusal, with the places taken and the visits made.
abbrev pub judged_told : Result Bool Refusal → ℕ → ℕ → Told
judged_told (Ok fits) places visits = record { says = cond fits yes no; places = places; visits = visits }
judged_told (Err refusal) places visits = record { says = refused (number refusal); places = places; visits = visits }

-- The answer tells an outcome, and the work room holds its store.
pub record Judges (w : Work) (o : Outcome) (answer : Result Bool Refusal) (w' : Work) : Type 0 where
  pub tells : judged_told answer w'.places (w.budget - w'.budget) ≡ o.tells
  pub leaves : w'.room.now ≡ laid o.store w.room.now
