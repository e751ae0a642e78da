-- The paper's number and values tell any two answers of matching apart: each answer can be had back from them.
use Rattle.std.specs.Prelude.{ℕ, ◌≡◌, refl}
use Rattle.std.proofs.Common.{sym, ◌∙◌, ap}
use Rattle.answers.specs.declared.Match.{Match}
use Rattle.answers.specs.declared.Match.TheVariants.{Yes, No, Refused}
use Rattle.answers.specs.Matching.{Says, yes, no, refused, Told, told}

-- The answer that says this, with these counts.
answer_of : Says → ℕ → ℕ → Match
answer_of yes places visits = Yes places visits
answer_of no places visits = No places visits
answer_of (refused number) places visits = Refused number places visits

abbrev answer_told : Told → Match
answer_told t = answer_of t.says t.places t.visits

had_back : (a : Match) → answer_told (told a) ≡ a
unfolding answer_of
had_back (Yes places visits) = refl
had_back (No places visits) = refl
had_back (Refused number places visits) = refl

pub told_apart : (a b : Match) → told a ≡ told b → a ≡ b
told_apart a b e = sym (had_back a) ∙ ap answer_told e ∙ had_back b
