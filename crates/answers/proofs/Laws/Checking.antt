-- The paper's number and values tell any two answers of checking apart: each answer can be had back from them, and they from it.
use Rattle.std.specs.Prelude.{◌≡◌, refl}
use Rattle.std.proofs.Common.{sym, ◌∙◌, ap}
use Rattle.answers.specs.declared.Checked.{Checked}
use Rattle.answers.specs.declared.Checked.TheVariants.{Accepted, OpeningMissing, MarksDiffer, NotListed, Refused}
use Rattle.answers.specs.Laws.Checking.{answer_of, answer_told}
use Rattle.answers.specs.Checking.{at_opening, at_marks, at_letter, Verdict, is_accepted, is_rejected, refused_by, Told, told}

had_back : (a : Checked) → answer_told (told a) ≡ a
had_back (Accepted places visits) = refl
had_back (OpeningMissing places visits) = refl
had_back (MarksDiffer pair places visits) = refl
had_back (NotListed pair letter places visits) = refl
had_back (Refused number places visits) = refl

pub told_apart : (a b : Checked) → told a ≡ told b → a ≡ b
told_apart a b e = sym (had_back a) ∙ ap answer_told e ∙ had_back b

pub tells_so : (t : Told) → told (answer_told t) ≡ t
tells_so t = go t.says
  where
    go : (v : Verdict) → told (answer_of v t.places t.visits) ≡ record { says = v; places = t.places; visits = t.visits }
    go is_accepted = refl
    go (is_rejected at_opening) = refl
    go (is_rejected (at_marks pair)) = refl
    go (is_rejected (at_letter pair letter)) = refl
    go (refused_by number) = refl
