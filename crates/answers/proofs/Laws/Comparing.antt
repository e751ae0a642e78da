-- The paper's number and values tell any two answers of comparing apart: each answer can be had back from them.
use Rattle.std.specs.Prelude.{ℕ, ◌≡◌, refl}
use Rattle.std.proofs.Common.{sym, ◌∙◌, ap}
use Rattle.answers.specs.declared.Comparison.{Comparison}
use Rattle.answers.specs.declared.Comparison.TheVariants.{Same, Different, Refused, WordRoomShort}
use Rattle.answers.specs.Comparing.{Verdict, are_same, are_different, refused_by, word_room_short, Told, told}

-- The answer with this verdict and these counts.
answer_of : Verdict → ℕ → ℕ → ℕ → Comparison
answer_of are_same pairs places visits = Same pairs places visits
answer_of (are_different length left_has) pairs places visits = Different length left_has pairs places visits
answer_of (refused_by number) pairs places visits = Refused number pairs places visits
answer_of (word_room_short number wanted) pairs places visits = WordRoomShort wanted pairs places visits

abbrev answer_told : Told → Comparison
answer_told t = answer_of t.says t.pairs t.places t.visits

had_back : (a : Comparison) → answer_told (told a) ≡ a
unfolding answer_of
had_back (Same pairs places visits) = refl
had_back (Different length left_has pairs places visits) = refl
had_back (Refused number pairs places visits) = refl
had_back (WordRoomShort wanted pairs places visits) = refl

pub told_apart : (a b : Comparison) → told a ≡ told b → a ≡ b
told_apart a b e = sym (had_back a) ∙ ap answer_told e ∙ had_back b
