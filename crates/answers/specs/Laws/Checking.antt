-- The answer of checking that tells a verdict with its counts. That it is had back stands in proofs/Laws/Checking.antt.
use Rattle.std.specs.Prelude.{ℕ}
use Rattle.answers.specs.declared.Checked.{Checked}
use Rattle.answers.specs.declared.Checked.TheVariants.{Accepted, OpeningMissing, MarksDiffer, NotListed, Refused}
use Rattle.answers.specs.Checking.{Point, at_opening, at_marks, at_letter, Verdict, is_accepted, is_rejected, refused_by, Told}

-- The rejection at this point, and the answer with this verdict, with these counts.

abbrev pub rejection_at : Point → ℕ → ℕ → Checked
rejection_at at_opening places visits = OpeningMissing places visits
rejection_at (at_marks pair) places visits = MarksDiffer pair places visits
rejection_at (at_letter pair letter) places visits = NotListed pair letter places visits

abbrev pub answer_of : Verdict → ℕ → ℕ → Checked
answer_of is_accepted places visits = Accepted places visits
answer_of (is_rejected point) places visits = rejection_at point places visits
answer_of (refused_by number) places visits = Refused number places visits

-- The answer that tells this.
abbrev pub answer_told : Told → Checked
answer_told t = answer_of t.says t.places t.visits
