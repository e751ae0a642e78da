-- What an answer of checking tells. Document 01: "It answers accepted, or rejected at the first failing point, with places and visits so far: opening
-- pair missing; else, pair by pair in list order, marks differ, then for each letter ascending, .. the pair reached is not in the list".
use Rattle.std.specs.Prelude.{ℕ}
use Rattle.answers.specs.declared.Checked.{Checked}
use Rattle.answers.specs.declared.Checked.TheVariants.{Accepted, OpeningMissing, MarksDiffer, NotListed, Refused}

-- Where a list fails: at the opening pair, at the marks of the pair numbered n, or at that pair by a letter.
pub data Point : Type 0 where
  at_opening : Point
  at_marks : (n : ℕ) → Point
  at_letter : (n letter : ℕ) → Point

-- What an answer says.
pub data Verdict : Type 0 where
  is_accepted : Verdict
  is_rejected : (point : Point) → Verdict
  refused_by : (number : ℕ) → Verdict

-- What is told: the verdict, the places and the visits.
pub record Told : Type 0 where
  pub says : Verdict
  pub places : ℕ
  pub visits : ℕ

-- The paper's number and values for each case of the answer.
abbrev pub told : Checked → Told
told (Accepted places visits) = record { says = is_accepted; places = places; visits = visits }
told (OpeningMissing places visits) = record { says = is_rejected at_opening; places = places; visits = visits }
told (MarksDiffer pair places visits) = record { says = is_rejected (at_marks pair); places = places; visits = visits }
told (NotListed pair letter places visits) = record { says = is_rejected (at_letter pair letter); places = places; visits = visits }
told (Refused number places visits) = record { says = refused_by number; places = places; visits = visits }
