-- What an answer of matching tells.
use Rattle.std.specs.Prelude.{ℕ}
use Rattle.answers.specs.declared.Match.{Match}
use Rattle.answers.specs.declared.Match.TheVariants.{Yes, No, Refused}

-- What an answer says.
pub data Says : Type 0 where
  yes : Says
  no : Says
  refused : (number : ℕ) → Says

-- What is told: yes, no or the paper's number, the places and the visits.
pub record Told : Type 0 where
  pub says : Says
  pub places : ℕ
  pub visits : ℕ

-- The paper's number and values for each case of the answer.
abbrev pub told : Match → Told
told (Yes places visits) = record { says = yes; places = places; visits = visits }
told (No places visits) = record { says = no; places = places; visits = visits }
told (Refused number places visits) = record { says = refused number; places = places; visits = visits }
