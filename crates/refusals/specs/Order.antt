-- The order of refusals: of several standings the first that is not good is told.
-- Document 01: "Order: 12, then left card, right card, proof card (each 1 first, then record by record, 2 before 3), then 4, 5, 6, 11."
use Rattle.std.specs.Prelude.{ℕ, Bool, true, false, List, [], ◌∷◌}

-- A standing is good, or refused by a number.
pub data Standing : Type 0 where
  Good : Standing
  Refused : (number : ℕ) → Standing

infixr 30 ◌then◌
-- The first refusal of two, in this order; good standing if there is none.
abbrev pub ◌then◌ : Standing → Standing → Standing
Good then s = s
(Refused number) then s = Refused number

-- The first refusal of a call's order; good standing if there is none.
abbrev pub first_refusal : List Standing → Standing
first_refusal [] = Good
first_refusal (s ∷ rest) = s then first_refusal rest

-- Refused by the number where the test holds.
abbrev pub refused_if : Bool → ℕ → Standing
refused_if true number = Refused number
refused_if false number = Good
