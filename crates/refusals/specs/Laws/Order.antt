-- The order of refusals, whatever stands in it: it is good exactly when every standing is good, and else the number told is that of the first which is
-- not. A call says its standings; what it means that all are good, or which number is told, follows from these laws.
use Rattle.std.specs.Prelude.{ℕ, suc, ◌<◌, Bool, true, false, List, [], ◌∷◌, ◌≡◌, refl, length, get_or, take}
use Rattle.std.proofs.Common.{arith, subst}
use Rattle.refusals.specs.Order.{Standing}
use Rattle.refusals.specs.Order.{Good, Refused}
use Rattle.refusals.specs.Order.{first_refusal, refused_if}

-- Something holds of each standing of an order. Of an order that is written out this is a pair of the first and the rest, and `tt` at the end.
abbrev pub Each : (Standing → Type 0) → List Standing → Type 0
Each P [] = Unit {0}
Each P (s ∷ rest) = P s × Each P rest

-- A standing is good, or tells only numbers of which something holds.

abbrev pub IsGood : Standing → Type 0
IsGood s = s ≡ Good

abbrev pub TellsOnly : (ℕ → Type 0) → Standing → Type 0
TellsOnly P s = (number : ℕ) → s ≡ Refused number → P number

-- No standing is both.

refused_not_good : {A : Type 0} {number : ℕ} → Refused number ≡ Good → A
refused_not_good e = let z : ◌≡◌ {A = ℕ} 0 1 = cc in absurd (omega arith)

good_not_refused : {A : Type 0} {number : ℕ} → Good ≡ Refused number → A
good_not_refused e = let z : ◌≡◌ {A = ℕ} 0 1 = cc in absurd (omega arith)

-- A number told is the number of one standing, and each before that is good.
pub record FirstTold (order : List Standing) (number : ℕ) : Type 0 where
  pub at : ℕ
  pub inside : at < length order
  pub told : get_or order at Good ≡ Refused number
  pub before : Each IsGood (take at order)

pub first_told : (order : List Standing) (number : ℕ) → first_refusal order ≡ Refused number → FirstTold order number
first_told [] number e = good_not_refused e
first_told (Good ∷ rest) number e =
    let f = first_told rest number e in
    record { at = suc f.at; inside = omega (arith, f.inside); told = f.told; before = (refl, f.before) }
first_told (Refused other ∷ rest) number e = record { at = 0; inside = omega arith; told = e; before = tt }

-- The order is good exactly when each standing is.

pub each_good : (order : List Standing) → first_refusal order ≡ Good → Each IsGood order
each_good [] e = tt
each_good (Good ∷ rest) e = (refl, each_good rest e)
each_good (Refused number ∷ rest) e = refused_not_good e

pub order_good : (order : List Standing) → Each IsGood order → first_refusal order ≡ Good
order_good [] good = refl
order_good (Good ∷ rest) good = order_good rest good.1
order_good (Refused number ∷ rest) good = refused_not_good good.0

-- Whatever holds of each number that the standings can tell holds of the number told.
pub order_tells : (P : ℕ → Type 0) (order : List Standing) → Each (TellsOnly P) order → TellsOnly P (first_refusal order)
order_tells P [] only number e = good_not_refused e
order_tells P (Good ∷ rest) only number e = order_tells P rest only.1 number e
order_tells P (Refused other ∷ rest) only number e = only.0 number e

-- A test: where it does not refuse it does not hold, and it tells its own number alone.

pub not_refused : (b : Bool) (number : ℕ) → refused_if b number ≡ Good → b ≡ false
not_refused false number e = refl
not_refused true number e = refused_not_good e

pub if_number : (b : Bool) (given number : ℕ) → refused_if b given ≡ Refused number → given ≡ number
if_number true given number e = cc
if_number false given number e = good_not_refused e

pub if_tells : (P : ℕ → Type 0) (b : Bool) (given : ℕ) → P given → TellsOnly P (refused_if b given)
if_tells P b given p number e = subst P (if_number b given number e) p
