-- Tests joined by "and", marks compared, and a test that tells whether something holds.
use Rattle.std.specs.Prelude.{Bool, true, false, ◌&&◌, ◌≡◌, refl}
use Rattle.std.specs.Bool.{beq}
use Rattle.std.proofs.lemmas.Bool.{false≢true}
use Rattle.std.proofs.Common.{sym}

-- A test that tells whether A holds.
pub record Tells (b : Bool) (A : Type 0) : Type 0 where
  pub sound : b ≡ true → A
  pub complete : A → b ≡ true

pub and_left : (a b : Bool) → a && b ≡ true → a ≡ true
and_left true b e = refl
and_left false b e = e

pub and_right : (a b : Bool) → a && b ≡ true → b ≡ true
and_right true b e = e
and_right false b e = absurd (false≢true e)

pub and_both : {a b : Bool} → a ≡ true → b ≡ true → a && b ≡ true
and_both e f = rw (e, f)

-- Two marks compared tell whether they are equal.
pub beq_tells : (p q : Bool) → Tells (beq p q) (p ≡ q)
beq_tells true true = record { sound = λ e. refl; complete = λ e. refl }
beq_tells true false = record { sound = λ e. sym e; complete = λ e. sym e }
beq_tells false true = record { sound = λ e. e; complete = λ e. e }
beq_tells false false = record { sound = λ e. refl; complete = λ e. refl }
