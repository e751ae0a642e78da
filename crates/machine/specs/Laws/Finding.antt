-- Looking for a row of a list by a test: one is found exactly when one stands there.
use Prim.Native.Nat.{ℕ, zero, suc, ◌<◌, suc-le-suc}
use Rattle.std.proofs.Common.{arith}
use Rattle.std.specs.Prelude.{Bool, ◌||◌, ◌≡◌, length, get_or}
use Rattle.std.proofs.Math.Bool.{true, false, or-true}
use Rattle.std.proofs.lemmas.Bool.{false≢true}
use mathlib.Core.List.{List, [], ◌∷◌}
use Rattle.std.proofs.Math.Path.{refl}

module _ {Row : Type 0} (test : Row → Bool) where
  unfoldable pub found_in : List Row → Bool
  found_in [] = false
  found_in (r ∷ list) = test r || found_in list

module _ {Row : Type 0} (test : Row → Bool) (no_row : Row) where
  -- A row for which the test holds, by its number.
  pub record FoundAt (list : List Row) : Type 0 where
    pub at : ℕ
    pub inside : at < length list
    pub holds : test (get_or list at no_row) ≡ true

  -- Where the test finds one, one stands.
  pub found_at : (list : List Row) → found_in test list ≡ true → FoundAt list
  unfolding found_in
  found_at [] e = absurd (false≢true e)
  found_at (r ∷ list) e = go (test r) refl (found_at list) e
    where
      go : (b : Bool) → test r ≡ b → (found_in test list ≡ true → FoundAt list) → b || found_in test list ≡ true → FoundAt (r ∷ list)
      go true f later g = record { at = 0; inside = omega arith; holds = f }
      go false f later g =
          let h = later g in
          record { at = suc h.at; inside = suc-le-suc h.inside; holds = h.holds }

  -- One that stands is found.
  pub found_listed : (list : List Row) (n : ℕ) → n < length list → test (get_or list n no_row) ≡ true → found_in test list ≡ true
  unfolding found_in
  found_listed [] n l e = absurd (omega arith)
  found_listed (r ∷ list) zero l e = rw e refl
  found_listed (r ∷ list) (suc n) l e = rw (found_listed list n (omega arith) e) (or-true (test r))
