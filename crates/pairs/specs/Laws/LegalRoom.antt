-- A pair room, or a pair list, that number 6 does not refuse is of a legal size.
use Rattle.std.specs.Prelude.{ℕ, ◌%◌, ◌<◌, ◌≤◌, Bool, true, false, not, ◌||◌, ◌≡◌, refl, eqb, ltb}
use Rattle.std.proofs.Common.{arith, sym, eqb-true, ltb-false, eq-eqb, ne_eqb, le-ltb}
use Rattle.std.proofs.lemmas.Bool.{false≢true, eqb-false}
use Rattle.pairs.specs.Room.{wrong_pair_room}
use Rattle.refusals.specs.Limits.{most_pair_room}

-- A legal pair room.
pub record LegalPairRoom (size : ℕ) : Type 0 where
  pub some : 0 < size
  pub not_large : size ≤ most_pair_room
  pub whole : size % 8 ≡ 0

pub legal_pair_room : (size : ℕ) → wrong_pair_room size ≡ false → LegalPairRoom size
legal_pair_room size e = go (eqb size 0) refl (ltb most_pair_room size) refl (eqb (size % 8) 0) refl e
  where
    go : (a : Bool) → eqb size 0 ≡ a → (b : Bool) → ltb most_pair_room size ≡ b → (c : Bool) → eqb (size % 8) 0 ≡ c → a || b || not c ≡ false → LegalPairRoom size
    go true p b q c r f = absurd (false≢true (sym f))
    go false p true q c r f = absurd (false≢true (sym f))
    go false p false q false r f = absurd (false≢true (sym f))
    go false p false q true r f =
        let n = eqb-false size 0 p in
        record { some = omega arith; not_large = ltb-false most_pair_room size q; whole = eqb-true (size % 8) 0 r }

-- And a legal size is not refused.
pub not_wrong_pair_room : (size : ℕ) → LegalPairRoom size → wrong_pair_room size ≡ false
not_wrong_pair_room size l =
    let some = l.some in
    rw (ne_eqb size 0 (λ e. omega arith), le-ltb most_pair_room size l.not_large, eq-eqb (size % 8) 0 l.whole)
