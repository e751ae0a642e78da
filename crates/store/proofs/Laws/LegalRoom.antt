-- A work room that number 5 does not refuse is of a legal size.
use Rattle.std.specs.Prelude.{ℕ, ◌%◌, ◌≤◌, Bool, true, false, not, ◌||◌, ◌≡◌, refl, eqb, ltb}
use Rattle.std.proofs.lemmas.Bool.{false≢true}
use Rattle.std.proofs.Common.{sym, eqb-true, ltb-false}
use Rattle.store.specs.Room.{wrong_room}
use Rattle.refusals.specs.Limits.{least_room, most_room}

-- A legal room.
pub record LegalRoom (size : ℕ) : Type 0 where
  pub enough : least_room ≤ size
  pub not_large : size ≤ most_room
  pub whole : size % 8 ≡ 0

pub legal_room : (size : ℕ) → wrong_room size ≡ false → LegalRoom size
legal_room size e = go (ltb size least_room) refl (ltb most_room size) refl (eqb (size % 8) 0) refl e
  where
    go : (a : Bool) → ltb size least_room ≡ a → (b : Bool) → ltb most_room size ≡ b → (c : Bool) → eqb (size % 8) 0 ≡ c → a || b || not c ≡ false → LegalRoom size
    go true p b q c r f = absurd (false≢true (sym f))
    go false p true q c r f = absurd (false≢true (sym f))
    go false p false q false r f = absurd (false≢true (sym f))
    go false p false q true r f =
        record { enough = ltb-false size least_room p; not_large = ltb-false most_room size q; whole = eqb-true (size % 8) 0 r }
