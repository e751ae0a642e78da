-- What is told of opening, with the places then taken, as one value: the laws of rooms go by it, and a contract's `Opens` says the same.
use Rattle.std.specs.Prelude.{ℕ, false, List, ◌≡◌, refl, length}
use Rattle.std.proofs.Common.{arith, ◌∙◌, ap₂}
use Rattle.std.specs.declared.result.Result.{Result}
use Rattle.std.specs.declared.result.Result.TheVariants.{Ok, Err}
use Rattle.refusals.specs.declared.refusal.Refusal.{Refusal}
use Rattle.refusals.specs.declared.refusal.Refusal.TheVariants.{NoFreePlace}
use Rattle.refusals.specs.Order.{Good}
use Rattle.cards.specs.Examine.{pattern_card}
use Rattle.store.specs.declared.work.Work.{Work}
use Rattle.store.specs.Room.{laid, wrong_room}
use Rattle.pairs.specs.Opening.{Opening, opened, unopened, after_opening}
use Rattle.pairs.specs.Told.{opening_answer, Opens}

-- The places of the two roots and the places taken, or a full room and the places taken.
pub data Opened : Type 0 where
  OpenedAt : (left right taken : ℕ) → Opened
  NotOpened : (taken : ℕ) → Opened

abbrev pub told_opening : Opening → Opened
told_opening (opened x y store) = OpenedAt x y (length store)
told_opening (unopened store) = NotOpened (length store)

-- Both cards are in good standing and the room is legal.
pub record CanOpenRoom (left right room : List ℕ) : Type 0 where
  pub left_good : pattern_card left ≡ Good
  pub right_good : pattern_card right ≡ Good
  pub room_legal : wrong_room (length room) ≡ false

-- The answer tells what opening comes to, and the room holds its store.
pub record OpensRoom (room : List ℕ) (o : Opening) (answer : Opened) (room' : List ℕ) : Type 0 where
  pub answers : answer ≡ told_opening o
  pub leaves : room' ≡ laid (after_opening o) room

-- What an answer tells, with so many places then taken.
abbrev pub opened_of : Result (ℕ × ℕ) Refusal → ℕ → Opened
opened_of (Ok p) taken = OpenedAt p.0 p.1 taken
opened_of (Err refusal) taken = NotOpened taken

opening_tells : (o : Opening) → opened_of (opening_answer o) (length (after_opening o)) ≡ told_opening o
opening_tells (opened x y store) = refl
opening_tells (unopened store) = refl

pub opens_room : {w : Work} {o : Opening} {answer : Result (ℕ × ℕ) Refusal} {w' : Work}
    → Opens w o answer w' → OpensRoom w.room.now o (opened_of answer w'.places) w'.room.now
opens_room {o} k = record { answers = ap₂ opened_of k.answers k.holds.taken ∙ opening_tells o; leaves = k.holds.leaves }

-- Whoever opens tells that no place is free by that refusal alone.
pub opening_full_by : (o : Opening) {refusal : Refusal} → Err refusal ≡ opening_answer o → refusal ≡ NoFreePlace
opening_full_by (opened x y store) e = let z : ◌≡◌ {A = ℕ} 0 1 = cc in absurd (omega arith)
opening_full_by (unopened store) e = cc
