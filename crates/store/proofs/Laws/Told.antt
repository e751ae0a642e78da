-- What is told of making, with the places then taken, as one value: the laws of rooms go by it, and a contract's `Makes` says the same.
use Rattle.std.specs.Prelude.{ℕ, List, ◌≡◌, refl, length}
use Rattle.std.proofs.Common.{arith, ◌∙◌, ap₂}
use Rattle.std.specs.declared.result.Result.{Result}
use Rattle.std.specs.declared.result.Result.TheVariants.{Ok, Err}
use Rattle.refusals.specs.declared.refusal.Refusal.{Refusal}
use Rattle.refusals.specs.declared.refusal.Refusal.TheVariants.{NoFreePlace}
use Rattle.store.specs.Room.{laid}
use Rattle.store.specs.Making.{Making, placed, full, after}
use Rattle.store.specs.Told.{making_answer, Makes}

-- The place of the record and the places then taken, or a full room and the places taken.
pub data Made : Type 0 where
  Placed : (place taken : ℕ) → Made
  Full : (taken : ℕ) → Made

abbrev pub told_making : Making → Made
told_making (placed place store) = Placed place (length store)
told_making (full store) = Full (length store)

-- What an answer tells, with so many places then taken.
abbrev pub made_of : Result ℕ Refusal → ℕ → Made
made_of (Ok place) taken = Placed place taken
made_of (Err refusal) taken = Full taken

both_tell : (m : Making) → made_of (making_answer m) (length (after m)) ≡ told_making m
both_tell (placed place store) = refl
both_tell (full store) = refl

pub makes_told : {room : List ℕ} {m : Making} {answer : Result ℕ Refusal} {room' : List ℕ} {places' : ℕ}
    → Makes room m answer room' places' → made_of answer places' ≡ told_making m
makes_told {m} k = ap₂ made_of k.answers k.taken ∙ both_tell m

-- Whoever makes tells that no place is free by that refusal alone.
pub full_by : (m : Making) {refusal : Refusal} → Err refusal ≡ making_answer m → refusal ≡ NoFreePlace
full_by (placed place store) e = let z : ◌≡◌ {A = ℕ} 0 1 = cc in absurd (omega arith)
full_by (full store) e = cc

pub told_placed : {room : List ℕ} {m : Making} {place taken : ℕ} → Placed place taken ≡ told_making m → {room' : List ℕ}
    → room' ≡ laid (after m) room → Makes room m (Ok place) room' taken
told_placed {m = placed p store} e l = record { answers = cc; taken = cc; leaves = l }
told_placed {m = full store} e l = let z : ◌≡◌ {A = ℕ} 0 1 = cc in absurd (omega arith)

pub told_full : {room : List ℕ} {m : Making} {taken : ℕ} → Full taken ≡ told_making m → {room' : List ℕ}
    → room' ≡ laid (after m) room → Makes room m (Err NoFreePlace) room' taken
told_full {m = placed p store} e l = let z : ◌≡◌ {A = ℕ} 0 1 = cc in absurd (omega arith)
told_full {m = full store} e l = record { answers = refl; taken = cc; leaves = l }
