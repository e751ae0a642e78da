-- What is told of loading, with the places then taken, as one value: the laws of rooms go by it, and the contracts' `Loads` and `Enters` say the same.
use Rattle.std.specs.Prelude.{ℕ, List, ◌≡◌, refl, length}
use Rattle.std.proofs.Common.{arith, ◌∙◌, ap₂}
use Rattle.std.specs.declared.result.Result.{Result}
use Rattle.std.specs.declared.result.Result.TheVariants.{Ok, Err}
use Rattle.refusals.specs.declared.refusal.Refusal.{Refusal}
use Rattle.refusals.specs.declared.refusal.Refusal.TheVariants.{NoFreePlace}
use Rattle.store.specs.declared.work.Work.{Work}
use Rattle.store.specs.Room.{laid}
use Rattle.loading.specs.Loading.{Loading, loaded, no_room, after_loading, root}
use Rattle.loading.specs.Told.{loading_answer, entering_answer, Loads, Enters}

-- Every record was made, with the places then taken; or a full room and the places taken.
pub data Loaded : Type 0 where
  All : (taken : ℕ) → Loaded
  Full : (taken : ℕ) → Loaded

-- The root's place and the places taken, or a full room and the places taken.
pub data Entered : Type 0 where
  At : (place taken : ℕ) → Entered
  NotEntered : (taken : ℕ) → Entered

abbrev pub told_loading : Loading → Loaded
told_loading (loaded places store) = All (length store)
told_loading (no_room store) = Full (length store)

abbrev pub told_entering : Loading → Entered
told_entering (loaded places store) = At (root places) (length store)
told_entering (no_room store) = NotEntered (length store)

-- The answer tells what loading comes to, and the room holds its store.
pub record EntersRoom (room : List ℕ) (l : Loading) (answer : Entered) (room' : List ℕ) : Type 0 where
  pub answers : answer ≡ told_entering l
  pub leaves : room' ≡ laid (after_loading l) room

-- What an answer tells, with so many places then taken.

abbrev pub loaded_of : Result (Unit {0}) Refusal → ℕ → Loaded
loaded_of (Ok _) taken = All taken
loaded_of (Err refusal) taken = Full taken

abbrev pub entered_of : Result ℕ Refusal → ℕ → Entered
entered_of (Ok place) taken = At place taken
entered_of (Err refusal) taken = NotEntered taken

loading_tells : (l : Loading) → loaded_of (loading_answer l) (length (after_loading l)) ≡ told_loading l
loading_tells (loaded places store) = refl
loading_tells (no_room store) = refl

entering_tells : (l : Loading) → entered_of (entering_answer l) (length (after_loading l)) ≡ told_entering l
entering_tells (loaded places store) = refl
entering_tells (no_room store) = refl

pub loads_told : {w : Work} {l : Loading} {answer : Result (Unit {0}) Refusal} {w' : Work}
    → Loads w l answer w' → loaded_of answer w'.places ≡ told_loading l
loads_told {l} k = ap₂ loaded_of k.answers k.holds.taken ∙ loading_tells l

pub enters_room : {w : Work} {l : Loading} {answer : Result ℕ Refusal} {w' : Work}
    → Enters w l answer w' → EntersRoom w.room.now l (entered_of answer w'.places) w'.room.now
enters_room {l} k = record { answers = ap₂ entered_of k.answers k.holds.taken ∙ entering_tells l; leaves = k.holds.leaves }

-- Whoever loads or enters tells that no place is free by that refusal alone.

pub loading_full_by : (l : Loading) {refusal : Refusal} → Err refusal ≡ loading_answer l → refusal ≡ NoFreePlace
loading_full_by (loaded places store) e = let z : ◌≡◌ {A = ℕ} 0 1 = cc in absurd (omega arith)
loading_full_by (no_room store) e = cc

pub entering_full_by : (l : Loading) {refusal : Refusal} → Err refusal ≡ entering_answer l → refusal ≡ NoFreePlace
entering_full_by (loaded places store) e = let z : ◌≡◌ {A = ℕ} 0 1 = cc in absurd (omega arith)
entering_full_by (no_room store) e = cc

-- The other way: from what is told to what a contract says.

pub told_loads : {w : Work} (l : Loading) {w' : Work} → All w'.places ≡ told_loading l → w'.room.now ≡ laid (after_loading l) w.room.now
    → w'.budget ≡ w.budget → Loads w l (Ok tt) w'
told_loads (loaded places store) e r b = record { answers = refl; holds = record { taken = cc; leaves = r }; unspent = b }
told_loads (no_room store) e r b = let z : ◌≡◌ {A = ℕ} 0 1 = cc in absurd (omega arith)

pub told_not_loaded : {w : Work} (l : Loading) {w' : Work} → Full w'.places ≡ told_loading l → w'.room.now ≡ laid (after_loading l) w.room.now
    → w'.budget ≡ w.budget → Loads w l (Err NoFreePlace) w'
told_not_loaded (loaded places store) e r b = let z : ◌≡◌ {A = ℕ} 0 1 = cc in absurd (omega arith)
told_not_loaded (no_room store) e r b = record { answers = refl; holds = record { taken = cc; leaves = r }; unspent = b }
