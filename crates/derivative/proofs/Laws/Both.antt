-- Deriving two places by one letter, in a room: what the code answers and the room that it leaves are what the caller goes on from.
use Rattle.std.specs.Prelude.{ℕ, suc, ◌<◌, ◌≤◌, List, ◌≡◌}
use Rattle.std.proofs.Common.{le_refl, arith, ◌∙◌}
use Rattle.std.proofs.Math.Path.{ap}
use Rattle.std.proofs.Math.ListN.{length}
use Rattle.language.specs.Word.{IsByte}
use Rattle.records.specs.declared.record.Record.{Record}
use Rattle.store.specs.Room.{store_in, places_of, laid}
use Rattle.store.specs.Good.{GoodStore}
use Rattle.store.proofs.Laws.Room.{laid_laid}
use Rattle.store.specs.Laws.Wall.{Ready, Kept}
use Rattle.store.proofs.Laws.Wall.{grows_length, kept_refl, kept_trans}
use Rattle.store.proofs.Laws.GoodRoom.{room_ready, places_after}
use Rattle.derivative.proofs.Laws.Told.{Derived}
use Rattle.derivative.proofs.Laws.Told.{At, Stopped}
use Rattle.derivative.proofs.Laws.Told.{Both}
use Rattle.derivative.proofs.Laws.Told.{BothAt, OneStopped}
use Rattle.derivative.specs.Derivative.{Deriving, derived, stopped, derive_to, derive}
use Rattle.derivative.specs.Both.{DerivingBoth, both_derived, one_stopped, right_derived, left_derived, derive_both}
use Rattle.derivative.proofs.Laws.Told.{ComesRoom, after_both, BothComeRoom}
use Rattle.derivative.proofs.Laws.Steps.{StepLaw, was_done, was_ended}
use Rattle.derivative.proofs.Laws.Derivative.{derive_law}
use Rattle.derivative.proofs.Laws.Rooms.{step_keeps, not_both, Stands, stands, in_store, next, store_then}

-- What comes at any depth above the place comes of the derivative.
pub at_depth : (room : List ℕ) (places place letter budget : ℕ) {answer : Derived} {exit : List ℕ}
    → ((depth : ℕ) → place < depth → ComesRoom room (derive_to depth (places_of room) letter place (store_in room places) budget) answer exit)
    → ComesRoom room (derive (places_of room) letter place (store_in room places) budget) answer exit
unfolding derive
at_depth room places place letter budget h = h (suc place) (omega arith)

-- What deriving two places keeps, in a room of so many places, from a budget.
pub data KeepsBoth (cap : ℕ) (store : List Record) (budget : ℕ) : DerivingBoth → Type 0 where
  derives_both : {x y : ℕ} {store' : List Record} {left : ℕ} → Kept cap store store' → x < length store' → y < length store' → left ≤ budget
      → KeepsBoth cap store budget (both_derived x y store' left)
  stops_one : {number : ℕ} {store' : List Record} {left : ℕ} → Kept cap store store' → left ≤ budget
      → KeepsBoth cap store budget (one_stopped number store' left)

module _ (letter : ℕ) (byte : IsByte letter) (cap : ℕ) (store : List Record) (budget : ℕ) where
  right_keeps : {x : ℕ} {store₁ : List Record} {left : ℕ} → Kept cap store store₁ → x < length store₁ → left ≤ budget
      → {f : ℕ → List Record → ℕ → Deriving} {cost : ℕ} {Mean : List Record → ℕ → Type 0} {d : Deriving} → StepLaw f cap store₁ left cost Mean d
      → KeepsBoth cap store budget (right_derived x d)
  right_keeps {x} k l m (was_done {budget' = left'} b) =
      let p = b.paid in
      derives_both {x = x} {left = left'} (kept_trans k b.kept) (omega (arith, grows_length b.kept.grows)) b.inside (omega arith)
  right_keeps k l m (was_ended {budget' = left'} b) = let s = b.spent in stops_one {left = left'} (kept_trans k b.kept) (omega arith)

  left_keeps : (y : ℕ) → y < length store
      → {f : ℕ → List Record → ℕ → Deriving} {cost : ℕ} {Mean : List Record → ℕ → Type 0} {d : Deriving} → StepLaw f cap store budget cost Mean d
      → KeepsBoth cap store budget (left_derived cap letter y d)
  left_keeps y l (was_done {place} {store'} {budget'} a) =
      let p = a.paid in
      let s : budget' ≤ budget = omega arith in
      right_keeps a.kept a.inside s
      (derive_law letter byte cap y store' budget' (omega (arith, grows_length a.kept.grows)) a.kept.ready)
  left_keeps y l (was_ended a) = stops_one a.kept a.spent

  pub both_keeps : (x y : ℕ) → x < length store → y < length store → Ready cap store → KeepsBoth cap store budget (derive_both cap letter x y store budget)
  unfolding derive_both
  both_keeps x y l m ready = left_keeps y m (derive_law letter byte cap x store budget l ready)

-- The code of the right one.
module _ {room : List ℕ} {d : Deriving} {answer : Derived} {room' : List ℕ} (c : ComesRoom room d answer room') (x : ℕ) where
  pub right_at : {y taken left : ℕ} → answer ≡ At left y taken → BothComeRoom room (right_derived x d) (BothAt x y taken left) room'
  right_at {y} {taken} {left} e = go d c
    where
      go : (d : Deriving) → ComesRoom room d answer room' → BothComeRoom room (right_derived x d) (BothAt x y taken left) room'
      go (derived p s b) k =
          let a = k.answers in
          let i : y ≡ p = cc in
          let j : taken ≡ length s = cc in
          let m : left ≡ b = cc in
          record { answers = rw (i, j, m); leaves = k.leaves }
      go (stopped n s b) k = absurd (not_both k.answers e)

  pub right_stopped : {number taken left : ℕ} → answer ≡ Stopped number taken left → BothComeRoom room (right_derived x d) (OneStopped number taken left) room'
  right_stopped {number} {taken} {left} e = go d c
    where
      go : (d : Deriving) → ComesRoom room d answer room' → BothComeRoom room (right_derived x d) (OneStopped number taken left) room'
      go (derived p s b) k = absurd (not_both e k.answers)
      go (stopped n s b) k =
          let a = k.answers in
          let i : number ≡ n = cc in
          let j : taken ≡ length s = cc in
          let m : left ≡ b = cc in
          record { answers = rw (i, j, m); leaves = k.leaves }

-- The code of both.
module _ {room : List ℕ} {places : ℕ} (good : GoodStore room places) (letter : ℕ) (byte : IsByte letter) (x y : ℕ) (inside : (x < places) × (y < places)) (budget : ℕ)
    {answer : Derived} {room₁ : List ℕ} (c : ComesRoom room (derive (places_of room) letter x (store_in room places) budget) answer room₁) where
  abbrev store : List Record
  store = store_in room places

  abbrev cap : ℕ
  cap = places_of room

  pub first_stopped : {number taken left : ℕ} → answer ≡ Stopped number taken left
      → BothComeRoom room (derive_both cap letter x y store budget) (OneStopped number taken left) room₁
  unfolding derive_both
  first_stopped {number} {taken} {left} e = go (derive cap letter x store budget) c
    where
      go : (d : Deriving) → ComesRoom room d answer room₁ → BothComeRoom room (left_derived cap letter y d) (OneStopped number taken left) room₁
      go (derived p s b) k = absurd (not_both e k.answers)
      go (stopped n s b) k =
          let a = k.answers in
          let i : number ≡ n = cc in
          let j : taken ≡ length s = cc in
          let m : left ≡ b = cc in
          record { answers = rw (i, j, m); leaves = k.leaves }

  module _ {next₁ taken left : ℕ} (e : answer ≡ At left next₁ taken) where
    stood : Stands room places (derive cap letter x store budget) next₁ taken left room₁
    stood = stands (step_keeps (derive_law letter byte cap x store budget (in_store room inside.0) (room_ready good))) c e

    pub second_ready : GoodStore room₁ taken × (y < taken)
    second_ready = let n = next good stood in let m = n.more in let l = inside.1 in (n.good, omega arith)

    abbrev onward : DerivingBoth
    onward = right_derived next₁ (derive cap letter y stood.store left)

    onward_longer : length stood.store ≤ length (after_both onward)
    onward_longer =
        let s = stood in
        go (right_keeps letter byte cap s.store left (kept_refl s.kept.ready) s.inside (le_refl left)
        (derive_law letter byte cap y s.store left (let l = second_ready.1 in omega (arith, s.taken_is)) s.kept.ready))
      where
        go : {d : DerivingBoth} → KeepsBoth cap stood.store left d → length stood.store ≤ length (after_both d)
        go (derives_both k _ _ _) = grows_length k.grows
        go (stops_one k _) = grows_length k.grows

    pub then_second : {both : Both} {room₂ : List ℕ}
        → BothComeRoom room₁ (right_derived next₁ (derive (places_of room₁) letter y (store_in room₁ taken) left)) both room₂
        → BothComeRoom room (derive_both cap letter x y store budget) both room₂
    unfolding derive_both
    then_second k =
        let s = stood in
        let same-cap : places_of room₁ ≡ cap = ap places_of s.room_is ∙ places_after room s.kept in
        let k₂ = rw (same-cap, store_then good s) at k in
        let is : left_derived cap letter y (derive cap letter x store budget) ≡ onward = ap (left_derived cap letter y) s.is in
        rw is
        (record {
          answers = k₂.answers;
          leaves = k₂.leaves ∙ ap (laid (after_both onward)) s.room_is ∙ laid_laid s.store (after_both onward) room onward_longer;
        })

-- Both places were derived from the store of a room: the store that then stands in it.
pub record StandsBoth (room : List ℕ) (places budget : ℕ) (d : DerivingBoth) (x y taken left : ℕ) (room' : List ℕ) : Type 0 where
  pub store : List Record
  pub is : d ≡ both_derived x y store left
  pub taken_is : taken ≡ length store
  pub room_is : room' ≡ laid store room
  pub kept : Kept (places_of room) (store_in room places) store
  pub x_inside : x < length store
  pub y_inside : y < length store
  pub spent : left ≤ budget

-- One derivation was stopped.
pub record StoppedOne (room : List ℕ) (places budget : ℕ) (d : DerivingBoth) (number taken left : ℕ) (room' : List ℕ) : Type 0 where
  pub store : List Record
  pub is : d ≡ one_stopped number store left
  pub taken_is : taken ≡ length store
  pub room_is : room' ≡ laid store room
  pub kept : Kept (places_of room) (store_in room places) store
  pub spent : left ≤ budget

not_both_told : {answer : Both} {x y taken left number taken' left' : ℕ} → answer ≡ BothAt x y taken left → answer ≡ OneStopped number taken' left' → ⊥
not_both_told e f = let z : ◌≡◌ {A = ℕ} 0 1 = cc in omega arith

module _ {room : List ℕ} {places : ℕ} (good : GoodStore room places) (letter : ℕ) (byte : IsByte letter) (x y : ℕ) (inside : (x < places) × (y < places)) (budget : ℕ)
    {answer : Both} {room' : List ℕ} (c : BothComeRoom room (derive_both (places_of room) letter x y (store_in room places) budget) answer room') where
  abbrev whole : DerivingBoth
  whole = derive_both (places_of room) letter x y (store_in room places) budget

  whole_keeps : KeepsBoth (places_of room) (store_in room places) budget whole
  whole_keeps = both_keeps letter byte (places_of room) (store_in room places) budget x y (in_store room inside.0) (in_store room inside.1) (room_ready good)

  pub both_stand : {x₁ y₁ taken left : ℕ} → answer ≡ BothAt x₁ y₁ taken left → StandsBoth room places budget whole x₁ y₁ taken left room'
  both_stand {x₁} {y₁} {taken} {left} e = go whole_keeps c
    where
      go : {d : DerivingBoth} → KeepsBoth (places_of room) (store_in room places) budget d → BothComeRoom room d answer room'
          → StandsBoth room places budget d x₁ y₁ taken left room'
      go (derives_both {x = x₂} {y = y₂} {store'} {left = left₂} k l m n) w =
          let a = w.answers in
          let i : x₁ ≡ x₂ = cc in
          let j : y₁ ≡ y₂ = cc in
          let h : left ≡ left₂ = cc in
          record { store = store'; is = rw (i, j, h); taken_is = cc; room_is = w.leaves; kept = k; x_inside = rw i l; y_inside = rw j m; spent = rw h n }
      go (stops_one k n) w = absurd (not_both_told e w.answers)

  pub one_stands : {number taken left : ℕ} → answer ≡ OneStopped number taken left → StoppedOne room places budget whole number taken left room'
  one_stands {number} {taken} {left} e = go whole_keeps c
    where
      go : {d : DerivingBoth} → KeepsBoth (places_of room) (store_in room places) budget d → BothComeRoom room d answer room'
          → StoppedOne room places budget d number taken left room'
      go (derives_both k l m n) w = absurd (not_both_told w.answers e)
      go (stops_one {number = number₂} {store'} {left = left₂} k n) w =
          let a = w.answers in
          let i : number ≡ number₂ = cc in
          let h : left ≡ left₂ = cc in
          record { store = store'; is = rw (i, h); taken_is = cc; room_is = w.leaves; kept = k; spent = rw h n }
