-- `intern` answers as the definition does, by what was found and by whether a place is free; where nothing was written the room has
-- its store as it was.
use Prim.Native.Nat.{ℕ, ◌+◌, ◌<◌, ◌≤◌}
use native.Mathlib.Omega.{arith}
use mathlib.Core.List.{List, [], ◌∷◌, ◌++◌}
use mathlib.Core.Path.{◌≡◌, refl, sym, ◌∙◌, ap}
use lib.ListN.{length, length-append}
use borrow.Author.Tests.{lt-ltb, le-ltb}
use Rattle.records.specs.declared.record.Record.{Record}
use Rattle.records.specs.Laws.Record.{length_first}
use Rattle.std.specs.declared.option.Option.{Option}
use Rattle.std.specs.declared.option.Option.TheVariants.{Some, None}
use Rattle.std.specs.declared.result.Result.TheVariants.{Ok, Err}
use Rattle.refusals.specs.declared.refusal.Refusal.TheVariants.{NoFreePlace}
use Rattle.store.specs.Room.{store_in, places_of, laid}
use Rattle.store.specs.Making.{find, use_or_write, intern}
use Rattle.store.specs.Told.{Makes}
use Rattle.store.specs.Good.{GoodStore}
use Rattle.store.proofs.Laws.Room.{laid_same}
use Rattle.store.proofs.Laws.MergingRoom.{tells_placed}
use Rattle.store.proofs.interning.intern.Goals as goal

module _ (room : List ℕ) (places : ℕ) (r : Record) (good : GoodStore room places) {found : Option ℕ} (is : found ≡ find (store_in room places) r) where
  by-found : {f : Option ℕ} → found ≡ f → intern (places_of room) (store_in room places) r ≡ use_or_write (places_of room) (store_in room places) r f
  unfolding intern
  by-found e = ap (use_or_write (places_of room) (store_in room places) r) (sym is ∙ e)

  told-found : {place : ℕ} → found ≡ Some place → Makes room (intern (places_of room) (store_in room places) r) (Ok place) room places
  told-found e = tells_placed good (by-found e)

  told_written : found ≡ None → places < places_of room → {exit : List ℕ} → exit ≡ laid (store_in room places ++ r ∷ []) room
      → Makes room (intern (places_of room) (store_in room places) r) (Ok places) exit (places + 1)
  told_written e l w =
      let free : length (store_in room places) < places_of room = omega (arith, length_first places room) in
      rw (by-found e, lt-ltb (length (store_in room places)) (places_of room) free)
      (record { answers = ap Ok (sym (length_first places room)); taken = simp (length-append, length_first); leaves = w })

  told-full : found ≡ None → places_of room ≤ places → Makes room (intern (places_of room) (store_in room places) r) (Err NoFreePlace) room places
  told-full e l =
      let taken : places_of room ≤ length (store_in room places) = omega (arith, length_first places room) in
      rw (by-found e, le-ltb (length (store_in room places)) (places_of room) taken)
      (record { answers = refl; taken = sym (length_first places room); leaves = sym (laid_same places room good.fits good.bytes) })

pub returns-in-Some : goal.returns-in-Some
returns-in-Some c =
    let a = c.args in
    told-found a.room.now a.places.now a.r c.requires
    c.find.ensures
    c.in-Some.is

pub returns-then-place-room : goal.returns-then-place-room
returns-then-place-room c =
    let a = c.args in
    told_written a.room.now a.places.now a.r c.requires
    c.find.ensures
    c.in_default.is
    c.if-place-room.true
    c.write.ensures

pub returns : goal.returns
returns c =
    let a = c.args in
    told-full a.room.now a.places.now a.r c.requires
    c.find.ensures
    c.in_default.is
    (omega arith)
