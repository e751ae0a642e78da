-- `put_before` answers as the definition does: by the member alone, or by using or writing the record of both.
use Prim.Native.Nat.{ℕ}
use native.Mathlib.Omega.{arith}
use mathlib.Core.List.{List}
use mathlib.Core.Path.{◌≡◌, sym, ◌∙◌, ap, subst}
use Rattle.records.specs.declared.record.Record.{Record}
use Rattle.std.specs.declared.result.Result.{Result}
use Rattle.std.specs.declared.result.Result.TheVariants.{Ok}
use Rattle.refusals.specs.declared.refusal.Refusal.{Refusal}
use Rattle.store.specs.Room.{store_in, places_of}
use Rattle.store.specs.Making.{Making, placed, new_record, intern, put_before}
use Rattle.store.specs.Told.{Makes}
use Rattle.store.specs.Good.{GoodStore}
use Rattle.store.proofs.Laws.Choosing.{put_before_some}
use Rattle.store.proofs.Laws.MergingRoom.{tells_placed}
use Rattle.store.proofs.merging.put_before.Goals as goal

module _ (room : List ℕ) (places kind member rest : ℕ) where
  abbrev whole : Making
  whole = put_before (places_of room) kind member (placed rest (store_in room places))

  told-alone : GoodStore room places → rest ≡ 0 → Makes room whole (Ok member) room places
  told-alone good e = tells_placed good (ap (λ (n : ℕ). put_before (places_of room) kind member (placed n (store_in room places))) e)

  told-record : (rest ≡ 0 → ⊥) → {r : Record} → r ≡ new_record (store_in room places) kind 0 member rest
      → {made : Result ℕ Refusal} {exit : List ℕ} {taken : ℕ}
      → Makes room (intern (places_of room) (store_in room places) r) made exit taken → Makes room whole made exit taken
  told-record n e {made} {exit} {taken} t =
      subst (λ (m : Making). Makes room m made exit taken)
      (ap (intern (places_of room) (store_in room places)) e
      ∙ sym (put_before_some (places_of room) kind member rest (store_in room places) (omega (arith, n))))
      t

pub returns-then-rest-eq-NOTHING_PLACE : goal.returns-then-rest-eq-NOTHING_PLACE
returns-then-rest-eq-NOTHING_PLACE c =
    let a = c.args in
    told-alone a.room.now a.places.now a.kind a.member a.rest c.requires.good_store c.if-rest-eq-NOTHING_PLACE.true

pub returns : goal.returns
returns c =
    let a = c.args in
    told-record a.room.now a.places.now a.kind a.member a.rest
    c.if-rest-eq-NOTHING_PLACE.false
    c.new_record-r.ensures
    c.intern.ensures
