-- `make` answers as the definition does: by the rule's place where the rule gives one, by using or writing the new record where it stays
-- one, and by the set of both where two are merged.
use Prim.Native.Nat.{ℕ}
use mathlib.Core.List.{List}
use mathlib.Core.Path.{◌≡◌, sym, ◌∙◌, ap, subst}
use Rattle.records.specs.declared.kind.Kind.{Kind}
use Rattle.records.specs.declared.record.Record.{Record}
use Rattle.records.specs.Kind.{kind_of}
use Rattle.std.specs.declared.result.Result.{Result}
use Rattle.std.specs.declared.result.Result.TheVariants.{Ok}
use Rattle.refusals.specs.declared.refusal.Refusal.{Refusal}
use Rattle.store.specs.declared.making.Ruled.{Ruled}
use Rattle.store.specs.declared.making.Ruled.TheVariants.{Gives, Stays, Merges}
use Rattle.store.specs.Room.{store_in, places_of}
use Rattle.store.specs.Making.{Making, rule, new_record, by_rule, intern, set_of_both, make}
use Rattle.store.specs.Told.{Makes}
use Rattle.store.specs.Good.{SetKind, GoodStore}
use Rattle.store.proofs.Laws.MergingRoom.{tells_placed}
use Rattle.store.proofs.Laws.Rules.{merged_kind}
use Rattle.store.proofs.making.make.Goals as goal

-- The kind that was named, and what the rule said of it.
module _ (room : List ℕ) (places kind letter left right : ℕ) {k : Kind} (is : k ≡ kind_of kind) {ruled : Ruled} (e : ruled ≡ rule k left right) where
  abbrev new : Record
  new = new_record (store_in room places) kind letter left right

  abbrev whole : Making
  whole = make (places_of room) (store_in room places) kind letter left right

  by-ruled : {s : Ruled} → ruled ≡ s → whole ≡ by_rule s (places_of room) (store_in room places) new
  unfolding make
  by-ruled f =
      ap (λ (s : Ruled). by_rule s (places_of room) (store_in room places) new)
      (ap (λ (k : Kind). rule k left right) (sym is) ∙ sym e ∙ f)

  told-given : GoodStore room places → {place : ℕ} → ruled ≡ Gives place → Makes room whole (Ok place) room places
  told-given good f = tells_placed good (by-ruled f)

  told-interned : ruled ≡ Stays → {r : Record} → r ≡ new → {made : Result ℕ Refusal} {exit : List ℕ} {taken : ℕ}
      → Makes room (intern (places_of room) (store_in room places) r) made exit taken → Makes room whole made exit taken
  told-interned f g {made} {exit} {taken} t =
      subst (λ (m : Making). Makes room m made exit taken)
      (ap (intern (places_of room) (store_in room places)) g ∙ sym (by-ruled f))
      t

  told-merged : ruled ≡ Merges → {made : Result ℕ Refusal} {exit : List ℕ} {taken : ℕ}
      → Makes room (set_of_both (places_of room) kind (store_in room places) left right) made exit taken → Makes room whole made exit taken
  told-merged f t = rw (by-ruled f) t

  merges-sets : ruled ≡ Merges → SetKind kind
  merges-sets f = merged_kind kind left right (ap (λ (k : Kind). rule k left right) (sym is) ∙ sym e ∙ f)

pub set_of_both-requires : goal.set_of_both-requires
set_of_both-requires c =
    let a = c.args in record {
      good_store = c.requires.good_store;
      sets_stand = c.requires.children_stand;
      set_kind = merges-sets a.room.now a.places.now a.kind a.letter a.left a.right
          c.from.ensures
          c.rule.ensures
          c.in-Merges.is;
    }

pub returns-in-Gives : goal.returns-in-Gives
returns-in-Gives c =
    let a = c.args in
    told-given a.room.now a.places.now a.kind a.letter a.left a.right
    c.from.ensures
    c.rule.ensures
    c.requires.good_store
    c.in-Gives.is

pub returns-in-Stays : goal.returns-in-Stays
returns-in-Stays c =
    let a = c.args in
    told-interned a.room.now a.places.now a.kind a.letter a.left a.right
    c.from.ensures
    c.rule.ensures
    c.in-Stays.is
    c.new_record-r.ensures
    c.intern.ensures

pub returns-in-Merges : goal.returns-in-Merges
returns-in-Merges c =
    let a = c.args in
    told-merged a.room.now a.places.now a.kind a.letter a.left a.right
    c.from.ensures
    c.rule.ensures
    c.in-Merges.is
    c.set_of_both.ensures
