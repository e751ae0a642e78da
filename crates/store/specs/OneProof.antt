-- A good store is good in one way: what says so has one proof at most, and so can be a fact of what a call works with.
use Rattle.std.specs.Prelude.{ℕ, Bool, true, false, List, [], ◌∷◌, ◌≡◌}
use Rattle.std.specs.Coded.{le_prop, Unit-prop}
use Rattle.std.proofs.Props.{props}
use Rattle.std.proofs.Common.{refl, ap₂}
use native.Mathlib.Nat.{ℕ_set}
use mathlib.Core.Bool.{Bool-set}
use Rattle.language.specs.Word.{none as no_letter, one as one_letter, Bytes}
use Rattle.records.specs.declared.record.Record.{Record}
use Rattle.records.specs.Record.{child}
use Rattle.cards.specs.Standing.{LetterField, ChildField}
use Rattle.store.specs.Making.{is_kind}
use Rattle.store.specs.Good.{Set, none, member, GoodStore}

pub bytes_prop : (w : List ℕ) → IsProp (Bytes w)
bytes_prop [] no_letter no_letter = refl
bytes_prop (c ∷ w) (one_letter p o) (one_letter q r) = ap₂ one_letter (le_prop p q) (bytes_prop w o r)

letter_prop : (b : Bool) (letter : ℕ) → IsProp (LetterField b letter)
letter_prop true letter = Unit-prop
letter_prop false letter = ℕ_set letter 0

child_prop : (b : Bool) (at field : ℕ) → IsProp (ChildField b at field)
child_prop true at field = le_prop
child_prop false at field = ℕ_set field 0

set_prop : (kind : ℕ) (store : List Record) (low : ℕ) (ms : List ℕ) → IsProp (Set kind store low ms)
set_prop kind store low [] none none = refl
set_prop kind store low (m ∷ ms) (member a b c s) (member d e f t) =
    let p : a ≡ d = le_prop a d in
    let q : b ≡ e = le_prop b e in
    let r : c ≡ f = Bool-set (is_kind kind (child store m)) false c f in
    let u : s ≡ t = set_prop kind store m ms s t in
    rw (p, q, r, u) refl

pub good_store_prop : (room : List ℕ) (places : ℕ) → IsProp (GoodStore room places)
good_store_prop room places = Prim.hlevel (bytes_prop, letter_prop, child_prop, set_prop, props)
