-- Loading a card. Document 01: "Loading a card makes its records in order."
use Rattle.std.specs.Prelude.{ℕ, ◌-◌, Bool, cond, List, [], ◌∷◌, ◌++◌, length, get_or}
use Rattle.records.specs.declared.record.Record.{Record}
use Rattle.records.specs.Kind.{kind_of, columns}
use Rattle.store.specs.Making.{Making, placed, full, make}

-- What loading comes to: the place of each record of the card and the store afterwards, or a full room and the store as it stands.
pub data Loading : Type 0 where
  loaded : (places : List ℕ) (store : List Record) → Loading
  no_room : (store : List Record) → Loading

-- The place where a field's child was loaded; a field that names no child stays 0.
abbrev pub child_place : Bool → List ℕ → ℕ → ℕ
child_place child places field = cond child (get_or places field 0) 0

-- The places where a record's children were loaded, those before it being loaded at these places.
abbrev pub left_place : List ℕ → Record → ℕ
left_place places r = child_place (columns (kind_of r.kind)).left places r.left

abbrev pub right_place : List ℕ → Record → ℕ
right_place places r = child_place (columns (kind_of r.kind)).right places r.right

-- Making a card's record, its children being loaded at these places.
abbrev pub make_loaded : ℕ → List Record → List ℕ → Record → Making
make_loaded room store places r = make room store r.kind r.letter (left_place places r) (right_place places r)

-- The records of a card in order, those before them being loaded at these places.
unfoldable pub load_after : ℕ → List Record → List ℕ → List Record → Loading
load_after room store places [] = loaded places store
load_after room store places (r ∷ rest) =
    elim (make_loaded room store places r) [
      | placed place store' ↦ load_after room store' (places ++ place ∷ []) rest
      | full store' ↦ no_room store'
    ]

unfoldable pub load : ℕ → List Record → List Record → Loading
unfolding load_after
load room store card = load_after room store [] card

-- The store afterwards.
abbrev pub after_loading : Loading → List Record
after_loading (loaded places store) = store
after_loading (no_room store) = store

-- The place of a card's root, the last record, of the places of its records.
abbrev pub root : List ℕ → ℕ
root places = get_or places (length places - 1) 0
