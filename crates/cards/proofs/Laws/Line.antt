-- The kind table, field by field: a child stands lower than its parent, and a field that names no child is 0. What depends only on which
-- fields a kind has is said here, of a field, and holds of every kind.
use Rattle.std.specs.Prelude.{ℕ, ◌<◌, ◌≤◌, Bool, true, false, cond, ◌&&◌, ◌⊎◌, ◌≡◌, refl}
use Rattle.std.proofs.Common.{arith, inl, inr, subst, eqb-true, eq-eqb, ltb-true, lt-ltb}
use Rattle.language.proofs.Laws.Tests.{Tells, and_left, and_right, and_both}
use Rattle.records.specs.declared.kind.Columns.{Columns}
use Rattle.records.specs.declared.record.Record.{Record}
use Rattle.records.specs.Laws.Kind.{known_number}
use Rattle.cards.specs.Examine.{letter_field, child_field, obeys_line}
use Rattle.cards.specs.Standing.{LetterField, ChildField, LineOf, Line}

-- A field.

-- The test of a field tells whether the field is right.
letter_field_right : (any : Bool) (letter : ℕ) → Tells (letter_field any letter) (LetterField any letter)
letter_field_right true letter = record { sound = λ _. tt; complete = λ _. refl }
letter_field_right false letter = record { sound = eqb-true letter 0; complete = eq-eqb letter 0 }

child_field_right : (child : Bool) (at field : ℕ) → Tells (child_field child at field) (ChildField child at field)
child_field_right true at field = record { sound = ltb-true field at; complete = lt-ltb field at }
child_field_right false at field = record { sound = eqb-true field 0; complete = eq-eqb field 0 }

-- A field names a lower record, or else is 0.
pub lower_field : (child : Bool) (at field : ℕ) → ChildField child at field → (field < at) ⊎ (field ≡ 0)
lower_field true at field h = inl h
lower_field false at field h = inr h

-- A field is right in every higher record too.
pub field_higher : (child : Bool) (at higher field : ℕ) → at ≤ higher → ChildField child at field → ChildField child higher field
field_higher true at higher field l h = omega arith
field_higher false at higher field l h = h

-- The children put elsewhere: a child's field gets the number that it is put to, any other field 0. Such a field is right again where
-- every lower record is put low enough ..
pub field_put : (child : Bool) (at higher field : ℕ) (to : ℕ → ℕ) → ((i : ℕ) → i < at → to i < higher)
    → ChildField child at field → ChildField child higher (cond child (to field) 0)
field_put true at higher field to lower h = lower field h
field_put false at higher field to lower h = refl

-- .. it is one number where two ways agree on the lower records ..
pub field_same : (child : Bool) (at field : ℕ) (to other : ℕ → ℕ) → ((i : ℕ) → i < at → to i ≡ other i)
    → ChildField child at field → cond child (to field) 0 ≡ cond child (other field) 0
field_same true at field to other same h = same field h
field_same false at field to other same h = refl

-- .. and it is the field itself where its child stays.
pub field_own : (child : Bool) (at field : ℕ) → ChildField child at field → cond child field 0 ≡ field
field_own true at field h = refl
field_own false at field h = rw h

-- A line.

-- The test of a line tells whether the record obeys it.
pub line_right : (line : Columns) (at : ℕ) (r : Record) → Tells (obeys_line line at r) (LineOf line at r)
line_right line at r =
    let a = line.known in
    let b = letter_field line.letter r.letter in
    let c = child_field line.left at r.left in
    let d = child_field line.right at r.right in
    let letter = letter_field_right line.letter r.letter in
    let left = child_field_right line.left at r.left in
    let right = child_field_right line.right at r.right in
    record {
      sound = λ t.
          let two = and_left (a && b && c) d t in
          let one = and_left (a && b) c two in
          record {
            known = and_left a b one;
            letter = letter.sound (and_right a b one);
            left = left.sound (and_right (a && b) c two);
            right = right.sound (and_right (a && b && c) d t);
          };
      complete = λ o.
          and_both (and_both (and_both o.known (letter.complete o.letter)) (left.complete o.left)) (right.complete o.right);
    }

module _ {line : Columns} {at : ℕ} {r : Record} (o : LineOf line at r) where
  -- A child's number is lower.
  pub left_child : line.left ≡ true → r.left < at
  left_child e = subst (λ (child : Bool). ChildField child at r.left) e o.left

  pub right_child : line.right ≡ true → r.right < at
  right_child e = subst (λ (child : Bool). ChildField child at r.right) e o.right

  -- Whatever the line: lower, or else 0.
  pub lower_left : (r.left < at) ⊎ (r.left ≡ 0)
  lower_left = lower_field line.left at r.left o.left

  pub lower_right : (r.right < at) ⊎ (r.right ≡ 0)
  lower_right = lower_field line.right at r.right o.right

-- The kind of a record that obeys the table is a byte.
pub line_kind : {at : ℕ} {r : Record} → Line at r → r.kind < 256
line_kind {r = r} o = omega (arith, known_number r.kind o.known)
