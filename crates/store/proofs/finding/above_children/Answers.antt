-- The first place at which the record obeys the kind table: the higher of the first places for its left and for its right field.
use Prim.Native.Nat.{ℕ, ◌≤◌}
use mathlib.Core.Path.{◌≡◌, sym, ◌∙◌, ap, subst}
use Rattle.std.specs.Prelude.{max}
use Rattle.std.proofs.Math.Nat.{le-max_left, le-max_right, max-le}
use Rattle.records.specs.declared.kind.Kind.{Kind}
use Rattle.records.specs.declared.kind.Columns.{Columns}
use Rattle.records.specs.declared.record.Record.{Record}
use Rattle.records.specs.Kind.{kind_of, columns}
use Rattle.cards.specs.Standing.{ChildField, LineOf, Obeys}
use Rattle.cards.proofs.Laws.Line.{field_higher}
use Rattle.store.proofs.finding.above_children.Goals as goal

module _ (r : Record) {k : Kind} (is : k ≡ kind_of r.kind) {line : Columns} (has : line ≡ columns k)
    {left right n : ℕ} (left_first : (k : ℕ) → ChildField line.left k r.left → (left ≤ k) × ChildField line.left left r.left)
    (right_first : (k : ℕ) → ChildField line.right k r.right → (right ≤ k) × ChildField line.right right r.right)
    (higher : n ≡ max left right) where
  line-is : line ≡ columns (kind_of r.kind)
  line-is = has ∙ ap columns is

  first : (at : ℕ) → Obeys at r → (n ≤ at) × Obeys n r
  first at o =
      let l = subst (λ (c : Columns). LineOf c at r) (sym line-is) o.line in
      let a = left_first at l.left in
      let b = right_first at l.right in
      let left_below : left ≤ n = rw higher (le-max_left left right) in
      let right_below : right ≤ n = rw higher (le-max_right left right) in (
        rw higher (max-le a.0 b.0),
        record {
          fourth = o.fourth;
          line =
              subst (λ (c : Columns). LineOf c n r) line-is
              (record {
                known = l.known;
                letter = l.letter;
                left = field_higher line.left left n r.left left_below a.1;
                right = field_higher line.right right n r.right right_below b.1;
              });
        },
      )

pub returns : goal.returns
returns c =
    first c.args.r
    c.from.ensures
    c.columns_of-line.ensures
    c.above_child.ensures
    c.above_child-2.ensures
    c.higher.ensures
