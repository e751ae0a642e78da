-- The visits of the derivative of a place, with no budget in them. Document 01: "The derivative visits a record before its children
-- and never visits a child that the rule does not need"; "shared records are visited again".
use Rattle.std.specs.Prelude.{ℕ, ◌+◌, Bool, false, cond, List, length, get_or}
use Rattle.records.specs.declared.kind.Kind.{Kind}
use Rattle.records.specs.declared.kind.Kind.TheVariants.{Nothing, EmptyWord, Letter, Choice, Sequence, Repeat, Unknown}
use Rattle.records.specs.declared.record.Record.{Record}
use Rattle.cards.specs.InOrder.{in_order}
use Rattle.records.specs.Kind.{kind_of}
use Rattle.cards.specs.Mark.{marked}
use Rattle.derivative.specs.Derivative.{price}

-- A record's visits, and whether its mark says yes.
pub record Counted : Type 0 where
  pub visits : ℕ
  pub says : Bool

-- The visits to the children that the rule needs.
abbrev pub child_visits : Kind → Counted → Counted → ℕ
child_visits Nothing left right = 0
child_visits EmptyWord left right = 0
child_visits Letter left right = 0
child_visits Choice left right = left.visits + right.visits
child_visits Sequence left right = left.visits + cond left.says right.visits 0
child_visits Repeat left right = left.visits
child_visits Unknown left right = 0

abbrev pub not_counted : Counted
not_counted = record { visits = 0; says = false }

abbrev pub counted_at : List Counted → ℕ → Counted
counted_at before at = get_or before at not_counted

-- A record's visits, over those of the records before it: the visit to itself, at its own place, and those to its children.
abbrev pub record_visits : List Counted → Record → Counted
record_visits before r =
    record {
      visits = price (length before) + child_visits (kind_of r.kind) (counted_at before r.left) (counted_at before r.right);
      says = marked r;
    }

-- The visits of the derivative of a place.
abbrev pub visits : List Record → ℕ → ℕ
visits store place = (counted_at (in_order record_visits store) place).visits
