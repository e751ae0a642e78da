-- A value for each record of a list, in order: each record's from the values of the records before it. A child's number is lower than
-- its parent's, so a record's value can be made from its children's.
use mathlib.Core.List.{List, [], ◌∷◌, ◌++◌}
use Rattle.records.specs.declared.record.Record.{Record}

module _ {A : Type 0} (value : List A → Record → A) where
  -- The values before, and then those of these records.
  unfoldable pub in_order_after : List A → List Record → List A
  in_order_after before [] = before
  in_order_after before (r ∷ rest) = in_order_after (before ++ value before r ∷ []) rest

  -- The values of a list of records.
  unfoldable pub in_order : List Record → List A
  unfolding in_order_after
  in_order rs = in_order_after [] rs
