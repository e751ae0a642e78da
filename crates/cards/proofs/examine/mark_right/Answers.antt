-- `mark_right` compares the mark with the one that the children's marks give.
use Rattle.cards.proofs.examine.mark_right.Goals as goal

pub returns : goal.returns
returns c =
    rw (
      c.same_mark.ensures,
      c.as_mark.ensures,
      c.has_empty.ensures,
      c.from.ensures,
      c.marked_at-right.ensures,
      c.marked_at-left.ensures,
    )
