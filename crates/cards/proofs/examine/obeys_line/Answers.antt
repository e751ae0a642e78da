-- `obeys_line` joins the tests of the line's fields.
use Rattle.cards.proofs.examine.obeys_line.Goals as goal

pub returns : goal.returns
returns c = rw (c.child_field-2.ensures, c.child_field.ensures, c.letter_field.ensures)
