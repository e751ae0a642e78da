-- `obeys` joins the two tests of the definition: the fourth byte, and the line of the record's kind.
use Rattle.cards.proofs.examine.obeys.Goals as goal

pub returns : goal.returns
returns c = rw (c.obeys_line.ensures, c.columns_of.ensures, c.from.ensures)
