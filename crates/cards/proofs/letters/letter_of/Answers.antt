-- `letter_of` joins the letter column of the kind's line with the test of the letter.
use Rattle.cards.proofs.letters.letter_of.Goals as goal

pub returns : goal.returns
returns c = rw c.columns_of-line.ensures
