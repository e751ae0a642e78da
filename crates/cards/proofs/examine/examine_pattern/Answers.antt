-- A pattern card is examined with its own limit.
use Rattle.cards.specs.Examine.{pattern_card}
use Rattle.cards.proofs.examine.examine_pattern.Goals as goal

pub returns : goal.returns
unfolding pattern_card
returns c = c.examine.ensures
