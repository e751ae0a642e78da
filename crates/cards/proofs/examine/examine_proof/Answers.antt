-- A proof card is examined with its own limit.
use Rattle.cards.specs.Examine.{proof_card}
use Rattle.cards.proofs.examine.examine_proof.Goals as goal

pub returns : goal.returns
unfolding proof_card
returns c = c.examine.ensures
