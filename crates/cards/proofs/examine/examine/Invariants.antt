-- `examine` tells the first refusal: the records passed are in good standing, so what the definition says of the whole card is
-- what it says of the records from `at` on.
use mathlib.Core.Path.{◌≡◌}
use Rattle.cards.specs.Examine.{examined}
use Rattle.cards.proofs.Laws.Examine.{standing_from}
use Rattle.cards.proofs.examine.examine.Given as goal

abbrev pub invariant-loop-at : goal.invariant-loop-at
invariant-loop-at l = examined l.most l.card ≡ standing_from l.card l.at
