-- `mentions` finds a letter record of the letter if there is one: the records passed have none, so what the definition says of the
-- whole card is what it says of the records from `at` on.
use mathlib.Core.Path.{◌≡◌}
use lib.ListN.{drop}
use Rattle.records.specs.Record.{records}
use Rattle.cards.specs.Letters.{mentions}
use Rattle.cards.proofs.letters.mentions.Given as goal

abbrev pub invariant-loop-at : goal.invariant-loop-at
invariant-loop-at l = mentions (records l.card) l.letter ≡ mentions (drop l.at (records l.card)) l.letter
