-- `mentioned` asks each card, and each answers by its own letter records.
use mathlib.Core.Path.{ap₂}
use mathlib.Core.Bool.{◌||◌}
use Rattle.pairs.proofs.letters.mentioned.Goals as goal

pub returns : goal.returns
returns c = ap₂ ◌||◌ c.mentions.ensures c.mentions-2.ensures
