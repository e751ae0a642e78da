-- `place` writes the pair behind the table, so the room is the table with the pair at its end.
use mathlib.Core.Path.{◌∙◌}
use Rattle.pairs.specs.Laws.Room.{pair_behind}
use Rattle.pairs.proofs.table.place.Goals as goal

pub returns : goal.returns
returns c = c.write_item.ensures.written ∙ pair_behind c.requires.table_stands c.args.p
