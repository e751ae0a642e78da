-- `write` writes the record behind the store, so the room is the store with the record at its end.
use mathlib.Core.Path.{◌∙◌}
use Rattle.store.proofs.Laws.Room.{record_behind}
use Rattle.store.proofs.writing.write.Goals as goal

pub returns : goal.returns
returns c =
    let good = c.requires.good_store in
    c.write_item.ensures.written ∙ record_behind c.args.places good.fits good.bytes c.args.r
