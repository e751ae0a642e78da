-- No pair stands in the room that is lent.
use Rattle.language.proofs.Laws.Words.{bytes_all}
use Rattle.pairs.specs.Laws.Room.{none_stand}
use Rattle.searching.proofs.table.Table.empty.Goals as goal

pub invariant_of-result : goal.invariant_of-result
invariant_of-result c = record { good = record { stands = none_stand (bytes_all c.args.room.now (λ i. (c.items_fit i).fits)); short = c.requires } }
