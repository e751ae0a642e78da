-- `begin` lays the fresh store, which is good in a legal room.
use Rattle.std.proofs.Common.{◌∙◌, ap₂}
use Rattle.language.proofs.Laws.Words.{bytes_all}
use Rattle.store.specs.Room.{store_in, fresh_store}
use Rattle.store.proofs.Laws.Room.{store_of_laid}
use Rattle.store.proofs.Laws.LegalRoom.{legal_room}
use Rattle.loading.proofs.Laws.FreshRoom.{lent_fresh}
use Rattle.loading.proofs.beginning.begin.Goals as goal

pub invariant_of-result : goal.invariant_of-result
invariant_of-result c =
    record {
      good = lent_fresh c.args.room.now (bytes_all c.args.room.now (λ i. (c.slice_known-1.given i).fits)) (legal_room _ c.requires)
          c.fresh-places.ensures.room_after
          c.fresh-places.ensures.value;
    }

pub returns-clause-begun : goal.returns-clause-begun
returns-clause-begun c =
    record {
      fresh = ap₂ store_in c.fresh-places.ensures.room_after c.fresh-places.ensures.value ∙ store_of_laid fresh_store c.args.room.now;
    }
