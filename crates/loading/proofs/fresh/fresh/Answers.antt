-- `fresh` writes the two records one behind the other from the start of the room, which is the fresh store laid in it.
use Prim.Native.Nat.{ℕ}
use mathlib.Core.List.{List, ◌++◌}
use mathlib.Core.Path.{◌≡◌, refl, ◌∙◌}
use lib.ListN.{take, drop}
use lib.Seq.{drop-drop}
use Rattle.records.specs.Record.{bytes_of, run_of}
use Rattle.store.specs.Room.{laid, nothing_record, empty_word_record, fresh_store}
use Rattle.loading.proofs.fresh.fresh.Goals as goal

-- The room after the first record, and after the second.
as-laid : (room : List ℕ) {first second : List ℕ} → first ≡ bytes_of nothing_record ++ drop 8 room
    → second ≡ take 8 first ++ (bytes_of empty_word_record ++ drop 16 first) → second ≡ laid fresh_store room
unfolding run_of
as-laid room e f = f ∙ rw (e, drop-drop 8 8 room) refl

pub returns-clause-room_after : goal.returns-clause-room_after
returns-clause-room_after c = as-laid c.args.room.now c.write_item.ensures.written c.write_item-2.ensures.written
