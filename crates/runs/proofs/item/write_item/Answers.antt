-- `write_item` lays the item in the part of the room that starts behind the items counted, and it is read back from there.
use Rattle.std.proofs.Common.{ℕ, List, ◌*◌, ◌≤◌, ◌≡◌, ◌++◌, length, take, drop, ap, ◌∙◌, arith, drop_at, length-take-le}
use Rattle.runs.specs.Runs.{item_at}
use Rattle.runs.specs.Laws.Bytes.{put_in_part}
use Rattle.runs.proofs.item.write_item.Goals as goal

-- What stands behind so many bytes of a room, where they stay.
behind : (n : ℕ) (room rest : List ℕ) → n ≤ length room → drop n (take n room ++ rest) ≡ rest
behind n room rest l = drop_at (take n room) rest n (length-take-le n room l)

pub returns-clause-written : goal.returns-clause-written
returns-clause-written g c =
    let a = c.args in
    put_in_part 8 (8 * a.count) a.room.now (g.T.Item.bytes_of a.item) c.lay.ensures

pub returns-clause-reads_back : goal.returns-clause-reads_back
returns-clause-reads_back g c =
    let a = c.args in
    let t = g.T.Item in
    ap (λ s. item_at 8 t.item_of s a.count) (put_in_part 8 (8 * a.count) a.room.now (t.bytes_of a.item) c.lay.ensures)
    ∙ ap t.item_of (behind (8 * a.count) a.room.now _ (omega arith))
    ∙ g.met.T.Item.back a.item _
