-- `marked_at` reads the record where there is one; past the last the definition reads a record of zeros.
use Prim.Native.Nat.{◌<◌, ◌≤◌, ◌/◌}
use native.Mathlib.Omega.{arith}
use lib.ListN.{length}
use Rattle.records.specs.Laws.Record.{record_at_place, past_records}
use Rattle.cards.proofs.examine.marked_at.Goals as goal

pub returns-then-at-card : goal.returns-then-at-card
returns-then-at-card c =
    let a = c.args in
    let l : a.at < length a.card.now / 8 = omega arith in
    rw (c.read-r.ensures, record_at_place a.card.now a.at l)

pub returns-else-at-card : goal.returns-else-at-card
returns-else-at-card c =
    let a = c.args in
    let l : length a.card.now / 8 ≤ a.at = omega arith in
    rw (past_records a.card.now a.at l)
