-- `read` takes the 8 bytes of the record at its place, which are the bytes of the run from there on.
use Prim.Native.Nat.{ℕ, ◌+◌, ◌*◌}
use mathlib.Core.List.{List}
use mathlib.Core.Path.{◌≡◌}
use lib.ListN.{get_or}
use lib.Seq.{get_or-drop}
use native.Mathlib.Nat.{add-zero}
use Rattle.records.specs.Record.{record_at}
use Rattle.records.specs.declared.record.Record.{Record}
use Rattle.records.proofs.record.RecordItem.read.Goals as goal

-- The bytes read one by one, and the two numbers joined of two bytes each, are the fields of the record at the place.
as-record : (s : List ℕ) (at : ℕ) {l r : ℕ}
    → l ≡ get_or s (8 * at + 4) 0 + 256 * get_or s (8 * at + 5) 0
    → r ≡ get_or s (8 * at + 6) 0 + 256 * get_or s (8 * at + 7) 0
    → ◌≡◌ {A = Record}
    (record { kind = get_or s (8 * at) 0; letter = get_or s (8 * at + 1) 0; mark = get_or s (8 * at + 2) 0; fourth = get_or s (8 * at + 3) 0; left = l; right = r })
    (record_at s at)
as-record s at {l} {r} e f = rw (e, f) (simp (get_or-drop, add-zero))

pub returns : goal.returns
returns c =
    let a = c.args in
    as-record a.run.now a.at c.joined.ensures c.joined-2.ensures
