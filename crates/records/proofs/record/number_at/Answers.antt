-- `number_at` joins the 8 bytes of the record at its place, which are the bytes of the run from there on.
use Prim.Native.Nat.{ℕ, ◌+◌, ◌*◌}
use native.Mathlib.Nat.{add-zero}
use native.Mathlib.Omega.{arith}
use mathlib.Core.List.{List}
use mathlib.Core.Path.{◌≡◌}
use lib.ListN.{get_or, drop}
use lib.Seq.{get_or-drop}
use Rattle.records.specs.Record.{record_of, number_of}
use Rattle.records.proofs.record.number_at.Goals as goal

as_number : (s : List ℕ) (n : ℕ)
    → get_or s n 0 + 256 * get_or s (n + 1) 0 + 65536 * get_or s (n + 2) 0 + 16777216 * get_or s (n + 3) 0 + 4294967296 * get_or s (n + 4) 0
    + 1099511627776 * get_or s (n + 5) 0 + 281474976710656 * get_or s (n + 6) 0 + 72057594037927936 * get_or s (n + 7) 0
    ≡ number_of (record_of (drop n s))
as_number s n = simp (get_or-drop, add-zero) (omega arith)

pub returns : goal.returns
returns c =
    let a = c.args in
    omega (arith, c.from_le_bytes.ensures, as_number a.run.now (8 * a.at))
