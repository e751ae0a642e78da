-- `places_at` joins the first 4 bytes of the pair at its number, which are the bytes of the run from there on.
use Prim.Native.Nat.{ℕ, ◌+◌, ◌*◌}
use native.Mathlib.Nat.{add-zero}
use native.Mathlib.Omega.{arith}
use mathlib.Core.List.{List}
use mathlib.Core.Path.{◌≡◌}
use lib.ListN.{get_or, drop}
use lib.Seq.{get_or-drop}
use Rattle.pairs.specs.Pair.{pair_of, places_of_pair}
use Rattle.pairs.proofs.pair.places_at.Goals as goal

-- The first 4 bytes as one number are the two places as one number.
as-places : (s : List ℕ) (n : ℕ)
    → get_or s n 0 + 256 * get_or s (n + 1) 0 + 65536 * get_or s (n + 2) 0 + 16777216 * get_or s (n + 3) 0 ≡ places_of_pair (pair_of (drop n s))
as-places s n = simp (get_or-drop, add-zero) (omega arith)

pub returns : goal.returns
returns c =
    let a = c.args in
    omega (arith, c.from_le_bytes.ensures, as-places a.run.now (8 * a.at))
