-- `read` takes the bytes of the pair at its number, which are the bytes of the run from there on.
use Prim.Native.Nat.{ℕ, ◌+◌, ◌*◌}
use mathlib.Core.List.{List}
use mathlib.Core.Path.{◌≡◌}
use lib.ListN.{get_or}
use lib.Seq.{get_or-drop}
use native.Mathlib.Nat.{add-zero}
use Rattle.pairs.specs.Pair.{pair_record}
use Rattle.pairs.specs.declared.pair.Pair.{Pair}
use Rattle.pairs.proofs.pair.PairItem.read.Goals as goal

-- The three numbers joined of two bytes each, and the letter, are the fields of the pair at the number.
as-pair : (s : List ℕ) (at : ℕ) {l r o : ℕ}
    → l ≡ get_or s (8 * at) 0 + 256 * get_or s (8 * at + 1) 0
    → r ≡ get_or s (8 * at + 2) 0 + 256 * get_or s (8 * at + 3) 0
    → o ≡ get_or s (8 * at + 4) 0 + 256 * get_or s (8 * at + 5) 0
    → ◌≡◌ {A = Pair} (record { left = l; right = r; origin = o; letter = get_or s (8 * at + 6) 0 }) (pair_record s at)
as-pair s at {l} {r} {o} e f g = rw (e, f, g) (simp (get_or-drop, add-zero))

pub returns : goal.returns
returns c =
    let a = c.args in
    as-pair a.run.now a.at
    c.joined.ensures
    c.joined-2.ensures
    c.joined-3.ensures
