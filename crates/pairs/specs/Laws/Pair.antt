-- Pairs and their bytes: a pair laid down and read back is the same pair, the pairs of a run stand at 8 bytes each, and a pair whose
-- fields fit their bytes has bytes.
use Rattle.std.specs.Prelude.{ℕ, ◌*◌, ◌<◌, List, ◌++◌, ◌≡◌, refl, length}
use Rattle.std.proofs.Common.{arith}
use Rattle.language.specs.Word.{none, one, Bytes}
pub use Rattle.runs.specs.Laws.Bytes.{two_apart as places-one}
use Rattle.runs.specs.Laws.Bytes.{two_bytes, low_is_byte, high_is_byte, byte_at}
use Rattle.runs.specs.Laws.Runs.{Item}
use Rattle.runs.specs.Laws.Runs as runs
use Rattle.pairs.specs.declared.pair.Pair.{Pair}
use Rattle.pairs.specs.Pair.{pair_of, bytes_of_pair, pair_record, first_pairs, run_of_pairs, no_pair, pair_at}

-- A pair laid down and read back is the same pair, whatever stands behind it.
pub read_pair_back : (p : Pair) (rest : List ℕ) → pair_of (bytes_of_pair p ++ rest) ≡ p
read_pair_back p rest =
    λ i. record {
      left = two_bytes p.left i;
      right = two_bytes p.right i;
      origin = two_bytes p.origin i;
      letter = p.letter;
    }

-- A pair whose fields fit their bytes.
pub record FittingPair (p : Pair) : Type 0 where
  pub left : p.left < 65536
  pub right : p.right < 65536
  pub origin : p.origin < 65536
  pub letter : p.letter < 256

-- A pair read from bytes fits, and its own bytes are bytes.

pub fitting_pair_of : {s : List ℕ} → Bytes s → FittingPair (pair_of s)
fitting_pair_of b =
    record {
      left = omega (arith, byte_at b 0, byte_at b 1);
      right = omega (arith, byte_at b 2, byte_at b 3);
      origin = omega (arith, byte_at b 4, byte_at b 5);
      letter = byte_at b 6;
    }

bytes_fitting_pair : (p : Pair) → FittingPair p → Bytes (bytes_of_pair p)
bytes_fitting_pair p f =
    one (low_is_byte p.left)
    (one (high_is_byte p.left f.left)
    (one (low_is_byte p.right)
    (one (high_is_byte p.right f.right)
    (one (low_is_byte p.origin) (one (high_is_byte p.origin f.origin) (one f.letter (one (low_is_byte 0) none)))))))

-- So pairs are items of 8 bytes, and what runs promise holds of runs of pairs.
pub pair_item : Item 8 pair_of bytes_of_pair FittingPair
pair_item = record { some = omega arith; long = λ p. refl; back = read_pair_back; bytes = bytes_fitting_pair }

-- A run of pairs is 8 bytes for each.
pub length_pair_run : (table : List Pair) → length (run_of_pairs table) ≡ 8 * length table
unfolding run_of_pairs
length_pair_run = runs.length_run pair_item

-- The pairs of a run, whatever stands behind it.
pub first_of_pair_run : (table : List Pair) (rest : List ℕ) → first_pairs (length table) (run_of_pairs table ++ rest) ≡ table
unfolding first_pairs run_of_pairs
first_of_pair_run = runs.first_of_run pair_item

-- The pair numbered `at` of a table is the pair at its number in the run.

pub length_first_pairs : (n : ℕ) (s : List ℕ) → length (first_pairs n s) ≡ n
unfolding first_pairs
length_first_pairs = runs.length_first 8 pair_of

pub first_pair_at : (n : ℕ) (s : List ℕ) (at : ℕ) → at < n → pair_at (first_pairs n s) at ≡ pair_record s at
unfolding first_pairs
first_pair_at = runs.first_at 8 pair_of no_pair
