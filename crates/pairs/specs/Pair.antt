-- The pair record and the table. Document 01: "A pair record has 8 bytes: left place, right place (two bytes each), number of the pair it
-- came from (two bytes), letter, zero. The opening pair has 0 for the last three fields."
-- Every offset of a pair's bytes stands in this file alone.
use Rattle.std.specs.Prelude.{ℕ, ◌+◌, ◌*◌, ◌/◌, ◌%◌, ◌<◌, Bool, false, ◌&&◌, ◌||◌, List, [], ◌∷◌, eqb, ◌≡◌, length, get_or}
use Rattle.runs.specs.Runs.{item_at, first_items, run_of_items}
use Rattle.pairs.specs.declared.pair.Pair.{Pair}

-- The pair whose bytes start the list.
abbrev pub pair_of : List ℕ → Pair
pair_of s =
    record {
      left = get_or s 0 0 + 256 * get_or s 1 0;
      right = get_or s 2 0 + 256 * get_or s 3 0;
      origin = get_or s 4 0 + 256 * get_or s 5 0;
      letter = get_or s 6 0;
    }

-- The 8 bytes of a pair.
abbrev pub bytes_of_pair : Pair → List ℕ
bytes_of_pair p =
    p.left % 256 ∷ p.left / 256 ∷ p.right % 256 ∷ p.right / 256 ∷ p.origin % 256 ∷ p.origin / 256 ∷ p.letter ∷ 0 ∷ []

-- The two places of a pair as one number, the left one lowest.
abbrev pub places_of_pair : Pair → ℕ
places_of_pair p = p.left + 65536 * p.right

-- The pair numbered `at` of a run of pairs.
abbrev pub pair_record : List ℕ → ℕ → Pair
pair_record s at = item_at 8 pair_of s at

-- The first n pairs of a run.
unfoldable pub first_pairs : ℕ → List ℕ → List Pair
unfolding first_items
first_pairs n s = first_items 8 pair_of n s

-- The run of bytes that the pairs are.
unfoldable pub run_of_pairs : List Pair → List ℕ
unfolding run_of_items
run_of_pairs table = run_of_items bytes_of_pair table

-- A pair that is not there reads as one of zeros.
abbrev pub no_pair : Pair
no_pair = record { left = 0; right = 0; origin = 0; letter = 0 }

-- The pair numbered n.
abbrev pub pair_at : List Pair → ℕ → Pair
pair_at table n = get_or table n no_pair

-- The two places stand in the table as a pair.
unfoldable pub stands_in : List Pair → ℕ → ℕ → Bool
stands_in [] x y = false
stands_in (p ∷ table) x y = (eqb p.left x && eqb p.right y) || stands_in table x y

-- Where the two places stand in the table as a pair.
pub record StandsAt (table : List Pair) (x y : ℕ) : Type 0 where
  pub at : ℕ
  pub inside : at < length table
  pub left : (pair_at table at).left ≡ x
  pub right : (pair_at table at).right ≡ y
