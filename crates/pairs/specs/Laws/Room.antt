-- A table laid in a room and the table that stands in it are one: a table laid in a room of bytes is the table that stands there, a
-- table that stands laid in its room again leaves the room as it is, and of two tables laid one after the other the longer is what stands.
use Rattle.std.specs.Prelude.{ℕ, ◌+◌, ◌*◌, ◌-◌, ◌<◌, ◌≤◌, List, [], ◌∷◌, ◌++◌, ◌≡◌, length, take, drop}
use Rattle.language.specs.Word.{Bytes}
use Rattle.runs.specs.Laws.Runs as runs
use Rattle.pairs.specs.declared.pair.Pair.{Pair}
use Rattle.pairs.specs.Pair.{bytes_of_pair, first_pairs, run_of_pairs, no_pair, pair_at}
use Rattle.pairs.specs.Room.{table_in, laid_pairs, listed_pairs, TableStands}
use Rattle.pairs.specs.Laws.Pair.{FittingPair, pair_item}

-- A table laid in a room is the table that stands there.
pub table_of_laid : (table : List Pair) (room : List ℕ) → table_in (laid_pairs table room) (length table) ≡ table
unfolding first_pairs run_of_pairs
table_of_laid = runs.first_of_laid pair_item

-- A table laid down as a list is read back.
pub listed_of_run : (table : List Pair) → listed_pairs (run_of_pairs table) ≡ table
unfolding first_pairs run_of_pairs
listed_of_run = runs.all_of_run pair_item

-- What a table covers of a room does not matter to it.
pub laid_laid_pairs : (t u : List Pair) (room : List ℕ) → length t ≤ length u → laid_pairs u (laid_pairs t room) ≡ laid_pairs u room
unfolding run_of_pairs
laid_laid_pairs = runs.laid_laid pair_item

-- A table that the room has space for leaves its length.
pub length_laid_pairs : (table : List Pair) (room : List ℕ) → 8 * length table ≤ length room → length (laid_pairs table room) ≡ length room
unfolding run_of_pairs
length_laid_pairs = runs.length_laid pair_item

-- No pairs stand in any room of bytes.
pub none_stand : {room : List ℕ} → Bytes room → TableStands room 0
unfolding first_pairs run_of_pairs
none_stand b = runs.none_stand pair_item b

-- A table whose pairs fit, laid in a room of bytes that has space for it, stands there.
pub stands_laid : (table : List Pair) (room : List ℕ) → ((i : ℕ) → i < length table → FittingPair (pair_at table i))
    → 8 * length table ≤ length room → Bytes room → TableStands (laid_pairs table room) (length table)
unfolding first_pairs run_of_pairs
stands_laid = runs.stands_laid pair_item no_pair

-- The table that stands in a room, laid in it, leaves the room as it is.
pub laid_pairs_same : {room : List ℕ} {pairs : ℕ} → TableStands room pairs → laid_pairs (table_in room pairs) room ≡ room
unfolding first_pairs run_of_pairs
laid_pairs_same s = runs.laid_same pair_item s

-- A pair put into the part of the room that starts behind its table is the table with the pair at its end.
pub one_pair_more : {room : List ℕ} {pairs : ℕ} → TableStands room pairs → (p : Pair) {start : ℕ} {part : List ℕ} → start ≡ 8 * pairs
    → part ≡ bytes_of_pair p ++ drop 8 (take (length room - start) (drop start room))
    → take start room ++ (part ++ drop (length room - start) (drop start room)) ≡ laid_pairs (table_in room pairs ++ p ∷ []) room
unfolding first_pairs run_of_pairs
one_pair_more s p e f = runs.one_more_put pair_item s p e f

-- So is a pair written behind it.
pub pair_behind : {room : List ℕ} {pairs : ℕ} → TableStands room pairs → (p : Pair)
    → take (8 * pairs) room ++ (bytes_of_pair p ++ drop (8 * pairs + 8) room) ≡ laid_pairs (table_in room pairs ++ p ∷ []) room
unfolding first_pairs run_of_pairs
pair_behind s p = runs.laid_one_more pair_item s p
