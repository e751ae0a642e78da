-- What stands in a pair room. Document 01: "records and pairs placed by then stand, .. and every other byte is as lent".
-- 6: "pair room empty, over 8,192 bytes, or not a multiple of 8". "Its pair list obeys number 6 as a pair room does."
use Rattle.std.specs.Prelude.{ℕ, ◌%◌, Bool, not, ◌||◌, List, eqb, ltb}
use Rattle.refusals.specs.Limits.{most_pair_room}
use Rattle.runs.specs.Runs.{space_in, laid_items, ItemsStand}
use Rattle.pairs.specs.declared.pair.Pair.{Pair}
use Rattle.pairs.specs.Pair.{first_pairs, run_of_pairs}

-- The table of so many pairs in a room.
abbrev pub table_in : List ℕ → ℕ → List Pair
table_in room pairs = first_pairs pairs room

-- The pairs that a room has space for, and that a list of this size has.
abbrev pub pairs_of : List ℕ → ℕ
pairs_of room = space_in 8 room

-- The room with this table in it: its pairs, and every other byte as lent.
abbrev pub laid_pairs : List Pair → List ℕ → List ℕ
laid_pairs table room = laid_items 8 run_of_pairs table room

-- A table of so many pairs stands in a room: the room's first bytes are the run of its pairs, so that each pair's eighth byte is zero.
abbrev pub TableStands : List ℕ → ℕ → Type 0
TableStands room pairs = ItemsStand 8 first_pairs run_of_pairs room pairs

-- The pairs of a list.
abbrev pub listed_pairs : List ℕ → List Pair
listed_pairs list = table_in list (pairs_of list)

-- Number 6, of a pair room or a pair list of so many bytes.
abbrev pub wrong_pair_room : ℕ → Bool
wrong_pair_room size = eqb size 0 || ltb most_pair_room size || not (eqb (size % 8) 0)
