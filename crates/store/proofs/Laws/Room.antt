-- A store laid in a room and the store that stands in it are one: the store of a room laid in it again leaves the room as it is,
-- a store laid in a room is the store that stands there, and of two stores laid one after the other the longer is what stands.
use Rattle.std.specs.Prelude.{ℕ, ◌+◌, ◌*◌, ◌-◌, ◌<◌, ◌≤◌, List, [], ◌∷◌, ◌++◌, ◌≡◌, length, take, drop}
use Rattle.language.specs.Word.{Bytes}
use Rattle.runs.specs.Runs.{ItemsStand}
use Rattle.runs.specs.Laws.Bytes as bytes
use Rattle.runs.specs.Laws.Runs as runs
use Rattle.records.specs.declared.record.Record.{Record}
use Rattle.records.specs.Record.{record_of, bytes_of, record_at, first_records, no_record, child, run_of}
use Rattle.records.specs.Laws.Record.{first_text, Fitting, record_item, first_at}
use Rattle.store.specs.Room.{store_in, laid}

-- The store of a room of bytes stands in it: each 8 bytes are the text of a record.
store_stands : (n : ℕ) (room : List ℕ) → 8 * n ≤ length room → Bytes room → ItemsStand 8 first_records run_of room n
unfolding first_records run_of
store_stands = runs.any_stand 8 record_of bytes_of first_text

-- The store of a room, laid in it, leaves the room as it is.
pub laid_same : (n : ℕ) (room : List ℕ) → 8 * n ≤ length room → Bytes room → laid (store_in room n) room ≡ room
unfolding first_records run_of
laid_same n room l b = runs.laid_same record_item (store_stands n room l b)

-- A store laid in a room is the store that stands there.
pub store_of_laid : (rs : List Record) (room : List ℕ) → store_in (laid rs room) (length rs) ≡ rs
unfolding first_records run_of
store_of_laid = runs.first_of_laid record_item

-- What a store covers of a room does not matter to it.
pub laid_laid : (rs qs : List Record) (room : List ℕ) → length rs ≤ length qs → laid qs (laid rs room) ≡ laid qs room
unfolding run_of
laid_laid = runs.laid_laid record_item

-- A store that the room has places for leaves its length.
pub length_laid : (rs : List Record) (room : List ℕ) → 8 * length rs ≤ length room → length (laid rs room) ≡ length room
unfolding run_of
length_laid = runs.length_laid record_item

-- The record at a place of a room's store.
pub child_in_room : (n : ℕ) (room : List ℕ) (i : ℕ) → i < n → child (store_in room n) i ≡ record_at room i
child_in_room = first_at

-- A store whose records fit leaves bytes.
pub bytes_laid : (rs : List Record) {room : List ℕ} → ((i : ℕ) → i < length rs → Fitting (child rs i)) → Bytes room → Bytes (laid rs room)
unfolding run_of
bytes_laid rs f b = runs.bytes_laid record_item no_record rs f b

-- Bytes laid at the start of the part of a room that starts at n.
pub put_in_part : (n : ℕ) (room eight : List ℕ) {part : List ℕ} → part ≡ eight ++ drop 8 (take (length room - n) (drop n room))
    → take n room ++ (part ++ drop (length room - n) (drop n room)) ≡ take n room ++ (eight ++ drop (n + 8) room)
put_in_part n room eight e = bytes.put_in_part 8 n room eight e

-- A record put into the part of the room that starts behind its store is the store with the record at its end.
pub one_record_more : (places : ℕ) {room : List ℕ} → 8 * places ≤ length room → Bytes room → (r : Record) {start : ℕ} {part : List ℕ} → start ≡ 8 * places
    → part ≡ bytes_of r ++ drop 8 (take (length room - start) (drop start room))
    → take start room ++ (part ++ drop (length room - start) (drop start room)) ≡ laid (store_in room places ++ r ∷ []) room
unfolding first_records run_of
one_record_more places {room} l b r e f = runs.one_more_put record_item (store_stands places room l b) r e f

-- So is a record written behind it.
pub record_behind : (places : ℕ) {room : List ℕ} → 8 * places ≤ length room → Bytes room → (r : Record)
    → take (8 * places) room ++ (bytes_of r ++ drop (8 * places + 8) room) ≡ laid (store_in room places ++ r ∷ []) room
unfolding first_records run_of
record_behind places {room} l b r = runs.laid_one_more record_item (store_stands places room l b) r
