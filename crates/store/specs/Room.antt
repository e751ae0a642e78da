-- What stands in a work room. Document 01: "Records are in card form"; "records .. placed by then stand, .. and every other byte is as lent".
-- A store is a list of records: the record at place n is the one numbered n. Its records are the first bytes of the room, 8 for each.
use Rattle.std.specs.Prelude.{ℕ, ◌%◌, Bool, not, ◌||◌, List, [], ◌∷◌, eqb, ltb}
use Rattle.refusals.specs.Limits.{least_room, most_room}
use Rattle.runs.specs.Runs.{space_in, laid_items}
use Rattle.records.specs.declared.record.Record.{Record}
use Rattle.records.specs.Record.{first_records, run_of}
use Rattle.records.specs.Kind.{nothing_kind, empty_word_kind}

-- The store of so many places in a room.
abbrev pub store_in : List ℕ → ℕ → List Record
store_in room places = first_records places room

-- The places of a room.
abbrev pub places_of : List ℕ → ℕ
places_of room = space_in 8 room

-- The room with this store in it: its records, and every other byte as lent.
abbrev pub laid : List Record → List ℕ → List ℕ
laid store room = laid_items 8 run_of store room

-- Number 5, "work room under 16 bytes, over 32,768, or not a multiple of 8", of a work room of so many bytes.
abbrev pub wrong_room : ℕ → Bool
wrong_room size = ltb size least_room || ltb most_room size || not (eqb (size % 8) 0)

-- "Every call begins a fresh store in the lent work room: place 0 is nothing, place 1 the empty word."
abbrev pub nothing_record : Record
nothing_record = record { kind = nothing_kind; letter = 0; mark = 0; fourth = 0; left = 0; right = 0 }

abbrev pub empty_word_record : Record
empty_word_record = record { kind = empty_word_kind; letter = 0; mark = 1; fourth = 0; left = 0; right = 0 }

abbrev pub fresh_store : List Record
fresh_store = nothing_record ∷ empty_word_record ∷ []
