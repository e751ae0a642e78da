-- The layout of a record, and a card as a list of records.
-- Document 01: "A card is a run of records of 8 bytes, numbered from 0; the last is the root. Bytes: kind, letter, mark, zero, left
-- (low byte first, two bytes), right (likewise)."
-- Every offset of a record's bytes stands in this file alone.
use Rattle.std.specs.Prelude.{ℕ, ◌+◌, ◌*◌, ◌/◌, ◌%◌, List, [], ◌∷◌, length, get_or}
use Rattle.runs.specs.Runs.{item_at, first_items, run_of_items}
use Rattle.records.specs.declared.record.Record.{Record}

-- The record whose bytes start the list.
abbrev pub record_of : List ℕ → Record
record_of s =
    record {
      kind = get_or s 0 0;
      letter = get_or s 1 0;
      mark = get_or s 2 0;
      fourth = get_or s 3 0;
      left = get_or s 4 0 + 256 * get_or s 5 0;
      right = get_or s 6 0 + 256 * get_or s 7 0;
    }

-- The 8 bytes of a record.
abbrev pub bytes_of : Record → List ℕ
bytes_of r =
    r.kind ∷ r.letter ∷ r.mark ∷ r.fourth ∷ r.left % 256 ∷ r.left / 256 ∷ r.right % 256 ∷ r.right / 256 ∷ []

-- The 8 bytes of a record as one number, the first byte lowest.
abbrev pub number_of : Record → ℕ
number_of r = r.kind + 256 * (r.letter + 256 * (r.mark + 256 * (r.fourth + 256 * (r.left + 65536 * r.right))))

-- The record numbered `at` of a run of records.
abbrev pub record_at : List ℕ → ℕ → Record
record_at s at = item_at 8 record_of s at

-- The first n records of a run.
unfoldable pub first_records : ℕ → List ℕ → List Record
unfolding first_items
first_records n s = first_items 8 record_of n s

-- A card's records.
unfoldable pub records : List ℕ → List Record
unfolding first_records
records card = first_records (length card / 8) card

-- A record that is not there reads as one of zeros.
abbrev pub no_record : Record
no_record = record { kind = 0; letter = 0; mark = 0; fourth = 0; left = 0; right = 0 }

-- The record numbered `at` of a list of records.
abbrev pub child : List Record → ℕ → Record
child rs at = get_or rs at no_record

-- The run of bytes that the records are.
unfoldable pub run_of : List Record → List ℕ
unfolding run_of_items
run_of rs = run_of_items bytes_of rs
