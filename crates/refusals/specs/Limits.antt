-- The limits of document 01: what is too much, or too little, of each thing that is lent.
use Rattle.std.specs.Prelude.{ℕ, ◌/◌}

-- "A pattern card has 1 to 512 records. A proof card, for the checker, has 1 to 4,096."
abbrev pub most_pattern_records : ℕ
most_pattern_records = 512

abbrev pub most_proof_records : ℕ
most_proof_records = 4096

-- "A word has 0 to 65,535 bytes."
abbrev pub most_word : ℕ
most_word = 65535

-- "A budget is 0 to 4,294,967,295 visits."
abbrev pub most_budget : ℕ
most_budget = 4294967295

-- Number 5: a work room has 16 to 32,768 bytes, and so at most this many places.
abbrev pub least_room : ℕ
least_room = 16

abbrev pub most_room : ℕ
most_room = 32768

abbrev pub most_places : ℕ
most_places = most_room / 8

-- Number 6: a pair room has at most 8,192 bytes, and so holds at most this many pairs.
abbrev pub most_pair_room : ℕ
most_pair_room = 8192

abbrev pub most_pairs : ℕ
most_pairs = most_pair_room / 8

-- Letters are bytes: there are so many.
abbrev pub most_letters : ℕ
most_letters = 256

-- Number 12: a job has at most 65,536 bytes.
abbrev pub most_job : ℕ
most_job = 65536
