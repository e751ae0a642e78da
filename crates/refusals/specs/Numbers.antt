-- The paper's numbers by name. A comment has the number's line of document 01, "When the judge says no": each is given exactly then.
use Rattle.std.specs.Prelude.{ℕ}

-- 1: "card length 0, not a multiple of 8, or too long".
abbrev pub card_length : ℕ
card_length = 1

-- 2: "a record breaks the kind table, its fourth byte isn't zero, or a child isn't lower".
abbrev pub broken_record : ℕ
broken_record = 2

-- 3: "a mark is wrong".
abbrev pub wrong_mark : ℕ
wrong_mark = 3

-- 4: "word too long".
abbrev pub long_word : ℕ
long_word = 4

-- 5: "work room under 16 bytes, over 32,768, or not a multiple of 8".
abbrev pub work_room_size : ℕ
work_room_size = 5

-- 6: "pair room empty, over 8,192 bytes, or not a multiple of 8".
abbrev pub pair_room_size : ℕ
pair_room_size = 6

-- 7: "a new record, and no free place".
abbrev pub no_free_place : ℕ
no_free_place = 7

-- 8: "a visit, and no budget".
abbrev pub no_budget_left : ℕ
no_budget_left = 8

-- 9: "an agreeing new pair, and no free place for it".
abbrev pub no_place_for_pair : ℕ
no_place_for_pair = 9

-- 10: ""different", and the word room is shorter than the word".
abbrev pub short_word_room : ℕ
short_word_room = 10

-- 11: "a listed pair names no record of the proof card".
abbrev pub pair_names_no_record : ℕ
pair_names_no_record = 11

-- 12: "program only: job over 65,536 bytes or not of the form below".
abbrev pub job_form : ℕ
job_form = 12
