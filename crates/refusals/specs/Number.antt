-- The paper's number of each refusal.
use Rattle.std.specs.Prelude.{ℕ}
use Rattle.refusals.specs.declared.refusal.Refusal.{Refusal}
use Rattle.refusals.specs.declared.refusal.Refusal.TheVariants.{CardLength, BrokenRecord, WrongMark, LongWord, WorkRoomSize, PairRoomSize, NoFreePlace, NoBudgetLeft, NoPlaceForPair, ShortWordRoom, PairNamesNoRecord, JobForm}
use Rattle.refusals.specs.Numbers.{card_length, broken_record, wrong_mark, long_word, work_room_size, pair_room_size, no_free_place, no_budget_left, no_place_for_pair, short_word_room, pair_names_no_record, job_form}

abbrev pub number : Refusal → ℕ
number CardLength = card_length
number BrokenRecord = broken_record
number WrongMark = wrong_mark
number LongWord = long_word
number WorkRoomSize = work_room_size
number PairRoomSize = pair_room_size
number NoFreePlace = no_free_place
number NoBudgetLeft = no_budget_left
number NoPlaceForPair = no_place_for_pair
number ShortWordRoom = short_word_room
number PairNamesNoRecord = pair_names_no_record
number JobForm = job_form
