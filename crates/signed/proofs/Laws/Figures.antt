-- The documents' figures, each stated as it is printed: the numbers, the limits, and the rooms that the program lends. Definitions and code name them once,
-- and some follow from others, so these laws are what takes each figure out again.
use Rattle.std.specs.Prelude.{◌≡◌, refl}
use Rattle.refusals.specs.Numbers.{card_length, broken_record, wrong_mark, long_word, work_room_size, pair_room_size}
use Rattle.refusals.specs.Numbers.{no_free_place, no_budget_left, no_place_for_pair, short_word_room, pair_names_no_record, job_form}
use Rattle.refusals.specs.Limits.{most_pattern_records, most_proof_records, most_word, most_budget, least_room, most_room, most_places}
use Rattle.refusals.specs.Limits.{most_pair_room, most_pairs, most_letters, most_job}
use Rattle.jobtext.specs.Answer.{lent_work, lent_pairs, lent_word}
use Rattle.jobtext.specs.Promise.{most_answer}

-- The numbers of "When the judge says no".
pub record Numbers : Type 0 where
  pub one : card_length ≡ 1
  pub two : broken_record ≡ 2
  pub three : wrong_mark ≡ 3
  pub four : long_word ≡ 4
  pub five : work_room_size ≡ 5
  pub six : pair_room_size ≡ 6
  pub seven : no_free_place ≡ 7
  pub eight : no_budget_left ≡ 8
  pub nine : no_place_for_pair ≡ 9
  pub ten : short_word_room ≡ 10
  pub eleven : pair_names_no_record ≡ 11
  pub twelve : job_form ≡ 12

pub numbers : Numbers
numbers =
    record {
      one = refl;
      two = refl;
      three = refl;
      four = refl;
      five = refl;
      six = refl;
      seven = refl;
      eight = refl;
      nine = refl;
      ten = refl;
      eleven = refl;
      twelve = refl;
    }

-- The limits.
pub record Limits : Type 0 where
  pub pattern_card : most_pattern_records ≡ 512
  pub proof_card : most_proof_records ≡ 4096
  pub word : most_word ≡ 65535
  pub budget : most_budget ≡ 4294967295
  pub least_work : least_room ≡ 16
  pub most_work : most_room ≡ 32768
  pub places : most_places ≡ 4096
  pub pair_room : most_pair_room ≡ 8192
  pub pairs : most_pairs ≡ 1024
  pub letters : most_letters ≡ 256
  pub job : most_job ≡ 65536

pub limits : Limits
limits =
    record {
      pattern_card = refl;
      proof_card = refl;
      word = refl;
      budget = refl;
      least_work = refl;
      most_work = refl;
      places = refl;
      pair_room = refl;
      pairs = refl;
      letters = refl;
      job = refl;
    }

-- "It lends 32,768, 8,192 and 1,024 bytes", and a room for the answer.
pub record Lent : Type 0 where
  pub work : lent_work ≡ 32768
  pub pairs : lent_pairs ≡ 8192
  pub word : lent_word ≡ 1024
  pub answer : most_answer ≡ 4096

pub lent : Lent
lent = record { work = refl; pairs = refl; word = refl; answer = refl }
