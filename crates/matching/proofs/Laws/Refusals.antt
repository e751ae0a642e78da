-- A call of matching that is not refused at once, and the numbers by which one is: the laws of any order of refusals, of matching's.
use Rattle.std.specs.Prelude.{ℕ, ◌≤◌, false, List, ◌≡◌, ltb, length}
use native.Mathlib.Omega.{arith}
use Rattle.refusals.specs.Order.{Good, Refused}
use Rattle.refusals.specs.Numbers.{long_word, work_room_size}
use Rattle.refusals.specs.Limits.{most_pattern_records, most_word}
use Rattle.refusals.specs.Laws.Order.{each_good, order_tells, not_refused, if_tells}
use Rattle.cards.specs.Examine.{pattern_card}
use Rattle.cards.proofs.Laws.Examine.{card_number}
use Rattle.store.specs.Room.{wrong_room}
use Rattle.matching.specs.Refusals.{match_order, standing_of, match_standing}

-- A call that is not refused at once: the card is good, the word is short and the room is legal.
pub record Unrefused (card word : List ℕ) (size : ℕ) : Type 0 where
  pub card_good : pattern_card card ≡ Good
  pub word_short : ltb most_word (length word) ≡ false
  pub room_legal : wrong_room size ≡ false

-- The numbers of a refusal at once.
abbrev pub ToFive : ℕ → Type 0
ToFive number = number ≤ 5

module _ (card word : List ℕ) (size : ℕ) where
  pub unrefused : match_standing card word size ≡ Good → Unrefused card word size
  unfolding standing_of
  unrefused e =
      let good = each_good (match_order card (length word) size) e in
      record {
        card_good = good.0;
        word_short = not_refused (ltb most_word (length word)) long_word good.1.0;
        room_legal = not_refused (wrong_room size) work_room_size good.1.1.0;
      }

  pub no_refusal : Unrefused card word size → match_standing card word size ≡ Good
  unfolding standing_of
  no_refusal u = rw (u.card_good, u.word_short, u.room_legal)

  -- A call that is refused at once is refused by a number from 1 to 5.
  pub at_once_number : (number : ℕ) → match_standing card word size ≡ Refused number → ToFive number
  unfolding standing_of pattern_card
  at_once_number =
      order_tells ToFive (match_order card (length word) size) (
        λ number e. let n = card_number most_pattern_records card number e in omega arith,
        (if_tells ToFive (ltb most_word (length word)) long_word (omega arith), (if_tells ToFive (wrong_room size) work_room_size (omega arith), tt)),
      )
