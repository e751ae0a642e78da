-- The order of refusals: the standing is good exactly where no refusal is due, and a call that is refused at once is refused by 1 to 6.
use Rattle.std.specs.Prelude.{ℕ, ◌≤◌, false, List, ◌≡◌}
use native.Mathlib.Omega.{arith}
use Rattle.refusals.specs.Limits.{most_pattern_records}
use Rattle.refusals.specs.Order.{Good, Refused}
use Rattle.refusals.specs.Numbers.{work_room_size, pair_room_size}
use Rattle.refusals.specs.Laws.Order.{each_good, order_tells, not_refused, if_tells}
use Rattle.cards.specs.Examine.{pattern_card}
use Rattle.cards.proofs.Laws.Examine.{card_number}
use Rattle.store.specs.Room.{wrong_room}
use Rattle.pairs.specs.Room.{wrong_pair_room}
use Rattle.comparing.specs.Compare.{compare_order, compare_standing}

-- A call that is not refused at once.
pub record Unrefused (left right : List ℕ) (work pairs : ℕ) : Type 0 where
  pub left_good : pattern_card left ≡ Good
  pub right_good : pattern_card right ≡ Good
  pub room_legal : wrong_room work ≡ false
  pub pair_room_legal : wrong_pair_room pairs ≡ false

-- One of the numbers 1 to 6.
abbrev ToSix : ℕ → Type 0
ToSix number = number ≤ 6

module _ (left right : List ℕ) (work pairs : ℕ) where
  -- The standing is good where no refusal is due, and only then.
  pub unrefused : compare_standing left right work pairs ≡ Good → Unrefused left right work pairs
  unfolding compare_standing
  unrefused e =
      let good = each_good (compare_order left right work pairs) e in
      record {
        left_good = good.0;
        right_good = good.1.0;
        room_legal = not_refused (wrong_room work) work_room_size good.1.1.0;
        pair_room_legal = not_refused (wrong_pair_room pairs) pair_room_size good.1.1.1.0;
      }

  pub no_refusal : Unrefused left right work pairs → compare_standing left right work pairs ≡ Good
  unfolding compare_standing
  no_refusal u = rw (u.left_good, u.right_good, u.room_legal, u.pair_room_legal)

  -- A call that is refused at once is refused by a number from 1 to 6.
  pub at_once_number : (number : ℕ) → compare_standing left right work pairs ≡ Refused number → number ≤ 6
  unfolding compare_standing pattern_card
  at_once_number number e =
      order_tells ToSix (compare_order left right work pairs) (
        λ number f. let n = card_number most_pattern_records left number f in omega arith,
        (
          λ number f. let n = card_number most_pattern_records right number f in omega arith,
          (if_tells ToSix (wrong_room work) work_room_size (omega arith), (if_tells ToSix (wrong_pair_room pairs) pair_room_size (omega arith), tt)),
        ),
      )
      number
      e
