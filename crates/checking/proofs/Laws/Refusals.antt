-- A call of checking that is not refused at once, and the numbers by which one is: the laws of any order of refusals, of checking's. And number 11:
-- every listed pair names two records of the proof card.
use Rattle.std.specs.Prelude.{ℕ, zero, suc, ◌/◌, ◌<◌, ◌≤◌, Bool, true, false, not, ◌&&◌, List, [], ◌∷◌, ◌≡◌, refl, ltb, length, get_or}
use Rattle.std.proofs.Common.{arith, sym, ltb-true, lt-ltb}
use Rattle.language.specs.Word.{Bytes}
use Rattle.language.proofs.Laws.Tests.{and_left, and_right, and_both}
use Rattle.refusals.specs.Order.{Good, Refused}
use Rattle.refusals.specs.Numbers.{work_room_size, pair_room_size, pair_names_no_record}
use Rattle.refusals.specs.Limits.{most_pattern_records, most_proof_records}
use Rattle.refusals.specs.Laws.Order.{each_good, order_tells, not_refused, if_tells}
use Rattle.records.specs.Record.{records}
use Rattle.cards.specs.Examine.{pattern_card, proof_card}
use Rattle.cards.proofs.Laws.Examine.{card_number}
use Rattle.store.specs.Room.{wrong_room}
use Rattle.loading.proofs.Laws.Cards.{examined_card}
use Rattle.loading.proofs.Laws.Loading.{GoodCard}
use Rattle.pairs.specs.declared.pair.Pair.{Pair}
use Rattle.pairs.specs.Pair.{pair_at}
use Rattle.pairs.specs.Room.{wrong_pair_room, listed_pairs}
use Rattle.checking.specs.Outcome.{all_named, check_order, check_standing, mapped}

-- A call that is not refused at once: the three cards are good, room and list are legal and every listed pair names two records of the proof card.
pub record Unrefused (left right proof list : List ℕ) (work : ℕ) : Type 0 where
  pub left_good : pattern_card left ≡ Good
  pub right_good : pattern_card right ≡ Good
  pub proof_good : proof_card proof ≡ Good
  pub room_legal : wrong_room work ≡ false
  pub list_legal : wrong_pair_room (length list) ≡ false
  pub named : all_named (length proof / 8) (listed_pairs list) ≡ true

not_false : (b : Bool) → not b ≡ false → b ≡ true
not_false true e = refl
not_false false e = sym e

-- The numbers of a refusal at once.
pub data AtOnce (number : ℕ) : Type 0 where
  to_6 : number ≤ 6 → AtOnce number
  by_11 : number ≡ pair_names_no_record → AtOnce number

of_card : {number : ℕ} → number ≤ 3 → AtOnce number
of_card l = to_6 (omega arith)

module _ (left right proof list : List ℕ) (work : ℕ) where
  pub unrefused : check_standing left right proof list work ≡ Good → Unrefused left right proof list work
  unfolding check_standing
  unrefused e =
      let good = each_good (check_order left right proof list work) e in
      let named = all_named (length proof / 8) (listed_pairs list) in
      record {
        left_good = good.0;
        right_good = good.1.0;
        proof_good = good.1.1.0;
        room_legal = not_refused (wrong_room work) work_room_size good.1.1.1.0;
        list_legal = not_refused (wrong_pair_room (length list)) pair_room_size good.1.1.1.1.0;
        named = not_false named (not_refused (not named) pair_names_no_record good.1.1.1.1.1.0);
      }

  pub no_refusal : Unrefused left right proof list work → check_standing left right proof list work ≡ Good
  unfolding check_standing
  no_refusal u = rw (u.left_good, u.right_good, u.proof_good, u.room_legal, u.list_legal, u.named)

  -- A call that is refused at once is refused by a number from 1 to 6 or by 11.
  pub at_once_number : (number : ℕ) → check_standing left right proof list work ≡ Refused number → AtOnce number
  unfolding check_standing pattern_card proof_card
  at_once_number =
      order_tells AtOnce (check_order left right proof list work) (
        λ number e. of_card (card_number most_pattern_records left number e),
        (
          λ number e. of_card (card_number most_pattern_records right number e),
          (
            λ number e. of_card (card_number most_proof_records proof number e),
            (
              if_tells AtOnce (wrong_room work) work_room_size (to_6 (omega arith)),
              (
                if_tells AtOnce (wrong_pair_room (length list)) pair_room_size (to_6 (omega arith)),
                (if_tells AtOnce (not (all_named (length proof / 8) (listed_pairs list))) pair_names_no_record (by_11 refl), tt),
              ),
            ),
          ),
        ),
      )

-- A proof card in good standing can be loaded.
pub good_proof : (card : List ℕ) → Bytes card → proof_card card ≡ Good → GoodCard (records card)
unfolding proof_card
good_proof card b e = examined_card most_proof_records card b e

-- Number 11: each listed pair names two of so many records.
pub named_below : (count : ℕ) (list : List Pair) → all_named count list ≡ true → (n : ℕ) → n < length list
    → ((pair_at list n).left < count) × ((pair_at list n).right < count)
unfolding all_named
named_below count [] e n l = absurd (omega arith)
named_below count (p ∷ rest) e zero l =
    let both = and_left (ltb p.left count && ltb p.right count) (all_named count rest) e in (
      ltb-true p.left count (and_left (ltb p.left count) (ltb p.right count) both),
      ltb-true p.right count (and_right (ltb p.left count) (ltb p.right count) both),
    )
named_below count (p ∷ rest) e (suc n) l =
    named_below count rest (and_right (ltb p.left count && ltb p.right count) (all_named count rest) e) n (omega arith)

pub below_named : (count : ℕ) (list : List Pair) → ((n : ℕ) → n < length list → ((pair_at list n).left < count) × ((pair_at list n).right < count))
    → all_named count list ≡ true
unfolding all_named
below_named count [] h = refl
below_named count (p ∷ rest) h =
    let here = h 0 (omega arith) in
    and_both (and_both (lt-ltb p.left count here.0) (lt-ltb p.right count here.1)) (below_named count rest (λ n l. h (suc n) (omega arith)))

-- A mapped list has the same pairs by place.
pub length_mapped : (places : List ℕ) (list : List Pair) → length (mapped places list) ≡ length list
unfolding mapped
length_mapped places [] = refl
length_mapped places (p ∷ rest) = let ih = length_mapped places rest in omega arith

pub mapped_at : (places : List ℕ) (list : List Pair) (n : ℕ) → n < length list
    → ((pair_at (mapped places list) n).left ≡ get_or places (pair_at list n).left 0) × ((pair_at (mapped places list) n).right ≡ get_or places (pair_at list n).right 0)
unfolding mapped
mapped_at places [] n l = absurd (omega arith)
mapped_at places (p ∷ rest) zero l = (refl, refl)
mapped_at places (p ∷ rest) (suc n) l = mapped_at places rest n (omega arith)
