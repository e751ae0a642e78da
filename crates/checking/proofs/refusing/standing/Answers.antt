-- `standing` tells the first refusal: each of its seven answers is the definition's case for the tests that led there.
use Prim.Native.Nat.{ℕ, ◌/◌}
use mathlib.Core.Bool.{true, false}
use mathlib.Core.List.{List}
use mathlib.Core.Path.{◌≡◌, sym, ◌∙◌, ap}
use lib.ListN.{length}
use Rattle.std.proofs.lemmas.Result.{err_from_is_err_and}
use Rattle.std.specs.declared.result.Result.{Result}
use Rattle.std.specs.declared.result.Result.TheVariants.{Ok}
use Rattle.refusals.specs.declared.refusal.Refusal.{Refusal}
use Rattle.refusals.specs.Told.{standing_told}
use Rattle.refusals.specs.Order.{Standing, Good, Refused}
use Rattle.refusals.specs.Numbers.{work_room_size, pair_room_size, pair_names_no_record}
use Rattle.cards.specs.Examine.{pattern_card, proof_card}
use Rattle.store.specs.Room.{wrong_room}
use Rattle.pairs.specs.Room.{wrong_pair_room, listed_pairs}
use Rattle.checking.specs.Outcome.{all_named, check_standing}
use Rattle.checking.proofs.refusing.standing.Goals as goal

module _ (left right proof list : List ℕ) (work : ℕ) where
  -- A card is refused, those before it being good.

  told_left : {number : ℕ} → pattern_card left ≡ Refused number → Refused number ≡ check_standing left right proof list work
  unfolding check_standing
  told_left e = rw e

  told_right : {number : ℕ} → pattern_card left ≡ Good → pattern_card right ≡ Refused number → Refused number ≡ check_standing left right proof list work
  unfolding check_standing
  told_right good e = rw (good, e)

  told_proof : {number : ℕ} → pattern_card left ≡ Good → pattern_card right ≡ Good → proof_card proof ≡ Refused number
      → Refused number ≡ check_standing left right proof list work
  unfolding check_standing
  told_proof good good₂ e = rw (good, good₂, e)

record Cards (left right proof : List ℕ) : Type 0 where
  left_good : pattern_card left ≡ Good
  right_good : pattern_card right ≡ Good
  proof_good : proof_card proof ≡ Good

-- The three cards are good.
module _ {left right proof : List ℕ} (list : List ℕ) (work : ℕ) (cards : Cards left right proof) where
  told_room : wrong_room work ≡ true → Refused work_room_size ≡ check_standing left right proof list work
  unfolding check_standing
  told_room e = rw (cards.left_good, cards.right_good, cards.proof_good, e)

  told_list : wrong_room work ≡ false → wrong_pair_room (length list) ≡ true → Refused pair_room_size ≡ check_standing left right proof list work
  unfolding check_standing
  told_list e f = rw (cards.left_good, cards.right_good, cards.proof_good, e, f)

  told_unnamed : wrong_room work ≡ false → wrong_pair_room (length list) ≡ false → all_named (length proof / 8) (listed_pairs list) ≡ false
      → Refused pair_names_no_record ≡ check_standing left right proof list work
  unfolding check_standing
  told_unnamed e f g = rw (cards.left_good, cards.right_good, cards.proof_good, e, f, g)

  told_good : wrong_room work ≡ false → wrong_pair_room (length list) ≡ false → all_named (length proof / 8) (listed_pairs list) ≡ true
      → Good ≡ check_standing left right proof list work
  unfolding check_standing
  told_good e f g = rw (cards.left_good, cards.right_good, cards.proof_good, e, f, g)

-- What is known of a card that was found good.
good : {s : Standing} {found : Result (Unit {0}) Refusal} {u : Unit {0}} → standing_told found ≡ s → found ≡ Ok u → s ≡ Good
good e f = sym e ∙ ap standing_told f

pub returns-in_err-examine_pattern : goal.returns-in_err-examine_pattern
returns-in_err-examine_pattern c =
    let a = c.args in
    let told = err_from_is_err_and c.from_residual.result c.from_residual.ensures.1 in
    rw (told.1, told.2)
    (told_left a.left.now a.right.now a.proof.now a.list.now a.work
    (sym c.examine_pattern.ensures ∙ ap standing_told c.in_err-examine_pattern.was))

pub returns-in_err-examine_pattern-2 : goal.returns-in_err-examine_pattern-2
returns-in_err-examine_pattern-2 c =
    let a = c.args in
    let told = err_from_is_err_and c.from_residual-in_err-examine_pattern-2.result c.from_residual-in_err-examine_pattern-2.ensures.1 in
    rw (told.1, told.2)
    (told_right a.left.now a.right.now a.proof.now a.list.now a.work
    (good c.examine_pattern.ensures c.in_ok-examine_pattern.was)
    (sym c.examine_pattern-2.ensures ∙ ap standing_told c.in_err-examine_pattern-2.was))

pub returns-in_err-examine_proof : goal.returns-in_err-examine_proof
returns-in_err-examine_proof c =
    let a = c.args in
    let told = err_from_is_err_and c.from_residual-in_err-examine_proof.result c.from_residual-in_err-examine_proof.ensures.1 in
    rw (told.1, told.2)
    (told_proof a.left.now a.right.now a.proof.now a.list.now a.work
    (good c.examine_pattern.ensures c.in_ok-examine_pattern.was)
    (good c.examine_pattern-2.ensures c.in_ok-examine_pattern-2.was)
    (sym c.examine_proof.ensures ∙ ap standing_told c.in_err-examine_proof.was))

pub returns-then-wrong_room : goal.returns-then-wrong_room
returns-then-wrong_room c =
    let a = c.args in
    told_room a.list.now a.work
    (record {
      left_good = good c.examine_pattern.ensures c.in_ok-examine_pattern.was;
      right_good = good c.examine_pattern-2.ensures c.in_ok-examine_pattern-2.was;
      proof_good = good c.examine_proof.ensures c.in_ok-examine_proof.was;
    })
    (sym c.wrong_room.ensures ∙ c.if-wrong_room.true)

pub returns-then-wrong_pair_room : goal.returns-then-wrong_pair_room
returns-then-wrong_pair_room c =
    let a = c.args in
    told_list a.list.now a.work
    (record {
      left_good = good c.examine_pattern.ensures c.in_ok-examine_pattern.was;
      right_good = good c.examine_pattern-2.ensures c.in_ok-examine_pattern-2.was;
      proof_good = good c.examine_proof.ensures c.in_ok-examine_proof.was;
    })
    (sym c.wrong_room.ensures ∙ c.if-wrong_room.false)
    (sym c.wrong_pair_room.ensures ∙ c.if-wrong_pair_room.true)

pub returns-then-not-all_named : goal.returns-then-not-all_named
returns-then-not-all_named c =
    let a = c.args in
    told_unnamed a.list.now a.work
    (record {
      left_good = good c.examine_pattern.ensures c.in_ok-examine_pattern.was;
      right_good = good c.examine_pattern-2.ensures c.in_ok-examine_pattern-2.was;
      proof_good = good c.examine_proof.ensures c.in_ok-examine_proof.was;
    })
    (sym c.wrong_room.ensures ∙ c.if-wrong_room.false)
    (sym c.wrong_pair_room.ensures ∙ c.if-wrong_pair_room.false)
    (sym c.all_named.ensures ∙ c.if-not-all_named.true)

pub returns : goal.returns
returns c =
    let a = c.args in
    told_good a.list.now a.work
    (record {
      left_good = good c.examine_pattern.ensures c.in_ok-examine_pattern.was;
      right_good = good c.examine_pattern-2.ensures c.in_ok-examine_pattern-2.was;
      proof_good = good c.examine_proof.ensures c.in_ok-examine_proof.was;
    })
    (sym c.wrong_room.ensures ∙ c.if-wrong_room.false)
    (sym c.wrong_pair_room.ensures ∙ c.if-wrong_pair_room.false)
    (sym c.all_named.ensures ∙ c.if-not-all_named.false)
