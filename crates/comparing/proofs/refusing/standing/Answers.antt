-- `standing` tells the first refusal: each of its five answers is the definition's case for the tests that led there.
use Prim.Native.Nat.{ℕ}
use mathlib.Core.Bool.{Bool, true, false}
use mathlib.Core.List.{List}
use mathlib.Core.Path.{◌≡◌, sym, ◌∙◌, ap}
use Rattle.std.proofs.lemmas.Result.{err_from_is_err_and}
use Rattle.refusals.specs.Told.{standing_told}
use Rattle.refusals.specs.Order.{Standing}
use Rattle.refusals.specs.Order.{Good, Refused}
use Rattle.cards.specs.Examine.{pattern_card}
use Rattle.store.specs.Room.{wrong_room}
use Rattle.pairs.specs.Room.{wrong_pair_room}
use Rattle.comparing.specs.Compare.{compare_standing}
use Rattle.comparing.proofs.refusing.standing.Goals as goal

-- What the left card's examination found.
module _ (left right : List ℕ) (work pairs : ℕ) {first : Standing} (is : first ≡ pattern_card left) where
  told-left : {number : ℕ} → first ≡ Refused number → Refused number ≡ compare_standing left right work pairs
  unfolding compare_standing
  told-left e = let f : pattern_card left ≡ Refused _ = sym is ∙ e in rw f

  -- The left card is good, and what the right card's examination found.
  module _ (e : first ≡ Good) {second : Standing} (also : second ≡ pattern_card right) where
    left_good : pattern_card left ≡ Good
    left_good = sym is ∙ e

    told-right : {number : ℕ} → second ≡ Refused number → Refused number ≡ compare_standing left right work pairs
    unfolding compare_standing
    told-right f = let g : pattern_card right ≡ Refused _ = sym also ∙ f in rw (left_good, g)

    -- Both cards are good, and what the tests said.
    module _ (f : second ≡ Good) {wrong : Bool} (w : wrong ≡ wrong_room work) where
      right_good : pattern_card right ≡ Good
      right_good = sym also ∙ f

      told-5 : wrong ≡ true → Refused 5 ≡ compare_standing left right work pairs
      unfolding compare_standing
      told-5 t = rw (left_good, right_good, sym w ∙ t)

      module _ (t : wrong ≡ false) {wrong-pairs : Bool} (v : wrong-pairs ≡ wrong_pair_room pairs) where
        told-6 : wrong-pairs ≡ true → Refused 6 ≡ compare_standing left right work pairs
        unfolding compare_standing
        told-6 u = rw (left_good, right_good, sym w ∙ t, sym v ∙ u)

        told-good : wrong-pairs ≡ false → Good ≡ compare_standing left right work pairs
        unfolding compare_standing
        told-good u = rw (left_good, right_good, sym w ∙ t, sym v ∙ u)

pub returns-in_err-examine_pattern : goal.returns-in_err-examine_pattern
returns-in_err-examine_pattern c =
    let a = c.args in
    let told = err_from_is_err_and c.from_residual.result c.from_residual.ensures.1 in
    rw (told.1, told.2)
    (told-left a.left.now a.right.now a.work a.pairs c.examine_pattern.ensures (ap standing_told c.in_err-examine_pattern.was))

pub returns-in_err-examine_pattern-2 : goal.returns-in_err-examine_pattern-2
returns-in_err-examine_pattern-2 c =
    let a = c.args in
    let told = err_from_is_err_and c.from_residual-in_err-examine_pattern-2.result c.from_residual-in_err-examine_pattern-2.ensures.1 in
    rw (told.1, told.2)
    (told-right a.left.now a.right.now a.work a.pairs
    c.examine_pattern.ensures
    (ap standing_told c.in_ok-examine_pattern.was)
    c.examine_pattern-2.ensures
    (ap standing_told c.in_err-examine_pattern-2.was))

pub returns-then-wrong_room : goal.returns-then-wrong_room
returns-then-wrong_room c =
    let a = c.args in
    told-5 a.left.now a.right.now a.work a.pairs
    c.examine_pattern.ensures
    (ap standing_told c.in_ok-examine_pattern.was)
    c.examine_pattern-2.ensures
    (ap standing_told c.in_ok-examine_pattern-2.was)
    c.wrong_room.ensures
    c.if-wrong_room.true

pub returns-then-wrong_pair_room : goal.returns-then-wrong_pair_room
returns-then-wrong_pair_room c =
    let a = c.args in
    told-6 a.left.now a.right.now a.work a.pairs
    c.examine_pattern.ensures
    (ap standing_told c.in_ok-examine_pattern.was)
    c.examine_pattern-2.ensures
    (ap standing_told c.in_ok-examine_pattern-2.was)
    c.wrong_room.ensures
    c.if-wrong_room.false
    c.wrong_pair_room.ensures
    c.if-wrong_pair_room.true

pub returns : goal.returns
returns c =
    let a = c.args in
    told-good a.left.now a.right.now a.work a.pairs
    c.examine_pattern.ensures
    (ap standing_told c.in_ok-examine_pattern.was)
    c.examine_pattern-2.ensures
    (ap standing_told c.in_ok-examine_pattern-2.was)
    c.wrong_room.ensures
    c.if-wrong_room.false
    c.wrong_pair_room.ensures
    c.if-wrong_pair_room.false
