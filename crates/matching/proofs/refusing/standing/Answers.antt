-- `standing` tells the first refusal: each of its four answers is the definition's case for the tests that led there.
use Prim.Native.Nat.{ℕ, ◌<◌, ◌≤◌}
use mathlib.Core.Bool.{Bool, true, false}
use mathlib.Core.List.{List}
use mathlib.Core.Path.{◌≡◌, sym, ◌∙◌, ap}
use borrow.Author.Tests.{lt-ltb, le-ltb}
use Rattle.std.proofs.lemmas.Result.{err_from_is_err_and}
use Rattle.refusals.specs.Order.{Standing, Good, Refused}
use Rattle.refusals.specs.Told.{standing_told}
use Rattle.refusals.specs.Numbers.{long_word, work_room_size}
use Rattle.refusals.specs.Limits.{most_word}
use Rattle.cards.specs.Examine.{pattern_card}
use Rattle.store.specs.Room.{wrong_room}
use Rattle.matching.specs.Refusals.{standing_of}
use Rattle.matching.proofs.refusing.standing.Goals as goal

-- What the card's examination found.
module _ (card : List ℕ) (word room : ℕ) {found : Standing} (is : found ≡ pattern_card card) where
  told-card : {number : ℕ} → found ≡ Refused number → Refused number ≡ standing_of card word room
  unfolding standing_of
  told-card e = let f : pattern_card card ≡ Refused _ = sym is ∙ e in rw f

  -- The card is good, and what the tests said.
  module _ (e : found ≡ Good) where
    good : pattern_card card ≡ Good
    good = sym is ∙ e

    told-long : most_word < word → Refused long_word ≡ standing_of card word room
    unfolding standing_of
    told-long t = rw (good, lt-ltb most_word word t)

    told-room : word ≤ most_word → {wrong : Bool} → wrong ≡ wrong_room room → wrong ≡ true → Refused work_room_size ≡ standing_of card word room
    unfolding standing_of
    told-room t w u = rw (good, le-ltb most_word word t, sym w ∙ u)

    told-good : word ≤ most_word → {wrong : Bool} → wrong ≡ wrong_room room → wrong ≡ false → Good ≡ standing_of card word room
    unfolding standing_of
    told-good t w u = rw (good, le-ltb most_word word t, sym w ∙ u)

pub returns-in_err-examine_pattern : goal.returns-in_err-examine_pattern
returns-in_err-examine_pattern c =
    let a = c.args in
    let told = err_from_is_err_and c.from_residual.result c.from_residual.ensures.1 in
    rw (told.1, told.2) (told-card a.card.now a.word a.room c.examine_pattern.ensures (ap standing_told c.in_err-examine_pattern.was))

pub returns-then-word-gt-MOST_WORD : goal.returns-then-word-gt-MOST_WORD
returns-then-word-gt-MOST_WORD c =
    let a = c.args in
    told-long a.card.now a.word a.room c.examine_pattern.ensures (ap standing_told c.in_ok-examine_pattern.was) c.if-word-gt-MOST_WORD.true

pub returns-then-wrong_room : goal.returns-then-wrong_room
returns-then-wrong_room c =
    let a = c.args in
    told-room a.card.now a.word a.room c.examine_pattern.ensures (ap standing_told c.in_ok-examine_pattern.was)
    c.if-word-gt-MOST_WORD.false
    c.wrong_room.ensures
    c.if-wrong_room.true

pub returns : goal.returns
returns c =
    let a = c.args in
    told-good a.card.now a.word a.room c.examine_pattern.ensures (ap standing_told c.in_ok-examine_pattern.was)
    c.if-word-gt-MOST_WORD.false
    c.wrong_room.ensures
    c.if-wrong_room.false
