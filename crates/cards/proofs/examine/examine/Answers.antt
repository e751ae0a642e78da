-- `examine` tells the first refusal: the records passed are in good standing, so what the definition says of the whole card is
-- what it says of the records from `at` on.
use Prim.Native.Nat.{ℕ, suc, ◌+◌, ◌/◌, ◌<◌}
use native.Mathlib.Numerals.{add-one}
use native.Mathlib.Omega.{arith}
use mathlib.Core.List.{List}
use mathlib.Core.Path.{◌≡◌, sym, ◌∙◌, ap}
use lib.ListN.{length}
use Rattle.std.proofs.lemmas.Result.{err_from_is_err_and}
use Rattle.refusals.specs.Order.{Standing}
use Rattle.refusals.specs.Order.{Good, Refused}
use Rattle.records.specs.Record.{records, record_at}
use Rattle.cards.specs.Examine.{record_standing, examined}
use Rattle.refusals.specs.Order.{◌then◌}
use Rattle.refusals.specs.Told.{standing_told}
use Rattle.records.specs.Laws.Record.{record_at_place}
use Rattle.cards.proofs.Laws.Examine.{standing_from, standing_1, standing_start, standing_step, standing_end}
use Rattle.cards.proofs.examine.examine.Goals as goal

module _ (most : ℕ) (card : List ℕ) (at : ℕ) (l : at < length card / 8) (i : examined most card ≡ standing_from card at) where
  one_more : {found : Standing} → found ≡ record_standing (records card) at (record_at card at) → examined most card ≡ found then standing_from card (suc at)
  one_more e =
      i
      ∙ standing_step card at l
      ∙ rw (record_at_place card at l) (ap (λ (s : Standing). s then standing_from card (suc at)) (sym e))

  -- A refusal found at `at` is the card's; good standing found there leaves the records after it.
  told-refused : {found : Standing} {number : ℕ} → found ≡ record_standing (records card) at (record_at card at) → found ≡ Refused number → Refused number ≡ examined most card
  told-refused e f = let step = one_more e in cc

  told-good : {found : Standing} → found ≡ record_standing (records card) at (record_at card at) → found ≡ Good → examined most card ≡ standing_from card (at + 1)
  told-good e f = let step = one_more e in cc (add-one at)

pub returns-then-wrong_length : goal.returns-then-wrong_length
returns-then-wrong_length c =
    let a = c.args in
    sym (standing_1 a.most a.card.now (sym c.wrong_length.ensures ∙ c.if-wrong_length.true))

pub loop-at-init : goal.loop-at-init
loop-at-init c =
    let a = c.args in
    standing_start a.most a.card.now (sym c.wrong_length.ensures ∙ c.if-wrong_length.false)

pub returns-in_err-examine_record : goal.returns-in_err-examine_record
returns-in_err-examine_record c =
    let a = c.args in
    let l = c.loop-at in
    let told = err_from_is_err_and c.from_residual.result c.from_residual.ensures.1 in
    rw (told.1, told.2)
    (told-refused a.most a.card.now l.at (omega arith) l.invariant
    c.examine_record.ensures
    (ap standing_told c.in_err-examine_record.was))

pub loop-at-preserved : goal.loop-at-preserved
loop-at-preserved c =
    let a = c.args in
    let l = c.loop-at in
    told-good a.most a.card.now l.at (omega arith) l.invariant
    c.examine_record.ensures
    (ap standing_told c.in_ok-examine_record.was)

pub returns : goal.returns
returns c =
    let a = c.args in
    let l = c.loop-at in
    sym (l.invariant ∙ standing_end a.card.now l.at (omega arith))
