-- `examine_record` tells 2 before 3: each of its three answers is the definition's case for the two tests that led there.
use Prim.Native.Nat.{ℕ}
use mathlib.Core.Bool.{Bool, true, false}
use mathlib.Core.List.{List}
use mathlib.Core.Path.{◌≡◌}
use Rattle.refusals.specs.Order.{Good, Refused}
use Rattle.records.specs.declared.record.Record.{Record}
use Rattle.records.specs.Record.{records, record_at}
use Rattle.cards.specs.Examine.{obeys, mark_right, record_standing}
use Rattle.cards.proofs.examine.examine_record.Goals as goal

-- The record that was read, and what the two tests said of it.
module _ (card : List ℕ) (at : ℕ) {found : Record} (is : found ≡ record_at card at) {first : Bool} (e : first ≡ obeys at found) where
  told_2 : first ≡ false → Refused 2 ≡ record_standing (records card) at (record_at card at)
  told_2 t = cc

  told_3 : first ≡ true → {second : Bool} → second ≡ mark_right (records card) found → second ≡ false
      → Refused 3 ≡ record_standing (records card) at (record_at card at)
  told_3 t f u = cc

  told_good : first ≡ true → {second : Bool} → second ≡ mark_right (records card) found → second ≡ true
      → Good ≡ record_standing (records card) at (record_at card at)
  told_good t f u = cc

pub returns-then-not-obeys : goal.returns-then-not-obeys
returns-then-not-obeys c =
    let a = c.args in
    told_2 a.card.now a.at c.read-r.ensures c.obeys.ensures c.if-not-obeys.true

pub returns-then-not-mark_right : goal.returns-then-not-mark_right
returns-then-not-mark_right c =
    let a = c.args in
    told_3 a.card.now a.at c.read-r.ensures
    c.obeys.ensures
    c.if-not-obeys.false
    c.mark_right.ensures
    c.if-not-mark_right.true

pub returns : goal.returns
returns c =
    let a = c.args in
    told_good a.card.now a.at c.read-r.ensures
    c.obeys.ensures
    c.if-not-obeys.false
    c.mark_right.ensures
    c.if-not-mark_right.false
