-- `mentions` finds a letter record of the letter if there is one: the records passed have none, so what the definition says of the
-- whole card is what it says of the records from `at` on.
use Prim.Native.Nat.{ℕ, suc, ◌+◌, ◌/◌, ◌<◌, ◌≤◌}
use native.Mathlib.Numerals.{add-one}
use native.Mathlib.Omega.{arith}
use mathlib.Core.Bool.{Bool, true, false, ◌||◌}
use mathlib.Core.List.{List}
use mathlib.Core.Path.{◌≡◌, refl, sym, ◌∙◌}
use lib.ListN.{length, drop, drop_of_length-le}
use lib.Seq.{drop-cons}
use Rattle.records.specs.declared.kind.Kind.{Kind}
use Rattle.records.specs.declared.record.Record.{Record}
use Rattle.records.specs.Record.{records, record_at, no_record}
use Rattle.records.specs.Kind.{kind_of}
use Rattle.cards.specs.Letters.{letter_of, mentions}
use Rattle.records.specs.Laws.Record.{record_at_place, length_records}
use Rattle.cards.proofs.letters.mentions.Goals as goal

module _ (card : List ℕ) (letter : ℕ) where
  -- What the definition says of the records from `at` on.
  abbrev from : ℕ → Bool
  from at = mentions (drop at (records card)) letter

  at_first : mentions (records card) letter ≡ from 0
  at_first = refl

  one_more : (at : ℕ) → at < length card / 8 → from at ≡ letter_of (kind_of (record_at card at).kind) (record_at card at).letter letter || from (suc at)
  unfolding mentions
  one_more at l =
      let within : at < length (records card) = omega (arith, length_records card) in
      rw (drop-cons (records card) at no_record within, record_at_place card at l)

  -- What was found at `at`, by the kind and the letter of the record read there.
  told : (at : ℕ) → at < length card / 8 → {r : Record} → r ≡ record_at card at → {k : Kind} → k ≡ kind_of r.kind
      → {found : Bool} → found ≡ letter_of k r.letter letter → from at ≡ found || from (suc at)
  told at l e f g = let step = one_more at l in cc

  told_yes : (at : ℕ) → mentions (records card) letter ≡ from at → {found : Bool} → from at ≡ found || from (suc at) → found ≡ true → true ≡ mentions (records card) letter
  told_yes at i s e = cc

  told_no : (at : ℕ) → mentions (records card) letter ≡ from at → {found : Bool} → from at ≡ found || from (suc at) → found ≡ false → mentions (records card) letter ≡ from (at + 1)
  told_no at i s e = cc (add-one at)

  at_last : (at : ℕ) → length card / 8 ≤ at → from at ≡ false
  unfolding mentions
  at_last at l = rw (drop_of_length-le (records card) {i = at} (omega (arith, length_records card)))

pub loop-at-init : goal.loop-at-init
loop-at-init c = at_first c.args.card.now c.args.letter

pub returns-then-letter_of : goal.returns-then-letter_of
returns-then-letter_of c =
    let a = c.args in
    let l = c.loop-at in
    told_yes a.card.now a.letter l.at l.invariant
    (told a.card.now a.letter l.at (omega arith) c.read-r.ensures c.from.ensures c.letter_of.ensures)
    c.if-letter_of.true

pub loop-at-preserved : goal.loop-at-preserved
loop-at-preserved c =
    let a = c.args in
    let l = c.loop-at in
    told_no a.card.now a.letter l.at l.invariant
    (told a.card.now a.letter l.at (omega arith) c.read-r.ensures c.from.ensures c.letter_of.ensures)
    c.if-letter_of.false

pub returns : goal.returns
returns c =
    let a = c.args in
    let l = c.loop-at in
    sym (l.invariant ∙ at_last a.card.now a.letter l.at (omega arith))
