-- `find` compares records by their numbers, which tell records apart: no record passed has the number wanted, so what the definition
-- says of the whole store is what it says of the records from `at` on. The records below the place where looking begins are passed at once: the
-- store is good, so each obeys the kind table at its place, which the record wanted would not.
use Prim.Native.Nat.{ℕ, zero, suc, ◌*◌, ◌<◌, ◌≤◌}
use native.Mathlib.Omega.{arith}
use mathlib.Core.Bool.{Bool, true, false, ◌&&◌, false≢true}
use mathlib.Core.List.{List, ◌∷◌}
use mathlib.Core.Path.{◌≡◌, refl, sym, ◌∙◌, ap, subst}
use lib.Dec.{eqb}
use lib.ListN.{length, drop, drop_of_length-le}
use lib.Seq.{drop-cons}
use borrow.Author.Count.{below_more}
use borrow.Author.Tests.{eqb-true, eq-eqb}
use Rattle.language.specs.Word.{Bytes}
use Rattle.records.specs.declared.record.Record.{Record}
use Rattle.records.specs.Record.{record_at, number_of, no_record}
use Rattle.cards.specs.Standing.{Obeys}
use Rattle.records.specs.Laws.Record.{Fitting, number_one, fitting_of, bytes_drop, length_first}
use Rattle.std.specs.declared.option.Option.TheVariants.{Some, None}
use Rattle.store.specs.Room.{store_in}
use Rattle.store.specs.Making.{identical, find_from, find}
use Rattle.store.proofs.Laws.Room.{child_in_room}
use Rattle.store.proofs.finding.find.Goals as goal

-- Identical records have one number, and records that fit and have one number are identical.
all-six : (a b c d e f : Bool) → a && b && c && d && e && f ≡ true
    → (a ≡ true) × (b ≡ true) × (c ≡ true) × (d ≡ true) × (e ≡ true) × (f ≡ true)
all-six false b c d e f t = absurd (false≢true t)
all-six true false c d e f t = absurd (false≢true t)
all-six true true false d e f t = absurd (false≢true t)
all-six true true true false e f t = absurd (false≢true t)
all-six true true true true false f t = absurd (false≢true t)
all-six true true true true true false t = absurd (false≢true t)
all-six true true true true true true t = (refl, refl, refl, refl, refl, refl)

number-of-identical : (s r : Record) → identical s r ≡ true → number_of s ≡ number_of r
number-of-identical s r t =
    let six = all-six (eqb s.kind r.kind) (eqb s.letter r.letter) (eqb s.mark r.mark) (eqb s.fourth r.fourth) (eqb s.left r.left) (eqb s.right r.right) t in
    rw (
      eqb-true s.kind r.kind six.0,
      eqb-true s.letter r.letter six.1,
      eqb-true s.mark r.mark six.2,
      eqb-true s.fourth r.fourth six.3,
      eqb-true s.left r.left six.4,
      eqb-true s.right r.right six.5,
    )

identical-same : (r : Record) → identical r r ≡ true
identical-same r =
    rw (
      eq-eqb r.kind r.kind refl,
      eq-eqb r.letter r.letter refl,
      eq-eqb r.mark r.mark refl,
      eq-eqb r.fourth r.fourth refl,
      eq-eqb r.left r.left refl,
      eq-eqb r.right r.right refl,
    )

identical-of-number : (s r : Record) → Fitting s → Fitting r → number_of s ≡ number_of r → identical s r ≡ true
identical-of-number s r f g e = rw (number_one s r f g e) (identical-same r)

not-identical : (s r : Record) → (number_of s ≡ number_of r → ⊥) → identical s r ≡ false
not-identical s r n = go (identical s r) refl
  where
    go : (b : Bool) → identical s r ≡ b → identical s r ≡ false
    go true t = absurd (n (number-of-identical s r t))
    go false t = t

-- The first record of a list, by whether it is identical.
module _ (at : ℕ) (s : Record) (rest : List Record) (r : Record) where
  first : identical s r ≡ true → find_from at (s ∷ rest) r ≡ Some at
  unfolding find_from
  first t = ap (λ (b : Bool). elim b [ true ↦ Some at | false ↦ find_from (suc at) rest r ]) t

  not_first : identical s r ≡ false → find_from at (s ∷ rest) r ≡ find_from (suc at) rest r
  unfolding find_from
  not_first t = ap (λ (b : Bool). elim b [ true ↦ Some at | false ↦ find_from (suc at) rest r ]) t

module _ (room : List ℕ) (places : ℕ) (r : Record) where
  -- The records from `at` on are the one at its place in the room and those after it.
  from : (at : ℕ) → at < places → drop at (store_in room places) ≡ record_at room at ∷ drop (suc at) (store_in room places)
  from at l =
      let within : at < length (store_in room places) = omega (arith, length_first places room) in
      rw (drop-cons (store_in room places) at no_record within, child_in_room places room at l)

  at_last : find_from places (drop places (store_in room places)) r ≡ None
  unfolding find_from
  at_last = rw (drop_of_length-le (store_in room places) {i = places} (omega (arith, length_first places room)))

  -- The records below `at` have other numbers.
  passed : (at : ℕ) → at ≤ places → ((k : ℕ) → k < at → number_of (record_at room k) ≡ number_of r → ⊥)
      → find (store_in room places) r ≡ find_from at (drop at (store_in room places)) r
  unfolding find find_from
  passed zero l n = refl
  passed (suc at) l n =
      passed at (omega arith) (λ k m. n k (omega arith))
      ∙ rw (from at (omega arith))
      (not_first at (record_at room at) (drop (suc at) (store_in room places)) r
      (not-identical (record_at room at) r (n at (omega arith))))

  told_at : Bytes room → Fitting r → (at : ℕ) → at < places → ((k : ℕ) → k < at → number_of (record_at room k) ≡ number_of r → ⊥)
      → number_of (record_at room at) ≡ number_of r → Some at ≡ find (store_in room places) r
  told_at b f at l n e =
      sym
      (passed at (omega arith) n
      ∙ rw (from at l)
      (first at (record_at room at) (drop (suc at) (store_in room places)) r
      (identical-of-number (record_at room at) r (fitting_of (bytes_drop (8 * at) b)) f e)))

  told-absent : ((k : ℕ) → k < places → number_of (record_at room k) ≡ number_of r → ⊥) → None ≡ find (store_in room places) r
  told-absent n = sym (passed places (omega arith) n ∙ at_last)

pub loop-at-init : goal.loop-at-init
loop-at-init c k l m e =
    let a = c.args in
    let g = c.requires in
    let is = number_one (record_at a.room.now k) a.r (fitting_of (bytes_drop (8 * k) g.bytes))
    (record { kind = omega arith; letter = omega arith; mark = omega arith; fourth = omega arith; left = omega arith; right = omega arith })
    (e ∙ c.number-wanted.ensures) in
    let o = subst (Obeys k) (child_in_room a.places a.room.now k m ∙ is)
    (g.good.obeys k (omega (arith, length_first a.places a.room.now))) in
    omega (arith, (c.above_children-at.ensures k o).0)

pub returns-then-number_at-wanted : goal.returns-then-number_at-wanted
returns-then-number_at-wanted c =
    let a = c.args in
    let l = c.loop-at in
    let is = c.number-wanted.ensures in
    told_at a.room.now a.places a.r c.requires.bytes
    (record { kind = omega arith; letter = omega arith; mark = omega arith; fourth = omega arith; left = omega arith; right = omega arith })
    l.at (omega arith) (λ k m e. l.invariant k m (omega arith) (e ∙ sym is))
    (sym c.number_at.ensures ∙ c.if-number_at-wanted.true ∙ is)

pub loop-at-preserved : goal.loop-at-preserved
loop-at-preserved c =
    let l = c.loop-at in
    below_more _ l.at l.invariant (λ m e. c.if-number_at-wanted.false (c.number_at.ensures ∙ e))

pub returns : goal.returns
returns c =
    let a = c.args in
    let l = c.loop-at in
    told-absent a.room.now a.places a.r
    (λ k m e. l.invariant k (omega arith) m (e ∙ sym c.number-wanted.ensures))
