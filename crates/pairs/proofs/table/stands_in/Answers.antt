-- `stands_in` compares the two places of each pair as one number, which tells places apart: a pair with the number wanted stands in the
-- table, and where no pair passed has it none does.
use Prim.Native.Nat.{ℕ, ◌+◌, ◌*◌, ◌<◌}
use native.Mathlib.Omega.{arith}
use mathlib.Core.Bool.{Bool, true, false}
use mathlib.Core.List.{List}
use mathlib.Core.Path.{◌≡◌, refl, sym, ◌∙◌, ap}
use borrow.Author.Count.{below_more}
use Rattle.language.specs.Word.{Bytes}
use Rattle.language.proofs.Laws.Words.{bytes_all}
use Rattle.runs.specs.Laws.Bytes.{bytes_drop}
use Rattle.pairs.specs.declared.pair.Pair.{Pair}
use Rattle.pairs.specs.Pair.{places_of_pair, pair_record, stands_in, StandsAt}
use Rattle.pairs.specs.Room.{table_in}
use Rattle.pairs.specs.Laws.Pair.{length_first_pairs, first_pair_at, fitting_pair_of, places-one}
use Rattle.pairs.specs.Laws.Table.{stands_at, stands_listed}
use Rattle.pairs.proofs.table.stands_in.Goals as goal

module _ (room : List ℕ) (pairs left right : ℕ) where
  -- A pair with the number wanted has the two places.
  told-true : Bytes room → left < 65536 → (at : ℕ) → at < pairs → places_of_pair (pair_record room at) ≡ left + 65536 * right
      → true ≡ stands_in (table_in room pairs) left right
  told-true b f at l e =
      let same = places-one _ _ left right (fitting_pair_of (bytes_drop (8 * at) b)).left f e in
      let is = first_pair_at pairs room at l in
      sym
      (stands_listed (table_in room pairs) at left right (omega (arith, length_first_pairs pairs room))
      (ap (λ (p : Pair). p.left) is ∙ same.0)
      (ap (λ (p : Pair). p.right) is ∙ same.1))

  -- Where no pair has the number wanted, none has the two places.
  told-false : ((at : ℕ) → at < pairs → places_of_pair (pair_record room at) ≡ left + 65536 * right → ⊥)
      → false ≡ stands_in (table_in room pairs) left right
  told-false n = go (stands_in (table_in room pairs) left right) refl
    where
      other : StandsAt (table_in room pairs) left right → ⊥
      other s =
          let l : s.at < pairs = let i = s.inside in omega (arith, length_first_pairs pairs room) in
          let is = first_pair_at pairs room s.at l in
          let a = s.left in
          let b = s.right in
          let x = ap (λ (p : Pair). p.left) is in
          let y = ap (λ (p : Pair). p.right) is in
          n s.at l (omega arith)

      go : (b : Bool) → stands_in (table_in room pairs) left right ≡ b → false ≡ stands_in (table_in room pairs) left right
      go true e = absurd (other (stands_at (table_in room pairs) left right e))
      go false e = sym e

pub loop-at-init : goal.loop-at-init
loop-at-init c = λ k l. absurd (omega arith)

pub returns-then-places_at-wanted : goal.returns-then-places_at-wanted
returns-then-places_at-wanted c =
    let s = c in
    let a = s.args in
    told-true a.room.now a.pairs a.left a.right
    (bytes_all a.room.now (λ i. (c.type_inv.room i).fits))
    (omega arith)
    c.loop-at.at
    (omega arith)
    (sym c.places_at.ensures ∙ c.if-places_at-wanted.true ∙ c.both-wanted.ensures)

pub loop-at-preserved : goal.loop-at-preserved
loop-at-preserved c =
    let l = c.loop-at in
    below_more _ l.at l.invariant (λ e. c.if-places_at-wanted.false (c.places_at.ensures ∙ e))

pub returns : goal.returns
returns c =
    let a = c.args in
    let l = c.loop-at in
    told-false a.room.now a.pairs a.left a.right
    (λ k m e. l.invariant k (omega arith) (e ∙ sym c.both-wanted.ensures))
