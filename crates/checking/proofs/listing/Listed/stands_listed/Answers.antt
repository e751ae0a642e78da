-- `stands_listed` compares the two places of each mapped pair as one number, which tells places apart: a pair with the number wanted stands in the
-- list, and where no pair passed has it none does.
use Prim.Native.Nat.{ℕ, ◌+◌, ◌*◌, ◌<◌}
use native.Mathlib.Omega.{arith}
use mathlib.Core.Bool.{true, false}
use mathlib.Core.List.{List}
use mathlib.Core.Path.{◌≡◌, sym, ◌∙◌, ap}
use borrow.Author.Count.{below_more}
use Rattle.pairs.specs.declared.pair.Pair.{Pair}
use Rattle.pairs.specs.Pair.{places_of_pair, pair_at, stands_in}
use Rattle.pairs.specs.Room.{pairs_of}
use Rattle.checking.specs.Listed.{mapped_list}
use Rattle.checking.proofs.Laws.Listing.{length_listed, number_found, number_missing}
use Rattle.checking.proofs.listing.Listed.stands_listed.Goals as goal

module _ (list map : List ℕ) (x y : ℕ) where
  abbrev pairs : List Pair
  pairs = mapped_list map list

  told-true : {p : Pair} → p.left < 65536 → x < 65536 → (n : ℕ) → n < pairs_of list → p ≡ pair_at pairs n
      → places_of_pair p ≡ x + 65536 * y → true ≡ stands_in pairs x y
  told-true fits x_Fits n l is e =
      number_found pairs x y n (omega (arith, length_listed map list))
      (rw (sym is) fits) x_Fits
      (ap places_of_pair (sym is) ∙ e)

  told-false : ((n : ℕ) → n < pairs_of list → places_of_pair (pair_at pairs n) ≡ x + 65536 * y → ⊥) → false ≡ stands_in pairs x y
  told-false none = number_missing pairs x y (λ n l. none n (omega (arith, length_listed map list)))

pub loop-at-init : goal.loop-at-init
loop-at-init c = λ k l. absurd (omega arith)

pub returns-then-both-wanted : goal.returns-then-both-wanted
returns-then-both-wanted c =
    let a = c.args in
    told-true a.self.list.now a.self.map.now a.x a.y
    (omega arith)
    (omega arith)
    c.loop-at.at
    (omega arith)
    c.mapped_pair-p.ensures
    (sym c.both.ensures ∙ c.if-both-wanted.true ∙ c.both-wanted.ensures)

pub loop-at-preserved : goal.loop-at-preserved
loop-at-preserved c =
    let l = c.loop-at in
    below_more _ l.at l.invariant
    (λ e. c.if-both-wanted.false (c.both.ensures ∙ ap places_of_pair c.mapped_pair-p.ensures ∙ e))

pub returns : goal.returns
returns c =
    let a = c.args in
    let l = c.loop-at in
    told-false a.self.list.now a.self.map.now a.x a.y
    (λ k m e. l.invariant k (omega arith) (e ∙ sym c.both-wanted.ensures))
