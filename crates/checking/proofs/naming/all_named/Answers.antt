-- `all_named` goes through the pairs: one that names no record is one too many, and where none was found every pair is named.

use Prim.Native.Nat.{ℕ, ◌<◌}
use native.Mathlib.Omega.{arith}
use mathlib.Core.Bool.{Bool, true, false, ◌&&◌, false≢true}
use mathlib.Core.List.{List}
use mathlib.Core.Path.{◌≡◌, refl, sym, ◌∙◌, ap}
use lib.Dec.{ltb}
use borrow.Author.Tests.{ltb-true, lt-ltb}
use borrow.Author.Count.{below_more}
use Rattle.language.proofs.Laws.Tests.{and_left, and_right, and_both}
use Rattle.pairs.specs.declared.pair.Pair.{Pair}
use Rattle.pairs.specs.Pair.{pair_record, pair_at}
use Rattle.pairs.specs.Room.{pairs_of, listed_pairs}
use Rattle.pairs.specs.Laws.Pair.{length_first_pairs, first_pair_at}
use Rattle.checking.specs.Outcome.{all_named}
use Rattle.checking.proofs.Laws.Refusals.{named_below, below_named}
use Rattle.checking.proofs.naming.all_named.Goals as goal

-- What the code asks of one pair.
abbrev both_below : List ℕ → ℕ → ℕ → Bool
both_below list count k = ltb (pair_record list k).left count && ltb (pair_record list k).right count

module _ (list : List ℕ) (count : ℕ) where
  abbrev asked : Pair → Bool
  asked p = ltb p.left count && ltb p.right count

  told_false : (k : ℕ) → k < pairs_of list → both_below list count k ≡ false → false ≡ all_named count (listed_pairs list)
  told_false k l e = go (all_named count (listed_pairs list)) refl
    where
      go : (b : Bool) → all_named count (listed_pairs list) ≡ b → false ≡ all_named count (listed_pairs list)
      go true f =
          let h = named_below count (listed_pairs list) f k (omega (arith, length_first_pairs (pairs_of list) list)) in
          let is = ap asked (first_pair_at (pairs_of list) list k l) in
          absurd (false≢true (sym e ∙ sym is ∙ and_both (lt-ltb _ count h.0) (lt-ltb _ count h.1)))
      go false f = sym f

  told_true : ((k : ℕ) → k < pairs_of list → both_below list count k ≡ true) → true ≡ all_named count (listed_pairs list)
  told_true h =
      sym
      (below_named count (listed_pairs list)
      (λ n m.
      let l : n < pairs_of list = omega (arith, length_first_pairs (pairs_of list) list) in
      let p = pair_at (listed_pairs list) n in
      let e : asked p ≡ true = ap asked (first_pair_at (pairs_of list) list n l) ∙ h n l in (
        ltb-true p.left count (and_left (ltb p.left count) (ltb p.right count) e),
        ltb-true p.right count (and_right (ltb p.left count) (ltb p.right count) e),
      )))

pub loop-at-init : goal.loop-at-init
loop-at-init c = λ k l. absurd (omega arith)

pub returns-then-not-named : goal.returns-then-not-named
returns-then-not-named c =
    let a = c.args in
    told_false a.list.now a.count c.loop-at.at (omega arith)
    (sym c.named.ensures ∙ c.if-not-named.true)

pub loop-at-preserved : goal.loop-at-preserved
loop-at-preserved c =
    let l = c.loop-at in
    below_more _ l.at l.invariant (sym c.named.ensures ∙ c.if-not-named.false)

pub returns : goal.returns
returns c =
    let a = c.args in
    let l = c.loop-at in
    told_true a.list.now a.count (λ k m. l.invariant k (omega arith))
