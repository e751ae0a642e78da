-- `tried` looks at each letter in turn and writes those that a card mentions: at each step the letters written are the mentioned ones
-- below the one looked at.
use native.Mathlib.Omega.{arith}
use mathlib.Core.Path.{sym, ◌∙◌}
use Rattle.pairs.specs.Laws.Tried.{none_written, room_for_one, one_written, one_passed, all_written}
use Rattle.pairs.proofs.letters.tried.Goals as goal
use Rattle.pairs.proofs.letters.tried.Goals.{then-mentioned, else-mentioned}

pub loop-at-init : goal.loop-at-init
loop-at-init c = none_written _ _

pub bounds-letters-count : goal.bounds-letters-count
bounds-letters-count c =
    let s = c in
    room_for_one c.loop-at.invariant (omega arith) s.requires

pub overflow_add-count : goal.overflow_add-count
overflow_add-count c =
    let s = c in
    let l = room_for_one c.loop-at.invariant (omega arith) s.requires in
    omega arith

pub loop-at-preserved : goal.loop-at-preserved
loop-at-preserved c =
    let s = c in
    let w = c.loop-at.invariant in
    let told = sym c.mentioned.ensures in
    elim c.if-mentioned.branch [
      | then-mentioned v ↦ rw (v.letters-is, v.count-is) (one_written w (omega arith) s.requires (told ∙ v.if-mentioned.true))
      | else-mentioned v ↦ rw (v.letters-is, v.count-is) (one_passed w (omega arith) s.requires (told ∙ v.if-mentioned.false))
    ]

pub returns : goal.returns
returns c =
    let a = c.args in
    let told = all_written a.left.now a.right.now c.loop-at.invariant (omega arith) in
    record { value = told.0; letters_after = told.1 }
