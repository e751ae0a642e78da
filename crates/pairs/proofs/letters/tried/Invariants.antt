-- `tried` looks at each letter in turn and writes those that a card mentions: at each step the letters written are the mentioned ones
-- below the one looked at.
use Rattle.pairs.specs.Tried.{mentioned}
use Rattle.pairs.specs.Laws.Tried.{Written}
use Rattle.pairs.proofs.letters.tried.Given as goal

abbrev pub invariant-loop-at : goal.invariant-loop-at
invariant-loop-at l = Written (mentioned l.left l.right) l.initial.letters l.letters l.count l.at
