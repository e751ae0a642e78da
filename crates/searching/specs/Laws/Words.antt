-- When the pairs of a table have words.
use Rattle.std.specs.Prelude.{List}
use Rattle.machine.specs.Laws.Words as machine
use Rattle.pairs.specs.declared.pair.Pair.{Pair}
use Rattle.searching.specs.Laws.StoreMachine.{store_machine}

-- Every pair but the opening one came from a pair with a lower number.
abbrev pub Ordered : List Pair → Type 0
Ordered table = machine.Ordered store_machine table
