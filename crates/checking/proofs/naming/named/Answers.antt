-- `named` asks both fields of the pair that it reads.
use mathlib.Core.Bool.{◌&&◌}
use mathlib.Core.Path.{ap}
use lib.Dec.{ltb}
use Rattle.pairs.specs.declared.pair.Pair.{Pair}
use Rattle.checking.proofs.naming.named.Goals as goal

pub returns : goal.returns
returns c =
    let a = c.args in
    ap (λ (p : Pair). ltb p.left a.count && ltb p.right a.count) c.read-p.ensures
