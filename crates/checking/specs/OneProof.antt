-- A list names records in one way: what says so has one proof at most, and so can be a fact of the list.
use Rattle.std.specs.Prelude.{ℕ, List}
use Rattle.std.proofs.Props.{props}
use Rattle.checking.specs.Listed.{Named}

pub named_prop : (list map : List ℕ) → IsProp (Named list map)
named_prop list map = Prim.hlevel props
