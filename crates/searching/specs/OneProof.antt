-- A table stands in one way: what says so has one proof at most, and so can be a fact of the table.
use Rattle.std.specs.Prelude.{ℕ, List}
use Rattle.std.proofs.Props.{props}
use Rattle.store.specs.OneProof.{bytes_prop}
use Rattle.searching.specs.Table.{GoodTable}

pub good_table_prop : (room : List ℕ) (pairs : ℕ) → IsProp (GoodTable room pairs)
good_table_prop room pairs = Prim.hlevel (bytes_prop, props)
