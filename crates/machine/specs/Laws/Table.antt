-- Looking a pair up: a pair stands in a table exactly when one of the table's rows has its two states.
use Rattle.std.specs.Prelude.{true, false, List, ◌≡◌}
use Rattle.std.proofs.lemmas.Bool.{false≢true}
use Rattle.std.proofs.Common.{sym, ◌∙◌}
use Rattle.machine.specs.Laws.Machine.{Machine, Sense, Lawful}
use Rattle.machine.specs.Laws.Search.{row_at, stands_in, StandsAt}
use Rattle.machine.specs.Laws.Finding.{found_at, found_listed}

module _ {State Has Row : Type 0} {M : Machine State Has Row} {S : Sense State Has} (laws : Lawful M S) (table : List Row) (x y : State) where
  -- Where the test finds them, they stand.
  pub stands_at : stands_in M table x y ≡ true → StandsAt M table x y
  unfolding stands_in
  stands_at e =
      let f = found_at (λ r. M.has_states r x y) M.no_row table e in
      record { at = f.at; inside = f.inside; states = (laws.has_states_tells (row_at M table f.at) x y).sound f.holds }

  -- A row of the table stands in it.
  pub stands_listed : StandsAt M table x y → stands_in M table x y ≡ true
  unfolding stands_in
  stands_listed s =
      found_listed (λ r. M.has_states r x y) M.no_row table s.at s.inside ((laws.has_states_tells (row_at M table s.at) x y).complete s.states)

  -- Where the test does not find them, they stand nowhere.
  pub stands_nowhere : stands_in M table x y ≡ false → StandsAt M table x y → ⊥
  stands_nowhere e s = false≢true (sym e ∙ stands_listed s)
