-- The visits of following a word: the sum of `visits` over the derivations done, along the places reached, and those made in one that stopped.
use Rattle.std.specs.Prelude.{ℕ, ◌+◌, ◌-◌, ◌/◌, List, [], ◌∷◌}
use Rattle.records.specs.declared.record.Record.{Record}
use Rattle.refusals.specs.Order.{Standing}
use Rattle.refusals.specs.Order.{Good, Refused}
use Rattle.records.specs.Record.{records}
use Rattle.store.specs.Room.{fresh_store}
use Rattle.loading.specs.Loading.{root, Loading, loaded, no_room, load}
use Rattle.derivative.specs.Derivative.{derived, stopped, derive}
use Rattle.derivative.specs.Visits.{visits}
use Rattle.matching.specs.Refusals.{standing_of, match_standing}

unfoldable pub visits_along : ℕ → List ℕ → ℕ → List Record → ℕ → ℕ
visits_along room [] place store budget = 0
visits_along room (c ∷ word) place store budget =
    elim (derive room c place store budget) [
      | derived p s b ↦ visits store place + visits_along room word p s b
      | stopped number s b ↦ budget - b
    ]

-- The visits of a call: none where it is refused at once or the card finds no room.
abbrev pub visits_loaded : ℕ → List ℕ → ℕ → Loading → ℕ
visits_loaded room word budget (loaded places store) = visits_along room word (root places) store budget
visits_loaded room word budget (no_room store) = 0

abbrev pub visits_standing : Standing → List ℕ → List ℕ → ℕ → ℕ → ℕ
visits_standing (Refused number) card word room budget = 0
visits_standing Good card word room budget = visits_loaded room word budget (load room fresh_store (records card))

unfoldable pub call_visits : List ℕ → List ℕ → ℕ → ℕ → ℕ
unfolding visits_along standing_of load
call_visits card word size budget = visits_standing (match_standing card word size) card word (size / 8) budget
