-- The outcome of matching: the answer with every number told, and the store that stands in the work room afterwards.
-- Document 01: "Matching derives by each byte in turn and reads the last mark." "Numbers 1 to 6 and 11 leave all rooms untouched and
-- report zero places, pairs and visits. Numbers 7 to 10 come at the moment named in the fixed order; records .. placed by then stand,
-- their counts and the visits are told, and every other byte is as lent. A final answer leaves the same."
use Rattle.std.specs.Prelude.{ℕ, ◌-◌, ◌/◌, cond, List, [], ◌∷◌, length}
use Rattle.answers.specs.Matching.{yes, no, refused, Told}
use Rattle.records.specs.declared.record.Record.{Record}
use Rattle.records.specs.Record.{records, child}
use Rattle.refusals.specs.Order.{Standing}
use Rattle.refusals.specs.Order.{Good, Refused}
use Rattle.refusals.specs.Numbers.{no_free_place}
use Rattle.cards.specs.Mark.{marked}
use Rattle.store.specs.Room.{fresh_store}
use Rattle.loading.specs.Loading.{Loading, loaded, no_room, load, root}
use Rattle.derivative.specs.Derivative.{Deriving, derived, stopped, and_then, derive}
use Rattle.matching.specs.Refusals.{standing_of, match_standing}

-- An outcome: what is told, and the store that stands in the room. Every byte behind it is as lent.
pub record Outcome : Type 0 where
  pub tells : Told
  pub store : List Record

-- Deriving by each byte of a word in turn.
unfoldable pub follow : ℕ → List ℕ → ℕ → List Record → ℕ → Deriving
follow room [] place store budget = derived place store budget
follow room (c ∷ word) place store budget = and_then (derive room c place store budget) (λ p s b. follow room word p s b)

-- The last place is judged by its mark; visits made and budget left add up to the budget given.
abbrev pub judged : ℕ → Deriving → Outcome
judged budget (derived place store left) =
    record { tells = record { says = cond (marked (child store place)) yes no; places = length store; visits = budget - left }; store = store }
judged budget (stopped number store left) =
    record { tells = record { says = refused number; places = length store; visits = budget - left }; store = store }

-- A card that is loaded is followed by the word; number 7 where the room is full before.
abbrev pub follow_loaded : ℕ → List ℕ → ℕ → Loading → Outcome
follow_loaded room word budget (loaded places store) = judged budget (follow room word (root places) store budget)
follow_loaded room word budget (no_room store) =
    record { tells = record { says = refused no_free_place; places = length store; visits = 0 }; store = store }

-- In a room of so many places.
unfoldable pub fits_in : List ℕ → List ℕ → ℕ → ℕ → Outcome
unfolding follow
fits_in card word room budget = follow_loaded room word budget (load room fresh_store (records card))

-- The outcome of a call: a card, a word, a work room of so many bytes and a budget, whatever they are.
abbrev pub fits_standing : Standing → List ℕ → List ℕ → ℕ → ℕ → Outcome
fits_standing (Refused number) card word size budget =
    record { tells = record { says = refused number; places = 0; visits = 0 }; store = [] }
fits_standing Good card word size budget = fits_in card word (size / 8) budget

unfoldable pub fits_outcome : List ℕ → List ℕ → ℕ → ℕ → Outcome
unfolding standing_of fits_in
fits_outcome card word size budget = fits_standing (match_standing card word size) card word size budget
