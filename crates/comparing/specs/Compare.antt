-- The outcome of comparing: what is told, and what stands in the three rooms afterwards.
-- Document 01: "Order: .. left card, right card, .. then 4, 5, 6". 10: ""different", and the word room is shorter than the word".
-- "Numbers 1 to 6 and 11 leave all rooms untouched and report zero places, pairs and visits. Numbers 7 to 10 come at the moment named in the
-- fixed order; records and pairs placed by then stand, their counts and the visits are told, and every other byte is as lent. A final answer
-- leaves the same. The word room changes only on "different". Number 10 also tells the length wanted and leaves the word room as lent."
use Rattle.std.specs.Prelude.{ℕ, ◌-◌, ◌/◌, Bool, true, false, List, [], ◌∷◌, ltb, length}
use Rattle.answers.specs.Comparing.{Verdict, are_same, are_different, refused_by, word_room_short, Told}
use Rattle.records.specs.declared.record.Record.{Record}
use Rattle.refusals.specs.Order.{Standing}
use Rattle.refusals.specs.Order.{Good, Refused}
use Rattle.records.specs.Record.{records}
use Rattle.cards.specs.Examine.{pattern_card}
use Rattle.refusals.specs.Numbers.{work_room_size, pair_room_size, no_free_place, short_word_room}
use Rattle.refusals.specs.Order.{first_refusal, refused_if}
use Rattle.store.specs.Room.{wrong_room}
use Rattle.pairs.specs.declared.pair.Pair.{Pair}
use Rattle.pairs.specs.Room.{wrong_pair_room}
use Rattle.pairs.specs.Tried.{tried}
use Rattle.pairs.specs.Opening.{Opening, opened, unopened, open_both}
use Rattle.searching.specs.Search.{Search, same, different, stopped, search}

-- The order of refusals, of two cards, a work room and a pair room of so many bytes.
abbrev pub compare_order : List ℕ → List ℕ → ℕ → ℕ → List Standing
compare_order left right work pairs =
    pattern_card left ∷ pattern_card right ∷ refused_if (wrong_room work) work_room_size ∷ refused_if (wrong_pair_room pairs) pair_room_size ∷ []

-- The first refusal of them.
unfoldable pub compare_standing : List ℕ → List ℕ → ℕ → ℕ → Standing
unfolding pattern_card
compare_standing left right work pairs = first_refusal (compare_order left right work pairs)

-- An outcome: what is told, the store and the table that stand, and the word written.
pub record Outcome : Type 0 where
  pub tells : Told
  pub store : List Record
  pub table : List Pair
  pub written : List ℕ

-- What is told at an end, with the visits made.
abbrev pub told_at : Verdict → List Record → List Pair → ℕ → List ℕ → Outcome
told_at verdict store table visits written =
    record {
      tells = record { says = verdict; pairs = length table; places = length store; visits = visits };
      store = store;
      table = table;
      written = written;
    }

-- Of a word that was found, by whether the word room is shorter than the word.
abbrev pub of_word : List ℕ → Bool → List Record → List Pair → ℕ → Bool → Outcome
of_word word left_has store table visits short =
    elim short [
      | true ↦ told_at (word_room_short short_word_room (length word)) store table visits []
      | false ↦ told_at (are_different (length word) left_has) store table visits word
    ]

-- Of a search, with a word room of so many bytes. Visits made and budget left add up to the budget given.
abbrev pub of_search : ℕ → ℕ → Search → Outcome
of_search room budget (same store table left) = told_at are_same store table (budget - left) []
of_search room budget (different word left_has store table left) =
    of_word word left_has store table (budget - left) (ltb room (length word))
of_search room budget (stopped number store table left) = told_at (refused_by number) store table (budget - left) []

-- Two cards that are opened are searched from the opening pair; number 7 where the room is full before.
abbrev pub search_opened : ℕ → ℕ → ℕ → List ℕ → ℕ → Opening → Outcome
search_opened room pairs word letters budget (opened x y store) = of_search word budget (search room pairs letters x y store budget)
search_opened room pairs word letters budget (unopened store) = told_at (refused_by no_free_place) store [] 0 []

abbrev pub compare_by : Standing → List ℕ → List ℕ → ℕ → ℕ → ℕ → ℕ → Outcome
compare_by (Refused number) left right work pairs word budget = told_at (refused_by number) [] [] 0 []
compare_by Good left right work pairs word budget =
    search_opened (work / 8) (pairs / 8) word (tried left right) budget (open_both (work / 8) (records left) (records right))

-- The outcome of a call: two cards, a work room, a pair room and a word room of so many bytes, and a budget.
unfoldable pub compare_outcome : List ℕ → List ℕ → ℕ → ℕ → ℕ → ℕ → Outcome
unfolding compare_standing tried open_both search
compare_outcome left right work pairs word budget = compare_by (compare_standing left right work pairs) left right work pairs word budget
