-- The visits of a comparison are those of its search; a call that comes to no search makes none.
use Rattle.std.specs.Prelude.{ℕ, ◌/◌, List}
use Rattle.refusals.specs.Order.{Standing}
use Rattle.refusals.specs.Order.{Good, Refused}
use Rattle.records.specs.Record.{records}
use Rattle.pairs.specs.Tried.{tried}
use Rattle.pairs.specs.Opening.{Opening, opened, unopened, open_both}
use Rattle.searching.specs.Along.{search_visits}
use Rattle.comparing.specs.Compare.{compare_standing}

-- Two cards that are opened are searched; cards that find no room cost nothing.
abbrev pub opened_visits : ℕ → ℕ → List ℕ → ℕ → Opening → ℕ
opened_visits room pairs letters budget (opened x y store) = search_visits room pairs letters x y store budget
opened_visits room pairs letters budget (unopened store) = 0

-- A call that is refused at once costs nothing.
abbrev pub standing_visits : Standing → List ℕ → List ℕ → ℕ → ℕ → ℕ → ℕ
standing_visits (Refused number) left right work pairs budget = 0
standing_visits Good left right work pairs budget =
    opened_visits (work / 8) (pairs / 8) (tried left right) budget (open_both (work / 8) (records left) (records right))

-- The visits of a call: two cards, a work room, a pair room and a word room of so many bytes, and a budget. The word room plays no part.
unfoldable pub compare_visits : List ℕ → List ℕ → ℕ → ℕ → ℕ → ℕ → ℕ
unfolding compare_standing tried open_both search_visits
compare_visits left right work pairs word budget = standing_visits (compare_standing left right work pairs) left right work pairs budget
