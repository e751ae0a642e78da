-- The outcome of checking: what is told, and the store that stands in the work room afterwards.
-- Document 01: "The checker takes two pattern cards, a proof card and pairs naming its records. It reads only the first two fields, mapped to where
-- the records were loaded. Its pair list obeys number 6 as a pair room does." 11: "a listed pair names no record of the proof card".
-- "Order: .. left card, right card, proof card .. then 4, 5, 6, 11." "A comparison loads left, then right; the checker then loads the proof card."
use Rattle.std.specs.Prelude.{ℕ, ◌-◌, ◌/◌, Bool, true, not, ◌&&◌, List, [], ◌∷◌, ltb, length, get_or}
use Rattle.answers.specs.Checking.{Verdict, is_accepted, is_rejected, refused_by, Told}
use Rattle.records.specs.declared.record.Record.{Record}
use Rattle.records.specs.Record.{records}
use Rattle.refusals.specs.Order.{Standing}
use Rattle.refusals.specs.Order.{Good, Refused}
use Rattle.refusals.specs.Numbers.{work_room_size, pair_room_size, no_free_place, pair_names_no_record}
use Rattle.refusals.specs.Order.{first_refusal, refused_if}
use Rattle.cards.specs.Examine.{pattern_card, proof_card}
use Rattle.store.specs.Room.{wrong_room}
use Rattle.loading.specs.Loading.{Loading, loaded, no_room, load}
use Rattle.pairs.specs.declared.pair.Pair.{Pair}
use Rattle.pairs.specs.Pair.{first_pairs}
use Rattle.pairs.specs.Room.{wrong_pair_room, listed_pairs}
use Rattle.pairs.specs.Tried.{tried}
use Rattle.pairs.specs.Opening.{Opening, opened, unopened, open_both}
use Rattle.checking.specs.Check.{Checking, accepted, rejected, cut_off, check_list}

-- Number 11, of a proof card of so many records: each listed pair names two of them.
unfoldable pub all_named : ℕ → List Pair → Bool
all_named count [] = true
all_named count (p ∷ rest) = ltb p.left count && ltb p.right count && all_named count rest

-- The order of document 01: of three cards, a pair list and a work room of so many bytes.
abbrev pub check_order : List ℕ → List ℕ → List ℕ → List ℕ → ℕ → List Standing
check_order left right proof list work =
    pattern_card left
    ∷ pattern_card right
    ∷ proof_card proof
    ∷ refused_if (wrong_room work) work_room_size
    ∷ refused_if (wrong_pair_room (length list)) pair_room_size
    ∷ refused_if (not (all_named (length proof / 8) (listed_pairs list))) pair_names_no_record
    ∷ []

-- The first refusal of checking.
unfoldable pub check_standing : List ℕ → List ℕ → List ℕ → List ℕ → ℕ → Standing
unfolding pattern_card proof_card all_named first_pairs
check_standing left right proof list work = first_refusal (check_order left right proof list work)

-- The listed pairs, mapped to the places where the proof card's records were loaded.
unfoldable pub mapped : List ℕ → List Pair → List Pair
mapped places [] = []
mapped places (p ∷ rest) =
    record { left = get_or places p.left 0; right = get_or places p.right 0; origin = p.origin; letter = p.letter } ∷ mapped places rest

-- An outcome: what is told, and the store that stands in the room. Every byte behind it is as lent.
pub record Outcome : Type 0 where
  pub tells : Told
  pub store : List Record

abbrev pub told_at : Verdict → List Record → ℕ → Outcome
told_at verdict store visits = record { tells = record { says = verdict; places = length store; visits = visits }; store = store }

-- Visits made and budget left add up to the budget given.
abbrev pub of_checking : ℕ → Checking → Outcome
of_checking budget (accepted store left) = told_at is_accepted store (budget - left)
of_checking budget (rejected point store left) = told_at (is_rejected point) store (budget - left)
of_checking budget (cut_off number store left) = told_at (refused_by number) store (budget - left)

-- The proof card is loaded behind the two pattern cards, whose roots are at x and y.
abbrev pub check_loaded : ℕ → List ℕ → List Pair → ℕ → ℕ → ℕ → Loading → Outcome
check_loaded room letters list budget x y (loaded places store) =
    of_checking budget (check_list room letters (mapped places list) x y store budget)
check_loaded room letters list budget x y (no_room store) = told_at (refused_by no_free_place) store 0

abbrev pub check_opened : ℕ → List ℕ → List Record → List Pair → ℕ → Opening → Outcome
check_opened room letters proof list budget (opened x y store) = check_loaded room letters list budget x y (load room store proof)
check_opened room letters proof list budget (unopened store) = told_at (refused_by no_free_place) store 0

abbrev pub check_by : Standing → List ℕ → List ℕ → List ℕ → List ℕ → ℕ → ℕ → Outcome
check_by (Refused number) left right proof list work budget = told_at (refused_by number) [] 0
check_by Good left right proof list work budget =
    check_opened (work / 8) (tried left right) (records proof) (listed_pairs list) budget (open_both (work / 8) (records left) (records right))

-- The outcome of a call: two pattern cards, a proof card, a pair list, a work room of so many bytes and a budget.
unfoldable pub check_outcome : List ℕ → List ℕ → List ℕ → List ℕ → ℕ → ℕ → Outcome
unfolding check_standing tried open_both load mapped check_list first_pairs
check_outcome left right proof list work budget = check_by (check_standing left right proof list work) left right proof list work budget
