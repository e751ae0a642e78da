-- What the call `check` promises: its one outcome, and what the answer means.
-- Demand 3: the checker accepts exactly the good tables, and an accepted table is an equality of languages.
use Rattle.std.specs.Prelude.{ℕ, ◌/◌, List, ◌≡◌, length}
use Rattle.answers.specs.declared.Checked.{Checked}
use Rattle.answers.specs.Checking.{Point, Verdict, is_accepted, is_rejected, refused_by, told}
use Rattle.language.specs.Language.{language, Equal}
use Rattle.records.specs.declared.record.Record.{Record}
use Rattle.records.specs.Record.{records}
use Rattle.cards.specs.Meaning.{card_pattern}
use Rattle.store.specs.Room.{laid}
use Rattle.loading.specs.Loading.{loaded, load}
use Rattle.pairs.specs.declared.pair.Pair.{Pair}
use Rattle.pairs.specs.Room.{listed_pairs}
use Rattle.pairs.specs.Tried.{tried}
use Rattle.pairs.specs.Opening.{opened, open_both}
use Rattle.checking.specs.Outcome.{mapped, check_outcome}
use Rattle.checking.specs.Point.{GoodTable, FailsAt}

-- All three cards are loaded in a room of so many places: x and y are the roots of the pattern cards, and these are the listed pairs by place.
pub record Loaded (left right proof list : List ℕ) (room x y : ℕ) (pairs : List Pair) : Type 0 where
  pub store₀ : List Record
  pub store : List Record
  pub places : List ℕ
  pub opens : open_both room (records left) (records right) ≡ opened x y store₀
  pub loads : load room store₀ (records proof) ≡ loaded places store
  pub are : pairs ≡ mapped places (listed_pairs list)

-- What a verdict means, of the cards, the list, a work room of so many places and the store that the call leaves.
pub data TrueVerdict (left right proof list : List ℕ) (room : ℕ) (store : List Record) : Verdict → Type 0 where
  accepted_true : {x y : ℕ} {pairs : List Pair} → Loaded left right proof list room x y pairs → GoodTable (tried left right) store pairs x y
      → Equal (language (card_pattern left)) (language (card_pattern right))
      → TrueVerdict left right proof list room store is_accepted
  rejected_true : {x y : ℕ} {pairs : List Pair} {point : Point} → Loaded left right proof list room x y pairs → FailsAt (tried left right) store pairs x y point
      → TrueVerdict left right proof list room store (is_rejected point)
  refused_true : {number : ℕ} → TrueVerdict left right proof list room store (refused_by number)

-- The promise, of the three cards, the list, the work room as lent, the budget, the answer and the work room afterwards.
pub record Checks (left right proof list room : List ℕ) (budget : ℕ) (answer : Checked) (room' : List ℕ) : Type 0 where
  pub tells : told answer ≡ (check_outcome left right proof list (length room) budget).tells
  pub leaves : room' ≡ laid (check_outcome left right proof list (length room) budget).store room
  pub means : TrueVerdict left right proof list (length room / 8) (check_outcome left right proof list (length room) budget).store (told answer).says
