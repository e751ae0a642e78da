-- What the code answers, of what opening comes to. Named by inner contracts alone.
use Rattle.std.specs.Prelude.{ℕ, List, ◌≡◌}
use Rattle.std.specs.declared.result.Result.{Result}
use Rattle.std.specs.declared.result.Result.TheVariants.{Ok, Err}
use Rattle.refusals.specs.declared.refusal.Refusal.{Refusal}
use Rattle.refusals.specs.declared.refusal.Refusal.TheVariants.{NoFreePlace}
use Rattle.refusals.specs.Order.{Good}
use Rattle.cards.specs.Examine.{pattern_card}
use Rattle.store.specs.declared.work.Work.{Work}
use Rattle.store.specs.Work.{Holds}
use Rattle.loading.specs.Told.{Begun}
use Rattle.pairs.specs.Opening.{Opening, opened, unopened, after_opening}

-- Both cards are in good standing.
pub record GoodCards (left right : List ℕ) : Type 0 where
  pub left_good : pattern_card left ≡ Good
  pub right_good : pattern_card right ≡ Good

-- And the call begins.
pub record CanOpen (left right : List ℕ) (w : Work) : Type 0 where
  pub cards : GoodCards left right
  pub begun : Begun w

-- The places of the two roots, or the refusal that no place is free.
abbrev pub opening_answer : Opening → Result (ℕ × ℕ) Refusal
opening_answer (opened x y store) = Ok (x, y)
opening_answer (unopened store) = Err NoFreePlace

-- The answer tells what opening comes to, the room holds its store, and no visit is made.
pub record Opens (w : Work) (o : Opening) (answer : Result (ℕ × ℕ) Refusal) (w' : Work) : Type 0 where
  pub answers : answer ≡ opening_answer o
  pub holds : Holds w (after_opening o) w'
  pub unspent : w'.budget ≡ w.budget
