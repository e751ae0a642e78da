-- Steps over a store and a budget, and how their laws join: what holds of each of two steps holds of the one after the other.
use Rattle.std.specs.Prelude.{ℕ, ◌+◌, ◌<◌, ◌≤◌, List, ◌≡◌, refl, length}
use Rattle.std.proofs.Common.{add_assoc, zero-add, le_refl, le_of_eq, arith, sym, ◌∙◌, ap, ap₂, subst}
use Rattle.refusals.specs.Numbers.{no_free_place, no_budget_left}
use Rattle.records.specs.declared.kind.Kind.TheVariants.{Choice}
use Rattle.records.specs.declared.kind.Columns.{Columns}
use Rattle.records.specs.declared.record.Record.{Record}
use Rattle.records.specs.Kind.{kind_of, columns}
use Rattle.cards.specs.Standing.{LineOf}
use Rattle.store.specs.Making.{Making, new_record}
use Rattle.store.specs.Good.{Makeable}
use Rattle.store.specs.Laws.Wall.{Ready, Kept}
use Rattle.store.proofs.Laws.Wall.{kept_refl, kept_trans, Course, course_legs, course_same, Placed, MakeLaw, was_placed, was_full, placed_again}
use Rattle.store.proofs.Laws.Making.{make_law}
use Rattle.derivative.specs.Derivative.{Deriving, derived, stopped, and_then, of_making, making}

-- A step, in a room of so many places, from a store and a budget.
abbrev pub Step : Type 0
Step = ℕ → List Record → ℕ → Deriving

-- The step was done at this cost: the place it came to means what it should, and done again it comes to the same.
pub record Done (f : Step) (room : ℕ) (store : List Record) (budget cost : ℕ) (Mean : List Record → ℕ → Type 0)
    (place : ℕ) (store' : List Record) (budget' : ℕ) : Type 0 where
  pub kept : Kept room store store'
  pub inside : place < length store'
  pub means : Mean store' place
  pub paid : budget ≡ cost + budget'
  pub again : (room' left : ℕ) (s s' : List Record) → Course store store' room' s s' → f room' s (cost + left) ≡ derived place s' left

-- Why a step stopped: a new record and no free place, or a visit and no budget.
pub data Why (room : ℕ) (store' : List Record) (budget' : ℕ) : ℕ → Type 0 where
  no_place : length store' ≡ room → Why room store' budget' no_free_place
  no_budget : budget' ≡ 0 → Why room store' budget' no_budget_left

-- The step was stopped: what was placed by then stands, and what was spent by then is at most the cost.
pub record Ended (room : ℕ) (store : List Record) (budget cost number : ℕ) (store' : List Record) (budget' : ℕ) : Type 0 where
  pub kept : Kept room store store'
  pub why : Why room store' budget' number
  pub spent : budget' ≤ budget
  pub part : budget ≤ cost + budget'

pub data StepLaw (f : Step) (room : ℕ) (store : List Record) (budget cost : ℕ) (Mean : List Record → ℕ → Type 0) : Deriving → Type 0 where
  was_done : {place : ℕ} {store' : List Record} {budget' : ℕ} → Done f room store budget cost Mean place store' budget' → StepLaw f room store budget cost Mean (derived place store' budget')
  was_ended : {number : ℕ} {store' : List Record} {budget' : ℕ} → Ended room store budget cost number store' budget' → StepLaw f room store budget cost Mean (stopped number store' budget')

-- One step after another.
abbrev pub joined : Step → (ℕ → Step) → Step
joined f next room store budget = and_then (f room store budget) (λ place store₁ budget₁. next place room store₁ budget₁)

module _ (f : Step) (next : ℕ → Step) {room : ℕ} {store : List Record} {budget cost cost₂ : ℕ} {Mean Mean₂ : List Record → ℕ → Type 0} where
  pub second_law : {place : ℕ} {store₁ : List Record} {budget₁ : ℕ} → Done f room store budget cost Mean place store₁ budget₁
      → {d : Deriving} → StepLaw (next place) room store₁ budget₁ cost₂ Mean₂ d → StepLaw (joined f next) room store budget (cost + cost₂) Mean₂ d
  second_law {place} {store₁} {budget₁} a (was_done {budget' = budget₂} b) =
      let total : budget ≡ cost + cost₂ + budget₂ = let p = a.paid in let q = b.paid in omega arith in
      was_done
      (record {
        kept = kept_trans a.kept b.kept;
        inside = b.inside;
        means = b.means;
        paid = total;
        again = λ room' left s s' c.
            let legs = course_legs b.kept.grows c in
            ap (λ (n : ℕ). joined f next room' s n) (add_assoc cost cost₂ left)
            ∙ ap (λ (d : Deriving). and_then d (λ p t n. next p room' t n)) (a.again room' (cost₂ + left) s legs.between legs.first)
            ∙ b.again room' left legs.between s' legs.second;
      })
  second_law {place} {store₁} {budget₁} a (was_ended {budget' = budget₂} b) =
      let spent : budget₂ ≤ budget = let p = a.paid in let q = b.spent in omega arith in
      let part : budget ≤ cost + cost₂ + budget₂ = let p = a.paid in let q = b.part in omega arith in
      was_ended (record { kept = kept_trans a.kept b.kept; why = b.why; spent = spent; part = part })

  pub joined_law : {d : Deriving} → StepLaw f room store budget cost Mean d
      → ((place : ℕ) (store₁ : List Record) (budget₁ : ℕ) → Done f room store budget cost Mean place store₁ budget₁ → StepLaw (next place) room store₁ budget₁ cost₂ Mean₂ (next place room store₁ budget₁))
      → StepLaw (joined f next) room store budget (cost + cost₂) Mean₂ (and_then d (λ place store₁ budget₁. next place room store₁ budget₁))
  joined_law (was_done {place} {store'} {budget'} a) g = second_law a (g place store' budget' a)
  joined_law (was_ended {budget'} a) g =
      let part : budget ≤ cost + cost₂ + budget' = let p = a.part in omega arith in
      was_ended (record { kept = a.kept; why = a.why; spent = a.spent; part = part })

-- A record of a kind that has two children and no letter can be made of any two places of the store.
pub two_makeable : (kind : ℕ) → columns (kind_of kind) ≡ columns Choice → {store : List Record} {left right : ℕ}
    → left < length store → right < length store → Makeable store kind 0 left right
two_makeable kind alike {store} {left} {right} l m =
    record {
      line =
          subst (λ (line : Columns). LineOf line (length store) (new_record store kind 0 left right)) (sym alike)
          (record { known = refl; letter = refl; left = l; right = m });
      byte = omega arith;
    }

-- Making, as a step of no cost.
pub making_law : {room : ℕ} {store : List Record} {budget : ℕ} → Ready room store → {kind left right : ℕ} → Makeable store kind 0 left right
    → {Mean : List Record → ℕ → Type 0}
    → ((place : ℕ) (store' : List Record) → Placed room store kind 0 left right place store' → Mean store' place)
    → StepLaw (λ room' s b. making room' kind left right s b) room store budget 0 Mean (making room kind left right store budget)
making_law {room} {store} {budget} ready {kind} {left} {right} can {Mean} means = go (make_law ready can)
  where
    go : {m : Making} → MakeLaw room store kind 0 left right m → StepLaw (λ room' s b. making room' kind left right s b) room store budget 0 Mean (of_making m budget)
    go (was_placed {place} {store'} p) =
        was_done
        (record {
          kept = p.kept;
          inside = p.inside;
          means = means place store' p;
          paid = sym (zero-add budget);
          again = λ room' rest s s' c.
              ap (λ (m : Making). of_making m (0 + rest)) (placed_again p room' c) ∙ ap (derived place s') (zero-add rest);
        })
    go (was_full f) =
        was_ended
        (record {
          kept = f.kept;
          why = no_place f.fills;
          spent = le_refl budget;
          part = le_of_eq (sym (zero-add budget));
        })

-- A step that only answers a place of the store.
pub answer_law : {room : ℕ} {store : List Record} {budget : ℕ} → Ready room store → (place : ℕ) → place < length store
    → {Mean : List Record → ℕ → Type 0} → Mean store place
    → StepLaw (λ room' s b. derived place s b) room store budget 0 Mean (derived place store budget)
answer_law {budget = budget} ready place l m =
    was_done
    (record {
      kept = kept_refl ready;
      inside = l;
      means = m;
      paid = sym (zero-add budget);
      again = λ room' rest s s' c. ap₂ (derived place) (course_same c) (zero-add rest);
    })
