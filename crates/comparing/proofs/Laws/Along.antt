-- Visits told are those of the definition: over the search the visits and the budget left add up to the budget given, and what is told is the budget
-- given less the budget left.
use Rattle.std.specs.Prelude.{ℕ, ◌+◌, ◌-◌, ◌/◌, Bool, true, false, List, ◌≡◌, refl, ltb, length}
use Rattle.std.proofs.Common.{arith}
use Rattle.language.specs.Word.{Bytes}
use Rattle.refusals.specs.Order.{Standing}
use Rattle.refusals.specs.Order.{Good, Refused}
use Rattle.pairs.specs.Tried.{tried}
use Rattle.pairs.specs.Opening.{Opening}
use Rattle.pairs.specs.Laws.Tried.{tried_bytes}
use Rattle.pairs.specs.Laws.Opening.{OpenLaw, both_opened, was_filled, open_law}
use Rattle.searching.specs.Search.{Search, same, different, stopped, search}
use Rattle.searching.specs.Along.{search_visits}
use Rattle.searching.proofs.Laws.Along.{left_of, search_pays}
use Rattle.comparing.specs.Compare.{compare_standing, of_word, of_search, search_opened, compare_by, compare_outcome}
use Rattle.comparing.specs.Along.{opened_visits, standing_visits, compare_visits}
use Rattle.comparing.proofs.Laws.Refusals.{unrefused}

-- What an outcome tells of a search is the budget given less the budget left.
told_of_search : (word budget cost : ℕ) (s : Search) → budget ≡ cost + left_of s → (of_search word budget s).tells.visits ≡ cost
told_of_search word budget cost (same store table left) paid = omega arith
told_of_search word budget cost (different w left_has store table left) paid = go (ltb word (length w))
  where
    go : (short : Bool) → (of_word w left_has store table (budget - left) short).tells.visits ≡ cost
    go true = omega arith
    go false = omega arith
told_of_search word budget cost (stopped number store table left) paid = omega arith

-- Visits told are the sum of `visits` over the derivations that finished, and those made in one that did not.
pub compare_visits_told : (left right : List ℕ) → Bytes left → Bytes right → (work pairs word budget : ℕ)
    → (compare_outcome left right work pairs word budget).tells.visits ≡ compare_visits left right work pairs word budget
unfolding compare_outcome compare_visits
compare_visits_told left right lefts rights work pairs word budget = go (compare_standing left right work pairs) refl
  where
    opened_told : {o : Opening} → OpenLaw left right (work / 8) o
        → (search_opened (work / 8) (pairs / 8) word (tried left right) budget o).tells.visits ≡ opened_visits (work / 8) (pairs / 8) (tried left right) budget o
    opened_told (both_opened {x} {y} {store} o) =
        told_of_search word budget (search_visits (work / 8) (pairs / 8) (tried left right) x y store budget)
        (search (work / 8) (pairs / 8) (tried left right) x y store budget)
        (search_pays (work / 8) (pairs / 8) (tried left right) (tried_bytes left right) o.kept.ready x y o.left_inside o.right_inside budget)
    opened_told (was_filled f) = refl

    go : (s : Standing) → compare_standing left right work pairs ≡ s
        → (compare_by s left right work pairs word budget).tells.visits ≡ standing_visits s left right work pairs budget
    go (Refused number) e = refl
    go Good e =
        let u = unrefused left right work pairs e in
        opened_told (open_law left right lefts rights work u.left_good u.right_good u.room_legal)
