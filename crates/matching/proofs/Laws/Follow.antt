-- Following a word: the place reached has the quotient by the word, at the cost of the visits along the way, and the wall is kept.
use Rattle.std.specs.Prelude.{ℕ, ◌+◌, ◌-◌, ◌<◌, ◌≤◌, List, ◌∷◌, ◌≡◌, length}
use Rattle.std.proofs.Common.{zero-add, arith, sym}
use Rattle.language.specs.Word.{Bytes, none, one}
use Rattle.language.specs.Language.{Language, Equal}
use Rattle.language.proofs.Laws.Equality.{equal_refl, equal_trans}
use Rattle.language.proofs.Laws.Quotient.{Quotient, Quotients}
use Rattle.language.proofs.Laws.Derivative.{quotient_equal}
use Rattle.records.specs.declared.record.Record.{Record}
use Rattle.store.specs.Laws.Wall.{Ready}
use Rattle.store.proofs.Laws.Languages.{language_at}
use Rattle.derivative.specs.Derivative.{Deriving, derived, stopped, and_then, derive}
use Rattle.derivative.specs.Visits.{visits}
use Rattle.derivative.proofs.Laws.Steps.{StepLaw, was_done, was_ended, second_law, answer_law}
use Rattle.derivative.proofs.Laws.Derivative.{Means, derive_law}
use Rattle.matching.specs.Fits.{follow}
use Rattle.matching.specs.Along.{visits_along}

-- Equal languages have equal quotients by a word of bytes.
pub quotients_equal : {word : List ℕ} → Bytes word → {A B : Language} → Equal A B → Equal (Quotients word A) (Quotients word B)
quotients_equal none e = e
quotients_equal (one l o) e = quotients_equal o (quotient_equal l e)

-- The budget that is left.
abbrev pub left_of : Deriving → ℕ
left_of (derived place store left) = left
left_of (stopped number store left) = left

-- What follows the first derivation.
abbrev cost_after : ℕ → List ℕ → ℕ → List Record → ℕ → Deriving → ℕ
cost_after room word place store budget d =
    elim d as (λ _. ℕ) [ derived p s b ↦ visits store place + visits_along room word p s b | stopped number s b ↦ budget - b ]

-- The law of following a word.
FollowLaw : List ℕ → Type 0
FollowLaw word =
    (room place : ℕ) (store : List Record) (budget : ℕ) → place < length store → Ready room store
    → StepLaw (λ r s b. follow r word place s b) room store budget (visits_along room word place store budget)
    (Means (Quotients word (language_at store place))) (follow room word place store budget)

follow_first : (c : ℕ) (word : List ℕ) → Bytes word → FollowLaw word → (room place : ℕ) (store : List Record) (budget : ℕ)
    → {d : Deriving} → StepLaw (λ r s b. derive r c place s b) room store budget (visits store place) (Means (Quotient c (language_at store place))) d
    → StepLaw (λ r s b. follow r (c ∷ word) place s b) room store budget (cost_after room word place store budget d)
    (Means (Quotients (c ∷ word) (language_at store place))) (and_then d (λ p s b. follow room word p s b))
unfolding FollowLaw follow
follow_first c word o next room place store budget (was_done {place = p} {store' = s} {budget' = b} h) =
    second_law (λ r s b. derive r c place s b) (λ p r s b. follow r word p s b) h (means_more (next room p s b h.inside h.kept.ready))
  where
    means_more : {d : Deriving}
        → StepLaw (λ r s' b'. follow r word p s' b') room s b (visits_along room word p s b) (Means (Quotients word (language_at s p))) d
        → StepLaw (λ r s' b'. follow r word p s' b') room s b (visits_along room word p s b) (Means (Quotients (c ∷ word) (language_at store place))) d
    means_more (was_done k) =
        was_done
        (record {
          kept = k.kept;
          inside = k.inside;
          means = equal_trans k.means (quotients_equal o h.means);
          paid = k.paid;
          again = k.again;
        })
    means_more (was_ended k) = was_ended k
follow_first c word o next room place store budget (was_ended {budget' = b} h) =
    let part : budget ≤ budget - b + b = omega arith in
    was_ended (record { kept = h.kept; why = h.why; spent = h.spent; part = part })

follow_law_of : {word : List ℕ} → Bytes word → FollowLaw word
unfolding FollowLaw follow visits_along
follow_law_of none = λ room place store budget inside ready. answer_law ready place inside (equal_refl (language_at store place))
follow_law_of (one {c} {w = word} l o) = λ room place store budget inside ready.
    follow_first c word o (follow_law_of o) room place store budget (derive_law c l room place store budget inside ready)

pub follow_law : {word : List ℕ} → Bytes word → (room place : ℕ) (store : List Record) (budget : ℕ) → place < length store → Ready room store
    → StepLaw (λ r s b. follow r word place s b) room store budget (visits_along room word place store budget)
    (Means (Quotients word (language_at store place))) (follow room word place store budget)
unfolding FollowLaw
follow_law o = follow_law_of o

-- Visits made and budget left add up to the budget given, where it stops too.

after_first : (c : ℕ) (word : List ℕ) (room place : ℕ) (store : List Record) (budget : ℕ)
    → ((p : ℕ) (s : List Record) (b : ℕ) → p < length s → Ready room s → b ≡ visits_along room word p s b + left_of (follow room word p s b))
    → {d : Deriving} → StepLaw (λ r s b. derive r c place s b) room store budget (visits store place) (Means (Quotient c (language_at store place))) d
    → budget ≡ cost_after room word place store budget d + left_of (and_then d (λ p s b. follow room word p s b))
after_first c word room place store budget next (was_done {place = p} {store' = s} {budget' = b} h) =
    let first = h.paid in
    let rest = next p s b h.inside h.kept.ready in
    omega arith
after_first c word room place store budget next (was_ended {budget' = b} h) = let spent = h.spent in omega arith

pub follow_visits : {word : List ℕ} → Bytes word → (room place : ℕ) (store : List Record) (budget : ℕ) → place < length store → Ready room store
    → budget ≡ visits_along room word place store budget + left_of (follow room word place store budget)
unfolding follow visits_along
follow_visits none room place store budget inside ready = sym (zero-add budget)
follow_visits (one {c} {w = word} l o) room place store budget inside ready =
    after_first c word room place store budget
    (λ p s b inside' ready'. follow_visits o room p s b inside' ready')
    (derive_law c l room place store budget inside ready)
