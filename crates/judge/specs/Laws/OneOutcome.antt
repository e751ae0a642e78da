-- Each call has one outcome: two answers with the rooms they leave, that both meet the promise, are the same, as values and byte for byte in every room.
-- The answers are the same whatever rooms of the same sizes held.
use Rattle.std.specs.Prelude.{ℕ, List, ◌≡◌, refl, length}
use Rattle.answers.specs.declared.Match.{Match}
use Rattle.answers.specs.declared.Comparison.{Comparison}
use Rattle.answers.specs.declared.Checked.{Checked}
use Rattle.matching.specs.Promise.{Fits}
use Rattle.matching.proofs.Laws.OneOutcome.{told_same as same_match, one_room as one-match-room}
use Rattle.comparing.specs.Promise.{Compares}
use Rattle.comparing.proofs.Laws.OneOutcome.{told_same as same_comparison, one_work_room, one_pair_room, one_word_room}
use Rattle.checking.specs.Promise.{Checks}
use Rattle.checking.proofs.Laws.OneOutcome.{told_same as same-checked, one_room as one-checked-room}

-- `fits`.

pub one_match : {card word room room' : List ℕ} {budget : ℕ} {a b : Match} {r s : List ℕ} → length room ≡ length room'
    → Fits card word room budget a r → Fits card word room' budget b s → a ≡ b
one_match same f g = same_match same f g

pub one_outcome_of_fits : {card word room : List ℕ} {budget : ℕ} {a b : Match} {r s : List ℕ} → Fits card word room budget a r
    → Fits card word room budget b s → (a ≡ b) × (r ≡ s)
one_outcome_of_fits f g = (one_match refl f g, one-match-room f g)

-- `compare`.

pub one_comparison : {left right work work' pairs pairs' word word' : List ℕ} {budget : ℕ} {a b : Comparison} {w x p q v u : List ℕ}
    → length work ≡ length work' → length pairs ≡ length pairs' → length word ≡ length word'
    → Compares left right work pairs word budget a w p v → Compares left right work' pairs' word' budget b x q u → a ≡ b
one_comparison same-work same-pairs same_word f g = same_comparison same-work same-pairs same_word f g

pub one_outcome_of_compare : {left right work pairs word : List ℕ} {budget : ℕ} {a b : Comparison} {w x p q v u : List ℕ}
    → Compares left right work pairs word budget a w p v → Compares left right work pairs word budget b x q u
    → (a ≡ b) × (w ≡ x) × (p ≡ q) × (v ≡ u)
one_outcome_of_compare f g = (one_comparison refl refl refl f g, one_work_room f g, one_pair_room f g, one_word_room f g)

-- `check`.

pub one_checked : {left right proof list room room' : List ℕ} {budget : ℕ} {a b : Checked} {r s : List ℕ} → length room ≡ length room'
    → Checks left right proof list room budget a r → Checks left right proof list room' budget b s → a ≡ b
one_checked same f g = same-checked same f g

pub one_outcome_of_check : {left right proof list room : List ℕ} {budget : ℕ} {a b : Checked} {r s : List ℕ}
    → Checks left right proof list room budget a r → Checks left right proof list room budget b s → (a ≡ b) × (r ≡ s)
one_outcome_of_check f g = (one_checked refl f g, one-checked-room f g)
