-- The outcome of matching: what it means, what is told, and that it takes just enough.
use Rattle.std.specs.Prelude.{ℕ, ◌+◌, ◌-◌, ◌/◌, ◌≤◌, Bool, true, false, cond, List, [], ◌≡◌, length}
use Rattle.std.proofs.Common.{arith, sym, ◌∙◌, ap, subst}
use Rattle.std.proofs.lemmas.Bool.{false≢true}
use Rattle.std.proofs.Math.Path.{refl}
use Rattle.answers.specs.Matching.{yes, no, refused, Told}
use Rattle.language.specs.Word.{Bytes, none}
use Rattle.language.specs.Language.{language, Equal}
use Rattle.language.proofs.Laws.Equality.{equal_trans}
use Rattle.language.proofs.Laws.Quotient.{Quotients, quotients_to, quotients_from}
use Rattle.language.specs.Laws.Derivative.{nullable}
use Rattle.language.proofs.Laws.Derivative.{nullable_right}
use Rattle.records.specs.declared.record.Record.{Record}
use Rattle.refusals.specs.Order.{Standing}
use Rattle.refusals.specs.Order.{Good, Refused}
use Rattle.refusals.specs.Numbers.{no_free_place, no_budget_left}
use Rattle.records.specs.Record.{records, child}
use Rattle.cards.specs.Mark.{marked}
use Rattle.cards.specs.Meaning.{patterns, numbered, card_pattern}
use Rattle.store.specs.Room.{fresh_store}
use Rattle.loading.specs.Loading.{root, Loading, load}
use Rattle.store.proofs.Laws.Wall.{Filled, outgrown_filled, grows_length, anew}
use Rattle.store.proofs.Laws.Making.{marked_nullable}
use Rattle.store.proofs.Laws.Languages.{language_at}
use Rattle.loading.proofs.Laws.FreshRoom.{load_fresh_law}
use Rattle.loading.proofs.Laws.Cards.{CardLoaded, card_loaded}
use Rattle.loading.proofs.Laws.Loading.{LoadLaw, all_loaded, was_full}
use Rattle.derivative.specs.Derivative.{Deriving, derived, stopped}
use Rattle.derivative.proofs.Laws.Steps.{Done, Ended, Why, no_place, no_budget, StepLaw, was_done, was_ended}
use Rattle.derivative.proofs.Laws.Derivative.{Means}
use Rattle.store.specs.Room.{wrong_room}
use Rattle.matching.specs.Refusals.{match_standing}
use Rattle.matching.specs.Fits.{Outcome, follow, judged, follow_loaded, fits_in, fits_standing, fits_outcome}
use Rattle.matching.specs.Promise.{TrueOf}
use Rattle.matching.specs.Along.{visits_along, visits_loaded, visits_standing, call_visits}
use Rattle.store.proofs.Laws.LegalRoom.{legal_room}
use Rattle.matching.proofs.Laws.Refusals.{Unrefused, unrefused, no_refusal, at_once_number}
use Rattle.matching.proofs.Laws.Follow.{left_of, follow_law, follow_visits, quotients_equal}

-- How a call comes to its outcome.
pub data Call (card word : List ℕ) (size budget : ℕ) : Outcome → Type 0 where
  refused_at_once : {number : ℕ} → match_standing card word size ≡ Refused number
      → Call card word size budget (record { tells = record { says = refused number; places = 0; visits = 0 }; store = [] })
  full_in_loading : Unrefused card word size → {store : List Record} → Filled (size / 8) fresh_store store
      → Call card word size budget (record { tells = record { says = refused no_free_place; places = length store; visits = 0 }; store = store })
  stopped_on_the_way : Unrefused card word size → {places : List ℕ} {store : List Record} → CardLoaded card (size / 8) fresh_store places store
      → {number : ℕ} {store' : List Record} {left : ℕ}
      → follow (size / 8) word (root places) store budget ≡ stopped number store' left
      → Ended (size / 8) store budget (visits_along (size / 8) word (root places) store budget) number store' left
      → Call card word size budget (judged budget (stopped number store' left))
  answered : Unrefused card word size → {places : List ℕ} {store : List Record} → CardLoaded card (size / 8) fresh_store places store
      → {place : ℕ} {store' : List Record} {left : ℕ}
      → follow (size / 8) word (root places) store budget ≡ derived place store' left
      → Done (λ r s b. follow r word (root places) s b) (size / 8) store budget (visits_along (size / 8) word (root places) store budget)
      (Means (Quotients word (language_at store (root places)))) place store' left
      → Call card word size budget (judged budget (derived place store' left))

module _ (card word : List ℕ) (cards : Bytes card) (letters : Bytes word) (size budget : ℕ) where
  -- A call that is not refused loads the card into the fresh store, and then follows the word.
  module _ (u : Unrefused card word size) where
    after_load : {l : Loading} → LoadLaw (size / 8) (records card) fresh_store [] (records card) l → Call card word size budget (follow_loaded (size / 8) word budget l)
    after_load (was_full f) = full_in_loading u (outgrown_filled f)
    after_load (all_loaded {places' = places} {store' = store} a) =
        let c = card_loaded card u.card_good a in
        followed c refl (follow_law letters (size / 8) (root places) store budget c.inside a.kept.ready)
      where
        followed : CardLoaded card (size / 8) fresh_store places store → {d : Deriving} → follow (size / 8) word (root places) store budget ≡ d
            → StepLaw (λ r s b. follow r word (root places) s b) (size / 8) store budget (visits_along (size / 8) word (root places) store budget)
            (Means (Quotients word (language_at store (root places)))) d
            → Call card word size budget (judged budget d)
        followed c e (was_done k) = answered u c e k
        followed c e (was_ended k) = stopped_on_the_way u c e k

    call_in : Call card word size budget (fits_in card word (size / 8) budget)
    unfolding fits_in
    call_in = after_load (load_fresh_law (legal_room size u.room_legal) card cards u.card_good)

  -- How any call comes to its outcome.
  pub call : Call card word size budget (fits_outcome card word size budget)
  unfolding fits_outcome
  call = go (match_standing card word size) refl
    where
      go : (s : Standing) → match_standing card word size ≡ s → Call card word size budget (fits_standing s card word size budget)
      go (Refused number) e = refused_at_once e
      go Good e = call_in (unrefused card word size e)

-- Yes exactly when the word is in the card's language, no exactly when it is not.

says_by_mark : (b : Bool) → (cond b yes no ≡ yes → b ≡ true) × (cond b yes no ≡ no → b ≡ false)
says_by_mark true = (λ e. refl, λ e. let z : ◌≡◌ {A = ℕ} 0 1 = cc in absurd (omega arith))
says_by_mark false = (λ e. let z : ◌≡◌ {A = ℕ} 0 1 = cc in absurd (omega arith), λ e. refl)

module _ (card word : List ℕ) (letters : Bytes word) {room : ℕ} {places : List ℕ} {store store' : List Record} {budget cost place left : ℕ}
    (c : CardLoaded card room fresh_store places store)
    (d : Done (λ r s b. follow r word (root places) s b) room store budget cost (Means (Quotients word (language_at store (root places)))) place store' left) where
  -- The place reached has the quotient of the card's language by the word.
  reached : Equal (language_at store' place) (Quotients word (language (card_pattern card)))
  reached = equal_trans d.means (quotients_equal letters c.means)

  mark : marked (child store' place) ≡ nullable (numbered (patterns store') place)
  mark = marked_nullable d.kept.ready.good place d.inside

  word_in : marked (child store' place) ≡ true → language (card_pattern card) word
  word_in e =
      quotients_from (language (card_pattern card)) word
      (reached.to [] none ((nullable_right (numbered (patterns store') place)).sound (sym mark ∙ e)))

  word_out : marked (child store' place) ≡ false → language (card_pattern card) word → ⊥
  word_out e h =
      false≢true
      (sym e ∙ mark ∙ (nullable_right (numbered (patterns store') place)).complete (reached.from [] none (quotients_to (language (card_pattern card)) word h)))

no_answer : {A : Type 0} {number : ℕ} → refused number ≡ yes → A
no_answer e = let z : ◌≡◌ {A = ℕ} 0 1 = cc in absurd (omega arith)

no_answer' : {A : Type 0} {number : ℕ} → refused number ≡ no → A
no_answer' e = let z : ◌≡◌ {A = ℕ} 0 1 = cc in absurd (omega arith)

call_true : {card word : List ℕ} {size budget : ℕ} {o : Outcome} → Bytes word → Call card word size budget o → TrueOf card word o.tells
call_true letters (refused_at_once e) = record { if_yes = λ f. no_answer f; if_no = λ f. no_answer' f }
call_true letters (full_in_loading u f) = record { if_yes = λ g. no_answer g; if_no = λ g. no_answer' g }
call_true letters (stopped_on_the_way u c e k) = record { if_yes = λ g. no_answer g; if_no = λ g. no_answer' g }
call_true {card} {word} letters (answered u c {place = place} {store' = store'} e d) =
    let by = says_by_mark (marked (child store' place)) in
    record { if_yes = λ g. word_in card word letters c d (by.0 g); if_no = λ g. word_out card word letters c d (by.1 g) }

-- What is told is true of the card and the word.
pub fits_true : (card word : List ℕ) → Bytes card → Bytes word → (size budget : ℕ) → TrueOf card word (fits_outcome card word size budget).tells
fits_true card word cards letters size budget = call_true letters (call card word cards letters size budget)

-- What is told. Places are the records standing, never more than the room has; visits are never more than the budget; at 7 the places
-- fill the room, at 8 the visits are the budget.
pub record Counts (size budget : ℕ) (o : Outcome) : Type 0 where
  pub standing : o.tells.places ≡ length o.store
  pub within : o.tells.places ≤ size / 8
  pub affordable : o.tells.visits ≤ budget
  pub at_7 : o.tells.says ≡ refused no_free_place → o.tells.places ≡ size / 8
  pub at_8 : o.tells.says ≡ refused no_budget_left → o.tells.visits ≡ budget

same_number : {a b : ℕ} → refused a ≡ refused b → a ≡ b
same_number e = cc

stopped_counts : {size budget cost number left : ℕ} {store store' : List Record} → Ended (size / 8) store budget cost number store' left → Counts size budget (judged budget (stopped number store' left))
stopped_counts {size} {budget} {left = left} {store' = store'} k = go k.why
  where
    go : {number : ℕ} → Why (size / 8) store' left number → Counts size budget (judged budget (stopped number store' left))
    go (no_place f) =
        record {
          standing = refl;
          within = k.kept.ready.within;
          affordable = omega arith;
          at_7 = λ e. f;
          at_8 = λ e. let n : ◌≡◌ {A = ℕ} 7 8 = same_number e in absurd (omega arith);
        }
    go (no_budget f) =
        record {
          standing = refl;
          within = k.kept.ready.within;
          affordable = omega arith;
          at_7 = λ e. let n : ◌≡◌ {A = ℕ} 8 7 = same_number e in absurd (omega arith);
          at_8 = λ e. omega arith;
        }

not_refused_says : {A : Type 0} (b : Bool) {number : ℕ} → cond b yes no ≡ refused number → A
not_refused_says true e = let z : ◌≡◌ {A = ℕ} 0 1 = cc in absurd (omega arith)
not_refused_says false e = let z : ◌≡◌ {A = ℕ} 0 1 = cc in absurd (omega arith)

call_counts : {card word : List ℕ} {size budget : ℕ} {o : Outcome} → Call card word size budget o → Counts size budget o
call_counts {card} {word} {size} (refused_at_once {number} e) =
    let n = at_once_number card word size number e in
    record {
      standing = refl;
      within = omega arith;
      affordable = omega arith;
      at_7 = λ f. let m : number ≡ 7 = same_number f in absurd (omega arith);
      at_8 = λ f. let m : number ≡ 8 = same_number f in absurd (omega arith);
    }
call_counts (full_in_loading u f) =
    record {
      standing = refl;
      within = f.kept.ready.within;
      affordable = omega arith;
      at_7 = λ e. f.fills;
      at_8 = λ e. let n : ◌≡◌ {A = ℕ} 7 8 = same_number e in absurd (omega arith);
    }
call_counts (stopped_on_the_way u c e k) = stopped_counts k
call_counts (answered u c {place = place} {store' = store'} e d) =
    record {
      standing = refl;
      within = d.kept.ready.within;
      affordable = omega arith;
      at_7 = λ f. not_refused_says (marked (child store' place)) f;
      at_8 = λ f. not_refused_says (marked (child store' place)) f;
    }

pub fits_counts : (card word : List ℕ) → Bytes card → Bytes word → (size budget : ℕ) → Counts size budget (fits_outcome card word size budget)
fits_counts card word cards letters size budget = call_counts (call card word cards letters size budget)

-- Visits told are the sum of `visits` over the derivations done, and those made in one that stopped.

call_visits_told : (card word : List ℕ) → Bytes card → Bytes word → (size budget : ℕ) (u : Unrefused card word size)
    → {l : Loading} → LoadLaw (size / 8) (records card) fresh_store [] (records card) l
    → (follow_loaded (size / 8) word budget l).tells.visits ≡ visits_loaded (size / 8) word budget l
call_visits_told card word cards letters size budget u (was_full f) = refl
call_visits_told card word cards letters size budget u (all_loaded {places' = places} {store' = store} a) =
    let c = card_loaded card u.card_good a in
    judged_visits (follow (size / 8) word (root places) store budget)
    (follow_visits letters (size / 8) (root places) store budget c.inside a.kept.ready)
  where
    judged_visits : (d : Deriving) → budget ≡ visits_along (size / 8) word (root places) store budget + left_of d
        → (judged budget d).tells.visits ≡ visits_along (size / 8) word (root places) store budget
    judged_visits (derived place s left) e = omega arith
    judged_visits (stopped number s left) e = omega arith

pub fits_visits : (card word : List ℕ) → Bytes card → Bytes word → (size budget : ℕ)
    → (fits_outcome card word size budget).tells.visits ≡ call_visits card word size budget
unfolding fits_outcome fits_in call_visits
fits_visits card word cards letters size budget = go (match_standing card word size) refl
  where
    go : (s : Standing) → match_standing card word size ≡ s
        → (fits_standing s card word size budget).tells.visits ≡ visits_standing s card word (size / 8) budget
    go (Refused number) e = refl
    go Good e =
        let u = unrefused card word size e in
        call_visits_told card word cards letters size budget u
        (load_fresh_law (legal_room size u.room_legal) card cards u.card_good)

-- Just enough: yes or no, telling n places and v visits, is given, with the same numbers and the same store, exactly in legal rooms of
-- at least n places with a budget of at least v.

-- In a legal room that holds what is told, with a budget that pays it, the outcome is the same.
enough_loaded : (card word : List ℕ) (size budget : ℕ) → Unrefused card word size → {places : List ℕ} {store : List Record} → CardLoaded card (size / 8) fresh_store places store
    → {place : ℕ} {store' : List Record} {left : ℕ}
    → Done (λ r s b. follow r word (root places) s b) (size / 8) store budget (visits_along (size / 8) word (root places) store budget)
    (Means (Quotients word (language_at store (root places)))) place store' left
    → (size' budget' : ℕ) → wrong_room size' ≡ false → length store' ≤ size' / 8 → budget - left ≤ budget'
    → fits_outcome card word size' budget' ≡ judged budget (derived place store' left)
unfolding fits_outcome fits_in load
enough_loaded card word size budget u {places} {store} c {place} {store'} {left} d size' budget' legal n m =
    let cost = visits_along (size / 8) word (root places) store budget in
    let pays : budget ≡ cost + left = d.paid in
    let more : budget' ≡ cost + (budget' - cost) = omega arith in
    let spent : budget' - (budget' - cost) ≡ budget - left = omega arith in
    ap (λ (s : Standing). fits_standing s card word size' budget')
    (no_refusal card word size' (record { card_good = u.card_good; word_short = u.word_short; room_legal = legal }))
    ∙ ap (follow_loaded (size' / 8) word budget') (c.law.enough (size' / 8) (omega (arith, grows_length d.kept.grows)))
    ∙ ap (λ (b : ℕ). judged budget' (follow (size' / 8) word (root places) store b)) more
    ∙ ap (judged budget') (d.again (size' / 8) (budget' - cost) store store' (anew n))
    ∙ ap (λ (v : ℕ). record { tells = record { says = cond (marked (child store' place)) yes no; places = length store'; visits = v }; store = store' }) spent

-- A final answer: yes or no.
pub data Final (t : Told) : Type 0 where
  said_yes : t.says ≡ yes → Final t
  said_no : t.says ≡ no → Final t

refused_not_final : {A : Type 0} {number p v : ℕ} → Final (record { says = refused number; places = p; visits = v }) → A
refused_not_final (said_yes e) = no_answer e
refused_not_final (said_no e) = no_answer' e

call_enough : {card word : List ℕ} {size budget : ℕ} {o : Outcome} → Call card word size budget o → Final o.tells
    → (size' budget' : ℕ) → wrong_room size' ≡ false → o.tells.places ≤ size' / 8 → o.tells.visits ≤ budget'
    → fits_outcome card word size' budget' ≡ o
call_enough (refused_at_once e) f size' budget' legal n m = refused_not_final f
call_enough (full_in_loading u k) f size' budget' legal n m = refused_not_final f
call_enough (stopped_on_the_way u c e k) f size' budget' legal n m = refused_not_final f
call_enough {card} {word} {size} {budget} (answered u c e d) f size' budget' legal n m = enough_loaded card word size budget u c d size' budget' legal n m

-- In a legal room that holds what is told, with a budget that pays it, the outcome is the same ..
pub just_enough : (card word : List ℕ) → Bytes card → Bytes word → (size budget : ℕ) → Final (fits_outcome card word size budget).tells
    → (size' budget' : ℕ) → wrong_room size' ≡ false
    → (fits_outcome card word size budget).tells.places ≤ size' / 8
    → (fits_outcome card word size budget).tells.visits ≤ budget'
    → fits_outcome card word size' budget' ≡ fits_outcome card word size budget
just_enough card word cards letters size budget f = call_enough (call card word cards letters size budget) f

-- .. and in no other.
final_legal : {card word : List ℕ} {size budget : ℕ} {o : Outcome} → Call card word size budget o → Final o.tells → wrong_room size ≡ false
final_legal (refused_at_once e) f = refused_not_final f
final_legal (full_in_loading u k) f = u.room_legal
final_legal (stopped_on_the_way u c e k) f = u.room_legal
final_legal (answered u c e d) f = u.room_legal

pub no_less : (card word : List ℕ) → Bytes card → Bytes word → (size budget : ℕ) → Final (fits_outcome card word size budget).tells
    → (size' budget' : ℕ) → fits_outcome card word size' budget' ≡ fits_outcome card word size budget
    → (wrong_room size' ≡ false) × ((fits_outcome card word size budget).tells.places ≤ size' / 8) × ((fits_outcome card word size budget).tells.visits ≤ budget')
no_less card word cards letters size budget f size' budget' e =
    let c = fits_counts card word cards letters size' budget' in (
      final_legal (call card word cards letters size' budget') (subst (λ (o : Outcome). Final o.tells) (sym e) f),
      subst (λ (o : Outcome). o.tells.places ≤ size' / 8) e c.within,
      subst (λ (o : Outcome). o.tells.visits ≤ budget') e c.affordable,
    )
