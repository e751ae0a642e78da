-- The outcome of checking: what it means, what is told, and that it takes just enough. A call is refused at once, or fills the room while its
-- cards are loaded, or goes through the list: what holds of it is said once, by these cases.
use Rattle.std.specs.Prelude.{ℕ, ◌+◌, ◌-◌, ◌/◌, ◌<◌, ◌≤◌, false, List, [], ◌≡◌, length}
use Rattle.std.proofs.Common.{arith, sym, ◌∙◌, ap, subst}
use Rattle.std.proofs.Math.Path.{refl}
use Rattle.answers.specs.Checking.{Point, Verdict, is_accepted, is_rejected, refused_by, Told}
use Rattle.language.specs.Word.{Bytes}
use Rattle.language.specs.Language.{language, Equal}
use Rattle.language.proofs.Laws.Equality.{equal_trans}
use Rattle.records.specs.declared.record.Record.{Record}
use Rattle.refusals.specs.Order.{Standing}
use Rattle.refusals.specs.Order.{Good, Refused}
use Rattle.refusals.specs.Numbers.{no_free_place, no_budget_left}
use Rattle.records.specs.Record.{records}
use Rattle.cards.specs.Meaning.{card_pattern}
use Rattle.records.specs.Laws.Record.{length_records}
use Rattle.store.specs.Room.{fresh_store, wrong_room}
use Rattle.loading.specs.Loading.{Loading, loaded, load}
use Rattle.store.specs.Laws.Wall.{Grows, Kept}
use Rattle.store.proofs.Laws.Wall.{grows_trans, grows_length, grows_language, kept_trans, Filled}
use Rattle.loading.proofs.Laws.Loading.{AllLoaded, LoadLaw, all_loaded, was_full, load_law}
use Rattle.derivative.proofs.Laws.Steps.{Why, no_place, no_budget}
use Rattle.pairs.specs.declared.pair.Pair.{Pair}
use Rattle.pairs.specs.Pair.{pair_at}
use Rattle.pairs.specs.Room.{listed_pairs}
use Rattle.pairs.specs.Tried.{tried}
use Rattle.pairs.specs.Opening.{Opening, opened}
use Rattle.pairs.specs.Laws.Tried.{tried_rise, tried_bytes, tried_represent}
use Rattle.pairs.specs.Laws.Opening.{BothOpened, OpenLaw, both_opened, was_filled, open_law}
use Rattle.checking.specs.Check.{Checking, cut_off, check_list}
use Rattle.checking.specs.Outcome.{check_standing, mapped, Outcome, told_at, of_checking, check_loaded, check_opened, check_by, check_outcome}
use Rattle.checking.specs.Along.{visits_loaded, visits_opened, visits_standing, check_visits}
use Rattle.checking.specs.Point.{GoodTable}
use Rattle.checking.specs.Promise.{Loaded, TrueVerdict, accepted_true, rejected_true, refused_true}
use Rattle.checking.proofs.Laws.Point.{good_not_failing, good_equal}
use Rattle.checking.proofs.Laws.Along.{Ran, Inside}
use Rattle.checking.proofs.Laws.Check.{CheckLaw, was_accepted, was_rejected, was_cut_off, check_law}
use Rattle.checking.proofs.Laws.Refusals.{Unrefused, unrefused, no_refusal, AtOnce, to_6, by_11, at_once_number, good_proof, named_below, length_mapped, mapped_at}

-- All three cards are loaded: the two pattern cards' store, then the proof card behind it.
pub record AllOpened (left right proof : List ℕ) (room x y : ℕ) (store₀ : List Record) (places : List ℕ) (store : List Record) : Type 0 where
  pub both : BothOpened left right room x y store₀
  pub law : AllLoaded room (records proof) store₀ [] (records proof) places store

-- How a call comes to its outcome, with its visits along the way.
pub data Call (left right proof list : List ℕ) (work budget : ℕ) : Outcome → ℕ → Type 0 where
  refused_at_once : {number : ℕ} → check_standing left right proof list work ≡ Refused number
      → Call left right proof list work budget (told_at (refused_by number) [] 0) 0
  full_in_loading : Unrefused left right proof list work → {store : List Record} → Filled (work / 8) fresh_store store
      → Call left right proof list work budget (told_at (refused_by no_free_place) store 0) 0
  went_through : Unrefused left right proof list work → {x y : ℕ} {store₀ : List Record} {places : List ℕ} {store : List Record}
      → AllOpened left right proof (work / 8) x y store₀ places store → Inside store (mapped places (listed_pairs list))
      → {visits : ℕ} {c : Checking}
      → CheckLaw (work / 8) (tried left right) (mapped places (listed_pairs list)) x y store budget visits c
      → Call left right proof list work budget (of_checking budget c) visits

-- The places that the listed pairs are mapped to stand in the store.
mapped_inside : (proof list : List ℕ) (work : ℕ) {left right : List ℕ} → Unrefused left right proof list work
    → {room : ℕ} {store₀ : List Record} {places : List ℕ} {store : List Record} → AllLoaded room (records proof) store₀ [] (records proof) places store
    → Inside store (mapped places (listed_pairs list))
mapped_inside proof list work u {places = places} {store} a n l =
    let inside : n < length (listed_pairs list) = omega (arith, length_mapped places (listed_pairs list)) in
    let below = named_below (length proof / 8) (listed_pairs list) u.named n inside in
    let count : length places ≡ length proof / 8 = a.count ∙ length_records proof in
    let at = mapped_at places (listed_pairs list) n inside in
    let left_below : (pair_at (listed_pairs list) n).left < length places = let h = below.0 in omega arith in
    let right-below : (pair_at (listed_pairs list) n).right < length places = let h = below.1 in omega arith in (
      subst (λ (p : ℕ). p < length store) (sym at.0) (a.standing.inside (pair_at (listed_pairs list) n).left left_below),
      subst (λ (p : ℕ). p < length store) (sym at.1) (a.standing.inside (pair_at (listed_pairs list) n).right right-below),
    )

module _ (left right proof list : List ℕ) (lefts : Bytes left) (rights : Bytes right) (proofs : Bytes proof) (work budget : ℕ) where
  module _ (u : Unrefused left right proof list work) where
    -- Both pattern cards are opened: the proof card is loaded behind them.
    after_load : {x y : ℕ} {store₀ : List Record} → BothOpened left right (work / 8) x y store₀
        → {l : Loading} → LoadLaw (work / 8) (records proof) store₀ [] (records proof) l
        → Call left right proof list work budget
        (check_loaded (work / 8) (tried left right) (listed_pairs list) budget x y l) (visits_loaded (work / 8) (tried left right) (listed_pairs list) budget x y l)
    after_load {x} {y} b (all_loaded {places' = places} {store' = store} a) =
        let inside = mapped_inside proof list work u a in
        went_through u (record { both = b; law = a }) inside
        (check_law (work / 8) (tried_rise left right) (tried_bytes left right) (mapped places (listed_pairs list)) x y store budget a.kept.ready inside)
    after_load b (was_full f) = full_in_loading u (record { kept = kept_trans b.kept f.kept; fills = f.fills })

    after_open : {o : Opening} → OpenLaw left right (work / 8) o
        → Call left right proof list work budget
        (check_opened (work / 8) (tried left right) (records proof) (listed_pairs list) budget o)
        (visits_opened (work / 8) (tried left right) (records proof) (listed_pairs list) budget o)
    after_open (both_opened {store = store₀} b) =
        after_load b (load_law (work / 8) (records proof) (good_proof proof proofs u.proof_good) store₀ b.kept.ready)
    after_open (was_filled f) = full_in_loading u f

  -- How any call comes to its outcome.
  pub call : Call left right proof list work budget (check_outcome left right proof list work budget) (check_visits left right proof list work budget)
  unfolding check_outcome check_visits
  call = go (check_standing left right proof list work) refl
    where
      go : (s : Standing) → check_standing left right proof list work ≡ s
          → Call left right proof list work budget (check_by s left right proof list work budget) (visits_standing s left right proof list work budget)
      go (Refused number) e = refused_at_once e
      go Good e =
          let u = unrefused left right proof list work e in
          after_open u (open_law left right lefts rights work u.left_good u.right_good u.room_legal)

-- Every verdict is true.

module _ (left right proof list : List ℕ) {room x y : ℕ} {store₀ : List Record} {places : List ℕ} {store : List Record}
    (o : AllOpened left right proof room x y store₀ places store) where
  pub all_loaded_so : Loaded left right proof list room x y (mapped places (listed_pairs list))
  unfolding load
  all_loaded_so =
      record {
        store₀ = store₀;
        store = store;
        places = places;
        opens = o.both.enough room o.both.kept.ready.within;
        loads = o.law.enough room o.law.kept.ready.within;
        are = refl;
      }

  equal_cards : Bytes left → Bytes right → Inside store (mapped places (listed_pairs list)) → {store' : List Record} → Kept room store store'
      → GoodTable (tried left right) store' (mapped places (listed_pairs list)) x y
      → Equal (language (card_pattern left)) (language (card_pattern right))
  equal_cards lefts rights inside {store'} k t =
      let g : Grows store₀ store' = grows_trans o.law.kept.grows k.grows in
      good_equal (tried_bytes left right) k.ready
      (λ n l. let h = inside n l in (omega (arith, grows_length k.grows), omega (arith, grows_length k.grows)))
      t
      (equal_trans (grows_language g x o.both.left_inside) o.both.left_means)
      (equal_trans (grows_language g y o.both.right_inside) o.both.right_means)
      (tried_represent left right lefts rights)

call_true : {left right proof list : List ℕ} {work budget : ℕ} {o : Outcome} {visits : ℕ} → Bytes left → Bytes right → Call left right proof list work budget o visits
    → TrueVerdict left right proof list (work / 8) o.store o.tells.says
call_true lefts rights (refused_at_once e) = refused_true
call_true lefts rights (full_in_loading u f) = refused_true
call_true {left} {right} {proof} {list} lefts rights (went_through u o inside (was_accepted ran good again)) =
    accepted_true (all_loaded_so left right proof list o) good (equal_cards left right proof list o lefts rights inside ran.kept good)
call_true {left} {right} {proof} {list} lefts rights (went_through u o inside (was_rejected ran fails again)) =
    rejected_true (all_loaded_so left right proof list o) fails
call_true lefts rights (went_through u o inside (was_cut_off ran why)) = refused_true

pub check_true : (left right proof list : List ℕ) → Bytes left → Bytes right → Bytes proof → Bytes list → (work budget : ℕ)
    → TrueVerdict left right proof list (work / 8) (check_outcome left right proof list work budget).store (check_outcome left right proof list work budget).tells.says
check_true left right proof list lefts rights proofs lists work budget = call_true lefts rights (call left right proof list lefts rights proofs work budget)

-- What is told. Places are the records standing, never more than the room has; visits are never more than the budget; at 7 the places fill
-- the room, at 8 the visits are the budget.
pub record Counts (work budget : ℕ) (o : Outcome) : Type 0 where
  pub standing : o.tells.places ≡ length o.store
  pub within : o.tells.places ≤ work / 8
  pub affordable : o.tells.visits ≤ budget
  pub at_7 : o.tells.says ≡ refused_by no_free_place → o.tells.places ≡ work / 8
  pub at_8 : o.tells.says ≡ refused_by no_budget_left → o.tells.visits ≡ budget

same_number : {a b : ℕ} → refused_by a ≡ refused_by b → a ≡ b
same_number e = cc

accepted_not : {A : Type 0} {number : ℕ} → is_accepted ≡ refused_by number → A
accepted_not e = let z : ◌≡◌ {A = ℕ} 0 1 = cc in absurd (omega arith)

rejected_not : {A : Type 0} {point : Point} {number : ℕ} → is_rejected point ≡ refused_by number → A
rejected_not e = let z : ◌≡◌ {A = ℕ} 0 1 = cc in absurd (omega arith)

not_at_once : {A : Type 0} {number : ℕ} → AtOnce number → (7 ≤ number) → (number ≤ 8) → A
not_at_once (to_6 h) l m = absurd (omega arith)
not_at_once (by_11 h) l m = absurd (omega arith)

cut_off_counts : {work budget cost number left : ℕ} {store store' : List Record} → Ran (work / 8) store budget cost store' left → Why (work / 8) store' left number
    → Counts work budget (of_checking budget (cut_off number store' left))
cut_off_counts ran (no_place f) =
    record {
      standing = refl;
      within = ran.kept.ready.within;
      affordable = omega arith;
      at_7 = λ e. f;
      at_8 = λ e. let n : ◌≡◌ {A = ℕ} 7 8 = same_number e in absurd (omega arith);
    }
cut_off_counts ran (no_budget f) =
    record {
      standing = refl;
      within = ran.kept.ready.within;
      affordable = omega arith;
      at_7 = λ e. let n : ◌≡◌ {A = ℕ} 8 7 = same_number e in absurd (omega arith);
      at_8 = λ e. omega arith;
    }

call_counts : {left right proof list : List ℕ} {work budget : ℕ} {o : Outcome} {visits : ℕ} → Call left right proof list work budget o visits → Counts work budget o
call_counts {left} {right} {proof} {list} {work} (refused_at_once {number} e) =
    let n = at_once_number left right proof list work number e in
    record {
      standing = refl;
      within = omega arith;
      affordable = omega arith;
      at_7 = λ f. let m : number ≡ 7 = same_number f in not_at_once n (omega arith) (omega arith);
      at_8 = λ f. let m : number ≡ 8 = same_number f in not_at_once n (omega arith) (omega arith);
    }
call_counts (full_in_loading u f) =
    record {
      standing = refl;
      within = f.kept.ready.within;
      affordable = omega arith;
      at_7 = λ e. f.fills;
      at_8 = λ e. let n : ◌≡◌ {A = ℕ} 7 8 = same_number e in absurd (omega arith);
    }
call_counts (went_through u o inside (was_accepted ran good again)) =
    record { standing = refl; within = ran.kept.ready.within; affordable = omega arith; at_7 = λ e. accepted_not e; at_8 = λ e. accepted_not e }
call_counts (went_through u o inside (was_rejected ran fails again)) =
    record { standing = refl; within = ran.kept.ready.within; affordable = omega arith; at_7 = λ e. rejected_not e; at_8 = λ e. rejected_not e }
call_counts (went_through u o inside (was_cut_off ran why)) = cut_off_counts ran why

pub check_counts : (left right proof list : List ℕ) → Bytes left → Bytes right → Bytes proof → Bytes list → (work budget : ℕ)
    → Counts work budget (check_outcome left right proof list work budget)
check_counts left right proof list lefts rights proofs lists work budget = call_counts (call left right proof list lefts rights proofs work budget)

-- Visits told are the sum of `visits` over the derivations done, and those made in one that stopped.

call_visits : {left right proof list : List ℕ} {work budget : ℕ} {o : Outcome} {visits : ℕ} → Call left right proof list work budget o visits → o.tells.visits ≡ visits
call_visits (refused_at_once e) = refl
call_visits (full_in_loading u f) = refl
call_visits (went_through u o inside (was_accepted ran good again)) = let p = ran.paid in omega arith
call_visits (went_through u o inside (was_rejected ran fails again)) = let p = ran.paid in omega arith
call_visits (went_through u o inside (was_cut_off ran why)) = let p = ran.paid in omega arith

pub check_visits_told : (left right proof list : List ℕ) → Bytes left → Bytes right → Bytes proof → Bytes list → (work budget : ℕ)
    → (check_outcome left right proof list work budget).tells.visits ≡ check_visits left right proof list work budget
check_visits_told left right proof list lefts rights proofs lists work budget = call_visits (call left right proof list lefts rights proofs work budget)

-- Just enough: accepted or rejected, telling n places and v visits, is given, with the same numbers and the same store, exactly in legal
-- rooms of at least n places with a budget of at least v.

-- A final answer: accepted or rejected.
pub data Final (t : Told) : Type 0 where
  said_accepted : t.says ≡ is_accepted → Final t
  said_rejected : (point : Point) → t.says ≡ is_rejected point → Final t

refused_not_final : {A : Type 0} {number p v : ℕ} → Final (record { says = refused_by number; places = p; visits = v }) → A
refused_not_final (said_accepted e) = let z : ◌≡◌ {A = ℕ} 0 1 = cc in absurd (omega arith)
refused_not_final (said_rejected point e) = let z : ◌≡◌ {A = ℕ} 0 1 = cc in absurd (omega arith)

-- In a legal room that holds what stood at the end, with a budget that pays it, the pass comes to the same end.
enough_again : (left right proof list : List ℕ) (work : ℕ) → Unrefused left right proof list work
    → {x y : ℕ} {store₀ : List Record} {places : List ℕ} {store : List Record} → AllOpened left right proof (work / 8) x y store₀ places store
    → {store' : List Record} → Grows store store' → (cost : ℕ) {end : ℕ → Checking}
    → ((room' rest : ℕ) → length store' ≤ room' → check_list room' (tried left right) (mapped places (listed_pairs list)) x y store (cost + rest) ≡ end rest)
    → (work' budget' : ℕ) → wrong_room work' ≡ false → length store' ≤ work' / 8 → cost ≤ budget'
    → check_outcome left right proof list work' budget' ≡ of_checking budget' (end (budget' - cost))
unfolding check_outcome load
enough_again left right proof list work u {x} {y} {store₀} {places} {store} o g cost same work' budget' legal fits pays =
    let more : budget' ≡ cost + (budget' - cost) = omega arith in
    ap (λ (s : Standing). check_by s left right proof list work' budget')
    (no_refusal left right proof list work'
    (record {
      left_good = u.left_good;
      right_good = u.right_good;
      proof_good = u.proof_good;
      room_legal = legal;
      list_legal = u.list_legal;
      named = u.named;
    }))
    ∙ ap (check_opened (work' / 8) (tried left right) (records proof) (listed_pairs list) budget')
    (o.both.enough (work' / 8) (omega (arith, grows_length g, grows_length o.law.kept.grows)))
    ∙ ap (check_loaded (work' / 8) (tried left right) (listed_pairs list) budget' x y) (o.law.enough (work' / 8) (omega (arith, grows_length g)))
    ∙ ap (λ (b : ℕ). of_checking budget' (check_list (work' / 8) (tried left right) (mapped places (listed_pairs list)) x y store b)) more
    ∙ ap (of_checking budget') (same (work' / 8) (budget' - cost) fits)

call_enough : {left right proof list : List ℕ} {work budget : ℕ} {o : Outcome} {visits : ℕ} → Call left right proof list work budget o visits → Final o.tells
    → (work' budget' : ℕ) → wrong_room work' ≡ false → o.tells.places ≤ work' / 8 → o.tells.visits ≤ budget'
    → check_outcome left right proof list work' budget' ≡ o
call_enough (refused_at_once e) f work' budget' legal n m = refused_not_final f
call_enough (full_in_loading u k) f work' budget' legal n m = refused_not_final f
call_enough {left} {right} {proof} {list} {work} {budget} (went_through u o inside {visits = cost} (was_accepted {store'} {left = unspent} ran good again)) f work' budget' legal n m =
    let p = ran.paid in
    let spent : budget' - (budget' - cost) ≡ budget - unspent = omega arith in
    enough_again left right proof list work u o ran.kept.grows cost again work' budget' legal n (omega arith)
    ∙ ap (told_at is_accepted store') spent
call_enough {left} {right} {proof} {list} {work} {budget} (went_through u o inside {visits = cost} (was_rejected {point} {store'} {left = unspent} ran fails again)) f work' budget' legal n m =
    let p = ran.paid in
    let spent : budget' - (budget' - cost) ≡ budget - unspent = omega arith in
    enough_again left right proof list work u o ran.kept.grows cost again work' budget' legal n (omega arith)
    ∙ ap (told_at (is_rejected point) store') spent
call_enough (went_through u o inside (was_cut_off ran why)) f work' budget' legal n m = refused_not_final f

-- In a legal room that holds what is told, with a budget that pays it, the outcome is the same ..
pub just_enough : (left right proof list : List ℕ) → Bytes left → Bytes right → Bytes proof → Bytes list → (work budget : ℕ)
    → Final (check_outcome left right proof list work budget).tells
    → (work' budget' : ℕ) → wrong_room work' ≡ false
    → (check_outcome left right proof list work budget).tells.places ≤ work' / 8
    → (check_outcome left right proof list work budget).tells.visits ≤ budget'
    → check_outcome left right proof list work' budget' ≡ check_outcome left right proof list work budget
just_enough left right proof list lefts rights proofs lists work budget f = call_enough (call left right proof list lefts rights proofs work budget) f

-- .. and in no other.
final_legal : {left right proof list : List ℕ} {work budget : ℕ} {o : Outcome} {visits : ℕ} → Call left right proof list work budget o visits
    → Final o.tells → wrong_room work ≡ false
final_legal (refused_at_once e) f = refused_not_final f
final_legal (full_in_loading u k) f = u.room_legal
final_legal (went_through u a i c) f = u.room_legal

pub no_less : (left right proof list : List ℕ) → Bytes left → Bytes right → Bytes proof → Bytes list → (work budget : ℕ)
    → Final (check_outcome left right proof list work budget).tells
    → (work' budget' : ℕ) → check_outcome left right proof list work' budget' ≡ check_outcome left right proof list work budget
    → (wrong_room work' ≡ false)
    × ((check_outcome left right proof list work budget).tells.places ≤ work' / 8)
    × ((check_outcome left right proof list work budget).tells.visits ≤ budget')
no_less left right proof list lefts rights proofs lists work budget f work' budget' e =
    let c = check_counts left right proof list lefts rights proofs lists work' budget' in (
      final_legal (call left right proof list lefts rights proofs work' budget') (subst (λ (o : Outcome). Final o.tells) (sym e) f),
      subst (λ (o : Outcome). o.tells.places ≤ work' / 8) e c.within,
      subst (λ (o : Outcome). o.tells.visits ≤ budget') e c.affordable,
    )

-- A call that is not refused answers accepted exactly when the table is good in the store that it leaves.

-- Three cards are loaded in one way.
record LoadedAlike (x y x' y' : ℕ) (pairs pairs' : List Pair) : Type 0 where
  lefts : x ≡ x'
  rights : y ≡ y'
  lists : pairs ≡ pairs'

loaded_once : {left right proof list : List ℕ} {room x y x' y' : ℕ} {pairs pairs' : List Pair}
    → Loaded left right proof list room x y pairs → Loaded left right proof list room x' y' pairs' → LoadedAlike x y x' y' pairs pairs'
loaded_once {left} {right} {proof} {list} {room} {x} {y} {x'} {y'} {pairs} {pairs'} a b =
    let e : opened x y a.store₀ ≡ opened x' y' b.store₀ = sym a.opens ∙ b.opens in
    let s : a.store₀ ≡ b.store₀ = cc in
    let f : loaded a.places a.store ≡ loaded b.places b.store = sym a.loads ∙ ap (λ (t : List Record). load room t (records proof)) s ∙ b.loads in
    let p : a.places ≡ b.places = cc in
    record { lefts = cc; rights = cc; lists = a.are ∙ ap (λ (q : List ℕ). mapped q (listed_pairs list)) p ∙ sym b.are }

-- Both sides of "exactly when".
pub record AcceptedExactly (letters : List ℕ) (pairs : List Pair) (x y : ℕ) (o : Outcome) : Type 0 where
  pub to : o.tells.says ≡ is_accepted → GoodTable letters o.store pairs x y
  pub from : GoodTable letters o.store pairs x y → o.tells.says ≡ is_accepted

pub accepted_exactly : (left right proof list : List ℕ) → Bytes left → Bytes right → Bytes proof → Bytes list → (work budget : ℕ)
    → {x y : ℕ} {pairs : List Pair} → Loaded left right proof list (work / 8) x y pairs
    → ((number : ℕ) → (check_outcome left right proof list work budget).tells.says ≡ refused_by number → ⊥)
    → AcceptedExactly (tried left right) pairs x y (check_outcome left right proof list work budget)
accepted_exactly left right proof list lefts rights proofs lists work budget {x} {y} {pairs} a answered =
    go refl (check_true left right proof list lefts rights proofs lists work budget)
  where
    o : Outcome
    o = check_outcome left right proof list work budget

    go : {v : Verdict} → o.tells.says ≡ v → TrueVerdict left right proof list (work / 8) o.store v → AcceptedExactly (tried left right) pairs x y o
    go e (accepted_true b good equal) =
        let h = loaded_once b a in
        record { to = λ f. rw (h.lefts, h.rights, h.lists) at good; from = λ t. e }
    go e (rejected_true {point} b fails) =
        let h = loaded_once b a in
        record {
          to = λ f. let z : ◌≡◌ {A = ℕ} 0 1 = cc in absurd (omega arith);
          from = λ t. absurd (good_not_failing t (rw (h.lefts, h.rights, h.lists) at fails));
        }
    go e (refused_true {number}) = absurd (answered number e)
