-- The call `check` by its parts: refused at once it leaves the room as it is; else it opens the two pattern cards as the definition does, and what is
-- told of the proof card and the list from there is told of the call.
use Rattle.std.specs.Prelude.{ℕ, ◌-◌, ◌/◌, false, List, ◌≡◌, length}
use Rattle.std.proofs.Common.{arith, sym, ◌∙◌}
use Rattle.std.proofs.Math.Path.{refl, ap}
use Rattle.std.specs.declared.result.Result.{Result}
use Rattle.std.specs.declared.result.Result.TheVariants.{Ok, Err}
use Rattle.answers.specs.declared.Checked.{Checked}
use Rattle.answers.specs.declared.Checked.TheVariants.{Refused as RefusedCheck}
use Rattle.answers.specs.Checking.{told}
use Rattle.answers.specs.Laws.Checking.{answer_of}
use Rattle.answers.proofs.Laws.Checking.{tells_so}
use Rattle.language.specs.Word.{Bytes}
use Rattle.records.specs.declared.record.Record.{Record}
use Rattle.refusals.specs.declared.refusal.Refusal.{Refusal}
use Rattle.refusals.specs.declared.refusal.Refusal.TheVariants.{NoFreePlace}
use Rattle.refusals.specs.Number.{number}
use Rattle.refusals.specs.Order.{Standing}
use Rattle.refusals.specs.Told.{standing_told}
use Rattle.records.specs.Record.{records, run_of}
use Rattle.store.specs.declared.work.Work.{Work}
use Rattle.store.specs.Room.{places_of, laid, fresh_store, wrong_room}
use Rattle.store.specs.Work.{store_of, space_of}
use Rattle.store.specs.Laws.Wall.{Kept}
use Rattle.store.proofs.Laws.GoodRoom.{length_store_in}
use Rattle.store.proofs.Laws.LegalRoom.{legal_room}
use Rattle.loading.specs.Loading.{load}
use Rattle.loading.specs.Told.{Begun}
use Rattle.loading.proofs.Laws.FreshRoom.{length_fresh, over_fresh}
use Rattle.pairs.specs.Room.{listed_pairs}
use Rattle.pairs.specs.Tried.{tried}
use Rattle.pairs.specs.Opening.{Opening, opened, unopened, open_both}
use Rattle.pairs.specs.Told.{CanOpen, Opens}
use Rattle.pairs.specs.Laws.Told.{opening_full_by}
use Rattle.pairs.specs.Laws.Opening.{OpenLaw, both_opened, was_filled, open_law}
use Rattle.checking.specs.declared.failing.Failure.{Failure}
use Rattle.checking.specs.declared.failing.Failure.TheVariants.{OpeningMissing, MarksDiffer, NotListed, Refused as RefusedFor}
use Rattle.checking.specs.Outcome.{check_standing, Outcome, told_at, of_checking, check_loaded, check_opened, check_by, check_outcome}
use Rattle.checking.specs.Promise.{Checks}
use Rattle.checking.specs.Listed.{GoodProof}
use Rattle.checking.specs.Told.{checking_told, verdict_told, Leaves, Tells}
use Rattle.checking.proofs.Laws.Refusals.{Unrefused, unrefused}
use Rattle.checking.proofs.Laws.Outcome.{check_true}
use Rattle.checking.proofs.Laws.Rooms.{space_now, left_from}
use Rattle.checking.proofs.Laws.ProofCard.{holds_store, held_leaves}

-- Both pattern cards were opened: x and y are their roots' places.
pub record CardsOpened (w : Work) (o : Opening) (x y : ℕ) (w₁ : Work) : Type 0 where
  pub is : o ≡ opened x y (store_of w₁)
  pub leaves : Leaves w w₁
  pub unspent : w₁.budget ≡ w.budget

-- What is told from there of the proof card and the list is told of both cards' opening.
pub told_from : {w : Work} {o : Opening} {x y : ℕ} {w₁ : Work} → CardsOpened w o x y w₁ → (letters proof list : List ℕ)
    → {answer : Result (Unit {0}) Failure} {w₂ : Work}
    → Tells w₁ (check_loaded (space_of w₁) letters (listed_pairs list) w₁.budget x y (load (space_of w₁) (store_of w₁) (records proof))) answer w₂
    → Tells w (check_opened (space_of w) letters (records proof) (listed_pairs list) w.budget o) answer w₂
told_from {w} n letters proof list t =
    record {
      is =
          ap (check_opened (space_of w) letters (records proof) (listed_pairs list) w.budget) n.is
          ∙ (rw (space_now n.leaves, n.unspent) at t.is);
      leaves = left_from n.leaves t.leaves;
    }

-- The code, by what opening answered.
module _ {left right : List ℕ} (lefts : Bytes left) (rights : Bytes right) {w : Work} (can : CanOpen left right w)
    (legal : wrong_room (length w.room.now) ≡ false) {answer : Result (ℕ × ℕ) Refusal} {w₁ : Work}
    (k : Opens w (open_both (space_of w) (records left) (records right)) answer w₁) where
  abbrev opening : Opening
  opening = open_both (space_of w) (records left) (records right)

  law : OpenLaw left right (space_of w) opening
  law = open_law left right lefts rights (length w.room.now) can.cards.left_good can.cards.right_good legal

  from_fresh : {store : List Record} → Kept (space_of w) fresh_store store → Kept (space_of w) (store_of w) store
  from_fresh k = rw can.begun.fresh k

  -- The room is full.
  pub cards_full : (letters proof list : List ℕ) {refusal : Refusal} → answer ≡ Err refusal
      → Tells w (check_opened (space_of w) letters (records proof) (listed_pairs list) w.budget opening) (Err (RefusedFor refusal)) w₁
  cards_full letters proof list {refusal} e = go law k
    where
      go : {o : Opening} → OpenLaw left right (space_of w) o → Opens w o answer w₁
          → Tells w (check_opened (space_of w) letters (records proof) (listed_pairs list) w.budget o) (Err (RefusedFor refusal)) w₁
      go (both_opened h) k = let f = sym e ∙ k.answers in let z : ◌≡◌ {A = ℕ} 0 1 = cc in absurd (omega arith)
      go (was_filled {store = s} f) k =
          let r : refusal ≡ NoFreePlace = opening_full_by (unopened s) (sym e ∙ k.answers) in
          let none : w.budget - w₁.budget ≡ 0 = omega (arith, k.unspent) in
          record { is = rw (r, none, holds_store k.holds) refl; leaves = held_leaves k.holds (from_fresh f.kept) k.unspent }

  -- Both are opened.
  pub cards_opened : {x y : ℕ} → answer ≡ Ok (x, y) → CardsOpened w opening x y w₁
  cards_opened {x} {y} e = go law k
    where
      go : {o : Opening} → OpenLaw left right (space_of w) o → Opens w o answer w₁ → CardsOpened w o x y w₁
      go (both_opened {x = x'} {y = y'} {store} h) k =
          let f = sym e ∙ k.answers in
          let both : ◌≡◌ {A = ℕ × ℕ} (x, y) (x', y') = cc in
          let i : x ≡ x' = ap (λ (p : ℕ × ℕ). p.0) both in
          let j : y ≡ y' = ap (λ (p : ℕ × ℕ). p.1) both in
          record {
            is = rw (i, j, holds_store k.holds) refl;
            leaves = held_leaves k.holds (from_fresh h.kept) k.unspent;
            unspent = k.unspent;
          }
      go (was_filled f) k = let f = sym e ∙ k.answers in let z : ◌≡◌ {A = ℕ} 0 1 = cc in absurd (omega arith)

-- The outcome that an answer tells, and the answer that tells it.
outcome_told : (answer : Result (Unit {0}) Failure) (store : List Record) (budget left : ℕ)
    → of_checking budget (checking_told answer store left) ≡ told_at (verdict_told answer) store (budget - left)
outcome_told (Ok _) store budget left = refl
outcome_told (Err OpeningMissing) store budget left = refl
outcome_told (Err (MarksDiffer n)) store budget left = refl
outcome_told (Err (NotListed n letter)) store budget left = refl
outcome_told (Err (RefusedFor refusal)) store budget left = refl

-- What was lent to a call of `check` are bytes, and `found` tells the first refusal that needs no work.
pub record Lent (left right proof list room : List ℕ) (budget : ℕ) (found : Result (Unit {0}) Refusal) : Type 0 where
  pub lefts : Bytes left
  pub rights : Bytes right
  pub proofs : Bytes proof
  pub lists : Bytes list
  pub standing : standing_told found ≡ check_standing left right proof list (length room)

-- The call, by its parts.
module _ {left right proof list room : List ℕ} {budget : ℕ} {found : Result (Unit {0}) Refusal} (k : Lent left right proof list room budget found) where
  abbrev outcome : Outcome
  outcome = check_outcome left right proof list (length room) budget

  -- An answer that tells the outcome is true.
  promised : {o : Outcome} → outcome ≡ o → {answer : Checked} → told answer ≡ o.tells → {room' : List ℕ} → room' ≡ laid o.store room
      → Checks left right proof list room budget answer room'
  promised e a r =
      let t = a ∙ ap (λ (o : Outcome). o.tells) (sym e) in
      record {
        tells = t;
        leaves = r ∙ ap (λ (o : Outcome). laid o.store room) (sym e);
        means = rw t (check_true left right proof list k.lefts k.rights k.proofs k.lists (length room) budget);
      }

  is_by : {s : Standing} → standing_told found ≡ s → outcome ≡ check_by s left right proof list (length room) budget
  unfolding check_outcome
  is_by e = ap (λ (s : Standing). check_by s left right proof list (length room) budget) (sym k.standing ∙ e)

  -- A call that is refused at once leaves the room as it is.
  pub refused_at_once : {refusal : Refusal} → found ≡ Err refusal → Checks left right proof list room budget (RefusedCheck (number refusal) 0 0) room
  unfolding run_of
  refused_at_once e = promised (is_by (ap standing_told e)) refl refl

  -- A call that is not begins.
  module _ {good : Unit {0}} (e : found ≡ Ok good) where
    pub not_refused : Unrefused left right proof list (length room)
    not_refused = unrefused left right proof list (length room) (sym k.standing ∙ ap standing_told e)

    pub good_proof : GoodProof proof list
    good_proof = record { good = not_refused.proof_good; named = not_refused.named }

    module _ {w : Work} (begun : Begun w) (room_is : w.room.now ≡ laid fresh_store room) where
      as_long : length w.room.now ≡ length room
      as_long = ap length room_is ∙ length_fresh room (let a = (legal_room (length room) not_refused.room_legal).enough in omega arith)

      pub can_open : CanOpen left right w
      can_open = record { cards = record { left_good = not_refused.left_good; right_good = not_refused.right_good }; begun = begun }

      pub still_legal : wrong_room (length w.room.now) ≡ false
      still_legal = rw as_long not_refused.room_legal

      -- What is told of the cards is told of the call, whose room is the one worked in.
      pub call_told : w.budget ≡ budget → {answer : Result (Unit {0}) Failure} {w' : Work}
          → Tells w
          (check_opened (space_of w) (tried left right) (records proof) (listed_pairs list) w.budget (open_both (space_of w) (records left) (records right))) answer w'
          → {room' : List ℕ} → room' ≡ w'.room.now
          → Checks left right proof list room budget (answer_of (verdict_told answer) w'.places (budget - w'.budget)) room'
      call_told same {answer} {w'} t now =
          let cap : space_of w ≡ places_of room = ap (λ (n : ℕ). n / 8) as_long in
          let here = rw (cap, same) at t.is in
          let kept : Kept (places_of room) fresh_store (store_of w') = rw (cap, begun.fresh) at t.leaves.kept in
          promised
          (is_by (ap standing_told e) ∙ here ∙ outcome_told answer (store_of w') budget w'.budget)
          (rw (length_store_in w'.room.now w'.places) (tells_so (record { says = verdict_told answer; places = w'.places; visits = budget - w'.budget })))
          (now ∙ t.leaves.room_is ∙ ap (laid (store_of w')) room_is ∙ over_fresh room kept)
