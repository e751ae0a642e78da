-- Opening two cards, in whatever store a call works with: what entering the left card answers, with the store that it leaves, is what entering the
-- right card goes on from. In a call that begins that is what opening comes to.
use Rattle.std.specs.Prelude.{ℕ, ◌≤◌, ◌≡◌, refl}
use Rattle.std.proofs.Common.{arith, ◌∙◌, ap₂}
use mathlib.Core.List.{List, []}
use Rattle.std.proofs.Math.Path.{ap}
use Rattle.std.proofs.Math.ListN.{length}
use Rattle.std.specs.declared.result.Result.{Result}
use Rattle.std.specs.declared.result.Result.TheVariants.{Ok, Err}
use Rattle.refusals.specs.declared.refusal.Refusal.{Refusal}
use Rattle.language.specs.Word.{Bytes}
use Rattle.records.specs.declared.record.Record.{Record}
use Rattle.refusals.specs.Order.{Good}
use Rattle.records.specs.Record.{records}
use Rattle.cards.specs.Examine.{pattern_card}
use Rattle.store.specs.declared.work.Work.{Work}
use Rattle.store.specs.Room.{store_in, places_of, laid}
use Rattle.store.specs.Work.{store_of, space_of, Holds}
use Rattle.store.specs.Laws.Wall.{Kept}
use Rattle.store.proofs.Laws.Room.{laid_laid}
use Rattle.store.proofs.Laws.Wall.{grows_length}
use Rattle.store.proofs.Laws.GoodRoom.{room_ready, places_after, store_after}
use Rattle.loading.specs.Loading.{Loading, loaded, no_room, load, root}
use Rattle.loading.specs.Told.{Enters}
use Rattle.loading.proofs.Laws.Loading.{LoadLaw, all_loaded, was_full, load_law}
use Rattle.loading.proofs.Laws.Cards.{good_card}
use Rattle.pairs.specs.Opening.{Opening, right_opened, left_opened, open_both, after_opening}
use Rattle.loading.specs.Told.{Begun}
use Rattle.pairs.specs.Told.{GoodCards, Opens}

-- What the code told of entering a card is one thing.
not_both : {answer : Result ℕ Refusal} {place : ℕ} {refusal : Refusal} → answer ≡ Ok place → answer ≡ Err refusal → ⊥
not_both e f = let z : ◌≡◌ {A = ℕ} 0 1 = cc in omega arith

-- The right card, entered or not.
module _ {w w' : Work} {answer : Result ℕ Refusal} (x : ℕ) where
  pub right_at : (l : Loading) → Enters w l answer w' → {y : ℕ} → answer ≡ Ok y → Opens w (right_opened x l) (Ok (x, y)) w'
  right_at (loaded places store) n {y} e =
      let a = n.answers in
      let i : y ≡ root places = cc in
      record { answers = ap (λ (k : ℕ). Ok (x, k)) i; holds = n.holds; unspent = n.unspent }
  right_at (no_room store) n e = absurd (not_both e n.answers)

  pub right_full : (l : Loading) → Enters w l answer w' → {refusal : Refusal} → answer ≡ Err refusal → Opens w (right_opened x l) (Err refusal) w'
  right_full (loaded places store) n e = absurd (not_both n.answers e)
  right_full (no_room store) n e =
      let a = n.answers in
      record { answers = cc; holds = n.holds; unspent = n.unspent }

-- The store only grows while the right card is entered.
right_longer : (x : ℕ) {room : ℕ} {card store rest : List Record} {places : List ℕ} {l : Loading} → LoadLaw room card store places rest l
    → length store ≤ length (after_opening (right_opened x l))
right_longer x (all_loaded a) = grows_length a.kept.grows
right_longer x (was_full f) = grows_length f.kept.grows

-- The left card was entered: x is its root's place, and `store` stands in the room.
record LeftEntered (w : Work) (l : Loading) (x : ℕ) (w₁ : Work) : Type 0 where
  places : List ℕ
  store : List Record
  is : l ≡ loaded places store
  place_is : x ≡ root places
  holds : Holds w store w₁
  unspent : w₁.budget ≡ w.budget
  kept : Kept (space_of w) (store_of w) store

module _ {w : Work} {l : Loading} {x : ℕ} {w₁ : Work} (n : LeftEntered w l x w₁) where
  -- What the right card comes to in that store is what opening comes to.
  module _ (right : List ℕ) (rights : Bytes right) (good : pattern_card right ≡ Good) where
    abbrev onward : Opening
    onward = right_opened (root n.places) (load (space_of w) n.store (records right))

    same_onward : right_opened x (load (space_of w₁) (store_of w₁) (records right)) ≡ onward
    same_onward =
        let as_large : space_of w₁ ≡ space_of w = ap places_of n.holds.leaves ∙ places_after w.room.now n.kept in
        let stood : store_of w₁ ≡ n.store = ap₂ store_in n.holds.leaves n.holds.taken ∙ store_after w.room.now n.kept in
        rw (as_large, stood, n.place_is)

    longer : length n.store ≤ length (after_opening onward)
    longer = right_longer (root n.places) (load_law (space_of w) (records right) (good_card right rights good) n.store n.kept.ready)

    told_of_room : {answer : Result (ℕ × ℕ) Refusal} {w₂ : Work}
        → Opens w₁ (right_opened x (load (space_of w₁) (store_of w₁) (records right))) answer w₂
        → Opens w (left_opened (space_of w) (records right) l) answer w₂
    told_of_room o =
        let p = rw same_onward at o in
        rw n.is
        (record {
          answers = p.answers;
          holds =
              record {
                taken = p.holds.taken;
                leaves = p.holds.leaves ∙ ap (laid (after_opening onward)) n.holds.leaves ∙ laid_laid n.store (after_opening onward) w.room.now longer;
              };
          unspent = p.unspent ∙ n.unspent;
        })

module _ (left right : List ℕ) (w : Work) (lefts : Bytes left) (rights : Bytes right) (can : GoodCards left right) where
  -- The left card is loaded into the store.
  left_law : LoadLaw (space_of w) (records left) (store_of w) [] (records left) (load (space_of w) (store_of w) (records left))
  left_law = load_law (space_of w) (records left) (good_card left lefts can.left_good) (store_of w) (room_ready w.good)

  module _ {entered : Result ℕ Refusal} {w₁ : Work} (c : Enters w (load (space_of w) (store_of w) (records left)) entered w₁) where
    -- The left card is entered: the right card goes on from its store.
    module _ {x : ℕ} (e : entered ≡ Ok x) where
      left_entered : LeftEntered w (load (space_of w) (store_of w) (records left)) x w₁
      left_entered = go left_law c
        where
          go : {l : Loading} → LoadLaw (space_of w) (records left) (store_of w) [] (records left) l → Enters w l entered w₁ → LeftEntered w l x w₁
          go (all_loaded {places' = places} {store' = store} a) t =
              let told = t.answers in
              record { places = places; store = store; is = refl; place_is = cc; holds = t.holds; unspent = t.unspent; kept = a.kept }
          go (was_full f) t = absurd (not_both e t.answers)

      pub both_told : {answer : Result (ℕ × ℕ) Refusal} {w₂ : Work}
          → Opens w₁ (right_opened x (load (space_of w₁) (store_of w₁) (records right))) answer w₂
          → Opens w (left_opened (space_of w) (records right) (load (space_of w) (store_of w) (records left))) answer w₂
      both_told o = told_of_room left_entered right rights can.right_good o

    -- The room is full.
    pub full_told : {refusal : Refusal} → entered ≡ Err refusal
        → Opens w (left_opened (space_of w) (records right) (load (space_of w) (store_of w) (records left))) (Err refusal) w₁
    full_told {refusal} e = go left_law c
      where
        go : {l : Loading} → LoadLaw (space_of w) (records left) (store_of w) [] (records left) l
            → Enters w l entered w₁ → Opens w (left_opened (space_of w) (records right) l) (Err refusal) w₁
        go (all_loaded a) t = absurd (not_both t.answers e)
        go (was_full f) t =
            let told = t.answers in
            record { answers = cc; holds = t.holds; unspent = t.unspent }

-- In a call that begins.
pub opens_fresh : {w : Work} → Begun w → (left right : List Record) {answer : Result (ℕ × ℕ) Refusal} {w' : Work}
    → Opens w (left_opened (space_of w) right (load (space_of w) (store_of w) left)) answer w'
    → Opens w (open_both (space_of w) left right) answer w'
unfolding open_both
opens_fresh b left right o = rw b.fresh at o
