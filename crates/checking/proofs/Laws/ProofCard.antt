-- Loading the proof card behind the store that stands: a proof card in good standing can be loaded with a map of an entry for each record that it may
-- have; the list is then mapped to places of the store, as the definition maps it, and what the code answers of the list is told of the whole.
use Rattle.std.specs.Prelude.{ℕ, suc, ◌-◌, ◌/◌, ◌<◌, ◌≤◌, ◌≡◌, length, get_or, take}
use Rattle.std.proofs.Common.{arith, sym, ◌∙◌, ap, length-take, get_or-take}
use Rattle.std.specs.declared.result.Result.{Result}
use Rattle.std.specs.declared.result.Result.TheVariants.{Ok, Err}
use mathlib.Core.List.{List, [], ◌∷◌}
use Rattle.std.proofs.Math.Path.{refl, ap₂}
use Rattle.language.specs.Word.{Bytes}
use Rattle.records.specs.declared.record.Record.{Record}
use Rattle.refusals.specs.declared.refusal.Refusal.{Refusal}
use Rattle.refusals.specs.declared.refusal.Refusal.TheVariants.{NoFreePlace}
use Rattle.refusals.specs.Order.{Good}
use Rattle.refusals.specs.Limits.{most_proof_records}
use Rattle.records.specs.Record.{records}
use Rattle.cards.specs.Examine.{proof_card}
use Rattle.records.specs.Laws.Record.{length_records}
use Rattle.store.specs.declared.work.Work.{Work}
use Rattle.store.specs.Room.{store_in, laid}
use Rattle.store.specs.Work.{store_of, space_of, Holds}
use Rattle.store.specs.Laws.Wall.{Kept}
use Rattle.store.proofs.Laws.Room.{store_of_laid}
use Rattle.store.proofs.Laws.GoodRoom.{room_ready, length_store_in}
use Rattle.loading.specs.Loading.{Loading, loaded, no_room, load}
use Rattle.loading.specs.Told.{Loadable, Loads, Mapped}
use Rattle.loading.proofs.Laws.Cards.{examined_loadable}
use Rattle.loading.proofs.Laws.Loading.{AllLoaded, LoadLaw, all_loaded, was_full, load_law}
use Rattle.pairs.specs.declared.pair.Pair.{Pair}
use Rattle.pairs.specs.Pair.{pair_record, pair_at}
use Rattle.pairs.specs.Room.{pairs_of, listed_pairs}
use Rattle.pairs.specs.Laws.Pair.{length_first_pairs, first_pair_at}
use Rattle.checking.specs.declared.failing.Failure.{Failure}
use Rattle.checking.specs.declared.failing.Failure.TheVariants.{Refused}
use Rattle.checking.specs.Check.{check_list}
use Rattle.checking.specs.Outcome.{mapped, of_checking, check_loaded}
use Rattle.checking.specs.Listed.{mapped_list, Named, Inside, GoodProof}
use Rattle.checking.specs.Told.{Leaves, Ends, Tells}
use Rattle.checking.proofs.Laws.Refusals.{good_proof, named_below}
use Rattle.checking.proofs.Laws.Rooms.{space_now, left_from}

-- A proof card in good standing can be loaded.

pub loadable_proof : (card map : List ℕ) → proof_card card ≡ Good → length map ≡ most_proof_records → Loadable card map
unfolding proof_card
loadable_proof card map e n = examined_loadable most_proof_records card map e n

-- A map that begins with these places.
module _ (map places : List ℕ) (begins : take (length places) map ≡ places) where
  as_many : length places ≤ length map
  as_many = omega (arith, ap length begins, length-take (length places) map)

  same_place : (i : ℕ) → i < length places → get_or map i 0 ≡ get_or places i 0
  same_place i l = sym (get_or-take (length places) map i 0 l) ∙ ap (λ (q : List ℕ). get_or q i 0) begins

  -- It maps a list that names no entry behind them as they do.
  mapped_same : (list : List Pair) → ((n : ℕ) → n < length list → ((pair_at list n).left < length places) × ((pair_at list n).right < length places))
      → mapped map list ≡ mapped places list
  unfolding mapped
  mapped_same [] h = refl
  mapped_same (p ∷ rest) h =
      let here = h 0 (omega arith) in
      ap₂ ◌∷◌
      (λ i. record { left = same_place p.left here.0 i; right = same_place p.right here.1 i; origin = p.origin; letter = p.letter })
      (mapped_same rest (λ n l. h (suc n) (omega arith)))

-- A store that stands afterwards, grown from the first, with nothing spent.

pub holds_store : {w : Work} {store : List Record} {w' : Work} → Holds w store w' → store_of w' ≡ store
holds_store {w} {store} h = ap₂ store_in h.leaves h.taken ∙ store_of_laid store w.room.now

pub held_leaves : {w : Work} {store : List Record} {w' : Work} → Holds w store w' → Kept (space_of w) (store_of w) store → w'.budget ≡ w.budget → Leaves w w'
held_leaves {w} h k u =
    let s = holds_store h in
    record { room_is = h.leaves ∙ ap (λ (v : List Record). laid v w.room.now) (sym s); kept = rw s k; spent = omega (arith, u) }

-- The proof card was loaded: the places of its records begin the map.
pub record ProofLoaded (w : Work) (proof : List ℕ) (l : Loading) (map : List ℕ) (w₁ : Work) : Type 0 where
  pub at_places : List ℕ
  pub is : l ≡ loaded at_places (store_of w₁)
  pub law : AllLoaded (space_of w) (records proof) (store_of w) [] (records proof) at_places (store_of w₁)
  pub begins : take (length at_places) map ≡ at_places
  pub leaves : Leaves w w₁
  pub unspent : w₁.budget ≡ w.budget

module _ {w : Work} {proof : List ℕ} {l : Loading} {map : List ℕ} {w₁ : Work} (p : ProofLoaded w proof l map w₁)
    {list : List ℕ} (can : GoodProof proof list) where
  -- Every listed pair names two of its records.

  named : (n : ℕ) → n < length (listed_pairs list)
      → ((pair_at (listed_pairs list) n).left < length p.at_places) × ((pair_at (listed_pairs list) n).right < length p.at_places)
  named n l =
      let h = named_below (length proof / 8) (listed_pairs list) can.named n l in
      let count : length p.at_places ≡ length proof / 8 = p.law.count ∙ length_records proof in
      let i = h.0 in
      let j = h.1 in
      (omega arith, omega arith)

  named_in_run : (n : ℕ) → n < pairs_of list → ((pair_record list n).left < length p.at_places) × ((pair_record list n).right < length p.at_places)
  named_in_run n l = rw (first_pair_at (pairs_of list) list n l) at (named n (omega (arith, length_first_pairs (pairs_of list) list)))

  -- The map maps the list as the places do, and to places of the store.

  same_list : mapped_list map list ≡ mapped p.at_places (listed_pairs list)
  same_list = mapped_same map p.at_places p.begins (listed_pairs list) named

  place_inside : (i : ℕ) → i < length p.at_places → get_or map i 0 < w₁.places
  place_inside i l =
      let e = same_place map p.at_places p.begins i l in
      let h = p.law.standing.inside i l in
      omega (arith, length_store_in w₁.room.now w₁.places)

  pub list_named : Named list map
  list_named =
      record {
        names = λ n l.
            let h = named_in_run n l in
            let i = h.0 in
            let j = h.1 in
            let few = as_many map p.at_places p.begins in
            (omega arith, omega arith);
      }

  pub list_inside : Inside list map w₁.places
  list_inside =
      record { inside = λ n l. let h = named_in_run n l in (place_inside (pair_record list n).left h.0, place_inside (pair_record list n).right h.1) }

  -- What the code answers of the list is told of the whole.
  pub told_of_list : (letters : List ℕ) (x y : ℕ) {answer : Result (Unit {0}) Failure} {w₂ : Work}
      → Ends w₁ (check_list (space_of w₁) letters (mapped_list map list) x y (store_of w₁) w₁.budget) answer w₂
      → Tells w (check_loaded (space_of w) letters (listed_pairs list) w.budget x y l) answer w₂
  told_of_list letters x y n =
      let same : check_list (space_of w) letters (mapped p.at_places (listed_pairs list)) x y (store_of w₁) w.budget
      ≡ check_list (space_of w₁) letters (mapped_list map list) x y (store_of w₁) w₁.budget = rw (space_now p.leaves, same_list, p.unspent) refl in
      record {
        is = ap (check_loaded (space_of w) letters (listed_pairs list) w.budget x y) p.is ∙ ap (of_checking w.budget) (same ∙ n.is);
        leaves = left_from p.leaves n.leaves;
      }

-- The code, by what loading answered.
module _ {w : Work} (proof : List ℕ) (proofs : Bytes proof) (list : List ℕ) (can : GoodProof proof list) {answer : Result (Unit {0}) Refusal} {w₁ : Work}
    (k : Loads w (load (space_of w) (store_of w) (records proof)) answer w₁) where
  law : LoadLaw (space_of w) (records proof) (store_of w) [] (records proof) (load (space_of w) (store_of w) (records proof))
  law = load_law (space_of w) (records proof) (good_proof proof proofs can.good) (store_of w) (room_ready w.good)

  -- The room is full.
  pub proof_full : (letters : List ℕ) (x y : ℕ) {refusal : Refusal} → answer ≡ Err refusal
      → Tells w (check_loaded (space_of w) letters (listed_pairs list) w.budget x y (load (space_of w) (store_of w) (records proof))) (Err (Refused NoFreePlace)) w₁
  proof_full letters x y {refusal} e = go law k
    where
      go : {l : Loading} → LoadLaw (space_of w) (records proof) (store_of w) [] (records proof) l → Loads w l answer w₁
          → Tells w (check_loaded (space_of w) letters (listed_pairs list) w.budget x y l) (Err (Refused NoFreePlace)) w₁
      go (all_loaded h) k = let f = sym e ∙ k.answers in let z : ◌≡◌ {A = ℕ} 0 1 = cc in absurd (omega arith)
      go (was_full {store' = s} f) k =
          let none : w.budget - w₁.budget ≡ 0 = omega (arith, k.unspent) in
          record { is = rw (none, holds_store k.holds) refl; leaves = held_leaves k.holds f.kept k.unspent }

  -- All its records are loaded.
  pub proof_loaded : {map : List ℕ} → Mapped (load (space_of w) (store_of w) (records proof)) map → {told : Unit {0}} → answer ≡ Ok told
      → ProofLoaded w proof (load (space_of w) (store_of w) (records proof)) map w₁
  proof_loaded {map} m e = go law k m
    where
      go : {l : Loading} → LoadLaw (space_of w) (records proof) (store_of w) [] (records proof) l → Loads w l answer w₁ → Mapped l map
          → ProofLoaded w proof l map w₁
      go (all_loaded {places' = ps} {store' = s} h) k m =
          let stands : store_of w₁ ≡ s = holds_store k.holds in
          record {
            at_places = ps;
            is = ap (loaded ps) (sym stands);
            law = rw stands h;
            begins = m;
            leaves = held_leaves k.holds h.kept k.unspent;
            unspent = k.unspent;
          }
      go (was_full f) k m = let f = sym e ∙ k.answers in let z : ◌≡◌ {A = ℕ} 0 1 = cc in absurd (omega arith)
