-- Entering a card: a card in good standing can be loaded with a map of an entry for each record that a pattern card may have, and the
-- place of its last record, which is the root, ends the map.
use Rattle.std.specs.Prelude.{ℕ, ◌-◌, ◌/◌, ◌<◌, ◌≤◌, List, [], ◌≡◌, length, get_or, take}
use Rattle.std.proofs.Common.{arith, sym, ◌∙◌, ap, get_or-take}
use Rattle.language.specs.Word.{Bytes}
use Rattle.records.specs.declared.record.Record.{Record}
use Rattle.refusals.specs.Order.{Good}
use Rattle.records.specs.Record.{records}
use Rattle.cards.specs.Examine.{pattern_card}
use Rattle.refusals.specs.Limits.{most_pattern_records}
use Rattle.records.specs.Laws.Record.{length_records}
use Rattle.cards.proofs.Laws.Examine.{good_length}
use Rattle.std.specs.declared.result.Result.{Result}
use Rattle.std.specs.declared.result.Result.TheVariants.{Ok, Err}
use Rattle.refusals.specs.declared.refusal.Refusal.{Refusal}
use Rattle.store.specs.declared.work.Work.{Work}
use Rattle.store.specs.Work.{store_of, space_of}
use Rattle.store.proofs.Laws.Wall.{grows_length}
use Rattle.store.proofs.Laws.GoodRoom.{room_ready, length_store_in}
use Rattle.loading.specs.Loading.{root, Loading, load}
use Rattle.loading.specs.Told.{Loadable, Mapped, Loads, Enters}
use Rattle.loading.proofs.Laws.Loading.{AllLoaded, LoadLaw, all_loaded, was_full, load_law}
use Rattle.loading.proofs.Laws.Cards.{examined_loadable, some_record, good_card}

pub loadable : (card map : List ℕ) → pattern_card card ≡ Good → length map ≡ most_pattern_records → Loadable card map
unfolding pattern_card
loadable card map e n = examined_loadable most_pattern_records card map e n

-- Its last record is in the map.

pub some_last : (card : List ℕ) → pattern_card card ≡ Good → 1 ≤ length card / 8
some_last card e = let s = some_record card e in omega (arith, length_records card)

pub last_mapped : (card : List ℕ) → pattern_card card ≡ Good → length card / 8 - 1 < most_pattern_records
unfolding pattern_card
last_mapped card e = let l = (good_length most_pattern_records card e).not_long in omega (arith, some_last card e)

-- What the code told of loading is one thing.
not_both : {answer : Result (Unit {0}) Refusal} {u : Unit {0}} {refusal : Refusal} → answer ≡ Ok u → answer ≡ Err refusal → ⊥
not_both e f = let z : ◌≡◌ {A = ℕ} 0 1 = cc in omega arith

module _ (w : Work) (card : List ℕ) (cards : Bytes card) (good : pattern_card card ≡ Good) where
  abbrev loads : Loading
  loads = load (space_of w) (store_of w) (records card)

  law : LoadLaw (space_of w) (records card) (store_of w) [] (records card) loads
  law = load_law (space_of w) (records card) (good_card card cards good) (store_of w) (room_ready w.good)

  -- All records are loaded: the root's place is the last of the map, and in the store.
  module _ (map : List ℕ) {ps : List ℕ} {s₀ s : List Record} (h : AllLoaded (space_of w) (records card) s₀ [] (records card) ps s)
      (m : take (length ps) map ≡ ps) where
    last_place : length ps - 1 < length ps
    last_place = let some = some_record card good in omega (arith, h.count)

    at_root : get_or map (length card / 8 - 1) 0 ≡ root ps
    at_root =
        let last : length card / 8 - 1 ≡ length ps - 1 = omega (arith, h.count, length_records card) in
        ap (λ (i : ℕ). get_or map i 0) last
        ∙ sym (get_or-take (length ps) map (length ps - 1) 0 last_place)
        ∙ ap (λ (p : List ℕ). get_or p (length ps - 1) 0) m

    root_inside : get_or map (length card / 8 - 1) 0 < length s
    root_inside = rw at_root (h.standing.inside (length ps - 1) last_place)

  module _ {answer : Result (Unit {0}) Refusal} {w' : Work} (told : Loads w loads answer w') where
    -- The store only grows.
    pub entered_grows : w.places ≤ w'.places
    entered_grows = go law told
      where
        go : {l : Loading} → LoadLaw (space_of w) (records card) (store_of w) [] (records card) l → Loads w l answer w' → w.places ≤ w'.places
        go (all_loaded h) t = omega (arith, t.holds.taken, grows_length h.kept.grows, length_store_in w.room.now w.places)
        go (was_full f) t = omega (arith, t.holds.taken, grows_length f.kept.grows, length_store_in w.room.now w.places)

    -- The card is loaded: the root's place stands in the store.
    module _ (map : List ℕ) (mapped : Mapped loads map) {u : Unit {0}} (e : answer ≡ Ok u) where
      pub entered_at : Enters w loads (Ok (get_or map (length card / 8 - 1) 0)) w'
      entered_at = go law told mapped
        where
          go : {l : Loading} {s₀ : List Record} → LoadLaw (space_of w) (records card) s₀ [] (records card) l → Loads w l answer w' → Mapped l map
              → Enters w l (Ok (get_or map (length card / 8 - 1) 0)) w'
          go (all_loaded h) t m = record { answers = ap Ok (at_root map h m); holds = t.holds; unspent = t.unspent }
          go (was_full f) t m = absurd (not_both e t.answers)

      pub root_stands : get_or map (length card / 8 - 1) 0 < w'.places
      root_stands = go law told mapped
        where
          go : {l : Loading} {s₀ : List Record} → LoadLaw (space_of w) (records card) s₀ [] (records card) l → Loads w l answer w' → Mapped l map
              → get_or map (length card / 8 - 1) 0 < w'.places
          go (all_loaded h) t m = omega (arith, root_inside map h m, t.holds.taken)
          go (was_full f) t m = absurd (not_both e t.answers)
