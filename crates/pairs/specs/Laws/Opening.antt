-- Opening keeps the wall: the two roots stand in the store and mean the cards' patterns; or the store fills the room. In any room that
-- holds what was placed it comes to the same.
use Rattle.std.specs.Prelude.{ℕ, ◌/◌, ◌<◌, ◌≤◌, false, List, [], ◌≡◌, length}
use Rattle.std.proofs.Common.{arith, ◌∙◌}
use Rattle.std.proofs.Math.Path.{ap}
use Rattle.language.specs.Word.{Bytes}
use Rattle.language.specs.Language.{language, Equal}
use Rattle.language.proofs.Laws.Equality.{equal_trans}
use Rattle.records.specs.declared.record.Record.{Record}
use Rattle.refusals.specs.Order.{Good}
use Rattle.records.specs.Record.{records}
use Rattle.cards.specs.Examine.{pattern_card}
use Rattle.cards.specs.Meaning.{card_pattern}
use Rattle.store.specs.Room.{fresh_store, wrong_room}
use Rattle.loading.specs.Loading.{Loading, root}
use Rattle.store.specs.Laws.Wall.{Kept}
use Rattle.store.proofs.Laws.Wall.{grows_length, grows_language, kept_trans, Filled, outgrown_filled}
use Rattle.store.proofs.Laws.Languages.{language_at}
use Rattle.store.proofs.Laws.LegalRoom.{legal_room}
use Rattle.loading.proofs.Laws.FreshRoom.{fresh_is_ready}
use Rattle.loading.proofs.Laws.Loading.{LoadLaw, all_loaded, was_full, load_law}
use Rattle.loading.proofs.Laws.Cards.{good_card, CardLoaded, card_loaded}
use Rattle.pairs.specs.Opening.{Opening, opened, unopened, right_opened, left_opened, open_both}

-- Both cards are loaded: x and y are their roots' places.
pub record BothOpened (left right : List ℕ) (room x y : ℕ) (store : List Record) : Type 0 where
  pub kept : Kept room fresh_store store
  pub left_inside : x < length store
  pub right_inside : y < length store
  pub left_means : Equal (language_at store x) (language (card_pattern left))
  pub right_means : Equal (language_at store y) (language (card_pattern right))
  pub enough : (room' : ℕ) → length store ≤ room' → open_both room' (records left) (records right) ≡ opened x y store

-- The law of opening.
pub data OpenLaw (left right : List ℕ) (room : ℕ) : Opening → Type 0 where
  both_opened : {x y : ℕ} {store : List Record} → BothOpened left right room x y store → OpenLaw left right room (opened x y store)
  was_filled : {store : List Record} → Filled room fresh_store store → OpenLaw left right room (unopened store)

module _ (left right : List ℕ) (lefts : Bytes left) (rights : Bytes right) (size : ℕ)
    (left_good : pattern_card left ≡ Good) (right_good : pattern_card right ≡ Good) (room_legal : wrong_room size ≡ false) where
  both : {ps : List ℕ} {s : List Record} → CardLoaded left (size / 8) fresh_store ps s
      → {qs : List ℕ} {t : List Record} → CardLoaded right (size / 8) s qs t → BothOpened left right (size / 8) (root ps) (root qs) t
  unfolding open_both
  both {ps} {s} a {qs} {t} b =
      let g = b.law.kept.grows in
      record {
        kept = kept_trans a.law.kept b.law.kept;
        left_inside = let h = a.inside in omega (arith, grows_length g);
        right_inside = b.inside;
        left_means = equal_trans (grows_language g (root ps) a.inside) a.means;
        right_means = b.means;
        enough = λ room' n.
            ap (left_opened room' (records right)) (a.law.enough room' (omega (arith, grows_length g)))
            ∙ ap (right_opened (root ps)) (b.law.enough room' n);
      }

  right_law : {ps : List ℕ} {s : List Record} → CardLoaded left (size / 8) fresh_store ps s
      → {l : Loading} → LoadLaw (size / 8) (records right) s [] (records right) l → OpenLaw left right (size / 8) (right_opened (root ps) l)
  right_law a (all_loaded b) = both_opened (both a (card_loaded right right_good b))
  right_law a (was_full f) = was_filled (record { kept = kept_trans a.law.kept f.kept; fills = f.fills })

  left_law : {l : Loading} → LoadLaw (size / 8) (records left) fresh_store [] (records left) l
      → OpenLaw left right (size / 8) (left_opened (size / 8) (records right) l)
  left_law (all_loaded {store' = s} a) =
      right_law (card_loaded left left_good a) (load_law (size / 8) (records right) (good_card right rights right_good) s a.kept.ready)
  left_law (was_full f) = was_filled (outgrown_filled f)

  pub open_law : OpenLaw left right (size / 8) (open_both (size / 8) (records left) (records right))
  unfolding open_both
  open_law = left_law (load_law (size / 8) (records left) (good_card left lefts left_good) fresh_store (fresh_is_ready (legal_room size room_legal)))
