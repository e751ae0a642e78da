-- A pattern card in good standing: it has a record, it can be loaded, and once loaded its root means the card's pattern.
use Rattle.std.specs.Prelude.{ℕ, ◌-◌, ◌*◌, ◌<◌, List, [], ◌≡◌, length}
use Rattle.std.proofs.Common.{arith, subst}
use Rattle.language.specs.Word.{Bytes}
use Rattle.language.specs.Language.{language, Equal}
use Rattle.records.specs.declared.record.Record.{Record}
use Rattle.refusals.specs.Order.{Good}
use Rattle.records.specs.Record.{records}
use Rattle.cards.specs.Examine.{examined, pattern_card}
use Rattle.refusals.specs.Limits.{most_pattern_records}
use Rattle.cards.specs.Meaning.{patterns, numbered, card_pattern}
use Rattle.records.specs.Laws.Record.{record_at_place, length_records, fitting_of, bytes_drop}
use Rattle.cards.proofs.Laws.Examine.{good_length, good_right}
use Rattle.loading.specs.Loading.{root}
use Rattle.loading.specs.Told.{Loadable}
use Rattle.store.proofs.Laws.Languages.{language_at}
use Rattle.loading.proofs.Laws.Loading.{GoodCard, AllLoaded}

-- A card of at most so many records, in good standing, can be loaded, and with a map of so many entries.
pub examined_card : (most : ℕ) (card : List ℕ) → Bytes card → examined most card ≡ Good → GoodCard (records card)
examined_card most card b e =
    record {
      obeys = λ at l. (good_right most card e at (omega (arith, length_records card))).obeys;
      byte = λ at l.
          rw (record_at_place card at (omega (arith, length_records card))) (fitting_of (bytes_drop (8 * at) b)).letter;
    }

pub examined_loadable : (most : ℕ) (card map : List ℕ) → examined most card ≡ Good → length map ≡ most → Loadable card map
examined_loadable most card map e n =
    let l = (good_length most card e).not_long in
    record { mapped = omega arith; obeys = λ at m. (good_right most card e at m).obeys }

-- A pattern card in good standing has a record, and can be loaded.
pub some_record : (card : List ℕ) → pattern_card card ≡ Good → 0 < length (records card)
unfolding pattern_card
some_record card e =
    let h = good_length most_pattern_records card e in
    let s = h.some in
    let w = h.whole in
    omega (arith, length_records card)

pub good_card : (card : List ℕ) → Bytes card → pattern_card card ≡ Good → GoodCard (records card)
unfolding pattern_card
good_card card b e = examined_card most_pattern_records card b e

-- The card was loaded, and its root means the card's pattern.
pub record CardLoaded (card : List ℕ) (room : ℕ) (store₀ : List Record) (places : List ℕ) (store : List Record) : Type 0 where
  pub law : AllLoaded room (records card) store₀ [] (records card) places store
  pub inside : root places < length store
  pub means : Equal (language_at store (root places)) (language (card_pattern card))

pub card_loaded : (card : List ℕ) → pattern_card card ≡ Good → {room : ℕ} {store₀ : List Record} {places : List ℕ} {store : List Record}
    → AllLoaded room (records card) store₀ [] (records card) places store → CardLoaded card room store₀ places store
unfolding card_pattern
card_loaded card e {places = places} {store} a =
    let n = a.count in
    let some = some_record card e in
    let last : length places - 1 < length places = omega arith in
    record {
      law = a;
      inside = a.standing.inside (length places - 1) last;
      means =
          subst (λ (k : ℕ). Equal (language_at store (root places)) (language (numbered (patterns (records card)) (k - 1)))) n
          (a.standing.means (length places - 1) last);
    }
