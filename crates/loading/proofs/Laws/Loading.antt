-- Loading keeps the wall: it makes each record in order, so that each means its own pattern at its place; where it finds no free place, it goes on
-- from there in a larger room.
use Rattle.std.specs.Prelude.{ℕ, ◌<◌, ◌≤◌, Bool, true, ◌≡◌, get_or}
use Rattle.std.proofs.Math.Decide.{dec_lt}
use Rattle.std.proofs.Common.{arith, ◌∙◌}
use mathlib.Core.List.{List, [], ◌∷◌, ◌++◌, append_assoc}
use Rattle.std.proofs.Math.Path.{refl, sym, ap, subst}
use Rattle.std.proofs.Math.ListN.{length, length-append, get_or-append}
use Rattle.std.proofs.Math.Seq.{get_or-append_seam}
use Rattle.language.specs.Language.{language, Equal}
use Rattle.language.proofs.Laws.Equality.{equal_sym, equal_trans}
use Rattle.records.specs.declared.record.Record.{Record}
use Rattle.records.specs.Record.{child}
use Rattle.records.specs.Kind.{kind_of, columns}
use Rattle.cards.specs.Meaning.{record_pattern, patterns, numbered}
use Rattle.cards.specs.Standing.{Line, Obeys}
use Rattle.cards.proofs.Laws.Line.{field_put, left_child, right_child}
use Rattle.cards.proofs.Laws.Meaning.{pattern_of_record}
use Rattle.store.specs.Making.{Making, placed, full, after, new_record}
use Rattle.loading.specs.Loading.{Loading, loaded, no_room, child_place, left_place, right_place, make_loaded, load_after, load, after_loading}
use Rattle.store.specs.Good.{Makeable}
use Rattle.store.specs.Laws.Wall.{Grows, Ready, Kept}
use Rattle.store.proofs.Laws.Wall.{grows_refl, grows_trans, grows_length, grows_language, kept_refl, kept_trans, Placed, Longer, longer_grows, Outgrown, MakeLaw, was_placed}
use Rattle.store.proofs.Laws.Adding.{make_adds}
use Rattle.store.proofs.Laws.Making.{make_law}
use Rattle.store.proofs.Laws.Languages.{language_at, operator_over, language_of_operator, operator_equal, equal_of_path}

-- A card that can be loaded: its records obey the kind table, and their letters are bytes.
pub record GoodCard (card : List Record) : Type 0 where
  pub obeys : (at : ℕ) → at < length card → Obeys at (child card at)
  pub byte : (at : ℕ) → at < length card → (child card at).letter < 256

-- The places of the first so many records of a card: each stands in the store and means its record's pattern.
pub record Standing (card store : List Record) (places : List ℕ) : Type 0 where
  pub inside : (at : ℕ) → at < length places → get_or places at 0 < length store
  pub means : (at : ℕ) → at < length places → Equal (language_at store (get_or places at 0)) (language (numbered (patterns card) at))

pub standing_grows : {card store store' : List Record} {places : List ℕ} → Grows store store' → Standing card store places → Standing card store' places
standing_grows g s =
    record {
      inside = λ at l. let h = s.inside at l in omega (arith, grows_length g);
      means = λ at l. equal_trans (grows_language g _ (s.inside at l)) (s.means at l);
    }

-- Each record in its turn can be made, and means its pattern.

module _ (card store : List Record) (places : List ℕ) (s : Standing card store places) (at : ℕ) (n : length places ≡ at) (r : Record) where
  lower : {i : ℕ} → i < at → get_or places i 0 < length store
  lower {i} l = s.inside i (omega arith)

  abbrev x : ℕ
  x = left_place places r

  abbrev y : ℕ
  y = right_place places r

  line_loaded : Line at r → Line (length store) (new_record store r.kind r.letter x y)
  line_loaded o =
      record {
        known = o.known;
        letter = o.letter;
        left = field_put (columns (kind_of r.kind)).left at (length store) r.left (λ i. get_or places i 0) (λ i l. lower l) o.left;
        right = field_put (columns (kind_of r.kind)).right at (length store) r.right (λ i. get_or places i 0) (λ i l. lower l) o.right;
      }

  -- A child that its kind has means its own pattern where it was loaded.
  child_means : (child : Bool) (field : ℕ) → child ≡ true → field < at
      → Equal (language_at store (child_place child places field)) (language (numbered (patterns card) field))
  child_means child field e l = rw e (s.means field (omega arith))

  operator_loaded : Line at r
      → Equal (operator_over (kind_of r.kind) r.letter (language_at store x) (language_at store y))
      (operator_over (kind_of r.kind) r.letter (language (numbered (patterns card) r.left)) (language (numbered (patterns card) r.right)))
  operator_loaded o =
      operator_equal (kind_of r.kind) r.letter
      (λ e. child_means (columns (kind_of r.kind)).left r.left e (left_child o e))
      (λ e. child_means (columns (kind_of r.kind)).right r.right e (right_child o e))

-- One place more.
standing_more : (card store : List Record) (places : List ℕ) (place : ℕ) → Standing card store places → place < length store
    → Equal (language_at store place) (language (numbered (patterns card) (length places))) → Standing card store (places ++ place ∷ [])
standing_more card store places place s l e = record { inside = λ at m. (at_or_last at m).0; means = λ at m. (at_or_last at m).1 }
  where
    at_or_last : (at : ℕ) → at < length (places ++ place ∷ [])
        → (get_or (places ++ place ∷ []) at 0 < length store) × Equal (language_at store (get_or (places ++ place ∷ []) at 0)) (language (numbered (patterns card) at))
    at_or_last at m = go (dec_lt at (length places))
      where
        go : Dec (at < length places) → (get_or (places ++ place ∷ []) at 0 < length store) × Equal (language_at store (get_or (places ++ place ∷ []) at 0)) (language (numbered (patterns card) at))
        go (yes k) = rw (get_or-append places (place ∷ []) 0 at k) (s.inside at k, s.means at k)
        go (no k) =
            let i : at ≡ length places = omega (arith, length-append places (place ∷ [])) in
            rw (i, get_or-append_seam places place [] 0) (l, e)

-- The law of loading, from any record of the card on.

pub record AllLoaded (room : ℕ) (card store : List Record) (places : List ℕ) (rest : List Record) (places' : List ℕ) (store' : List Record) : Type 0 where
  pub kept : Kept room store store'
  pub count : length places' ≡ length card
  pub standing : Standing card store' places'
  pub replays : (room' : ℕ) (store'' : List Record) → Grows store' store'' → load_after room' store'' places rest ≡ loaded places' store''
  pub enough : (room' : ℕ) → length store' ≤ room' → load_after room' store places rest ≡ loaded places' store'

pub data LoadLaw (room : ℕ) (card store : List Record) (places : List ℕ) (rest : List Record) : Loading → Type 0 where
  all_loaded : {places' : List ℕ} {store' : List Record} → AllLoaded room card store places rest places' store' → LoadLaw room card store places rest (loaded places' store')
  was_full : {store' : List Record} → Outgrown (λ room'. after_loading (load_after room' store places rest)) room store store'
      → LoadLaw room card store places rest (no_room store')

-- What follows the making of a record.
abbrev pub go_on : ℕ → List ℕ → List Record → Making → Loading
go_on room places rest made =
    elim made as (λ _. Loading) [
      | placed place store' ↦ load_after room store' (places ++ place ∷ []) rest
      | full store' ↦ no_room store'
    ]

-- In a room of any size, only records at the end are added.
module _ (room : ℕ) where
  go_on_grows : (places : List ℕ) (rest : List Record)
      → ((place : ℕ) (store : List Record) → Grows store (after_loading (load_after room store (places ++ place ∷ []) rest)))
      → (made : Making) → Grows (after made) (after_loading (go_on room places rest made))
  go_on_grows places rest next (placed place store) = next place store
  go_on_grows places rest next (full store) = grows_refl store

  load_grows : (store : List Record) (places : List ℕ) (rest : List Record) → Grows store (after_loading (load_after room store places rest))
  unfolding load_after
  load_grows store places [] = grows_refl store
  load_grows store places (r ∷ rest) =
      grows_trans (make_adds room store r.kind r.letter (left_place places r) (right_place places r)).grows
      (go_on_grows places rest (λ place store₁. load_grows store₁ (places ++ place ∷ []) rest) (make_loaded room store places r))

module _ (room : ℕ) (card : List Record) (g : GoodCard card) where
  after_made : (store : List Record) (places : List ℕ) (r : Record) (rest : List Record) {place : ℕ} {store₁ : List Record}
      → Placed room store r.kind r.letter (left_place places r) (right_place places r) place store₁
      → {l : Loading} → LoadLaw room card store₁ (places ++ place ∷ []) rest l → LoadLaw room card store places (r ∷ rest) l
  unfolding load_after
  after_made store places r rest p (all_loaded a) =
      all_loaded
      (record {
        kept = kept_trans p.kept a.kept;
        count = a.count;
        standing = a.standing;
        replays = λ room' store'' h. ap (go_on room' places rest) (p.replays room' store'' (grows_trans a.kept.grows h)) ∙ a.replays room' store'' h;
        enough = λ room' n. ap (go_on room' places rest) (p.enough room' (omega (arith, grows_length a.kept.grows))) ∙ a.enough room' n;
      })
  after_made store places r rest p (was_full {store'} f) =
      was_full
      (record {
        kept = kept_trans p.kept f.kept;
        fills = f.fills;
        goes_on = λ room' k.
            let w = f.fills in
            subst (λ (made : Making). Longer store' (after_loading (go_on room' places rest made)))
            (sym (p.enough room' (omega (arith, grows_length f.kept.grows))))
            (f.goes_on room' k);
      })

  -- The next record of the card can be made; once it is, the records after it are loaded.
  module _ (store : List Record) (places : List ℕ) (done : List Record) (r : Record) (rest : List Record)
      (e : card ≡ done ++ r ∷ rest) (n : length done ≡ length places) (ready : Ready room store) (s : Standing card store places) where
    here : child card (length places) ≡ r
    here = rw (e, ← n) (get_or-append_seam done r rest _)

    within : length places < length card
    within = omega (arith, ap length e, length-append done (r ∷ rest))

    line : Line (length places) r
    line = subst (Line (length places)) here (g.obeys (length places) within).line

    pub can : Makeable store r.kind r.letter (left_place places r) (right_place places r)
    can =
        record {
          line = line_loaded card store places s (length places) refl r line;
          byte = subst (λ (q : Record). q.letter < 256) here (g.byte (length places) within);
        }

    -- The made record's language is its pattern's.
    means_pattern : {place : ℕ} {store₁ : List Record}
        → Placed room store r.kind r.letter (left_place places r) (right_place places r) place store₁
        → Equal (language_at store₁ place) (language (numbered (patterns card) (length places)))
    means_pattern p =
        equal_trans p.means
        (equal_trans (operator_loaded card store places s (length places) refl r line)
        (equal_sym
        (equal_trans
        (equal_of_path (pattern_of_record card (length places) within (g.obeys (length places) within).line ∙ ap (record_pattern (patterns card)) here))
        (language_of_operator (kind_of r.kind) r.letter _ _))))

    pub next_standing : {place : ℕ} {store₁ : List Record}
        → Placed room store r.kind r.letter (left_place places r) (right_place places r) place store₁
        → Standing card store₁ (places ++ place ∷ [])
    next_standing {place} {store₁} p =
        standing_more card store₁ places place (standing_grows p.kept.grows s) p.inside (means_pattern p)

    load_next : ((place : ℕ) (store₁ : List Record) → Ready room store₁ → Standing card store₁ (places ++ place ∷ [])
        → LoadLaw room card store₁ (places ++ place ∷ []) rest (load_after room store₁ (places ++ place ∷ []) rest))
        → {m : Making}
        → MakeLaw room store r.kind r.letter (left_place places r) (right_place places r) m
        → LoadLaw room card store places (r ∷ rest) (go_on room places rest m)
    unfolding load_after
    load_next next (was_placed {place} {store'} p) = after_made store places r rest p (next place store' p.kept.ready (next_standing p))
    load_next next (MakeLaw.was_full f) =
        was_full
        (record {
          kept = f.kept;
          fills = f.fills;
          goes_on = λ room' k.
              longer_grows (f.goes_on room' k)
              (go_on_grows room' places rest (λ place store₁. load_grows room' store₁ (places ++ place ∷ []) rest) (make_loaded room' store places r));
        })

  load_after_law : (store : List Record) (places : List ℕ) (done rest : List Record) → card ≡ done ++ rest → length done ≡ length places
      → Ready room store → Standing card store places → LoadLaw room card store places rest (load_after room store places rest)
  unfolding load_after
  load_after_law store places done [] e n ready s =
      all_loaded {places' = places}
      (record {
        kept = kept_refl ready;
        count = omega (arith, ap length e, length-append done []);
        standing = s;
        replays = λ room' store'' h. refl;
        enough = λ room' m. refl;
      })
  load_after_law store places done (r ∷ rest) e n ready s =
      load_next store places done r rest e n ready s
      (λ place store₁ ready₁ s₁.
      load_after_law store₁ (places ++ place ∷ []) (done ++ r ∷ []) rest
      (e ∙ sym (append_assoc done (r ∷ []) rest))
      (omega (arith, length-append done (r ∷ []), length-append places (place ∷ [])))
      ready₁
      s₁)
      (make_law ready (can store places done r rest e n ready s))

  -- The law of loading a card.
  pub load_law : (store : List Record) → Ready room store → LoadLaw room card store [] card (load room store card)
  unfolding load
  load_law store ready =
      load_after_law store [] [] card refl refl ready
      (record { inside = λ at l. absurd (omega arith); means = λ at l. absurd (omega arith) })
