-- The call `compare`, by its parts: refused at once it leaves all rooms as lent; else it opens as the definition does, and searches from the opening
-- pair in the store that then stands in the work room; and what is so told is true.
use Rattle.std.specs.Prelude.{ℕ, ◌-◌, ◌/◌, ◌<◌, ◌≤◌, Bool, true, false, List, [], ◌≡◌, ltb}
use Rattle.std.proofs.Common.{arith, sym, ◌∙◌, ap₂, subst}
use Rattle.std.proofs.Math.Path.{refl, ap}
use Rattle.std.proofs.Math.ListN.{length}
use Rattle.language.specs.Word.{Bytes}
use Rattle.records.specs.declared.record.Record.{Record}
use Rattle.std.specs.declared.result.Result.{Result}
use Rattle.std.specs.declared.result.Result.TheVariants.{Ok, Err}
use Rattle.refusals.specs.declared.refusal.Refusal.{Refusal}
use Rattle.refusals.specs.Number.{number}
use Rattle.refusals.specs.Order.{Standing}
use Rattle.refusals.specs.Order.{Good, Refused}
use Rattle.language.specs.Language.{language}
use Rattle.records.specs.Record.{records, run_of}
use Rattle.cards.specs.Meaning.{card_pattern}
use Rattle.store.specs.Room.{store_in, places_of, laid, fresh_store}
use Rattle.store.specs.declared.work.Work.{Work}
use Rattle.store.specs.Work.{store_of, space_of}
use Rattle.store.specs.Good.{GoodStore}
use Rattle.store.proofs.Laws.Room.{laid_laid}
use Rattle.store.specs.Laws.Wall.{Kept}
use Rattle.store.proofs.Laws.Wall.{grows_length}
use Rattle.store.proofs.Laws.LegalRoom.{LegalRoom, legal_room}
use Rattle.store.proofs.Laws.GoodRoom.{places_after, store_after}
use Rattle.loading.proofs.Laws.FreshRoom.{length_fresh, grown_good}
use Rattle.pairs.specs.Told.{Opens}
use Rattle.pairs.specs.Laws.Told.{Opened}
use Rattle.pairs.specs.Laws.Told.{OpenedAt as At, NotOpened as Full}
use Rattle.pairs.specs.Pair.{run_of_pairs}
use Rattle.pairs.specs.Room.{pairs_of}
use Rattle.pairs.specs.Tried.{tried}
use Rattle.pairs.specs.Opening.{Opening, opened, unopened, open_both, after_opening}
use Rattle.pairs.specs.Laws.Told.{CanOpenRoom, told_opening, OpensRoom, opened_of, opens_room, opening_full_by}
use Rattle.pairs.specs.Laws.Tried.{tried_bytes}
use Rattle.pairs.specs.Laws.LegalRoom.{legal_pair_room}
use Rattle.pairs.specs.Laws.Opening.{OpenLaw, both_opened, was_filled, open_law}
use Rattle.answers.specs.declared.Comparison.{Comparison}
use Rattle.answers.specs.declared.Comparison.TheVariants.{Refused as RefusedComparison}
use Rattle.searching.specs.declared.table.Table.{Table}
use Rattle.searching.specs.Search.{Search, same, different, stopped, search}
use Rattle.answers.specs.Comparing.{Told}
use Rattle.comparing.specs.Compare.{compare_standing, Outcome, of_word, of_search, search_opened, compare_by, compare_outcome}
use Rattle.comparing.specs.Promise.{TrueVerdict, Leaves, Compares}
use Rattle.searching.proofs.Laws.Told.{end_store}
use Rattle.searching.specs.Told.{LegalPairs}
use Rattle.comparing.proofs.Laws.Compare.{compare_true}
use Rattle.searching.proofs.Laws.Keeps.{KeepsSearch, keeps_same, keeps_different, keeps_stopped, search_keeps}
use Rattle.comparing.proofs.Laws.Refusals.{Unrefused, unrefused}

-- The store that an outcome leaves is the search's.
outcome_store : (word budget : ℕ) (s : Search) → (of_search word budget s).store ≡ end_store s
outcome_store word budget (same store table left) = refl
outcome_store word budget (stopped number store table left) = refl
outcome_store word budget (different w left_has store table left) = go (ltb word (length w))
  where
    go : (short : Bool) → (of_word w left_has store table (budget - left) short).store ≡ store
    go true = refl
    go false = refl

-- What was lent, and what examining it found.
pub record Lent (left right work pairs word : List ℕ) (budget : ℕ) (found : Standing) : Type 0 where
  pub lefts : Bytes left
  pub rights : Bytes right
  pub works : Bytes work
  pub pair_bytes : Bytes pairs
  pub stands : found ≡ compare_standing left right (length work) (length pairs)

pub lent : (left right work pairs word : List ℕ) (budget : ℕ) → Bytes left → Bytes right → Bytes work → Bytes pairs
    → {found : Standing} → found ≡ compare_standing left right (length work) (length pairs) → Lent left right work pairs word budget found
lent left right work pairs word budget a b c d e = record { lefts = a; rights = b; works = c; pair_bytes = d; stands = e }

-- What the code told of opening is one thing.
not_both : {answer : Opened} {x y taken stood : ℕ} → answer ≡ At x y taken → answer ≡ Full stood → ⊥
not_both e f = let z : ◌≡◌ {A = ℕ} 0 1 = cc in omega arith

-- Both cards are opened: x and y are their roots' places, and `store` stands in the work room.
record Entered (left right work : List ℕ) (o : Opening) (x y taken : ℕ) (work₁ : List ℕ) : Type 0 where
  store : List Record
  is : o ≡ opened x y store
  taken_is : taken ≡ length store
  work_is : work₁ ≡ laid store work
  kept : Kept (places_of work) fresh_store store
  x_inside : x < length store
  y_inside : y < length store

module _ {left right work pairs word : List ℕ} {budget : ℕ} {found : Standing} (c : Lent left right work pairs word budget found) where
  abbrev outcome : Outcome
  outcome = compare_outcome left right (length work) (length pairs) (length word) budget

  -- An answer that tells the outcome is true.
  promised : {o : Outcome} → outcome ≡ o → {answer : Comparison} {work' pairs' word' : List ℕ} → Leaves work pairs word o answer work' pairs' word'
      → Compares left right work pairs word budget answer work' pairs' word'
  promised e {answer} {work'} {pairs'} {word'} j =
      let t = j.tells ∙ ap (λ (o : Outcome). o.tells) (sym e) in
      record {
        leaves = subst (λ (o : Outcome). Leaves work pairs word o answer work' pairs' word') (sym e) j;
        means =
            subst
            (λ (t : Told). TrueVerdict (language (card_pattern left)) (language (card_pattern right)) t.pairs (length word) outcome.written t.says)
            (sym t)
            (compare_true left right c.lefts c.rights (length work) (length pairs) (length word) budget);
      }

  -- A call that is refused at once leaves the rooms as they are.
  pub refused_at_once : {number : ℕ} → found ≡ Refused number → Compares left right work pairs word budget (RefusedComparison number 0 0 0) work pairs word
  unfolding compare_outcome run_of run_of_pairs
  refused_at_once e =
      promised (ap (λ (s : Standing). compare_by s left right (length work) (length pairs) (length word) budget) (sym c.stands ∙ e))
      (record { tells = refl; work_room = refl; pair_room = refl; word_room = refl })

  -- A call that is not opens.
  module _ (e : found ≡ Good) where
    not_refused : Unrefused left right (length work) (length pairs)
    not_refused = unrefused left right (length work) (length pairs) (sym c.stands ∙ e)

    abbrev opens : Opening
    opens = open_both (places_of work) (records left) (records right)

    outcome_is : outcome ≡ search_opened (places_of work) (pairs_of pairs) (length word) (tried left right) budget opens
    unfolding compare_outcome
    outcome_is = ap (λ (s : Standing). compare_by s left right (length work) (length pairs) (length word) budget) (sym c.stands ∙ e)

    pub can_open : CanOpenRoom left right work
    can_open = record { left_good = not_refused.left_good; right_good = not_refused.right_good; room_legal = not_refused.room_legal }

    legal : LegalRoom (length work)
    legal = legal_room (length work) not_refused.room_legal

    law : OpenLaw left right (places_of work) opens
    law = open_law left right c.lefts c.rights (length work) not_refused.left_good not_refused.right_good not_refused.room_legal

    module _ {answer₀ : Opened} {work₁ : List ℕ} (o : OpensRoom work opens answer₀ work₁) where
      -- The room is full before the search begins.
      pub full_in_opening : {taken : ℕ} → answer₀ ≡ Full taken → Compares left right work pairs word budget (RefusedComparison 7 0 taken 0) work₁ pairs word
      unfolding run_of_pairs
      full_in_opening {taken} f = go opens refl o.answers o.leaves
        where
          go : (p : Opening) → opens ≡ p → answer₀ ≡ told_opening p → work₁ ≡ laid (after_opening p) work
              → Compares left right work pairs word budget (RefusedComparison 7 0 taken 0) work₁ pairs word
          go (opened x y store) i a w = absurd (not_both a f)
          go (unopened store) i a w =
              let stood : taken ≡ length store = cc in
              promised (outcome_is ∙ ap (search_opened (places_of work) (pairs_of pairs) (length word) (tried left right) budget) i)
              (record { tells = rw stood; work_room = w; pair_room = refl; word_room = refl })

      module _ {x y taken : ℕ} (f : answer₀ ≡ At x y taken) where
        entered : Entered left right work opens x y taken work₁
        entered = go law o.answers o.leaves
          where
            go : {p : Opening} → OpenLaw left right (places_of work) p → answer₀ ≡ told_opening p → work₁ ≡ laid (after_opening p) work
                → Entered left right work p x y taken work₁
            go (both_opened {x = x'} {y = y'} {store} b) a w =
                let i : x ≡ x' = cc in
                let j : y ≡ y' = cc in
                record {
                  store = store;
                  is = rw (i, j) refl;
                  taken_is = cc;
                  work_is = w;
                  kept = b.kept;
                  x_inside = rw i b.left_inside;
                  y_inside = rw j b.right_inside;
                }
            go (was_filled b) a w = absurd (not_both f a)

        pub can_search : GoodStore work₁ taken × (((x < taken) × (y < taken)) × LegalPairs pairs)
        can_search =
            let n = entered in
            let i = n.x_inside in
            let j = n.y_inside in
            let l = legal_pair_room (length pairs) not_refused.pair_room_legal in (
              subst (λ (r : List ℕ). GoodStore r taken) (sym n.work_is)
                  (subst (λ (k : ℕ). GoodStore (laid n.store work) k) (sym n.taken_is) (grown_good work c.works legal n.kept)),
              ((omega (arith, n.taken_is), omega (arith, n.taken_is)), record { bytes = c.pair_bytes; short = l.not_large }),
            )

        module _ {letters : List ℕ} (t : letters ≡ tried left right) where
          abbrev here : Search
          here = search (places_of work) (pairs_of pairs) (tried left right) x y entered.store budget

          same_search : search (places_of work₁) (pairs_of pairs) letters x y (store_in work₁ taken) budget ≡ here
          same_search =
              let n = entered in
              let cap : places_of work₁ ≡ places_of work = ap places_of n.work_is ∙ places_after work n.kept in
              let stood : store_in work₁ taken ≡ n.store = ap₂ store_in n.work_is n.taken_is ∙ store_after work n.kept in
              rw (cap, stood, t)

          longer : length entered.store ≤ length (of_search (length word) budget here).store
          longer =
              rw (outcome_store (length word) budget here)
              (go
              (search_keeps {room = places_of work} {pairs = pairs_of pairs} (tried left right) (tried_bytes left right) x y budget entered.kept.ready
              entered.x_inside entered.y_inside))
            where
              go : {s : Search} → KeepsSearch (places_of work) (pairs_of pairs) entered.store [] budget s → length entered.store ≤ length (end_store s)
              go (keeps_same k) = grows_length k.kept.grows
              go (keeps_different k) = grows_length k.kept.grows
              go (keeps_stopped k) = grows_length k.kept.grows

          -- What is told of the search in the room is told of the cards.
          pub compared : {answer : Comparison} {work₂ pairs₂ word₂ : List ℕ}
              → Leaves work₁ pairs word
              (of_search (length word) budget (search (places_of work₁) (pairs_of pairs) letters x y (store_in work₁ taken) budget)) answer work₂ pairs₂ word₂
              → Compares left right work pairs word budget answer work₂ pairs₂ word₂
          compared j =
              let n = entered in
              let k = rw same_search at j in
              let s = (of_search (length word) budget here).store in
              promised (outcome_is ∙ ap (search_opened (places_of work) (pairs_of pairs) (length word) (tried left right) budget) n.is)
              (record {
                tells = k.tells;
                work_room = k.work_room ∙ ap (laid s) n.work_is ∙ laid_laid n.store s work longer;
                pair_room = k.pair_room;
                word_room = k.word_room;
              })

        -- The same, of the letters that the search was given.
        pub compared_with : (letters : List ℕ) {answer : Comparison} {work₂ pairs₂ word₂ : List ℕ}
            → Leaves work₁ pairs word
            (of_search (length word) budget (search (places_of work₁) (pairs_of pairs) letters x y (store_in work₁ taken) budget)) answer work₂ pairs₂ word₂
            → letters ≡ tried left right
            → Compares left right work pairs word budget answer work₂ pairs₂ word₂
        compared_with letters j t = compared t j

-- The same of what the call works with: the fresh store is laid in its work room, and opening and the search go on from there.
module _ {left right work pairs word : List ℕ} {budget : ℕ} {found : Standing} (c : Lent left right work pairs word budget found) (e : found ≡ Good) where
  same_space : (w₀ : Work) → w₀.room.now ≡ laid fresh_store work → space_of w₀ ≡ places_of work
  same_space w₀ b = ap places_of b ∙ ap (λ (n : ℕ). n / 8) (length_fresh work (legal c e).enough)

  -- Opening leaves a store that covers the fresh one.
  covers_fresh : {o : Opening} → OpenLaw left right (places_of work) o → length fresh_store ≤ length (after_opening o)
  covers_fresh (both_opened h) = grows_length h.kept.grows
  covers_fresh (was_filled h) = grows_length h.kept.grows

  module _ {w₀ : Work} (b : w₀.room.now ≡ laid fresh_store work) {answer₀ : Result (ℕ × ℕ) Refusal} {w₁ : Work}
      (o : Opens w₀ (open_both (space_of w₀) (records left) (records right)) answer₀ w₁) where
    opens_lent : OpensRoom work (opens c e) (opened_of answer₀ w₁.places) w₁.room.now
    opens_lent =
        let k = rw (same_space w₀ b, b) at (opens_room o) in
        record { answers = k.answers; leaves = k.leaves ∙ laid_laid fresh_store (after_opening (opens c e)) work (covers_fresh (law c e)) }

    -- The room is full before the search begins.
    pub told_full : {refusal : Refusal} → answer₀ ≡ Err refusal → {n : ℕ} → n ≡ number refusal → {work' pairs' : List ℕ} → work' ≡ w₁.room.now → pairs' ≡ pairs
        → Compares left right work pairs word budget (RefusedComparison n 0 w₁.places 0) work' pairs' word
    told_full f m r q =
        let full = opening_full_by (open_both (space_of w₀) (records left) (records right)) (sym f ∙ o.answers) in
        rw (m, full, r, q) (full_in_opening c e opens_lent (ap (λ (a : Result (ℕ × ℕ) Refusal). opened_of a w₁.places) f))

    module _ {x y : ℕ} (f : answer₀ ≡ Ok (x, y)) where
      is_opened : opened_of answer₀ w₁.places ≡ At x y w₁.places
      is_opened = ap (λ (a : Result (ℕ × ℕ) Refusal). opened_of a w₁.places) f

      -- What is told of the search is told of the cards.
      pub told_compared : {letters : List ℕ} → letters ≡ tried left right → w₀.budget ≡ budget → (t : Table) → t.room.now ≡ pairs
          → {answer : Comparison} {work₂ pairs₂ word₂ : List ℕ}
          → Leaves w₁.room.now t.room.now word
          (of_search (length word) w₁.budget (search (space_of w₁) (pairs_of t.room.now) letters x y (store_of w₁) w₁.budget)) answer work₂ pairs₂ word₂
          → {work' pairs' : List ℕ} → work' ≡ work₂ → pairs' ≡ pairs₂
          → Compares left right work pairs word budget answer work' pairs' word₂
      told_compared t p table q j r s = rw (r, s) (compared_with c e opens_lent is_opened _ (rw (q, o.unspent ∙ p) at j) t)
