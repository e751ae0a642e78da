-- A search that stopped, done again with more lent, comes past where it stopped: what stood stands first, rows and what the machine had, and at least one
-- more is there of what gave out. Up to the stop every part is done again; there the step is made that stopped, or the pair is placed; and what follows
-- only adds.
use Prim.Native.Nat.{ℕ, zero, suc, ◌<◌, ◌≤◌}
use Rattle.std.proofs.Common.{arith, sym, ◌∙◌, ap, subst}
use Rattle.std.specs.Prelude.{Bool, false, ◌≡◌, length}
use Rattle.std.proofs.Math.Bool.{true}
use mathlib.Core.List.Memᴰ
use mathlib.Core.List.{List, [], ◌∷◌, ◌++◌}
use Rattle.std.proofs.Math.Path.{refl}
use Rattle.std.proofs.Math.Dec.{ltb}
use borrow.Author.Tests.{ltb-true, lt-ltb}
use Rattle.language.specs.Word.{IsByte, Listed}
use Rattle.refusals.specs.Numbers.{no_place_for_pair}
use Rattle.machine.specs.Laws.Machine.{Stepped, stepped, halted, Machine, Sense, StepLaw, was_stepped, was_halted, Lawful}
use Rattle.machine.specs.Laws.Search.{Search, same, different, stopped, Going, on, ends, after_going, search_after, after_step, turned, looked, row_at, word_of, stands_in, marks_agree, look, by_letter, by_letters, take_pairs, search}
use Rattle.machine.specs.Laws.Redoing.{Redone, redone, Redoing}
use Rattle.machine.specs.Laws.Keeps.{Extends, extends_refl, extends_trans, extends_length, length_next, Tabled, tabled_none, KeptBoth, KeepsSearch, keeps_same, keeps_different, keeps_stopped, KeepsGoing, keeps_on, keeps_ends_different, keeps_ends_stopped, step_kept, look_next, right_next, look_keeps, look_next_keeps, right_next_keeps, by_letter_keeps, by_letters_keeps, take_pairs_keeps}

-- What the machine has after a step, whether it was made or stopped.
abbrev pub step_has : {State Has : Type 0} → Stepped State Has → Has
step_has {State} {Has} s = elim s as (λ _. Has) [ stepped x k ↦ k | halted number k ↦ k ]

-- More is lent: what the machine has stands beside what it had, a step that was made is made again, and one that stopped at the end given comes past it.
pub record Onward {State Has Row : Type 0} (M : Machine State Has Row) (S : Sense State Has) (end : Has) (Beside : Has → Has → Type 0) (Past : Has → Type 0) : Type 0 where
  pub redoing : Redoing M S end Beside
  pub ready : {h h' : Has} → Beside h h' → S.Ready h → S.Ready h'
  pub stands : {h h' : Has} → Beside h h' → (x : State) → S.Stands h x → S.Stands h' x
  pub past : {h h' : Has} → Beside h h' → S.Ready h → (c : ℕ) → IsByte c → (x : State) → S.Stands h x → {number : ℕ} → M.step c x h ≡ halted number end
      → Past (step_has (M.step c x h'))
  pub past_kept : {h k : Has} → S.Grows h k → Past h → Past k

-- Where a search ends, or a part of it leaves off.

abbrev pub search_has : {Has Row : Type 0} → Search Has Row → Has
search_has {Has} s = elim s as (λ _. Has) [ same k t ↦ k | different w b k t ↦ k | stopped number k t ↦ k ]

abbrev pub search_table : {Has Row : Type 0} → Search Has Row → List Row
search_table {Has} {Row} s = elim s as (λ _. List Row) [ same k t ↦ t | different w b k t ↦ t | stopped number k t ↦ t ]

abbrev going_has : {Has Row : Type 0} → Going Has Row → Has
going_has {Has} g = elim g as (λ _. Has) [ on k t ↦ k | ends s ↦ search_has s ]

abbrev going_table : {Has Row : Type 0} → Going Has Row → List Row
going_table {Has} {Row} g = elim g as (λ _. List Row) [ on k t ↦ t | ends s ↦ search_table s ]

-- Past a stop by this number, at this end and with this table: by the step that stopped; or by the pair that found no place.
pub data Further {State Has Row : Type 0} (S : Sense State Has) (end : Has) (Beside : Has → Has → Type 0) (Past : Has → Type 0) (number : ℕ) (table : List Row)
    (k : Has) (table' : List Row) : Type 0 where
  by_step : S.Stops end number → Past k → Extends table table' → Further S end Beside Past number table k table'
  by_pair : number ≡ no_place_for_pair → {k₀ : Has} → Beside end k₀ → S.Grows k₀ k → Extends table table' → length table < length table'
      → Further S end Beside Past number table k table'

module _ {State Has Row : Type 0} {M : Machine State Has Row} {S : Sense State Has} (laws : Lawful M S) {end : Has} {Beside : Has → Has → Type 0} {Past : Has → Type 0}
    (onward : Onward M S end Beside Past) (pairs pairs' : ℕ) (more : pairs ≤ pairs') (number : ℕ) (one_more : number ≡ no_place_for_pair → pairs < pairs')
    (table₁ : List Row) where
  -- The first stopped here; the second, from what it leaves, is past it.
  abbrev FurtherGoing : Going Has Row → Type 0
  FurtherGoing g = Further S end Beside Past number table₁ (going_has g) (going_table g)

  abbrev FurtherSearch : Search Has Row → Type 0
  FurtherSearch s = Further S end Beside Past number table₁ (search_has s) (search_table s)

  -- What follows only adds.
  further_kept : {k l : Has} {t u : List Row} → KeptBoth M S pairs' k t l u → Further S end Beside Past number table₁ k t → Further S end Beside Past number table₁ l u
  further_kept kept (by_step stops past e) = by_step stops (onward.past_kept kept.grows past) (extends_trans e kept.extends)
  further_kept kept (by_pair n b g e longer) =
      by_pair n b (laws.grows_trans g kept.grows) (extends_trans e kept.extends) (omega (arith, extends_length kept.extends))

  further_after : {k : Has} {t : List Row} {g : Going Has Row} → KeepsGoing M S pairs' k t g → Further S end Beside Past number table₁ k t → FurtherGoing g
  further_after (keeps_on kept) f = further_kept kept f
  further_after (keeps_ends_different kept) f = further_kept kept f
  further_after (keeps_ends_stopped kept why) f = further_kept kept f

  further_searched : {k : Has} {t : List Row} {s : Search Has Row} → KeepsSearch M S pairs' k t s → Further S end Beside Past number table₁ k t → FurtherSearch s
  further_searched (keeps_same kept) f = further_kept kept f
  further_searched (keeps_different kept) f = further_kept kept f
  further_searched (keeps_stopped kept why) f = further_kept kept f

  -- Of a part that leads to the stop: it goes on toward it, or stops there.
  data Toward : Going Has Row → Type 0 where
    toward_on : {k : Has} {t : List Row} → S.Grows k end → Extends t table₁ → Toward (on k t)
    toward_stop : {n : ℕ} {k : Has} {t : List Row} → n ≡ number → k ≡ end → t ≡ table₁ → Toward (ends (stopped n k t))

  -- Done again it goes on beside, or past the stop.
  data Beyond : Going Has Row → Going Has Row → Type 0 where
    went_on : {k k' : Has} {t : List Row} → Beside k k' → Beyond (on k t) (on k' t)
    went_past : {s : Search Has Row} {g : Going Has Row} → FurtherGoing g → Beyond (ends s) g

  -- What was before a part that leads to the stop leads there too.
  toward_before : {h : Has} {t : List Row} {g : Going Has Row} → KeepsGoing M S pairs h t g → Toward g → S.Grows h end × Extends t table₁
  toward_before (keeps_on kept) (toward_on g e) = (laws.grows_trans kept.grows g, extends_trans kept.extends e)
  toward_before {h} {t} (keeps_ends_stopped kept why) (toward_stop n k u) = (subst (S.Grows h) k kept.grows, subst (Extends t) u kept.extends)
  toward_before (keeps_ends_different _) x5 = elim x5 [ ]

  -- The table beside.
  tabled_beside : {h h' : Has} {t : List Row} → Beside h h' → Tabled M S pairs h t → Tabled M S pairs' h' t
  tabled_beside b t =
      record {
        stands = λ n l. let both = t.stands n l in (onward.stands b _ both.0, onward.stands b _ both.1);
        ordered = t.ordered;
        origins = t.origins;
        letters = t.letters;
        distinct = t.distinct;
        fits = let l = t.fits in omega arith;
      }

  -- A reached pair is looked at.
  look_beyond : (x y : State) (origin letter : ℕ) (word : List ℕ) {h h' : Has} {t : List Row} → Beside h h' → Tabled M S pairs h t
      → Toward (look M pairs x y origin letter word h t)
      → Beyond (look M pairs x y origin letter word h t) (look M pairs' x y origin letter word h' t)
  look_beyond x y origin letter word {h} {h'} {t} beside tabled =
      rw (onward.redoing.marks beside x, onward.redoing.marks beside y) (go (marks_agree M h x y) (stands_in M t x y) (ltb (length t) pairs) refl)
    where
      reached : Row
      reached = M.row x y origin letter

      go : (p q r : Bool) → ltb (length t) pairs ≡ r → Toward (looked reached word (M.mark h x) h t p q r)
          → Beyond (looked reached word (M.mark h x) h t p q r) (looked reached word (M.mark h x) h' t p q (ltb (length t) pairs'))
      go true true r _ _ = went_on beside
      go true false true e _ =
          let free = ltb-true (length t) pairs e in
          rw (lt-ltb (length t) pairs' (omega arith)) (went_on beside)
      go true false false e (toward_stop n k u) =
          let longer : length table₁ < length (t ++ reached ∷ []) = omega (arith, length_next t reached, ap length u) in
          let free : length t < pairs' = let l = tabled.fits in let m = one_more (sym n) in omega arith in
          rw (lt-ltb (length t) pairs' free)
          (went_past
          (by_pair (sym n) (subst (λ (e : Has). Beside e h') k beside) (laws.grows_refl h')
          (subst (λ (a : List Row). Extends a (t ++ reached ∷ [])) u (record { more = reached ∷ []; is = refl }))
          longer))
      go false q r e x3 = elim x3 [ ]

  -- A step, and a part of the search from the state it comes to.
  module _ {h h' : Has} {t : List Row} (ready : S.Ready h) (tabled : Tabled M S pairs h t) (beside : Beside h h') (c : ℕ) (byte : IsByte c) (x : State) (x-stands : S.Stands h x)
      (next next' : State → Has → Going Has Row)
      (keeps : (y : State) (k : Has) → KeptBoth M S pairs h t k t → S.Stands k y → KeepsGoing M S pairs k t (next y k))
      (keeps' : (y : State) (k : Has) → KeptBoth M S pairs' h' t k t → S.Stands k y → KeepsGoing M S pairs' k t (next' y k))
      (beyond : (y : State) (k k' : Has) → KeptBoth M S pairs h t k t → S.Stands k y → Beside k k' → Toward (next y k) → Beyond (next y k) (next' y k')) where
    -- The step that stopped, made with more.
    past_step : {n : ℕ} → M.step c x h ≡ halted n end → S.Stops end number → Extends table₁ t → FurtherGoing (after_step t (M.step c x h') next')
    past_step e stops u = go (laws.step_law (onward.ready beside ready) c byte x (onward.stands beside x x-stands)) (onward.past beside ready c byte x x-stands e)
      where
        go : {s : Stepped State Has} → StepLaw S h' c x s → Past (step_has s) → FurtherGoing (after_step t s next')
        go (was_stepped {y} {k} grows k-ready y-stands leads) p =
            further_after (keeps' y k (step_kept laws (tabled_beside beside tabled) grows k-ready) y-stands) (by_step stops p u)
        go (was_halted grows k-ready why) p = by_step stops p u

    step_beyond : Toward (after_step t (M.step c x h) next) → Beyond (after_step t (M.step c x h) next) (after_step t (M.step c x h') next')
    step_beyond = go (M.step c x h) refl (laws.step_law ready c byte x x-stands)
      where
        go : (s : Stepped State Has) → M.step c x h ≡ s → StepLaw S h c x s → Toward (after_step t s next)
            → Beyond (after_step t s next) (after_step t (M.step c x h') next')
        go s e (was_stepped {y} {k} grows k-ready y-stands leads) toward =
            then (onward.redoing.steps beside ready c byte x x-stands e (toward_before (keeps y k kept y-stands) toward).0)
          where
            kept : KeptBoth M S pairs h t k t
            kept = step_kept laws tabled grows k-ready

            then : {s' : Stepped State Has} → Redone Beside y k s' → Beyond (next y k) (after_step t s' next')
            then (redone {k'} b) = beyond y k k' kept y-stands b toward
        go s e (was_halted {number = n} {k} grows k-ready stops) (toward_stop m same_end same_table) =
            went_past
            (past_step (e ∙ ap (halted n) same_end) (subst (S.Stops end) m (subst (λ (l : Has). S.Stops l n) same_end stops))
            (subst (λ (a : List Row). Extends a t) same_table (extends_refl t)))

  -- The pair n by one letter.
  by_letter_beyond : (n c : ℕ) → IsByte c → {h h' : Has} {t : List Row} → n < length t → S.Ready h → Tabled M S pairs h t → Beside h h'
      → Toward (by_letter M pairs n c h t) → Beyond (by_letter M pairs n c h t) (by_letter M pairs' n c h' t)
  by_letter_beyond n c byte {t = t} inside ready tabled beside =
      step_beyond ready tabled beside c byte (M.left (row_at M t n)) (tabled.stands n inside).0 (right_next M pairs n c t) (right_next M pairs' n c t)
      (right_next_keeps laws n c byte inside)
      (right_next_keeps laws n c byte inside)
      (λ x k k' kept x-stands b.
      step_beyond kept.ready kept.tabled b c byte (M.right (row_at M t n)) (kept.tabled.stands n inside).1
      (look_next M pairs n c t x) (look_next M pairs' n c t x)
      (look_next_keeps laws n c byte inside x x-stands)
      (look_next_keeps laws n c byte inside x (onward.stands b x x-stands))
      (λ y l l' kept₂ _ b₂. look_beyond x y n c (word_of M t n ++ c ∷ []) b₂ kept₂.tabled))

  -- A part of the search, and another, or the search, from there.

  going_then_beyond : {h h' : Has} {t : List Row} {g g' : Going Has Row} → KeepsGoing M S pairs h t g → KeepsGoing M S pairs' h' t g' → (Toward g → Beyond g g')
      → (next next' : Has → List Row → Going Has Row)
      → ((k : Has) (u : List Row) → KeptBoth M S pairs h t k u → KeepsGoing M S pairs k u (next k u))
      → ((k : Has) (u : List Row) → KeptBoth M S pairs' h' t k u → KeepsGoing M S pairs' k u (next' k u))
      → ((k k' : Has) (u : List Row) → KeptBoth M S pairs h t k u → Beside k k' → Toward (next k u) → Beyond (next k u) (next' k' u))
      → Toward (after_going g next) → Beyond (after_going g next) (after_going g' next')
  going_then_beyond (keeps_on {k} {table' = u} kept) second first next next' keeps keeps' beyond toward =
      let before = toward_before (keeps k u kept) toward in
      then (first (toward_on before.0 before.1))
    where
      then : {g' : Going Has Row} → Beyond (on k u) g' → Beyond (next k u) (after_going g' next')
      then (went_on {k' = k'} b) = beyond k k' u kept b toward
  going_then_beyond {h' = h'} {t = t} (keeps_ends_stopped {number = n} {k} {table' = u} kept why) second first next next' keeps keeps' beyond toward = then second (first toward)
    where
      then : {g' : Going Has Row} → KeepsGoing M S pairs' h' t g' → Beyond (ends (stopped n k u)) g' → Beyond (ends (stopped n k u)) (after_going g' next')
      then (keeps_on {k = l} {table' = v} kept₂) (went_past f) = went_past (further_after (keeps' l v kept₂) f)
      then (keeps_ends_different kept₂) (went_past f) = went_past f
      then (keeps_ends_stopped kept₂ why₂) (went_past f) = went_past f
  going_then_beyond (keeps_ends_different _) second first next next' keeps keeps' beyond toward = elim toward [ ]

  -- The search stops there.
  data StopsThere : Search Has Row → Type 0 where
    stops_there : {n : ℕ} {k : Has} {t : List Row} → n ≡ number → k ≡ end → t ≡ table₁ → StopsThere (stopped n k t)

  searched_before : {h : Has} {t : List Row} {s : Search Has Row} → KeepsSearch M S pairs h t s → StopsThere s → S.Grows h end × Extends t table₁
  searched_before {h} {t} (keeps_stopped kept why) (stops_there n k u) = (subst (S.Grows h) k kept.grows, subst (Extends t) u kept.extends)
  searched_before (keeps_same _) x5 = elim x5 [ ]
  searched_before (keeps_different _) x6 = elim x6 [ ]

  search_then_beyond : {h h' : Has} {t : List Row} {g g' : Going Has Row} → KeepsGoing M S pairs h t g → KeepsGoing M S pairs' h' t g' → (Toward g → Beyond g g')
      → (next next' : Has → List Row → Search Has Row)
      → ((k : Has) (u : List Row) → KeptBoth M S pairs h t k u → KeepsSearch M S pairs k u (next k u))
      → ((k : Has) (u : List Row) → KeptBoth M S pairs' h' t k u → KeepsSearch M S pairs' k u (next' k u))
      → ((k k' : Has) (u : List Row) → KeptBoth M S pairs h t k u → Beside k k' → StopsThere (next k u) → FurtherSearch (next' k' u))
      → StopsThere (search_after g next) → FurtherSearch (search_after g' next')
  search_then_beyond (keeps_on {k} {table' = u} kept) second first next next' keeps keeps' beyond there =
      let before = searched_before (keeps k u kept) there in
      then (first (toward_on before.0 before.1))
    where
      then : {g' : Going Has Row} → Beyond (on k u) g' → FurtherSearch (search_after g' next')
      then (went_on {k' = k'} b) = beyond k k' u kept b there
  search_then_beyond {h' = h'} {t = t} (keeps_ends_stopped {number = n} {k} {table' = u} kept why) second first next next' keeps keeps' beyond (stops_there a b c) =
      then second (first (toward_stop a b c))
    where
      then : {g' : Going Has Row} → KeepsGoing M S pairs' h' t g' → Beyond (ends (stopped n k u)) g' → FurtherSearch (search_after g' next')
      then (keeps_on {k = l} {table' = v} kept₂) (went_past f) = further_searched (keeps' l v kept₂) f
      then (keeps_ends_different kept₂) (went_past f) = f
      then (keeps_ends_stopped kept₂ why₂) (went_past f) = f
  search_then_beyond (keeps_ends_different _) second first next next' keeps keeps' beyond there = elim there [ ]

  -- The pair n by each of these letters.
  by_letters_beyond : (n : ℕ) (rest : List ℕ) → ((c : ℕ) → Listed rest c → IsByte c) → {h h' : Has} {t : List Row} → n < length t → S.Ready h → Tabled M S pairs h t → Beside h h'
      → Toward (by_letters M pairs n rest h t) → Beyond (by_letters M pairs n rest h t) (by_letters M pairs' n rest h' t)
  unfolding by_letters
  by_letters_beyond n [] bytes inside ready tabled beside = λ _. went_on beside
  by_letters_beyond n (c ∷ rest) bytes {h} {h'} {t} inside ready tabled beside =
      let byte = bytes c (Memᴰ.head refl) in
      let those : (d : ℕ) → Listed rest d → IsByte d = λ d m. bytes d (Memᴰ.tail m) in
      going_then_beyond (by_letter_keeps laws n c byte inside ready tabled)
      (by_letter_keeps laws n c byte inside (onward.ready beside ready) (tabled_beside beside tabled))
      (by_letter_beyond n c byte inside ready tabled beside)
      (by_letters M pairs n rest) (by_letters M pairs' n rest)
      (λ k u kept. by_letters_keeps laws n rest those kept.ready kept.tabled (omega (arith, extends_length kept.extends)))
      (λ k u kept. by_letters_keeps laws n rest those kept.ready kept.tabled (omega (arith, extends_length kept.extends)))
      (λ k k' u kept. by_letters_beyond n rest those (omega (arith, extends_length kept.extends)) kept.ready kept.tabled)

  module _ (letters : List ℕ) (bytes : (c : ℕ) → Listed letters c → IsByte c) where
    -- The pairs from number n on: the second has turns for every pair that the first can take.
    take_pairs_beyond : (turns turns' n : ℕ) → turns ≤ turns' → {h h' : Has} {t : List Row} → S.Ready h → Tabled M S pairs h t → Beside h h'
        → StopsThere (take_pairs M turns pairs letters n h t) → FurtherSearch (take_pairs M turns' pairs' letters n h' t)
    unfolding take_pairs
    take_pairs_beyond (suc turns) zero n l ready tabled beside there = absurd (omega arith)
    take_pairs_beyond (suc turns) (suc turns') n l {h} {h'} {t} ready tabled beside there =
        go (ltb n (length t)) refl (λ k k' u kept. take_pairs_beyond turns turns' (suc n) (omega arith) kept.ready kept.tabled) there
      where
        go : (b : Bool) → ltb n (length t) ≡ b
            → ((k k' : Has) (u : List Row) → KeptBoth M S pairs h t k u → Beside k k' → StopsThere (take_pairs M turns pairs letters (suc n) k u)
            → FurtherSearch (take_pairs M turns' pairs' letters (suc n) k' u))
            → StopsThere (turned b (by_letters M pairs n letters h t) (take_pairs M turns pairs letters (suc n)) h t)
            → FurtherSearch (turned b (by_letters M pairs' n letters h' t) (take_pairs M turns' pairs' letters (suc n)) h' t)
        go true e beyond there =
            let inside = ltb-true n (length t) e in
            let tabled' = tabled_beside beside tabled in
            search_then_beyond (by_letters_keeps laws n letters bytes ready tabled inside)
            (by_letters_keeps laws n letters bytes (onward.ready beside ready) tabled' inside)
            (by_letters_beyond n letters bytes inside ready tabled beside)
            (take_pairs M turns pairs letters (suc n)) (take_pairs M turns' pairs' letters (suc n))
            (λ k u kept. take_pairs_keeps laws letters bytes turns (suc n) kept.ready kept.tabled)
            (λ k u kept. take_pairs_keeps laws letters bytes turns' (suc n) kept.ready kept.tabled)
            beyond
            there
        go false e beyond there = elim there [ ]
    take_pairs_beyond zero _ n l ready tabled beside there = elim there [ ]

    searched_beyond : {h h' : Has} → S.Ready h → Beside h h' → (x y : State) → S.Stands h x → S.Stands h y
        → StopsThere (search M pairs letters x y h) → FurtherSearch (search M pairs' letters x y h')
    unfolding search
    searched_beyond {h} {h'} ready beside x y x-stands y-stands =
        search_then_beyond (look_keeps laws x y 0 0 [] ready (tabled_none M S pairs h) x-stands y-stands (omega arith) (omega arith))
        (look_keeps laws x y 0 0 [] (onward.ready beside ready) (tabled_none M S pairs' h') (onward.stands beside x x-stands) (onward.stands beside y y-stands) (omega arith) (omega arith))
        (look_beyond x y 0 0 [] beside (tabled_none M S pairs h))
        (take_pairs M pairs pairs letters 0) (take_pairs M pairs' pairs' letters 0)
        (λ k u kept. take_pairs_keeps laws letters bytes pairs 0 kept.ready kept.tabled)
        (λ k u kept. take_pairs_keeps laws letters bytes pairs' 0 kept.ready kept.tabled)
        (λ k k' u kept. take_pairs_beyond pairs pairs' 0 (omega arith) kept.ready kept.tabled)

-- A search that stopped, done again from what stands beside, comes past where it stopped; where it was for a pair, in a larger pair room.
pub search_progress : {State Has Row : Type 0} {M : Machine State Has Row} {S : Sense State Has} → Lawful M S → {end : Has} {Beside : Has → Has → Type 0} {Past : Has → Type 0}
    → Onward M S end Beside Past → (letters : List ℕ) → ((c : ℕ) → Listed letters c → IsByte c) → (pairs pairs' : ℕ) → pairs ≤ pairs'
    → {h h' : Has} → S.Ready h → Beside h h' → (x y : State) → S.Stands h x → S.Stands h y → {number : ℕ} {table : List Row}
    → search M pairs letters x y h ≡ stopped number end table → (number ≡ no_place_for_pair → pairs < pairs')
    → Further S end Beside Past number table (search_has (search M pairs' letters x y h')) (search_table (search M pairs' letters x y h'))
search_progress laws onward letters bytes pairs pairs' more ready beside x y x-stands y-stands {number} {table} e one_more =
    searched_beyond laws onward pairs pairs' more number one_more table letters bytes ready beside x y x-stands y-stands (rw e (stops_there refl refl refl))
