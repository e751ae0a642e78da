-- The frontier of the search: each pair of the table has the quotients of the two languages by its word; words rise with the pairs'
-- numbers; and each pair before the frontier leads, by each letter done, to a pair whose word is no later. So every word before the
-- frontier's is covered by a pair, and is in both languages or in neither.
use Rattle.std.specs.Prelude.{ℕ, zero, suc, ◌<◌, List, [], ◌∷◌, ◌++◌, ◌⊎◌, ◌≡◌, length}
use Rattle.std.proofs.Math.Decide.{dec_lt}
use Rattle.std.proofs.Common.{arith, append_assoc, inr, ⊎_elim, sym, ◌∙◌, ap, subst, length-append}
use mathlib.Core.List.Memᴰ
use Rattle.std.proofs.Math.Logic.{inl}
use Rattle.std.proofs.Math.Path.{refl}
use Rattle.language.specs.Word.{Word, Over, none, one, IsByte, Listed}
use Rattle.language.specs.Language.{Language, Equal}
use Rattle.language.specs.Order.{Before, shorter}
use Rattle.language.proofs.Laws.Equality.{equal_trans}
use Rattle.language.proofs.Laws.Words.{over_join, front_over, last_over, Fronts, empty, longer_by, fronts}
use Rattle.language.proofs.Laws.Quotient.{Quotient, Quotients}
use Rattle.language.proofs.Laws.Derivative.{quotient_equal}
use Rattle.language.proofs.Laws.Order.{before_irrefl, before_trans, before_more, before_last, before_fronts, NotAfter, not_after_more, not_after_trans, before_not_after}
use Rattle.machine.specs.Laws.Machine.{Machine, Sense, States, Lawful}
use Rattle.machine.specs.Laws.Search.{row_at, word_to, word_of}
use Rattle.machine.specs.Laws.Words.{Ordered, row_kept, row_new, word_step, word_kept, ordered_more, word_new}

-- The pair k by the letter d was taken before the frontier: the pair i, with the letters done there.
pub data Earlier (i : ℕ) (done : List ℕ) (k d : ℕ) : Type 0 where
  lower_pair : k < i → Earlier i done k d
  letter_done : k ≡ i → Listed done d → Earlier i done k d

-- With one letter more done at the pair i: what was taken before it was taken earlier, or is the pair i by that letter; and what was, still is.
earlier_one : (c : ℕ) {i : ℕ} (done : List ℕ) {k d : ℕ} → Earlier i (done ++ c ∷ []) k d → Earlier i done k d ⊎ ((k ≡ i) × (d ≡ c))
earlier_one c done (lower_pair l) = inl (lower_pair l)
earlier_one c done (letter_done e m) =
    ⊎_elim (λ h. inl (letter_done e h)) (λ h. inr (e, Memᴰ.eq_of_singleton h)) (Memᴰ.append_cases done m)

earlier_more : (c : ℕ) {i : ℕ} {done : List ℕ} {k d : ℕ} → Earlier i done k d → Earlier i (done ++ c ∷ []) k d
earlier_more c (lower_pair l) = lower_pair l
earlier_more c (letter_done e m) = letter_done e (Memᴰ.append_left (c ∷ []) m)

-- One letter more of a quotient.
pub quotients_more : (A : Language) (v : Word) (c : ℕ) → Equal (Quotient c (Quotients v A)) (Quotients (v ++ c ∷ []) A)
quotients_more A v c =
    record {
      to = λ w o h. subst A (sym (append_assoc v (c ∷ []) w)) h;
      from = λ w o h. subst A (append_assoc v (c ∷ []) w) h;
    }

module _ {State Has Row : Type 0} (M : Machine State Has Row) (S : Sense State Has) where
  -- The pair k leads by the letter d to a pair of the table whose word is no later.
  pub record LeadsOn (h : Has) (table : List Row) (k d : ℕ) : Type 0 where
    pub to : ℕ
    pub inside : to < length table
    pub left : S.Leads h d (M.left (row_at M table k)) (M.left (row_at M table to))
    pub right : S.Leads h d (M.right (row_at M table k)) (M.right (row_at M table to))
    pub no_later : NotAfter (word_of M table to) (word_of M table k ++ d ∷ [])

  -- What holds of each pair of the table: of its two states x and y, and its word.
  pub record EntryOf (letters : List ℕ) (A B : Language) (h : Has) (x y : State) (word : Word) : Type 0 where
    pub left_stands : S.Stands h x
    pub right_stands : S.Stands h y
    pub left_means : Equal (S.accepts h x) (Quotients word A)
    pub right_means : Equal (S.accepts h y) (Quotients word B)
    pub agree : M.mark h x ≡ M.mark h y
    pub of_letters : Over (Listed letters) word

  -- The same of the pair numbered n.
  abbrev pub Entry : List ℕ → Language → Language → Has → List Row → ℕ → Type 0
  Entry letters A B h table n = EntryOf letters A B h (M.left (row_at M table n)) (M.right (row_at M table n)) (word_of M table n)

  -- The frontier at the pair i, with these letters done there. The opening pair stands first.
  pub record Frontier (letters : List ℕ) (A B : Language) (x₀ y₀ : State) (h : Has) (table : List Row) (i : ℕ) (done : List ℕ) : Type 0 where
    pub some : 0 < length table
    pub opening : States M (row_at M table 0) x₀ y₀
    pub ordered : Ordered M table
    pub entry : (n : ℕ) → n < length table → Entry letters A B h table n
    pub rising : (n m : ℕ) → n < m → m < length table → Before (word_of M table n) (word_of M table m)
    pub came : (n : ℕ) → suc n < length table → Earlier i done (M.origin (row_at M table (suc n))) (M.letter (row_at M table (suc n)))
    pub leads : (k d : ℕ) → k < length table → Listed letters d → Earlier i done k d → LeadsOn h table k d

  -- A pair covers the word v: it has the quotients by v, and its own word is no later.
  pub record Covered (A B : Language) (h : Has) (table : List Row) (v : Word) : Type 0 where
    pub by : ℕ
    pub inside : by < length table
    pub left : Equal (S.accepts h (M.left (row_at M table by))) (Quotients v A)
    pub right : Equal (S.accepts h (M.right (row_at M table by))) (Quotients v B)
    pub no_later : NotAfter (word_of M table by) v

-- The opening pair's word is empty, and stands before every other.
opening_before : {State Has Row : Type 0} (M : Machine State Has Row) (table : List Row) (w : Word) (c : ℕ) → Before (word_of M table 0) (w ++ c ∷ [])
unfolding word_to
opening_before M table w c = shorter {w = []} {v = w ++ c ∷ []} (omega (arith, length-append w (c ∷ [])))

module _ {State Has Row : Type 0} {M : Machine State Has Row} {S : Sense State Has} {letters : List ℕ} {A B : Language} {x₀ y₀ : State} {h : Has}
    {table : List Row} {i : ℕ} {done : List ℕ} (f : Frontier M S letters A B x₀ y₀ h table i done) where
  -- One letter more is done at the pair i: it leads to a pair of the table.
  pub letter_leads : (c : ℕ) → LeadsOn M S h table i c → Frontier M S letters A B x₀ y₀ h table i (done ++ c ∷ [])
  letter_leads c r =
      record {
        some = f.some;
        opening = f.opening;
        ordered = f.ordered;
        entry = f.entry;
        rising = f.rising;
        came = λ n l. earlier_more c (f.came n l);
        leads = λ k d l m e.
            ⊎_elim (λ before. f.leads k d l m before) (λ here. rw (here.0, here.1) r) (earlier_one c done e);
      }

  -- Every letter is done at the pair i: the next pair's turn.
  pub pair_taken : ((c : ℕ) → Listed letters c → Listed done c) → Frontier M S letters A B x₀ y₀ h table (suc i) []
  pair_taken all =
      record {
        some = f.some;
        opening = f.opening;
        ordered = f.ordered;
        entry = f.entry;
        rising = f.rising;
        came = λ n l. next (f.came n l);
        leads = λ k d l m e. f.leads k d l m (back k d m e);
      }
    where
      next : {k d : ℕ} → Earlier i done k d → Earlier (suc i) [] k d
      next (lower_pair l) = lower_pair (omega arith)
      next (letter_done e _) = lower_pair (omega arith)

      back : (k d : ℕ) → Listed letters d → Earlier (suc i) [] k d → Earlier i done k d
      back k d m (lower_pair l) = go (dec_lt k i)
        where
          go : Dec (k < i) → Earlier i done k d
          go (yes h) = lower_pair h
          go (no h) = letter_done (omega arith) (all d m)
      back k d m (letter_done e n) = absurd (Memᴰ.not-nil n)

  -- The words of the table stand before the frontier's word.
  module _ (inside : i < length table) (c : ℕ) (above : (d : ℕ) → Listed done d → d < c) where
    -- What was taken earlier leads to an earlier word.
    below_frontier : {k d : ℕ} → k < length table → Earlier i done k d → Before (word_of M table k ++ d ∷ []) (word_of M table i ++ c ∷ [])
    below_frontier {k} {d} l (lower_pair h) = before_more (word_of M table k) (word_of M table i) (f.rising k i h inside) d c
    below_frontier {k} {d} l (letter_done e m) = rw (e) (before_last (word_of M table i) d c (above d m))

    -- So every pair's word is earlier: its origin leads to it.
    pub words_before : (n : ℕ) → n < length table → Before (word_of M table n) (word_of M table i ++ c ∷ [])
    words_before zero l = opening_before M table (word_of M table i) c
    words_before (suc n) l = rw (word_step M table f.ordered n l) (below_frontier (omega (arith, f.ordered.lower n l)) (f.came n l))

module _ {State Has Row : Type 0} {M : Machine State Has Row} {S : Sense State Has} (laws : Lawful M S) where
  -- A step leads on to the quotient by one letter more.
  pub means_more : {h : Has} → S.Ready h → {c : ℕ} → IsByte c → {x y : State} → S.Stands h x → S.Leads h c x y
      → (A : Language) (v : Word) → Equal (S.accepts h x) (Quotients v A) → Equal (S.accepts h y) (Quotients (v ++ c ∷ []) A)
  means_more ready {c} byte stands leads A v means =
      equal_trans (laws.leads_means ready c byte _ stands _ leads) (equal_trans (quotient_equal byte means) (quotients_more A v c))

  -- The machine grows.
  module _ {letters : List ℕ} (bytes : (c : ℕ) → Listed letters c → IsByte c) {h k : Has} (ready : S.Ready h) (g : S.Grows h k) {A B : Language} where
    -- States keep what they mean.
    entry_grows : {x y : State} {word : Word} → EntryOf M S letters A B h x y word → EntryOf M S letters A B k x y word
    entry_grows e =
        record {
          left_stands = laws.stands_kept g _ e.left_stands;
          right_stands = laws.stands_kept g _ e.right_stands;
          left_means = equal_trans (laws.accepts_kept g _ e.left_stands) e.left_means;
          right_means = equal_trans (laws.accepts_kept g _ e.right_stands) e.right_means;
          agree = laws.mark_kept g _ e.left_stands ∙ e.agree ∙ sym (laws.mark_kept g _ e.right_stands);
          of_letters = e.of_letters;
        }

    -- So the frontier stays.
    pub frontier_grows : {x₀ y₀ : State} {table : List Row} {i : ℕ} {done : List ℕ}
        → Frontier M S letters A B x₀ y₀ h table i done → Frontier M S letters A B x₀ y₀ k table i done
    frontier_grows f =
        record {
          some = f.some;
          opening = f.opening;
          ordered = f.ordered;
          entry = λ n l. entry_grows (f.entry n l);
          rising = f.rising;
          came = f.came;
          leads = λ n d l m e.
              let r = f.leads n d l m e in
              record {
                to = r.to;
                inside = r.inside;
                left = laws.leads_kept ready g d (bytes d m) _ (f.entry n l).left_stands _ r.left;
                right = laws.leads_kept ready g d (bytes d m) _ (f.entry n l).right_stands _ r.right;
                no_later = r.no_later;
              };
        }

  module _ {letters : List ℕ} (bytes : (c : ℕ) → Listed letters c → IsByte c) {h : Has} (ready : S.Ready h) {A B : Language} {x₀ y₀ : State}
      {table : List Row} {i : ℕ} {done : List ℕ} (f : Frontier M S letters A B x₀ y₀ h table i done) (inside : i < length table) (c : ℕ) where
    -- A new pair is placed, reached from the pair i by the letter c: the frontier's own word leads to it.
    module _ (above : (d : ℕ) → Listed done d → d < c) (listed : Listed letters c) (x y : State)
        (x-stands : S.Stands h x) (y-stands : S.Stands h y)
        (x-led : S.Leads h c (M.left (row_at M table i)) x) (y-led : S.Leads h c (M.right (row_at M table i)) y)
        (agree : M.mark h x ≡ M.mark h y) where
      -- The new pair, and the table with it.
      abbrev new : Row
      new = M.row x y i c

      abbrev table⁺ : List Row
      table⁺ = table ++ new ∷ []

      -- It is one pair longer, and the new pair comes from a pair of the table.
      longer : length (table ++ new ∷ []) ≡ suc (length table)
      longer = length-append table (new ∷ []) ∙ omega arith

      origin_inside : M.origin new < length table
      origin_inside = rw (laws.row_origin x y i c) inside

      -- The states and the word of the new pair.
      new_left : M.left (row_at M table⁺ (length table)) ≡ x
      new_left = ap M.left (row_new M table new) ∙ laws.row_left x y i c

      new_right : M.right (row_at M table⁺ (length table)) ≡ y
      new_right = ap M.right (row_new M table new) ∙ laws.row_right x y i c

      new_word : word_of M table⁺ (length table) ≡ word_of M table i ++ c ∷ []
      new_word = word_new M table new f.ordered origin_inside ∙ rw (laws.row_origin x y i c, laws.row_letter x y i c) refl

      -- The words and the rows of the pairs there stay.
      old_word : (n : ℕ) → n < length table → word_of M table⁺ n ≡ word_of M table n
      old_word n l = word_kept M table (new ∷ []) f.ordered n l

      old_row : (n : ℕ) → n < length table → row_at M table⁺ n ≡ row_at M table n
      old_row n l = row_kept M table (new ∷ []) n l

      -- What holds of the pairs there, and of the new one, holds of all.
      all_rows : (P : ℕ → Type 0) → ((n : ℕ) → n < length table → P n) → P (length table) → (n : ℕ) → n < length table⁺ → P n
      all_rows P old here n l = go (dec_lt n (length table))
        where
          go : Dec (n < length table) → P n
          go (yes m) = old n m
          go (no m) = let e : length table ≡ n = omega (arith, longer) in subst P e here

      -- What holds of each pair holds of the new one.
      new_entry : Entry M S letters A B h table⁺ (length table)
      new_entry =
          let e = f.entry i inside in
          rw (new_left, new_right, new_word)
          (record {
            left_stands = x-stands;
            right_stands = y-stands;
            left_means = means_more ready (bytes c listed) e.left_stands x-led A (word_of M table i) e.left_means;
            right_means = means_more ready (bytes c listed) e.right_stands y-led B (word_of M table i) e.right_means;
            agree = agree;
            of_letters = over_join e.of_letters (one listed none);
          })

      -- Words still rise.
      new_rising : (m : ℕ) → m < length table⁺ → (n : ℕ) → n < m → Before (word_of M table⁺ n) (word_of M table⁺ m)
      new_rising =
          all_rows (λ m. (n : ℕ) → n < m → Before (word_of M table⁺ n) (word_of M table⁺ m))
          (λ m k n l. rw (old_word n (omega arith), old_word m k) (f.rising n m l k))
          (λ n l. rw (new_word, old_word n l) (words_before f inside c above n l))

      -- Every pair came from what was taken earlier, or is the new one.
      new_came : (n : ℕ) → suc n < length table⁺ → Earlier i (done ++ c ∷ []) (M.origin (row_at M table⁺ (suc n))) (M.letter (row_at M table⁺ (suc n)))
      new_came n l = go (dec_lt (suc n) (length table))
        where
          go : Dec (suc n < length table) → Earlier i (done ++ c ∷ []) (M.origin (row_at M table⁺ (suc n))) (M.letter (row_at M table⁺ (suc n)))
          go (yes m) = rw (old_row (suc n) m) (earlier_more c (f.came n m))
          go (no m) =
              let e : suc n ≡ length table = omega (arith, longer) in
              rw (e, row_new M table new, laws.row_origin x y i c, laws.row_letter x y i c)
              (letter_done refl (Memᴰ.append_right done (Memᴰ.head refl)))

      -- What led to a pair of the table does so still, and the pair i leads by the letter c to the new pair.
      old_leads : (k d : ℕ) → k < length table → LeadsOn M S h table k d → LeadsOn M S h table⁺ k d
      old_leads k d l r =
          record {
            to = r.to;
            inside = let m = r.inside in omega (arith, longer);
            left = rw (old_row k l, old_row r.to r.inside) r.left;
            right = rw (old_row k l, old_row r.to r.inside) r.right;
            no_later = rw (old_word k l, old_word r.to r.inside) r.no_later;
          }

      new_leads : LeadsOn M S h table⁺ i c
      new_leads =
          record {
            to = length table;
            inside = omega (arith, longer);
            left = rw (new_left, old_row i inside) x-led;
            right = rw (new_right, old_row i inside) y-led;
            no_later = inl (new_word ∙ ap (λ (w : Word). w ++ c ∷ []) (sym (old_word i inside)));
          }

      -- So every pair leads on by what was taken earlier, now by the letter c too.
      all_leads : (k d : ℕ) → Listed letters d → Earlier i (done ++ c ∷ []) k d → LeadsOn M S h table⁺ k d
      all_leads k d m e =
          ⊎_elim (λ before. old_leads k d (old_one before) (f.leads k d (old_one before) m before)) (λ here. rw (here.0, here.1) new_leads) (earlier_one c done e)
        where
          old_one : Earlier i done k d → k < length table
          old_one (lower_pair h) = omega arith
          old_one (letter_done h _) = omega arith

      -- The frontier with the new pair.
      pub pair_placed : Frontier M S letters A B x₀ y₀ h (table ++ M.row x y i c ∷ []) i (done ++ c ∷ [])
      pair_placed =
          record {
            some = omega (arith, longer);
            opening = rw (old_row 0 f.some) f.opening;
            ordered = ordered_more M table new f.ordered origin_inside;
            entry = all_rows (Entry M S letters A B h table⁺) (λ n l. rw (old_row n l, old_word n l) (f.entry n l)) new_entry;
            rising = λ n m l k. new_rising m k n l;
            came = new_came;
            leads = λ k d l m e. all_leads k d m e;
          }

    -- Every word of tried letters before the frontier's word is covered.
    module _ (below : (d : ℕ) → Listed letters d → d < c → Listed done d) where
      -- The opening pair covers the empty word.
      opening_covers : Covered M S A B h table []
      unfolding word_to
      opening_covers =
          let e = f.entry 0 f.some in
          record { by = 0; inside = f.some; left = e.left_means; right = e.right_means; no_later = inl refl }

      -- A pair whose word with d behind stands before the frontier's was taken earlier by d.
      taken_earlier : (k d : ℕ) → k < length table → Listed letters d → Before (word_of M table k ++ d ∷ []) (word_of M table i ++ c ∷ []) → Earlier i done k d
      taken_earlier k d l m b = go (before_fronts (word_of M table k) (word_of M table i) d c b) (dec_lt k i) (dec_lt i k)
        where
          -- The word of a later pair does not stand before.
          not_later : i < k → NotAfter (word_of M table k) (word_of M table i) → ⊥
          not_later e a = before_irrefl (word_of M table k) (before_not_after _ _ _ a (f.rising i k e l))

          go : Before (word_of M table k) (word_of M table i) ⊎ ((word_of M table k ≡ word_of M table i) × (d < c)) → Dec (k < i) → Dec (i < k) → Earlier i done k d
          go _ (yes a) _ = lower_pair a
          go (inl b) (no a) (yes e) = absurd (not_later e (inr b))
          go (inr b) (no a) (yes e) = absurd (not_later e (inl b.0))
          go (inl b) (no a) (no e) = let same : k ≡ i = omega arith in absurd (before_irrefl (word_of M table i) (rw (same) at b))
          go (inr b) (no a) (no e) = letter_done (omega arith) (below d m b.1)

      -- A pair that covers a word leads to one that covers it with a letter more.
      cover_more : (u : Word) (d : ℕ) → Listed letters d → Before (u ++ d ∷ []) (word_of M table i ++ c ∷ []) → Covered M S A B h table u
          → Covered M S A B h table (u ++ d ∷ [])
      cover_more u d m b v =
          let step : NotAfter (word_of M table v.by ++ d ∷ []) (u ++ d ∷ []) = not_after_more (word_of M table v.by) u d v.no_later in
          let next = f.leads v.by d v.inside m (taken_earlier v.by d v.inside m (before_not_after _ _ _ step b)) in
          let e = f.entry v.by v.inside in
          record {
            by = next.to;
            inside = next.inside;
            left = means_more ready (bytes d m) e.left_stands next.left A u v.left;
            right = means_more ready (bytes d m) e.right_stands next.right B u v.right;
            no_later = not_after_trans _ _ _ next.no_later step;
          }

      -- So from front to front.
      cover : {v : Word} → Fronts v → Over (Listed letters) v → Before v (word_of M table i ++ c ∷ []) → Covered M S A B h table v
      cover empty o b = opening_covers
      cover (longer_by {u} g d) o b =
          let first = before_trans u (u ++ d ∷ []) (word_of M table i ++ c ∷ []) (shorter {w = u} {v = u ++ d ∷ []} (omega (arith, length-append u (d ∷ [])))) b in
          cover_more u d (last_over u d o) b (cover g (front_over u (d ∷ []) o) first)

      pub covered : (v : Word) → Over (Listed letters) v → Before v (word_of M table i ++ c ∷ []) → Covered M S A B h table v
      covered v o b = cover (fronts v) o b
