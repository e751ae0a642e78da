-- The law of the search: where it ends with "same" every pair leads to pairs by every letter; where it ends with "different" the word is in
-- exactly one of the languages and every word of tried letters before it is in both or in neither.
use Prim.Native.Nat.{ℕ, zero, suc, ◌+◌, ◌<◌, ◌≤◌}
use Rattle.std.proofs.Common.{arith, inr, ◌∙◌, subst, ltb-true, ltb-false, length-append}
use Rattle.std.specs.Prelude.{Bool, true, false, not, ◌≡◌, ltb}
use Rattle.std.specs.Bool.{beq}
use Rattle.std.proofs.lemmas.Bool.{false≢true}
use mathlib.Core.List.Memᴰ
use mathlib.Core.List.{List, [], ◌∷◌, ◌++◌, append_assoc, append-nil}
use Rattle.std.proofs.Math.Path.{refl, sym}
use Rattle.std.proofs.Math.ListN.{length}
use Rattle.language.specs.Word.{Word, Over, none, one, IsByte, Listed}
use Rattle.language.specs.Language.{Language, Equal}
use Rattle.language.specs.Order.{Before}
use Rattle.language.proofs.Laws.Order.{empty_first}
use Rattle.language.proofs.Laws.Tests.{Tells, beq_tells}
use Rattle.language.proofs.Laws.Words.{over_join}
use Rattle.language.proofs.Laws.Quotient.{Quotients, quotients_to, quotients_from}
use Rattle.language.proofs.Laws.Rising.{Rising, rising_above, rising_below}
use Rattle.machine.specs.Laws.Machine.{Stepped, Machine, Sense, Lawful, StepLaw, was_stepped, was_halted}
use Rattle.machine.specs.Laws.Search.{Search, same, different, stopped, Going, on, ends, after_going, search_after, after_step, turned, looked, row_at, word_to, word_of, stands_in, marks_agree, look, by_letter, by_letters, take_pairs, search}
use Rattle.machine.specs.Laws.Words.{word_short}
use Rattle.machine.specs.Laws.Table.{stands_at}
use Rattle.machine.specs.Laws.Frontier.{Earlier, lower_pair, letter_done, Entry, Frontier, means_more, frontier_grows, letter_leads, pair_taken, words_before, pair_placed, covered}

-- What two marks tell of a word: whether it is in the left language, and whether in the right.
pub record Marked (A B : Language) (v : Word) (p q : Bool) : Type 0 where
  pub left : Tells p (A v)
  pub right : Tells q (B v)

-- The word is in both languages or in neither: one mark tells of both.
pub record Agreed (A B : Language) (v : Word) : Type 0 where
  pub mark : Bool
  pub marked : Marked A B v mark mark

-- How a search ends that began with the opening pair and what the machine had there.
pub data Ends {State Has Row : Type 0} (M : Machine State Has Row) (S : Sense State Has) (pairs : ℕ) (letters : List ℕ) (A B : Language)
    (x₀ y₀ : State) (h₀ : Has) : Search Has Row → Type 0 where
  ends_same : {h : Has} {table : List Row} → S.Grows h₀ h → S.Ready h
      → Frontier M S letters A B x₀ y₀ h table (length table) [] → length table ≤ pairs
      → Ends M S pairs letters A B x₀ y₀ h₀ (same h table)
  ends_different : {word : Word} {left_has : Bool} {h : Has} {table : List Row} → S.Grows h₀ h → S.Ready h
      → Over (Listed letters) word → Marked A B word left_has (not left_has)
      → ((v : Word) → Over (Listed letters) v → Before v word → Agreed A B v)
      → length word ≤ length table → length table ≤ pairs
      → Ends M S pairs letters A B x₀ y₀ h₀ (different word left_has h table)
  ends_stopped : {number : ℕ} {h : Has} {table : List Row} → S.Grows h₀ h → S.Ready h
      → Ends M S pairs letters A B x₀ y₀ h₀ (stopped number h table)

-- Of two marks that differ the second is the other one.
other_mark : (p q : Bool) → beq p q ≡ false → q ≡ not p
other_mark true true e = absurd (false≢true (sym e))
other_mark true false e = refl
other_mark false true e = refl
other_mark false false e = absurd (false≢true (sym e))

module _ {State Has Row : Type 0} {M : Machine State Has Row} {S : Sense State Has} (laws : Lawful M S)
    (pairs : ℕ) (letters : List ℕ) (bytes : (c : ℕ) → Listed letters c → IsByte c) (A B : Language) (rising : Rising letters)
    {h₀ : Has} (ready₀ : S.Ready h₀) (x₀ y₀ : State) (x₀-stands : S.Stands h₀ x₀) (y₀-stands : S.Stands h₀ y₀)
    (x₀-means : Equal (S.accepts h₀ x₀) A) (y₀-means : Equal (S.accepts h₀ y₀) B) where
  -- How this search ends.
  abbrev Ended : Search Has Row → Type 0
  Ended = Ends M S pairs letters A B x₀ y₀ h₀

  -- The search has come to the pair n, with these letters done there.
  record Come (h : Has) (table : List Row) (n : ℕ) (done : List ℕ) : Type 0 where
    grows : S.Grows h₀ h
    ready : S.Ready h
    frontier : Frontier M S letters A B x₀ y₀ h table n done
    fits : length table ≤ pairs

  -- It goes on from there, or ends.
  data Goes (n : ℕ) (done : List ℕ) : Going Has Row → Type 0 where
    goes_on : {h : Has} {table : List Row} → Come h table n done → n < length table → Goes n done (on h table)
    is_over : {s : Search Has Row} → Ended s → Goes n done (ends s)

  -- What marks tell of the word that leads to a state.
  module _ {h : Has} (ready : S.Ready h) where
    -- The mark of one state tells whether the word is in the language.
    tells_at : {x : State} → S.Stands h x → (C : Language) (v : Word) → Equal (S.accepts h x) (Quotients v C) → Tells (M.mark h x) (C v)
    tells_at {x} stands C v e =
        let t = laws.mark_tells ready x stands in
        record {
          sound = λ m. quotients_from C v (e.to [] none (t.sound m));
          complete = λ m. t.complete (e.from [] none (quotients_to C v m));
        }

    -- The marks of two states tell of both languages.
    marked_at : {x y : State} → S.Stands h x → S.Stands h y → (v : Word) → Equal (S.accepts h x) (Quotients v A) → Equal (S.accepts h y) (Quotients v B)
        → Marked A B v (M.mark h x) (M.mark h y)
    marked_at x-stands y-stands v a b = record { left = tells_at x-stands A v a; right = tells_at y-stands B v b }

    -- They differ: the word is in exactly one language.
    one_at : {x y : State} → S.Stands h x → S.Stands h y → (v : Word) → Equal (S.accepts h x) (Quotients v A) → Equal (S.accepts h y) (Quotients v B)
        → marks_agree M h x y ≡ false → Marked A B v (M.mark h x) (not (M.mark h x))
    one_at {x} {y} x-stands y-stands v a b e =
        subst (Marked A B v (M.mark h x)) (other_mark (M.mark h x) (M.mark h y) e) (marked_at x-stands y-stands v a b)

  -- The letter c at the pair n, where the letters below it are done.
  module _ (table : List Row) (n c : ℕ) {done : List ℕ} (inside : n < length table)
      (above : (d : ℕ) → Listed done d → d < c) (below : (d : ℕ) → Listed letters d → d < c → Listed done d) (listed : Listed letters c) where
    -- The word reached, and the two states that make the step.
    abbrev word : Word
    word = word_of M table n ++ c ∷ []

    abbrev left_state : State
    left_state = M.left (row_at M table n)

    abbrev right_state : State
    right_state = M.right (row_at M table n)

    -- A reached pair is looked at.
    module _ {h : Has} (come : Come h table n done) (x y : State) (x-stands : S.Stands h x) (y-stands : S.Stands h y)
        (x-led : S.Leads h c left_state x) (y-led : S.Leads h c right_state y) where
      -- The frontier.
      abbrev f : Frontier M S letters A B x₀ y₀ h table n done
      f = come.frontier

      -- Every word before is in both languages or in neither: a pair covers it, whose marks agree.
      agreed_before : (v : Word) → Over (Listed letters) v → Before v word → Agreed A B v
      agreed_before v o b =
          let k = covered laws bytes come.ready f inside c below v o b in
          let e = f.entry k.by k.inside in
          record {
            mark = M.mark h (M.left (row_at M table k.by));
            marked = subst (Marked A B v _) (sym e.agree) (marked_at come.ready e.left_stands e.right_stands v k.left k.right);
          }

      -- The marks differ: the word is in exactly one language.
      differs : marks_agree M h x y ≡ false → Ended (different word (M.mark h x) h table)
      differs e =
          let first = f.entry n inside in
          let short : length word ≤ length table = omega (arith, length-append (word_of M table n) (c ∷ []), word_short M table f.ordered n inside) in
          ends_different come.grows come.ready (over_join first.of_letters (one listed none))
          (one_at come.ready x-stands y-stands word
          (means_more laws come.ready (bytes c listed) first.left_stands x-led A (word_of M table n) first.left_means)
          (means_more laws come.ready (bytes c listed) first.right_stands y-led B (word_of M table n) first.right_means)
          e)
          agreed_before
          short
          come.fits

      -- The pair stands in the table.
      present : stands_in M table x y ≡ true → Goes n (done ++ c ∷ []) (on h table)
      present e =
          let s = stands_at laws table x y e in
          goes_on
          (record {
            grows = come.grows;
            ready = come.ready;
            frontier =
                letter_leads f c
                (record {
                  to = s.at;
                  inside = s.inside;
                  left = rw s.states.left x-led;
                  right = rw s.states.right y-led;
                  no_later = inr (words_before f inside c above s.at s.inside);
                });
            fits = come.fits;
          })
          inside

      -- The pair is new, and there is room for it.
      placed : M.mark h x ≡ M.mark h y → length table < pairs → Goes n (done ++ c ∷ []) (on h (table ++ M.row x y n c ∷ []))
      placed e free =
          let more = length-append table (M.row x y n c ∷ []) in
          let fits⁺ : length (table ++ M.row x y n c ∷ []) ≤ pairs = omega (arith, more) in
          goes_on
          (record {
            grows = come.grows;
            ready = come.ready;
            frontier = pair_placed laws bytes come.ready f inside c above listed x y x-stands y-stands x-led y-led e;
            fits = fits⁺;
          })
          (omega (arith, more))

      -- By the three tests.
      look_goes : Goes n (done ++ c ∷ []) (look M pairs x y n c word h table)
      look_goes = go (marks_agree M h x y) refl (stands_in M table x y) refl (ltb (length table) pairs) refl
        where
          go : (p : Bool) → marks_agree M h x y ≡ p → (q : Bool) → stands_in M table x y ≡ q → (free : Bool) → ltb (length table) pairs ≡ free
              → Goes n (done ++ c ∷ []) (looked (M.row x y n c) word (M.mark h x) h table p q free)
          go false p q _ free _ = is_over (differs p)
          go true p true q free _ = present q
          go true p false q true free = placed ((beq_tells (M.mark h x) (M.mark h y)).sound p) (ltb-true (length table) pairs free)
          go true p false q false free =
              is_over (ends_stopped come.grows come.ready)

    -- The pair n by one letter.
    module _ {h : Has} (come : Come h table n done) where
      -- The right's step, and what follows.
      abbrev right_then : State → Stepped State Has → Going Has Row
      right_then x s = after_step table s (λ y h₂. look M pairs x y n c word h₂ table)

      -- A step that stops.
      halts : {number : ℕ} {k : Has} → S.Grows h k → S.Ready k → Goes n (done ++ c ∷ []) (ends (stopped number k table))
      halts g ready = is_over (ends_stopped (laws.grows_trans come.grows g) ready)

      -- The left has made its step; the right makes its own, and the pair reached is looked at.
      right_law : {x : State} {k : Has} → S.Grows h k → S.Ready k → S.Stands k x → S.Leads k c left_state x → {s : Stepped State Has} → StepLaw S k c right_state s
          → Goes n (done ++ c ∷ []) (right_then x s)
      right_law {x} g₁ ready₁ x-stands x-led (was_stepped {y} g₂ ready₂ y-stands y-led) =
          let g = laws.grows_trans g₁ g₂ in
          look_goes
          (record {
            grows = laws.grows_trans come.grows g;
            ready = ready₂;
            frontier = frontier_grows laws bytes come.ready g come.frontier;
            fits = come.fits;
          })
          x
          y
          (laws.stands_kept g₂ x x-stands)
          y-stands
          (laws.leads_kept ready₁ g₂ c (bytes c listed) left_state (laws.stands_kept g₁ left_state (come.frontier.entry n inside).left_stands) x x-led)
          y-led
      right_law g₁ ready₁ x-stands x-led (was_halted g₂ ready₂ why) = halts (laws.grows_trans g₁ g₂) ready₂

      -- The left makes its step.
      left_law : {s : Stepped State Has} → StepLaw S h c left_state s → Goes n (done ++ c ∷ []) (after_step table s (λ x h₁. right_then x (M.step c right_state h₁)))
      left_law (was_stepped g ready x-stands x-led) =
          right_law g ready x-stands x-led (laws.step_law ready c (bytes c listed) right_state (laws.stands_kept g right_state (come.frontier.entry n inside).right_stands))
      left_law (was_halted g ready why) = halts g ready

      -- Both, in turn.
      letter_law : Goes n (done ++ c ∷ []) (by_letter M pairs n c h table)
      letter_law = left_law (laws.step_law come.ready c (bytes c listed) left_state (come.frontier.entry n inside).left_stands)

  -- The pair n by the letters that are left.
  letters_law : (n : ℕ) (done rest : List ℕ) → letters ≡ done ++ rest → {h : Has} {table : List Row} → Come h table n done → n < length table
      → Goes n letters (by_letters M pairs n rest h table)
  unfolding by_letters
  letters_law n done [] e {h} {table} come inside = goes_on (subst (Come h table n) (sym (e ∙ append-nil done)) come) inside
  letters_law n done (c ∷ rest) e {h} {table} come inside =
      next (letter_law table n c inside
      (rising_above done c rest (subst Rising e rising))
      (λ d m. rising_below done c rest (subst Rising e rising) d (subst (λ (l : List ℕ). Listed l d) e m))
      (subst (λ (l : List ℕ). Listed l c) (sym e) (Memᴰ.append_right done (Memᴰ.head refl)))
      come)
      (λ h₁ table₁ come₁ inside₁. letters_law n (done ++ c ∷ []) rest (e ∙ sym (append_assoc done (c ∷ []) rest)) come₁ inside₁)
    where
      next : {g : Going Has Row} → Goes n (done ++ c ∷ []) g
          → ((h₁ : Has) (table₁ : List Row) → Come h₁ table₁ n (done ++ c ∷ []) → n < length table₁ → Goes n letters (by_letters M pairs n rest h₁ table₁))
          → Goes n letters (after_going g (λ h₁ table₁. by_letters M pairs n rest h₁ table₁))
      next (goes_on {h} {table} k i) then = then h table k i
      next (is_over o) then = is_over o

  -- Every pair is taken.
  all_taken : {h : Has} {table : List Row} {n : ℕ} → Come h table n [] → n ≡ length table → Ended (same h table)
  all_taken {h} {table} come e =
      ends_same come.grows come.ready (subst (λ (k : ℕ). Frontier M S letters A B x₀ y₀ h table k []) e come.frontier) come.fits

  -- The search ends where it goes on behind the pair n, with so many turns left.
  abbrev Then : ℕ → ℕ → Type 0
  Then turns n = (h : Has) (table : List Row) → Come h table n letters → n < length table → Ended (take_pairs M turns pairs letters (suc n) h table)

  -- The pairs from number n on.
  pairs_law : (turns n : ℕ) {h : Has} {table : List Row} → pairs ≤ n + turns → Come h table n [] → n ≤ length table
      → Ended (take_pairs M turns pairs letters n h table)
  unfolding take_pairs
  pairs_law zero n enough come within = all_taken come (let fits = come.fits in omega arith)
  pairs_law (suc turns) n {h} {table} enough come within =
      go (ltb n (length table)) refl
      (λ h₁ table₁ come₁ inside₁.
      pairs_law turns (suc n) (omega arith)
      (record { grows = come₁.grows; ready = come₁.ready; frontier = pair_taken come₁.frontier (λ c m. m); fits = come₁.fits })
      inside₁)
    where
      next : {g : Going Has Row} → Goes n letters g → Then turns n → Ended (search_after g (λ h₁ table₁. take_pairs M turns pairs letters (suc n) h₁ table₁))
      next (goes_on {h} {table} k i) then = then h table k i
      next (is_over o) then = o

      go : (b : Bool) → ltb n (length table) ≡ b → Then turns n
          → Ended (turned b (by_letters M pairs n letters h table) (λ h₁ table₁. take_pairs M turns pairs letters (suc n) h₁ table₁) h table)
      go true e then = next (letters_law n [] letters refl come (ltb-true n (length table) e)) then
      go false e then = all_taken come (let k = ltb-false n (length table) e in omega arith)

  -- The row of the opening pair.
  abbrev opening : Row
  opening = M.row x₀ y₀ 0 0

  -- The table of the opening pair alone: nothing is taken yet.
  opening_frontier : M.mark h₀ x₀ ≡ M.mark h₀ y₀ → Frontier M S letters A B x₀ y₀ h₀ (opening ∷ []) 0 []
  unfolding word_to
  opening_frontier e =
      record {
        some = omega arith;
        opening = record { left = laws.row_left x₀ y₀ 0 0; right = laws.row_right x₀ y₀ 0 0 };
        ordered = record { lower = λ n l. absurd (omega arith) };
        entry = first_alone;
        rising = λ n m l k. absurd (omega arith);
        came = λ n l. absurd (omega arith);
        leads = λ k d l m earlier. no_earlier earlier;
      }
    where
      first_alone : (n : ℕ) → n < length (opening ∷ []) → Entry M S letters A B h₀ (opening ∷ []) n
      first_alone zero l =
          rw (laws.row_left x₀ y₀ 0 0, laws.row_right x₀ y₀ 0 0)
          (record { left_stands = x₀-stands; right_stands = y₀-stands; left_means = x₀-means; right_means = y₀-means; agree = e; of_letters = none })
      first_alone (suc n) l = absurd (omega arith)

      no_earlier : {k d : ℕ} {Z : Type 0} → Earlier 0 [] k d → Z
      no_earlier (lower_pair l) = absurd (omega arith)
      no_earlier (letter_done _ m) = absurd (Memᴰ.not-nil m)

  -- The law of the search.
  pub search_law : Ends M S pairs letters A B x₀ y₀ h₀ (search M pairs letters x₀ y₀ h₀)
  unfolding search stands_in
  search_law = go (marks_agree M h₀ x₀ y₀) refl (ltb 0 pairs) refl
    where
      still : S.Grows h₀ h₀
      still = laws.grows_refl h₀

      go : (p : Bool) → marks_agree M h₀ x₀ y₀ ≡ p → (q : Bool) → ltb 0 pairs ≡ q
          → Ended (search_after (looked opening [] (M.mark h₀ x₀) h₀ [] p false q) (λ h₁ table₁. take_pairs M pairs pairs letters 0 h₁ table₁))
      go false p q _ =
          ends_different {table = []} still ready₀ none (one_at ready₀ x₀-stands y₀-stands [] x₀-means y₀-means p)
          (λ v o b. absurd (empty_first v b))
          (omega arith)
          (omega arith)
      go true p false q =
          ends_stopped {table = []} still ready₀
      go true p true q =
          pairs_law pairs 0 (omega arith)
          (record {
            grows = still;
            ready = ready₀;
            frontier = opening_frontier ((beq_tells (M.mark h₀ x₀) (M.mark h₀ y₀)).sound p);
            fits = let m = ltb-true 0 pairs q in omega arith;
          })
          (omega arith)
