-- What the search keeps, where it stops too: the machine only grows and stays ready, rows are only added at the end, the table stays within the pair
-- room, its states stand, and no pair stands twice. It says why the search stops, and asks nothing of what the pairs mean.
use Prim.Native.Nat.{ℕ, zero, suc, ◌-◌, ◌<◌, ◌≤◌}
use Rattle.std.proofs.Math.Decide.{dec_lt}
use Rattle.std.proofs.Common.{arith, sym, ◌∙◌, ap, ltb-true, ltb-false, length-append}
use Rattle.std.specs.Prelude.{Bool, ◌≡◌, length}
use Rattle.std.proofs.Math.Bool.{true, false}
use mathlib.Core.List.Memᴰ
use mathlib.Core.List.{List, [], ◌∷◌, ◌++◌, append_assoc, append-nil}
use Rattle.std.proofs.Math.Path.{refl}
use Rattle.std.proofs.Math.Dec.{ltb}
use Rattle.language.proofs.Laws.Tests.{beq_tells}
use Rattle.language.specs.Word.{IsByte, Listed}
use Rattle.refusals.specs.Numbers.{no_place_for_pair}
use Rattle.machine.specs.Laws.Machine.{Stepped, Machine, Sense, StepLaw, was_stepped, was_halted, Lawful}
use Rattle.machine.specs.Laws.Search.{Search, same, different, stopped, Going, on, ends, after_going, search_after, after_step, turned, looked, row_at, word_of, stands_in, StandsAt, marks_agree, look, by_letter, by_letters, take_pairs, search}
use Rattle.machine.specs.Laws.Table.{stands_nowhere}
use Rattle.machine.specs.Laws.Words.{Ordered, row_kept, row_new, ordered_more}

-- The second table is the first with rows added at the end.
pub record Extends {Row : Type 0} (table table' : List Row) : Type 0 where
  pub more : List Row
  pub is : table' ≡ table ++ more

module _ {Row : Type 0} where
  pub extends_refl : (table : List Row) → Extends table table
  extends_refl table = record { more = []; is = sym (append-nil table) }

  pub extends_trans : {a b c : List Row} → Extends a b → Extends b c → Extends a c
  extends_trans {a} g h =
      record { more = g.more ++ h.more; is = h.is ∙ ap (λ (t : List Row). t ++ h.more) g.is ∙ append_assoc a g.more h.more }

  pub extends_length : {a b : List Row} → Extends a b → length a ≤ length b
  extends_length {a} g = omega (arith, ap length g.is, length-append a g.more)

  -- One row more.
  pub length_next : (table : List Row) (r : Row) → length (table ++ r ∷ []) ≡ suc (length table)
  length_next table r = length-append table (r ∷ []) ∙ omega arith

module _ {State Has Row : Type 0} (M : Machine State Has Row) where
  -- A row of the first table stands in the second under its number.
  pub extends_row : {a b : List Row} → Extends a b → (n : ℕ) → n < length a → row_at M b n ≡ row_at M a n
  extends_row {a} g n l = ap (λ (t : List Row). row_at M t n) g.is ∙ row_kept M a g.more n l

  -- What holds of the rows there, and of a new one at the end, holds of all.
  each_row : (table : List Row) (r : Row) (P : ℕ → Row → Type 0) → ((n : ℕ) → n < length table → P n (row_at M table n)) → P (length table) r
      → (n : ℕ) → n < length (table ++ r ∷ []) → P n (row_at M (table ++ r ∷ []) n)
  each_row table r P old new n l = go (dec_lt n (length table))
    where
      go : Dec (n < length table) → P n (row_at M (table ++ r ∷ []) n)
      go (yes m) = rw (row_kept M table (r ∷ []) n m) (old n m)
      go (no m) =
          let e : n ≡ length table = omega (arith, length_next table r) in
          rw (e, row_new M table r) new

  -- The new row is the opening pair, or comes from a pair of the table.
  ordered_next : (table : List Row) (r : Row) → Ordered M table → M.origin r ≤ length table - 1 → Ordered M (table ++ r ∷ [])
  ordered_next [] r o l = record { lower = λ n m. absurd (omega arith) }
  ordered_next (q ∷ table) r o l = ordered_more M (q ∷ table) r o (omega arith)

  -- The pair n by one letter: what follows once the left has stepped to x, and once the right has stepped to y too.

  abbrev pub look_next : ℕ → ℕ → ℕ → List Row → State → State → Has → Going Has Row
  look_next pairs n c table x y k = look M pairs x y n c (word_of M table n ++ c ∷ []) k table

  abbrev pub right_next : ℕ → ℕ → ℕ → List Row → State → Has → Going Has Row
  right_next pairs n c table x k = after_step table (M.step c (M.right (row_at M table n)) k) (look_next pairs n c table x)

-- An agreeing new pair: its states stand, their marks agree, and they are no row of the table.
pub record NewPair {State Has Row : Type 0} (M : Machine State Has Row) (S : Sense State Has) (h : Has) (table : List Row) : Type 0 where
  pub left : State
  pub right : State
  pub left_stands : S.Stands h left
  pub right_stands : S.Stands h right
  pub agree : M.mark h left ≡ M.mark h right
  pub unlisted : StandsAt M table left right → ⊥

-- Why a search stops: a step stops, or the pair room has no space for an agreeing new pair.
pub data Halts {State Has Row : Type 0} (M : Machine State Has Row) (S : Sense State Has) (pairs : ℕ) (h : Has) (table : List Row) : ℕ → Type 0 where
  machine_stops : {number : ℕ} → S.Stops h number → Halts M S pairs h table number
  no_free_pair : NewPair M S h table → length table ≡ pairs → Halts M S pairs h table no_place_for_pair

module _ {State Has Row : Type 0} (M : Machine State Has Row) (S : Sense State Has) (pairs : ℕ) where
  -- A table of a machine: its states stand, each pair comes from one with a lower number, its letters are bytes, and it fits the pair room.
  pub record Tabled (h : Has) (table : List Row) : Type 0 where
    pub stands : (n : ℕ) → n < length table → S.Stands h (M.left (row_at M table n)) × S.Stands h (M.right (row_at M table n))
    pub ordered : Ordered M table
    pub origins : (n : ℕ) → n < length table → M.origin (row_at M table n) ≤ n
    pub letters : (n : ℕ) → n < length table → IsByte (M.letter (row_at M table n))
    pub distinct : (n m : ℕ) → n < m → m < length table → M.left (row_at M table n) ≡ M.left (row_at M table m)
        → M.right (row_at M table n) ≡ M.right (row_at M table m) → ⊥
    pub fits : length table ≤ pairs

  -- What a part of the search leaves, where it ends too.
  pub record KeptBoth (h : Has) (table : List Row) (k : Has) (table' : List Row) : Type 0 where
    pub grows : S.Grows h k
    pub ready : S.Ready k
    pub extends : Extends table table'
    pub tabled : Tabled k table'

  -- What the search keeps, by what it comes to.
  pub data KeepsSearch (h : Has) (table : List Row) : Search Has Row → Type 0 where
    keeps_same : {k : Has} {table' : List Row} → KeptBoth h table k table' → KeepsSearch h table (same k table')
    keeps_different : {word : List ℕ} {left_has : Bool} {k : Has} {table' : List Row} → KeptBoth h table k table' → KeepsSearch h table (different word left_has k table')
    keeps_stopped : {number : ℕ} {k : Has} {table' : List Row} → KeptBoth h table k table' → Halts M S pairs k table' number → KeepsSearch h table (stopped number k table')

  -- A part of the search that ends by itself ends with "different" or stops; "same" comes only when every pair has been taken.
  pub data KeepsGoing (h : Has) (table : List Row) : Going Has Row → Type 0 where
    keeps_on : {k : Has} {table' : List Row} → KeptBoth h table k table' → KeepsGoing h table (on k table')
    keeps_ends_different : {word : List ℕ} {left_has : Bool} {k : Has} {table' : List Row} → KeptBoth h table k table'
        → KeepsGoing h table (ends (different word left_has k table'))
    keeps_ends_stopped : {number : ℕ} {k : Has} {table' : List Row} → KeptBoth h table k table' → Halts M S pairs k table' number
        → KeepsGoing h table (ends (stopped number k table'))

  -- The empty table.
  pub tabled_none : (h : Has) → Tabled h []
  tabled_none h =
      record {
        stands = λ n l. absurd (omega arith);
        ordered = record { lower = λ n l. absurd (omega arith) };
        origins = λ n l. absurd (omega arith);
        letters = λ n l. absurd (omega arith);
        distinct = λ n m l k. absurd (omega arith);
        fits = omega arith;
      }

module _ {State Has Row : Type 0} {M : Machine State Has Row} {S : Sense State Has} (laws : Lawful M S) {pairs : ℕ} where
  -- The machine grows.
  pub tabled_grows : {h k : Has} {table : List Row} → Tabled M S pairs h table → S.Grows h k → Tabled M S pairs k table
  tabled_grows {table = table} t g =
      record {
        stands = λ n l.
            let both = t.stands n l in
            (laws.stands_kept g (M.left (row_at M table n)) both.0, laws.stands_kept g (M.right (row_at M table n)) both.1);
        ordered = t.ordered;
        origins = t.origins;
        letters = t.letters;
        distinct = t.distinct;
        fits = t.fits;
      }

  -- A part of the search that changes nothing, and one part after another.

  pub kept_both_refl : {h : Has} {table : List Row} → S.Ready h → Tabled M S pairs h table → KeptBoth M S pairs h table h table
  kept_both_refl {h} {table} ready tabled = record { grows = laws.grows_refl h; ready = ready; extends = extends_refl table; tabled = tabled }

  pub kept_both_trans : {h k l : Has} {a b c : List Row} → KeptBoth M S pairs h a k b → KeptBoth M S pairs k b l c → KeptBoth M S pairs h a l c
  kept_both_trans f g =
      record { grows = laws.grows_trans f.grows g.grows; ready = g.ready; extends = extends_trans f.extends g.extends; tabled = g.tabled }

  keeps_going_after : {h k : Has} {a b : List Row} {g : Going Has Row} → KeptBoth M S pairs h a k b → KeepsGoing M S pairs k b g → KeepsGoing M S pairs h a g
  keeps_going_after f (keeps_on k) = keeps_on (kept_both_trans f k)
  keeps_going_after f (keeps_ends_different k) = keeps_ends_different (kept_both_trans f k)
  keeps_going_after f (keeps_ends_stopped k why) = keeps_ends_stopped (kept_both_trans f k) why

  keeps_search_after : {h k : Has} {a b : List Row} {s : Search Has Row} → KeptBoth M S pairs h a k b → KeepsSearch M S pairs k b s → KeepsSearch M S pairs h a s
  keeps_search_after f (keeps_same k) = keeps_same (kept_both_trans f k)
  keeps_search_after f (keeps_different k) = keeps_different (kept_both_trans f k)
  keeps_search_after f (keeps_stopped k why) = keeps_stopped (kept_both_trans f k) why

  -- A reached pair is looked at. It is the opening pair, in an empty table, or comes from a pair of the table.
  module _ (x y : State) (origin letter : ℕ) (word : List ℕ) {h : Has} {table : List Row} (ready : S.Ready h) (tabled : Tabled M S pairs h table)
      (x-stands : S.Stands h x) (y-stands : S.Stands h y) (from : origin ≤ length table - 1) (byte : IsByte letter) where
    abbrev reached : Row
    reached = M.row x y origin letter

    apart : (StandsAt M table x y → ⊥) → (m : ℕ) → m < length (table ++ reached ∷ []) → (n : ℕ) → n < m
        → M.left (row_at M (table ++ reached ∷ []) n) ≡ M.left (row_at M (table ++ reached ∷ []) m)
        → M.right (row_at M (table ++ reached ∷ []) n) ≡ M.right (row_at M (table ++ reached ∷ []) m) → ⊥
    apart new =
        each_row M table reached
        (λ m r. (n : ℕ) → n < m → M.left (row_at M (table ++ reached ∷ []) n) ≡ M.left r → M.right (row_at M (table ++ reached ∷ []) n) ≡ M.right r → ⊥)
        (λ m k n l. rw (row_kept M table (reached ∷ []) n (omega arith)) (tabled.distinct n m l k))
        (λ n l.
        rw (row_kept M table (reached ∷ []) n l, laws.row_left x y origin letter, laws.row_right x y origin letter)
        (λ e f. new (record { at = n; inside = l; states = record { left = e; right = f } })))

    placed : (StandsAt M table x y → ⊥) → length table < pairs → Tabled M S pairs h (table ++ reached ∷ [])
    placed new free =
        record {
          stands = each_row M table reached (λ _ r. S.Stands h (M.left r) × S.Stands h (M.right r)) tabled.stands
              (rw (laws.row_left x y origin letter) x-stands, rw (laws.row_right x y origin letter) y-stands);
          ordered = ordered_next M table reached tabled.ordered (rw (laws.row_origin x y origin letter) from);
          origins = each_row M table reached (λ n r. M.origin r ≤ n) tabled.origins (omega (arith, laws.row_origin x y origin letter));
          letters = each_row M table reached (λ _ r. IsByte (M.letter r)) tabled.letters (rw (laws.row_letter x y origin letter) byte);
          distinct = λ n m l k. apart new m k n l;
          fits = omega (arith, length_next table reached);
        }

    pub look_keeps : KeepsGoing M S pairs h table (look M pairs x y origin letter word h table)
    look_keeps = go (marks_agree M h x y) refl (stands_in M table x y) refl (ltb (length table) pairs) refl
      where
        unchanged : KeptBoth M S pairs h table h table
        unchanged = kept_both_refl ready tabled

        go : (p : Bool) → marks_agree M h x y ≡ p → (q : Bool) → stands_in M table x y ≡ q → (r : Bool) → ltb (length table) pairs ≡ r → KeepsGoing M S pairs h table (looked reached word (M.mark h x) h table p q r)
        go false _ q _ r _ = keeps_ends_different unchanged
        go true _ true _ r _ = keeps_on unchanged
        go true a false s true e =
            keeps_on
            (record {
              grows = laws.grows_refl h;
              ready = ready;
              extends = record { more = reached ∷ []; is = refl };
              tabled = placed (stands_nowhere laws table x y s) (ltb-true (length table) pairs e);
            })
        go true a false s false e =
            let full : length table ≡ pairs = let l = ltb-false (length table) pairs e in let m = tabled.fits in omega arith in
            keeps_ends_stopped unchanged
            (no_free_pair
            (record {
              left = x;
              right = y;
              left_stands = x-stands;
              right_stands = y-stands;
              agree = (beq_tells _ _).sound a;
              unlisted = stands_nowhere laws table x y s;
            })
            full)

  -- A step leaves the table as it was; then a part of the search from the state it comes to.

  pub step_kept : {h k : Has} {table : List Row} → Tabled M S pairs h table → S.Grows h k → S.Ready k → KeptBoth M S pairs h table k table
  step_kept {table = table} tabled grows ready = record { grows = grows; ready = ready; extends = extends_refl table; tabled = tabled_grows tabled grows }

  step_keeps : {h : Has} {table : List Row} → Tabled M S pairs h table → {c : ℕ} {x : State} {s : Stepped State Has} → StepLaw S h c x s
      → (next : State → Has → Going Has Row)
      → ((y : State) (k : Has) → KeptBoth M S pairs h table k table → S.Stands k y → KeepsGoing M S pairs k table (next y k))
      → KeepsGoing M S pairs h table (after_step table s next)
  step_keeps tabled (was_stepped {y} {k} grows ready stands leads) next then =
      let kept = step_kept tabled grows ready in
      keeps_going_after kept (then y k kept stands)
  step_keeps tabled (was_halted grows ready stops) next then = keeps_ends_stopped (step_kept tabled grows ready) (machine_stops stops)

  -- The pair n by one letter.
  module _ (n c : ℕ) (byte : IsByte c) {table : List Row} (inside : n < length table) where
    pub look_next_keeps : {h : Has} (x : State) → S.Stands h x → (y : State) (k : Has) → KeptBoth M S pairs h table k table → S.Stands k y
        → KeepsGoing M S pairs k table (look_next M pairs n c table x y k)
    look_next_keeps x x-stands y k kept y-stands =
        look_keeps x y n c (word_of M table n ++ c ∷ []) kept.ready kept.tabled (laws.stands_kept kept.grows x x-stands) y-stands (omega arith) byte

    pub right_next_keeps : {h : Has} (x : State) (k : Has) → KeptBoth M S pairs h table k table → S.Stands k x → KeepsGoing M S pairs k table (right_next M pairs n c table x k)
    right_next_keeps x k kept x-stands =
        step_keeps kept.tabled (laws.step_law kept.ready c byte (M.right (row_at M table n)) (kept.tabled.stands n inside).1) (look_next M pairs n c table x)
        (look_next_keeps x x-stands)

    pub by_letter_keeps : {h : Has} → S.Ready h → Tabled M S pairs h table → KeepsGoing M S pairs h table (by_letter M pairs n c h table)
    by_letter_keeps ready tabled =
        step_keeps tabled (laws.step_law ready c byte (M.left (row_at M table n)) (tabled.stands n inside).0) (right_next M pairs n c table) right_next_keeps

  -- A part of the search, and another, or the search, from there.

  going_then_keeps : {h : Has} {table : List Row} (next : Has → List Row → Going Has Row) {g : Going Has Row} → KeepsGoing M S pairs h table g
      → ((k : Has) (t : List Row) → KeptBoth M S pairs h table k t → KeepsGoing M S pairs k t (next k t))
      → KeepsGoing M S pairs h table (after_going g next)
  going_then_keeps next (keeps_on {k} {table' = t} kept) then = keeps_going_after kept (then k t kept)
  going_then_keeps next (keeps_ends_different kept) then = keeps_ends_different kept
  going_then_keeps next (keeps_ends_stopped kept why) then = keeps_ends_stopped kept why

  search_then_keeps : {h : Has} {table : List Row} (next : Has → List Row → Search Has Row) {g : Going Has Row} → KeepsGoing M S pairs h table g
      → ((k : Has) (t : List Row) → KeptBoth M S pairs h table k t → KeepsSearch M S pairs k t (next k t))
      → KeepsSearch M S pairs h table (search_after g next)
  search_then_keeps next (keeps_on {k} {table' = t} kept) then = keeps_search_after kept (then k t kept)
  search_then_keeps next (keeps_ends_different kept) then = keeps_different kept
  search_then_keeps next (keeps_ends_stopped kept why) then = keeps_stopped kept why

  -- The pair n by each of these letters.
  pub by_letters_keeps : (n : ℕ) (rest : List ℕ) → ((c : ℕ) → Listed rest c → IsByte c) → {h : Has} {table : List Row} → S.Ready h → Tabled M S pairs h table
      → n < length table → KeepsGoing M S pairs h table (by_letters M pairs n rest h table)
  unfolding by_letters
  by_letters_keeps n [] bytes ready tabled inside = keeps_on (kept_both_refl ready tabled)
  by_letters_keeps n (c ∷ rest) bytes ready tabled inside =
      going_then_keeps (by_letters M pairs n rest) (by_letter_keeps n c (bytes c (Memᴰ.head refl)) inside ready tabled)
      (λ k t kept.
      by_letters_keeps n rest (λ d m. bytes d (Memᴰ.tail m)) kept.ready kept.tabled (omega (arith, extends_length kept.extends)))

  module _ (letters : List ℕ) (bytes : (c : ℕ) → Listed letters c → IsByte c) where
    -- The pairs from number n on.
    pub take_pairs_keeps : (turns n : ℕ) {h : Has} {table : List Row} → S.Ready h → Tabled M S pairs h table
        → KeepsSearch M S pairs h table (take_pairs M turns pairs letters n h table)
    unfolding take_pairs
    take_pairs_keeps zero n ready tabled = keeps_same (kept_both_refl ready tabled)
    take_pairs_keeps (suc turns) n {h} {table} ready tabled =
        go (ltb n (length table)) refl (λ k t kept. take_pairs_keeps turns (suc n) kept.ready kept.tabled)
      where
        go : (b : Bool) → ltb n (length table) ≡ b
            → ((k : Has) (t : List Row) → KeptBoth M S pairs h table k t → KeepsSearch M S pairs k t (take_pairs M turns pairs letters (suc n) k t))
            → KeepsSearch M S pairs h table (turned b (by_letters M pairs n letters h table) (take_pairs M turns pairs letters (suc n)) h table)
        go true e then =
            search_then_keeps (take_pairs M turns pairs letters (suc n)) (by_letters_keeps n letters bytes ready tabled (ltb-true n (length table) e)) then
        go false e then = keeps_same (kept_both_refl ready tabled)

    -- The search from the opening pair.
    pub search_keeps : (x y : State) {h : Has} → S.Ready h → S.Stands h x → S.Stands h y → KeepsSearch M S pairs h [] (search M pairs letters x y h)
    unfolding search
    search_keeps x y {h} ready x-stands y-stands =
        search_then_keeps (take_pairs M pairs pairs letters 0) (look_keeps x y 0 0 [] ready (tabled_none M S pairs h) x-stands y-stands (omega arith) (omega arith))
        (λ k t kept. take_pairs_keeps pairs 0 kept.ready kept.tabled)
