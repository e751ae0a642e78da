-- What a search costs: one that ends with "same" costs what its table costs. Looking at a pair costs nothing; each letter tried at a pair costs the
-- prices of the pair's two states, which stay the same when the machine has grown.
use Prim.Native.Nat.{ℕ, zero, suc, ◌+◌, ◌<◌, ◌≤◌}
use Rattle.std.proofs.Common.{zero-add, arith, sym, drop_of_length-le, drop-cons}
use Rattle.std.specs.Prelude.{Bool, ◌≡◌, length, drop}
use Rattle.std.proofs.Math.Bool.{true, false}
use mathlib.Core.List.Memᴰ
use mathlib.Core.List.{List, [], ◌∷◌, ◌++◌}
use Rattle.std.proofs.Math.Path.{refl}
use Rattle.std.proofs.Math.Dec.{ltb}
use borrow.Author.Tests.{ltb-true, ltb-false}
use Rattle.language.specs.Word.{IsByte, Listed}
use Rattle.machine.specs.Laws.Machine.{Stepped, Machine, Sense, StepLaw, was_stepped, was_halted, Lawful}
use Rattle.machine.specs.Laws.Search.{Search, same, Going, on, ends, after_going, search_after, after_step, turned, looked, row_at, word_of, stands_in, marks_agree, look, by_letter, by_letters, take_pairs, search}
use Rattle.machine.specs.Laws.Price.{Priced, letters_cost, table_cost}
use Rattle.machine.specs.Laws.Keeps.{Tabled, tabled_none, extends_length, extends_row, KeptBoth, KeepsSearch, keeps_same, KeepsGoing, keeps_on, look_keeps, by_letter_keeps, by_letters_keeps, take_pairs_keeps, look_next, right_next, keeps_ends_stopped, keeps_ends_different, keeps_stopped, keeps_different}

-- The search comes to "same".
data IsSame {Has Row : Type 0} (k : Has) (table : List Row) : Search Has Row → Type 0 where
  is_same : IsSame k table (same k table)

module _ {State Has Row : Type 0} {M : Machine State Has Row} {S : Sense State Has} (P : Priced M S) where
  -- Where a part of the search goes on it has this cost.
  data CostsGoing (h : Has) (cost : ℕ) : Going Has Row → Type 0 where
    costs_on : {k : Has} {table : List Row} → P.unspent h ≡ cost + P.unspent k → CostsGoing h cost (on k table)
    ends_anyhow : {s : Search Has Row} → CostsGoing h cost (ends s)

  -- What was paid before a part of the search is added to its cost.
  paid_before : {h k : Has} (before : ℕ) {total cost : ℕ} {g : Going Has Row} → P.unspent h ≡ before + P.unspent k → total ≡ before + cost
      → CostsGoing k cost g → CostsGoing h total g
  paid_before before paid sum (costs_on {k = l} rest) = costs_on {k = l} (omega arith)
  paid_before before paid sum ends_anyhow = ends_anyhow

  -- A row by each of these letters; its cost stays the same when the machine and the table grow.

  abbrev row_cost : Has → Row → List ℕ → ℕ
  row_cost h r letters = letters_cost P h (M.left r) (M.right r) letters

  pub letters_cost_kept : {h k : Has} → S.Grows h k → (x y : State) → S.Stands h x → S.Stands h y → (letters : List ℕ)
      → letters_cost P k x y letters ≡ letters_cost P h x y letters
  unfolding letters_cost
  letters_cost_kept g x y x-stands y-stands [] = refl
  letters_cost_kept g x y x-stands y-stands (c ∷ rest) =
      rw (P.price_kept g x x-stands, P.price_kept g y y-stands, letters_cost_kept g x y x-stands y-stands rest)

  row_cost_kept : {pairs n : ℕ} {h k : Has} {table t : List Row} → n < length table → Tabled M S pairs h table → KeptBoth M S pairs h table k t
      → (letters : List ℕ) → row_cost k (row_at M t n) letters ≡ row_cost h (row_at M table n) letters
  row_cost_kept {n = n} {table = table} inside tabled kept letters =
      let r = row_at M table n in
      let both = tabled.stands n inside in
      rw (extends_row M kept.extends n inside) (letters_cost_kept kept.grows (M.left r) (M.right r) both.0 both.1 letters)

  -- Looking costs nothing.
  look_costs : (x y : State) (pairs origin letter : ℕ) (word : List ℕ) (h : Has) (table : List Row)
      → CostsGoing h 0 (look M pairs x y origin letter word h table)
  look_costs x y pairs origin letter word h table = go (marks_agree M h x y) (stands_in M table x y) (ltb (length table) pairs)
    where
      go : (p q r : Bool) → CostsGoing h 0 (looked (M.row x y origin letter) word (M.mark h x) h table p q r)
      go false q r = ends_anyhow
      go true true r = costs_on (sym (zero-add (P.unspent h)))
      go true false true = costs_on (sym (zero-add (P.unspent h)))
      go true false false = ends_anyhow

module _ {State Has Row : Type 0} {M : Machine State Has Row} {S : Sense State Has} (laws : Lawful M S) (P : Priced M S) (pairs : ℕ) where
  -- A step costs its price; then a part of the search from the state it comes to.
  step_costs : {h : Has} → S.Ready h → (c : ℕ) → IsByte c → (x : State) → S.Stands h x → (cost : ℕ) (table : List Row) (next : State → Has → Going Has Row)
      → ((y : State) (k : Has) → S.Grows h k → S.Ready k → CostsGoing P k cost (next y k))
      → CostsGoing P h (P.price h x + cost) (after_step table (M.step c x h) next)
  step_costs {h} ready c byte x stands cost table next costs = go (M.step c x h) refl (laws.step_law ready c byte x stands)
    where
      go : (s : Stepped State Has) → M.step c x h ≡ s → StepLaw S h c x s → CostsGoing P h (P.price h x + cost) (after_step table s next)
      go s e (was_stepped {y} {k} grows k-ready y-stands leads) = paid_before P (P.price h x) (P.paid ready c byte x stands e) refl (costs y k grows k-ready)
      go s e (was_halted grows k-ready stops) = ends_anyhow

  -- The pair n by one letter.
  by_letter_costs : (n c : ℕ) → IsByte c → {h : Has} {table : List Row} → n < length table → S.Ready h → Tabled M S pairs h table
      → CostsGoing P h (row_cost P h (row_at M table n) (c ∷ [])) (by_letter M pairs n c h table)
  unfolding letters_cost
  by_letter_costs n c byte {h} {table} inside ready tabled =
      let y = M.right (row_at M table n) in
      let both = tabled.stands n inside in
      step_costs ready c byte (M.left (row_at M table n)) both.0 (P.price h y + 0) table (right_next M pairs n c table)
      (λ x₁ k grows k-ready.
      rw (← P.price_kept grows y both.1)
      (step_costs k-ready c byte y (laws.stands_kept grows y both.1) 0 table (look_next M pairs n c table x₁)
      (λ y₁ l _ _. look_costs P x₁ y₁ pairs n c (word_of M table n ++ c ∷ []) l table)))

  -- The pair n by each of these letters.
  by_letters_costs : (n : ℕ) (rest : List ℕ) → ((c : ℕ) → Listed rest c → IsByte c) → {h : Has} {table : List Row} → n < length table → S.Ready h
      → Tabled M S pairs h table → CostsGoing P h (row_cost P h (row_at M table n) rest) (by_letters M pairs n rest h table)
  unfolding by_letters letters_cost
  by_letters_costs n [] bytes {h} inside ready tabled = costs_on (sym (zero-add (P.unspent h)))
  by_letters_costs n (c ∷ rest) bytes {h} {table} inside ready tabled =
      let byte = bytes c (Memᴰ.head refl) in
      go (by_letter_keeps laws n c byte inside ready tabled) (by_letter_costs n c byte inside ready tabled)
      (λ k t kept. by_letters_costs n rest (λ d m. bytes d (Memᴰ.tail m)) (omega (arith, extends_length kept.extends)) kept.ready kept.tabled)
    where
      r : Row
      r = row_at M table n

      go : {g : Going Has Row} → KeepsGoing M S pairs h table g → CostsGoing P h (row_cost P h r (c ∷ [])) g
          → ((k : Has) (t : List Row) → KeptBoth M S pairs h table k t → CostsGoing P k (row_cost P k (row_at M t n) rest) (by_letters M pairs n rest k t))
          → CostsGoing P h (row_cost P h r (c ∷ rest)) (after_going g (by_letters M pairs n rest))
      go (keeps_on {k} {table' = t} kept) (costs_on paid) then =
          paid_before P (row_cost P h r (c ∷ [])) paid (omega (arith, row_cost_kept P inside tabled kept rest)) (then k t kept)
      go _ ends_anyhow then = ends_anyhow

  -- A search that comes to "same": from the pair n on it costs what the rows of its table cost from n on.
  module _ (letters : List ℕ) (bytes : (c : ℕ) → Listed letters c → IsByte c) (end : Has) (all : List Row) where
    -- What the rows from n on cost.
    abbrev cost_from : ℕ → ℕ
    cost_from n = table_cost P letters end (drop n all)

    -- The rows from n on cost the row n and those behind it.
    cost_split : (n : ℕ) {h : Has} {table : List Row} → n < length table → Tabled M S pairs h table → KeptBoth M S pairs h table end all
        → cost_from n ≡ row_cost P h (row_at M table n) letters + cost_from (suc n)
    unfolding table_cost
    cost_split n inside tabled kept =
        rw (drop-cons all n M.no_row (omega (arith, extends_length kept.extends)), row_cost_kept P inside tabled kept letters)

    -- What the search keeps, up to its end.
    kept_to_same : {h : Has} {table : List Row} {s : Search Has Row} → KeepsSearch M S pairs h table s → IsSame end all s → KeptBoth M S pairs h table end all
    kept_to_same (keeps_same kept) is_same = kept
    kept_to_same (keeps_different _) x5 = elim x5 [ ]
    kept_to_same (keeps_stopped _ _) x8 = elim x8 [ ]

    -- No pair left costs nothing.
    all_taken : (n : ℕ) {h : Has} {table : List Row} → length table ≤ n → IsSame end all (same h table) → P.unspent h ≡ cost_from n + P.unspent end
    unfolding table_cost
    all_taken n {h} l is_same = rw (drop_of_length-le all l) (sym (zero-add (P.unspent h)))

    -- A part of the search of this cost, and the search from there.
    search_then_costs : (n m cost : ℕ) → cost_from n ≡ cost + cost_from m → {h : Has} {table : List Row} {g : Going Has Row}
        → KeepsGoing M S pairs h table g → CostsGoing P h cost g → (next : Has → List Row → Search Has Row)
        → ((k : Has) (t : List Row) → KeptBoth M S pairs h table k t → IsSame end all (next k t) → P.unspent k ≡ cost_from m + P.unspent end)
        → IsSame end all (search_after g next) → P.unspent h ≡ cost_from n + P.unspent end
    search_then_costs n m cost split (keeps_on {k} {table' = t} kept) (costs_on paid) next costs ends_same =
        let rest = costs k t kept ends_same in
        omega arith
    search_then_costs n m cost split (keeps_ends_different _) _ next costs ends_same = elim ends_same [ ]
    search_then_costs n m cost split (keeps_ends_stopped _ _) _ next costs ends_same = elim ends_same [ ]

    -- The pairs from number n on, with turns enough.
    take_pairs_costs : (turns n : ℕ) → pairs ≤ n + turns → {h : Has} {table : List Row} → S.Ready h → Tabled M S pairs h table
        → IsSame end all (take_pairs M turns pairs letters n h table) → P.unspent h ≡ cost_from n + P.unspent end
    unfolding take_pairs
    take_pairs_costs zero n enough ready tabled ends_same = all_taken n (let fits = tabled.fits in omega arith) ends_same
    take_pairs_costs (suc turns) n enough {h} {table} ready tabled ends_same =
        go (ltb n (length table)) refl (kept_to_same (take_pairs_keeps laws letters bytes (suc turns) n ready tabled) ends_same)
        (λ k t kept. take_pairs_costs turns (suc n) (omega arith) kept.ready kept.tabled)
        ends_same
      where
        go : (b : Bool) → ltb n (length table) ≡ b → KeptBoth M S pairs h table end all
            → ((k : Has) (t : List Row) → KeptBoth M S pairs h table k t → IsSame end all (take_pairs M turns pairs letters (suc n) k t)
            → P.unspent k ≡ cost_from (suc n) + P.unspent end)
            → IsSame end all (turned b (by_letters M pairs n letters h table) (take_pairs M turns pairs letters (suc n)) h table)
            → P.unspent h ≡ cost_from n + P.unspent end
        go true e kept costs =
            let inside = ltb-true n (length table) e in
            search_then_costs n (suc n) (row_cost P h (row_at M table n) letters) (cost_split n inside tabled kept)
            (by_letters_keeps laws n letters bytes ready tabled inside) (by_letters_costs n letters bytes inside ready tabled)
            (take_pairs M turns pairs letters (suc n)) costs
        go false e kept costs = all_taken n (ltb-false n (length table) e)

  -- The search from the opening pair.
  pub same_cost : (letters : List ℕ) (bytes : (c : ℕ) → Listed letters c → IsByte c) (x y : State) {h : Has} → S.Ready h → S.Stands h x → S.Stands h y
      → {k : Has} {table : List Row} → search M pairs letters x y h ≡ same k table → P.unspent h ≡ table_cost P letters k table + P.unspent k
  unfolding search
  same_cost letters bytes x y {h} ready x-stands y-stands {k} {table} e =
      search_then_costs letters bytes k table 0 0 0 (sym (zero-add (table_cost P letters k table)))
      (look_keeps laws x y 0 0 [] ready (tabled_none M S pairs h) x-stands y-stands (omega arith) (omega arith))
      (look_costs P x y pairs 0 0 [] h [])
      (take_pairs M pairs pairs letters 0)
      (λ l t kept. take_pairs_costs letters bytes k table pairs 0 (omega arith) kept.ready kept.tabled)
      (rw e is_same)
