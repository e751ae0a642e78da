-- The words of a table: a pair's word is its origin's with its own letter behind, and stays when pairs are added.
use Prim.Native.Nat.{ℕ, zero, suc, ◌<◌, ◌≤◌}
use Rattle.std.proofs.Math.Decide.{dec_lt}
use native.Mathlib.Omega.{arith}
use mathlib.Core.List.{List, [], ◌∷◌, ◌++◌}
use Rattle.std.specs.Prelude.{◌≡◌, length}
use Rattle.std.proofs.Math.Path.{refl, ap}
use Rattle.std.proofs.Common.{◌∙◌}
use Rattle.std.proofs.Math.ListN.{length-append, get_or-append}
use Rattle.std.proofs.Math.Seq.{get_or-append_seam}
use Rattle.machine.specs.Laws.Machine.{Machine}
use Rattle.machine.specs.Laws.Search.{row_at, word_to, word_of}

module _ {State Has Row : Type 0} (M : Machine State Has Row) where
  -- Every pair but the opening one came from a pair with a lower number.
  pub record Ordered (table : List Row) : Type 0 where
    pub lower : (n : ℕ) → suc n < length table → M.origin (row_at M table (suc n)) < suc n

  pub row_kept : (table more : List Row) (n : ℕ) → n < length table → row_at M (table ++ more) n ≡ row_at M table n
  row_kept table more n l = get_or-append table more M.no_row n l

  pub row_new : (table : List Row) (r : Row) → row_at M (table ++ r ∷ []) (length table) ≡ r
  row_new table r = get_or-append_seam table r [] M.no_row

  -- Any depth above the number serves.
  word_deep : (table : List Row) → Ordered table → (d e n : ℕ) → n < d → n < e → n < length table → word_to M d table n ≡ word_to M e table n
  unfolding word_to
  word_deep table o zero e n l m k = absurd (omega arith)
  word_deep table o (suc d) zero n l m k = absurd (omega arith)
  word_deep table o (suc d) (suc e) zero l m k = refl
  word_deep table o (suc d) (suc e) (suc n) l m k =
      let h = o.lower n k in
      ap (λ (w : List ℕ). w ++ M.letter (row_at M table (suc n)) ∷ [])
      (word_deep table o d e (M.origin (row_at M table (suc n))) (omega arith) (omega arith) (omega arith))

  -- A pair's word is its origin's with its own letter behind.
  pub word_step : (table : List Row) → Ordered table → (n : ℕ) → suc n < length table
      → word_of M table (suc n) ≡ word_of M table (M.origin (row_at M table (suc n))) ++ M.letter (row_at M table (suc n)) ∷ []
  unfolding word_to
  word_step table o n l =
      let h = o.lower n l in
      ap (λ (w : List ℕ). w ++ M.letter (row_at M table (suc n)) ∷ [])
      (word_deep table o (suc n) (suc (M.origin (row_at M table (suc n)))) (M.origin (row_at M table (suc n))) h (omega arith) (omega arith))

  word_to_kept : (table more : List Row) → Ordered table → (d n : ℕ) → n < length table → word_to M d (table ++ more) n ≡ word_to M d table n
  unfolding word_to
  word_to_kept table more o zero n l = refl
  word_to_kept table more o (suc d) zero l = refl
  word_to_kept table more o (suc d) (suc n) l =
      let h = o.lower n l in
      rw (row_kept table more (suc n) l)
      (ap (λ (w : List ℕ). w ++ M.letter (row_at M table (suc n)) ∷ [])
      (word_to_kept table more o d (M.origin (row_at M table (suc n))) (omega arith)))

  -- A pair's word stays when pairs are added.
  pub word_kept : (table more : List Row) → Ordered table → (n : ℕ) → n < length table → word_of M (table ++ more) n ≡ word_of M table n
  word_kept table more o n l = word_to_kept table more o (suc n) n l

  -- A pair's word is no longer than the pair's number.
  word_to_short : (table : List Row) → Ordered table → (d n : ℕ) → n < length table → length (word_to M d table n) ≤ n
  unfolding word_to
  word_to_short table o zero n l = omega arith
  word_to_short table o (suc d) zero l = omega arith
  word_to_short table o (suc d) (suc n) l =
      let h = o.lower n l in
      let front = word_to M d table (M.origin (row_at M table (suc n))) in
      omega (arith, length-append front (M.letter (row_at M table (suc n)) ∷ []), word_to_short table o d (M.origin (row_at M table (suc n))) (omega arith))

  pub word_short : (table : List Row) → Ordered table → (n : ℕ) → n < length table → length (word_of M table n) ≤ n
  word_short table o n l = word_to_short table o (suc n) n l

  -- One pair more, from a pair of the table.
  module _ (table : List Row) (r : Row) (o : Ordered table) (l : M.origin r < length table) where
    length_more : length (table ++ r ∷ []) ≡ suc (length table)
    length_more = length-append table (r ∷ []) ∙ omega arith

    pub ordered_more : Ordered (table ++ r ∷ [])
    ordered_more = record { lower = λ n m. go n m (dec_lt (suc n) (length table)) }
      where
        go : (n : ℕ) → suc n < length (table ++ r ∷ []) → Dec (suc n < length table) → M.origin (row_at M (table ++ r ∷ []) (suc n)) < suc n
        go n m (yes k) = rw (row_kept table (r ∷ []) (suc n) k) (o.lower n k)
        go n m (no k) =
            let e : suc n ≡ length table = omega (arith, length_more) in
            rw (e, row_new table r) l

    pub word_new : word_of M (table ++ r ∷ []) (length table) ≡ word_of M table (M.origin r) ++ M.letter r ∷ []
    word_new = go (length table) refl
      where
        go : (n : ℕ) → n ≡ length table → word_of M (table ++ r ∷ []) n ≡ word_of M table (M.origin r) ++ M.letter r ∷ []
        go zero e = absurd (omega arith)
        go (suc n) e =
            word_step (table ++ r ∷ []) ordered_more n (omega (arith, length_more))
            ∙ rw (ap (row_at M (table ++ r ∷ [])) e ∙ row_new table r, word_kept table (r ∷ []) o (M.origin r) l) refl
