-- Values in order: a record's value stays as it is when records are added at the end, and is made of the values of the records before it.
use Prim.Native.Nat.{ℕ, zero, suc, ◌+◌, ◌<◌}
use Rattle.std.proofs.Common.{add-zero, zero-add, sym, ◌∙◌, ap, length-take, take-append-drop}
use native.Mathlib.Omega.{arith}
use mathlib.Core.List.{List, [], ◌∷◌, ◌++◌}
use Rattle.std.specs.Prelude.{◌≡◌, get_or, take, drop}
use Rattle.std.proofs.Math.Path.{refl}
use Rattle.std.proofs.Math.ListN.{length, length-append, get_or-append}
use Rattle.std.proofs.Math.Seq.{get_or-append_seam}
use Rattle.records.specs.declared.record.Record.{Record}
use Rattle.records.specs.Record.{child}
use Rattle.cards.specs.InOrder.{in_order_after, in_order}

module _ {A : Type 0} (value : List A → Record → A) where
  -- Records added at the end.

  after_append : (before : List A) (rs more : List Record) → in_order_after value before (rs ++ more) ≡ in_order_after value (in_order_after value before rs) more
  unfolding in_order_after
  after_append before [] more = refl
  after_append before (r ∷ rs) more = after_append (before ++ value before r ∷ []) rs more

  pub in_order_append : (rs more : List Record) → in_order value (rs ++ more) ≡ in_order_after value (in_order value rs) more
  unfolding in_order
  in_order_append rs more = after_append [] rs more

  -- One record more is one value more.
  pub in_order_more : (rs : List Record) (r : Record) → in_order value (rs ++ r ∷ []) ≡ in_order value rs ++ value (in_order value rs) r ∷ []
  unfolding in_order_after
  in_order_more rs r = in_order_append rs (r ∷ [])

  length_after : (before : List A) (rs : List Record) → length (in_order_after value before rs) ≡ length before + length rs
  unfolding in_order_after
  length_after before [] = omega arith
  length_after before (r ∷ rs) =
      length_after (before ++ value before r ∷ []) rs
      ∙ (let e = length-append before (value before r ∷ []) in omega arith)

  pub length_in_order : (rs : List Record) → length (in_order value rs) ≡ length rs
  unfolding in_order
  length_in_order rs = length_after [] rs ∙ omega arith

  module _ (none : A) where
    after_kept : (before : List A) (rs : List Record) (at : ℕ) → at < length before → get_or (in_order_after value before rs) at none ≡ get_or before at none
    unfolding in_order_after
    after_kept before [] at l = refl
    after_kept before (r ∷ rs) at l =
        let e = length-append before (value before r ∷ []) in
        after_kept (before ++ value before r ∷ []) rs at (omega arith)
        ∙ get_or-append before (value before r ∷ []) none at l

    -- A value stays as it is when records are added.
    pub value_kept : (rs more : List Record) (at : ℕ) → at < length rs → get_or (in_order value (rs ++ more)) at none ≡ get_or (in_order value rs) at none
    value_kept rs more at l =
        ap (λ (vs : List A). get_or vs at none) (in_order_append rs more)
        ∙ after_kept (in_order value rs) more at (omega (arith, length_in_order rs))

    -- A record's value, over the values of the records before it.

    after_at : (before : List A) (rs : List Record) (at : ℕ) → at < length rs
        → get_or (in_order_after value before rs) (length before + at) none ≡ value (in_order_after value before (take at rs)) (child rs at)
    unfolding in_order_after
    after_at before [] at l = absurd (omega arith)
    after_at before (r ∷ rs) zero l =
        let e = length-append before (value before r ∷ []) in
        rw (add-zero (length before))
        (after_kept (before ++ value before r ∷ []) rs (length before) (omega arith)
        ∙ get_or-append_seam before (value before r) [] none)
    after_at before (r ∷ rs) (suc at) l =
        let e : length before + suc at ≡ length (before ++ value before r ∷ []) + at
        = omega (arith, length-append before (value before r ∷ [])) in
        rw e (after_at (before ++ value before r ∷ []) rs at (omega arith))

    pub value_at : (rs : List Record) (at : ℕ) → at < length rs → get_or (in_order value rs) at none ≡ value (in_order value (take at rs)) (child rs at)
    unfolding in_order
    value_at rs at l = rw (zero-add at) at (after_at [] rs at l)

    pub before_kept : (rs : List Record) (at i : ℕ) → at < length rs → i < at → get_or (in_order value (take at rs)) i none ≡ get_or (in_order value rs) i none
    before_kept rs at i l m =
        let n : length (take at rs) ≡ at = length-take at rs ∙ omega arith in
        sym (value_kept (take at rs) (drop at rs) i (omega arith)) ∙ rw (take-append-drop at rs) refl
