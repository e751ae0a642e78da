-- What sets are: the members of what is merged are those of both; sets of the same members are one list, so that order and grouping play
-- no part.
use Rattle.std.specs.Prelude.{ℕ, ◌<◌, List, [], ◌∷◌, ◌⊎◌, ◌≡◌, refl}
use Rattle.std.proofs.Common.{arith, inl, inr, ⊎_elim, sym, ◌∙◌, ap₂, subst}
use mathlib.Core.List.Memᴰ
use Rattle.language.specs.Word.{Listed}
use Rattle.records.specs.declared.record.Record.{Record}
use Rattle.store.specs.Making.{entered, merged}
use Rattle.store.specs.Good.{Set, none, member}
use Rattle.store.proofs.Laws.Merging.{entered_none, entered_before, entered_at, entered_behind, merged_none, merged_more, Order, lower, same, higher, order, merged_set}

-- The same members are in both lists.
pub record SameMembers (ms ns : List ℕ) : Type 0 where
  pub to : (k : ℕ) → Listed ms k → Listed ns k
  pub from : (k : ℕ) → Listed ns k → Listed ms k

-- What is entered is a member, with those there.
entered_lists : (m : ℕ) (ns : List ℕ) → SameMembers (entered m ns) (m ∷ ns)
entered_lists m [] = rw (entered_none m) (record { to = λ k h. h; from = λ k h. h })
entered_lists m (n ∷ ns) = go (order m n) (entered_lists m ns)
  where
    go : Order m n → SameMembers (entered m ns) (m ∷ ns) → SameMembers (entered m (n ∷ ns)) (m ∷ n ∷ ns)
    go (lower l) later = rw (entered_before m n ns l) (record { to = λ k h. h; from = λ k h. h })
    go (same e) later =
        rw (entered_at m n ns e)
        (record {
          to = λ k h. Memᴰ.tail h;
          from = λ k h. ⊎_elim (λ f. Memᴰ.head (f ∙ e)) (λ t. t) (Memᴰ.cases_cons h);
        })
    go (higher l) later =
        rw (entered_behind m n ns l)
        (record {
          to = λ k h.
              ⊎_elim (λ f. Memᴰ.tail (Memᴰ.head f))
              (λ t. ⊎_elim (λ f. Memᴰ.head f) (λ u. Memᴰ.tail (Memᴰ.tail u)) (Memᴰ.cases_cons (later.to k t)))
              (Memᴰ.cases_cons h);
          from = λ k h.
              ⊎_elim (λ f. Memᴰ.tail (later.from k (Memᴰ.head f)))
              (λ t. ⊎_elim (λ f. Memᴰ.head f) (λ u. Memᴰ.tail (later.from k (Memᴰ.tail u))) (Memᴰ.cases_cons t))
              (Memᴰ.cases_cons h);
        })

-- The members of what is merged are those of both.
pub merged_from : (ms ns : List ℕ) (k : ℕ) → Listed (merged ms ns) k → Listed ms k ⊎ Listed ns k
merged_from [] ns k h = inr (subst (λ (l : List ℕ). Listed l k) (merged_none ns) h)
merged_from (m ∷ ms) ns k h =
    ⊎_elim (λ e. inl (Memᴰ.head e))
    (λ t. ⊎_elim (λ u. inl (Memᴰ.tail u)) (λ u. inr u) (merged_from ms ns k t))
    (Memᴰ.cases_cons ((entered_lists m (merged ms ns)).to k (subst (λ (l : List ℕ). Listed l k) (merged_more m ms ns) h)))

pub merged_to : (ms ns : List ℕ) (k : ℕ) → Listed ms k ⊎ Listed ns k → Listed (merged ms ns) k
merged_to [] ns k h =
    subst (λ (l : List ℕ). Listed l k) (sym (merged_none ns)) (⊎_elim (λ t. absurd (Memᴰ.not-nil t)) (λ t. t) h)
merged_to (m ∷ ms) ns k h =
    subst (λ (l : List ℕ). Listed l k) (sym (merged_more m ms ns))
    ((entered_lists m (merged ms ns)).from k
    (⊎_elim
    (λ t. ⊎_elim (λ e. Memᴰ.head e) (λ u. Memᴰ.tail (merged_to ms ns k (inl u))) (Memᴰ.cases_cons t))
    (λ t. Memᴰ.tail (merged_to ms ns k (inr t)))
    h))

module _ {kind : ℕ} {store : List Record} where
  -- Each member stands above the low place.
  pub listed_above : {low : ℕ} {ms : List ℕ} → Set kind store low ms → (k : ℕ) → Listed ms k → low < k
  listed_above none k h = absurd (Memᴰ.not-nil h)
  listed_above (member a l e s) k h =
      ⊎_elim (λ f. omega arith) (λ t. let b = listed_above s k t in omega arith) (Memᴰ.cases_cons h)

  -- Sets of the same members are one list.
  pub one_set : {low low' : ℕ} {ms ns : List ℕ} → Set kind store low ms → Set kind store low' ns → SameMembers ms ns → ms ≡ ns
  one_set none none h = refl
  one_set none (member {m = n} b k f t) h = absurd (Memᴰ.not-nil (h.from n (Memᴰ.head refl)))
  one_set (member {m = m} a l e s) none h = absurd (Memᴰ.not-nil (h.to m (Memᴰ.head refl)))
  one_set (member {m = m} {ms = ms} a l e s) (member {m = n} {ms = ns} b k f t) h =
      ap₂ (λ (x : ℕ) (l : List ℕ). x ∷ l) first (one_set s t behind)
    where
      first : m ≡ n
      first =
          ⊎_elim (λ e. e)
          (λ u. ⊎_elim (λ e. sym e)
          (λ v. absurd (let c = listed_above t m u in let d = listed_above s n v in omega arith))
          (Memᴰ.cases_cons (h.from n (Memᴰ.head refl))))
          (Memᴰ.cases_cons (h.to m (Memᴰ.head refl)))

      behind : SameMembers ms ns
      behind =
          record {
            to = λ k u.
                ⊎_elim (λ e. absurd (let c = listed_above s k u in omega (arith, first))) (λ v. v) (Memᴰ.cases_cons (h.to k (Memᴰ.tail u)));
            from = λ k u.
                ⊎_elim (λ e. absurd (let c = listed_above t k u in omega (arith, first))) (λ v. v) (Memᴰ.cases_cons (h.from k (Memᴰ.tail u)));
          }

  -- Two sets merged in either order, and three in either grouping.
  pub merged_either_order : {low : ℕ} {ms ns : List ℕ} → Set kind store low ms → Set kind store low ns → merged ms ns ≡ merged ns ms
  merged_either_order {ms = ms} {ns = ns} s t =
      one_set (merged_set s t) (merged_set t s)
      (record {
        to = λ k h. merged_to ns ms k (⊎_elim inr inl (merged_from ms ns k h));
        from = λ k h. merged_to ms ns k (⊎_elim inr inl (merged_from ns ms k h));
      })

  pub merged_either_grouping : {low : ℕ} {ls ms ns : List ℕ} → Set kind store low ls → Set kind store low ms → Set kind store low ns
      → merged (merged ls ms) ns ≡ merged ls (merged ms ns)
  merged_either_grouping {ls = ls} {ms = ms} {ns = ns} r s t =
      one_set (merged_set (merged_set r s) t) (merged_set r (merged_set s t))
      (record {
        to = λ k h.
            merged_to ls (merged ms ns) k
            (⊎_elim
            (λ u. ⊎_elim inl (λ v. inr (merged_to ms ns k (inl v))) (merged_from ls ms k u))
            (λ u. inr (merged_to ms ns k (inr u)))
            (merged_from (merged ls ms) ns k h));
        from = λ k h.
            merged_to (merged ls ms) ns k
            (⊎_elim
            (λ u. inl (merged_to ls ms k (inl u)))
            (λ u. ⊎_elim (λ v. inl (merged_to ls ms k (inr v))) inr (merged_from ms ns k u))
            (merged_from ls (merged ms ns) k h));
      })
