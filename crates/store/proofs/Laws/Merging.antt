-- Merging: what is entered among a set, or merged of two, is a set. What is merged begins with the lower of two first members; a set that is used
-- up, and a set with itself, give the other.
use Rattle.std.specs.Prelude.{ℕ, ◌<◌, ◌≤◌, false, List, [], ◌∷◌, ◌≡◌, refl, length}
use Rattle.std.proofs.Math.Decide.{dec_lt}
use Rattle.std.proofs.Common.{arith, sym, ◌∙◌, ap, lt-ltb, le-ltb, eq-eqb, ne_eqb}
use Rattle.records.specs.declared.record.Record.{Record}
use Rattle.records.specs.Record.{child}
use Rattle.store.specs.Making.{is_kind, entered, merged}
use Rattle.store.specs.Good.{Set, none, member}

-- A member entered before, at, or behind the first.
pub entered_before : (m n : ℕ) (ns : List ℕ) → m < n → entered m (n ∷ ns) ≡ m ∷ n ∷ ns
unfolding entered
entered_before m n ns l = rw (lt-ltb m n l, entered)

pub entered_at : (m n : ℕ) (ns : List ℕ) → m ≡ n → entered m (n ∷ ns) ≡ n ∷ ns
unfolding entered
entered_at m n ns e = rw (le-ltb m n (omega arith), eq-eqb m n e, entered)

pub entered_behind : (m n : ℕ) (ns : List ℕ) → n < m → entered m (n ∷ ns) ≡ n ∷ entered m ns
unfolding entered
entered_behind m n ns l = rw (le-ltb m n (omega arith), ne_eqb m n (λ e. omega arith), entered)

pub entered_none : (m : ℕ) → entered m [] ≡ m ∷ []
unfolding entered
entered_none m = refl

pub merged_none : (ns : List ℕ) → merged [] ns ≡ ns
unfolding merged
merged_none ns = refl

pub merged_more : (m : ℕ) (ms ns : List ℕ) → merged (m ∷ ms) ns ≡ entered m (merged ms ns)
unfolding merged
merged_more m ms ns = refl

-- Of two places one is lower, or they are one.
pub data Order (m n : ℕ) : Type 0 where
  lower : m < n → Order m n
  same : m ≡ n → Order m n
  higher : n < m → Order m n

pub order : (m n : ℕ) → Order m n
order m n = go (dec_lt m n) (dec_lt n m)
  where
    go : Dec (m < n) → Dec (n < m) → Order m n
    go (yes l) h = lower l
    go (no l) (yes h) = higher h
    go (no l) (no h) = same (omega arith)

module _ {kind : ℕ} {store : List Record} where
  -- What is entered among a set is a set.
  entered_set : {low m : ℕ} {ns : List ℕ} → low < m → m < length store → is_kind kind (child store m) ≡ false
      → Set kind store low ns → Set kind store low (entered m ns)
  entered_set {m = m} a l e none = rw (entered_none m) (member a l e none)
  entered_set {low} {m} a l e (member {m = n} {ms = ns} b k f s) = go (order m n) (λ h. entered_set h l e s)
    where
      go : Order m n → (n < m → Set kind store n (entered m ns)) → Set kind store low (entered m (n ∷ ns))
      go (lower h) later = rw (entered_before m n ns h) (member a l e (member h k f s))
      go (same h) later = rw (entered_at m n ns h) (member b k f s)
      go (higher h) later = rw (entered_behind m n ns h) (member b k f (later h))

  -- What is merged of two sets is a set.
  merged_onto : {base low : ℕ} {ms ns : List ℕ} → base ≤ low → Set kind store low ms → Set kind store base ns → Set kind store base (merged ms ns)
  merged_onto {ns = ns} b none t = rw (merged_none ns) t
  merged_onto {base} {ns = ns} b (member {m = m} {ms = ms} a l e s) t =
      rw (merged_more m ms ns) (entered_set {low = base} {m = m} (omega arith) l e (merged_onto (omega arith) s t))

  pub merged_set : {low : ℕ} {ms ns : List ℕ} → Set kind store low ms → Set kind store low ns → Set kind store low (merged ms ns)
  merged_set s t = merged_onto (omega arith) s t

  -- A place below a whole set comes before it.
  pub first_before : {m : ℕ} {ns : List ℕ} → Set kind store m ns → entered m ns ≡ m ∷ ns
  first_before {m} none = entered_none m
  first_before {m} (member {m = n} {ms = ns} a l e s) = entered_before m n ns a

  -- The lower of two first members is the first of what is merged.
  pub merged_left : {m n : ℕ} {ms ns : List ℕ} → m < n → Set kind store m ms → Set kind store n ns → n < length store
      → is_kind kind (child store n) ≡ false
      → merged (m ∷ ms) (n ∷ ns) ≡ m ∷ merged ms (n ∷ ns)
  merged_left {m} {n} {ms} {ns} h s t l e = merged_more m ms (n ∷ ns) ∙ first_before (merged_set s (member h l e t))

  -- A place below the first set comes before what is merged.
  right_before : {n low : ℕ} {ms : List ℕ} (ns : List ℕ) → n ≤ low → Set kind store low ms → merged ms (n ∷ ns) ≡ n ∷ merged ms ns
  right_before {n} ns b none = merged_none (n ∷ ns) ∙ ap (λ (l : List ℕ). n ∷ l) (sym (merged_none ns))
  right_before {n} ns b (member {m = m} {ms = ms} a l e s) =
      merged_more m ms (n ∷ ns)
      ∙ ap (entered m) (right_before ns (omega arith) s)
      ∙ entered_behind m n (merged ms ns) (omega arith)
      ∙ ap (λ (l : List ℕ). n ∷ l) (sym (merged_more m ms ns))

  pub merged_right : {n : ℕ} {ms : List ℕ} (ns : List ℕ) → Set kind store n ms → merged ms (n ∷ ns) ≡ n ∷ merged ms ns
  merged_right ns s = right_before ns (omega arith) s

  pub merged_same : {m n : ℕ} {ms : List ℕ} (ns : List ℕ) → m ≡ n → Set kind store m ms → merged (m ∷ ms) (n ∷ ns) ≡ m ∷ merged ms ns
  merged_same {m} {n} {ms} ns e s =
      ap (λ (k : ℕ). merged (m ∷ ms) (k ∷ ns)) (sym e)
      ∙ merged_more m ms (m ∷ ns) ∙ ap (entered m) (merged_right ns s) ∙ entered_at m m (merged ms ns) refl

  -- A used-up side: the other comes out.
  pub merged_with_none : {low : ℕ} {ms : List ℕ} → Set kind store low ms → merged ms [] ≡ ms
  merged_with_none none = merged_none []
  merged_with_none (member {m = m} {ms = ms} a l e s) =
      merged_more m ms [] ∙ ap (entered m) (merged_with_none s) ∙ first_before s

  -- A set merged with itself.
  pub merged_self : {low : ℕ} {ms : List ℕ} → Set kind store low ms → merged ms ms ≡ ms
  merged_self none = merged_none []
  merged_self (member {m = m} {ms = ms} a l e s) = merged_same ms refl s ∙ ap (λ (l : List ℕ). m ∷ l) (merged_self s)
