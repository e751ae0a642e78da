-- The order of words is a strict total order with the empty word first, and it goes by fronts, then by last letters.
use Rattle.std.specs.Prelude.{ℕ, ◌<◌, suc, [], ◌∷◌, ◌++◌, ◌⊎◌, ◌≡◌, refl, length}
use Rattle.std.proofs.Math.Decide.{dec_lt}
use Rattle.std.proofs.Common.{arith, inl, inr, sym, ◌∙◌, ap, ap₂, subst, length-append}
use Rattle.language.specs.Word.{Word}
use Rattle.language.specs.Order.{Lower, here, after, Before, shorter, lower}

-- Strict.

lower_differ : {w v : Word} → Lower w v → w ≡ v → ⊥
lower_differ (here {c} {d} l) e = let same : c ≡ d = cc in omega arith
lower_differ (after {w = w} {v = v} h) e = let same : w ≡ v = cc in lower_differ h same

lower_irrefl : (w : Word) → Lower w w → ⊥
lower_irrefl w h = lower_differ h refl

pub before_irrefl : (w : Word) → Before w w → ⊥
before_irrefl w (shorter l) = omega arith
before_irrefl w (lower e h) = lower_irrefl w h

lower_trans : {w v u : Word} → Lower w v → Lower v u → Lower w u
lower_trans (here {c} l) (here {d = e} m) = let k : c < e = omega arith in here k
lower_trans (here l) (after k) = here l
lower_trans (after h) (here m) = here m
lower_trans (after h) (after k) = after (lower_trans h k)

pub before_trans : (w v u : Word) → Before w v → Before v u → Before w u
before_trans w v u (shorter l) (shorter m) = shorter {w = w} {v = u} (omega arith)
before_trans w v u (shorter l) (lower e k) = shorter {w = w} {v = u} (omega arith)
before_trans w v u (lower e h) (shorter m) = shorter {w = w} {v = u} (omega arith)
before_trans w v u (lower e h) (lower f k) = lower {w = w} {v = u} (e ∙ f) (lower_trans h k)

-- Total.

pub data Compared (w v : Word) : Type 0 where
  before : Before w v → Compared w v
  same : w ≡ v → Compared w v
  behind : Before v w → Compared w v

lower_compared : (w v : Word) → length w ≡ length v → Lower w v ⊎ ((w ≡ v) ⊎ Lower v w)
lower_compared [] [] e = inr (inl refl)
lower_compared [] (d ∷ v) e = absurd (omega arith)
lower_compared (c ∷ w) [] e = absurd (omega arith)
lower_compared (c ∷ w) (d ∷ v) e = go (dec_lt c d) (dec_lt d c) (lower_compared w v (omega arith))
  where
    go : Dec (c < d) → Dec (d < c) → Lower w v ⊎ ((w ≡ v) ⊎ Lower v w) → Lower (c ∷ w) (d ∷ v) ⊎ ((c ∷ w ≡ d ∷ v) ⊎ Lower (d ∷ v) (c ∷ w))
    go (yes l) _ _ = inl (here l)
    go (no _) (yes m) _ = inr (inr (here m))
    go (no l) (no m) (inl h) = inl (subst (λ (k : ℕ). Lower (c ∷ w) (k ∷ v)) (omega arith) (after h))
    go (no l) (no m) (inr (inl h)) = inr (inl (ap₂ ◌∷◌ (omega arith) h))
    go (no l) (no m) (inr (inr h)) = inr (inr (subst (λ (k : ℕ). Lower (k ∷ v) (c ∷ w)) (omega arith) (after h)))

pub compared : (w v : Word) → Compared w v
compared w v = go (dec_lt (length w) (length v)) (dec_lt (length v) (length w))
  where
    equally : length w ≡ length v → Lower w v ⊎ ((w ≡ v) ⊎ Lower v w) → Compared w v
    equally e (inl h) = before (lower e h)
    equally e (inr (inl h)) = same h
    equally e (inr (inr h)) = behind (lower (sym e) h)

    go : Dec (length w < length v) → Dec (length v < length w) → Compared w v
    go (yes l) _ = before (shorter l)
    go (no _) (yes m) = behind (shorter m)
    go (no l) (no m) = let e : length w ≡ length v = omega arith in equally e (lower_compared w v e)

-- Nothing stands before the empty word.

pub empty_first : (w : Word) → Before w [] → ⊥
empty_first w (shorter l) = omega arith
empty_first (c ∷ w) (lower e h) = omega arith
empty_first [] (lower e h) = lower_irrefl [] h

-- One letter more at the end: fronts count first, then the last letters.

length_more : (w : Word) (c : ℕ) → length (w ++ c ∷ []) ≡ suc (length w)
length_more w c = length-append w (c ∷ []) ∙ omega arith

lower_more : {w v : Word} → Lower w v → (x y : Word) → Lower (w ++ x) (v ++ y)
lower_more (here l) x y = here l
lower_more (after h) x y = after (lower_more h x y)

pub before_more : (w v : Word) → Before w v → (c d : ℕ) → Before (w ++ c ∷ []) (v ++ d ∷ [])
before_more w v (shorter l) c d = shorter {w = w ++ c ∷ []} {v = v ++ d ∷ []} (omega (arith, length_more w c, length_more v d))
before_more w v (lower e h) c d =
    lower {w = w ++ c ∷ []} {v = v ++ d ∷ []} (omega (arith, length_more w c, length_more v d)) (lower_more h (c ∷ []) (d ∷ []))

lower_last : (w : Word) (c d : ℕ) → c < d → Lower (w ++ c ∷ []) (w ++ d ∷ [])
lower_last [] c d l = here l
lower_last (a ∷ w) c d l = after (lower_last w c d l)

pub before_last : (w : Word) (c d : ℕ) → c < d → Before (w ++ c ∷ []) (w ++ d ∷ [])
before_last w c d l =
    lower {w = w ++ c ∷ []} {v = w ++ d ∷ []} (omega (arith, length_more w c, length_more w d)) (lower_last w c d l)

pub last_below : (w : Word) (c d : ℕ) → Before (w ++ c ∷ []) (w ++ d ∷ []) → c < d
last_below w c d h = go (dec_lt c d) (dec_lt d c)
  where
    go : Dec (c < d) → Dec (d < c) → c < d
    go (yes l) _ = l
    go (no _) (yes m) =
        absurd (before_irrefl (w ++ c ∷ []) (before_trans (w ++ c ∷ []) (w ++ d ∷ []) (w ++ c ∷ []) h (before_last w d c m)))
    go (no l) (no m) =
        let e : c ≡ d = omega arith in
        absurd (before_irrefl (w ++ d ∷ []) (subst (λ (k : ℕ). Before (w ++ k ∷ []) (w ++ d ∷ [])) e h))

-- And only so: a word of one letter more stands before another if its front does, or the fronts are the same and its last letter is lower.
pub before_fronts : (w v : Word) (c d : ℕ) → Before (w ++ c ∷ []) (v ++ d ∷ []) → Before w v ⊎ ((w ≡ v) × (c < d))
before_fronts w v c d h = go (compared w v)
  where
    go : Compared w v → Before w v ⊎ ((w ≡ v) × (c < d))
    go (before l) = inl l
    go (same e) = inr (e, last_below v c d (subst (λ (x : Word). Before (x ++ c ∷ []) (v ++ d ∷ [])) e h))
    go (behind l) =
        absurd (before_irrefl (w ++ c ∷ []) (before_trans (w ++ c ∷ []) (v ++ d ∷ []) (w ++ c ∷ []) h (before_more v w l d c)))

-- No later in the order.
abbrev pub NotAfter : Word → Word → Type 0
NotAfter w v = (w ≡ v) ⊎ Before w v

-- One letter more keeps the order.
pub not_after_more : (w v : Word) (c : ℕ) → NotAfter w v → NotAfter (w ++ c ∷ []) (v ++ c ∷ [])
not_after_more w v c (inl e) = inl (ap (λ (u : Word). u ++ c ∷ []) e)
not_after_more w v c (inr h) = inr (before_more w v h c c)

-- What is no later than one that is no later, is no later.
pub not_after_trans : (w v u : Word) → NotAfter w v → NotAfter v u → NotAfter w u
not_after_trans w v u (inl e) h = rw (e) h
not_after_trans w v u (inr a) (inl e) = inr (subst (Before w) e a)
not_after_trans w v u (inr a) (inr b) = inr (before_trans w v u a b)

-- What is no later than an earlier word is earlier.
pub before_not_after : (w v u : Word) → NotAfter w v → Before v u → Before w u
before_not_after w v u (inl e) b = rw (e) b
before_not_after w v u (inr a) b = before_trans w v u a b
