-- Letters that rise, each below those behind it: which stand before one of them, and which behind.
use Rattle.std.specs.Prelude.{ℕ, ◌<◌, List, [], ◌∷◌, ◌++◌, ◌≡◌, refl}
use Rattle.std.proofs.Common.{arith, ⊎_elim}
use mathlib.Core.List.Memᴰ
use Rattle.language.specs.Word.{Listed}

pub data Rising : List ℕ → Type 0 where
  none_rise : Rising []
  rises : {c : ℕ} {l : List ℕ} → ((d : ℕ) → Listed l d → c < d) → Rising l → Rising (c ∷ l)

pub rising_above : (done : List ℕ) (c : ℕ) (rest : List ℕ) → Rising (done ++ c ∷ rest) → (d : ℕ) → Listed done d → d < c
rising_above [] c rest r d m = absurd (Memᴰ.not-nil m)
rising_above (a ∷ done) c rest (rises h r) d m =
    ⊎_elim (λ e. let l = h c (Memᴰ.append_right done (Memᴰ.head refl)) in omega arith)
    (λ k. rising_above done c rest r d k)
    (Memᴰ.cases_cons m)

rising_tail : (done : List ℕ) (c : ℕ) (rest : List ℕ) → Rising (done ++ c ∷ rest) → (d : ℕ) → Listed rest d → c < d
rising_tail [] c rest (rises h r) d m = h d m
rising_tail (a ∷ done) c rest (rises h r) d m = rising_tail done c rest r d m

pub rising_below : (done : List ℕ) (c : ℕ) (rest : List ℕ) → Rising (done ++ c ∷ rest) → (d : ℕ) → Listed (done ++ c ∷ rest) d → d < c → Listed done d
rising_below done c rest r d m l =
    ⊎_elim (λ k. k)
    (λ k.
    ⊎_elim (λ e. absurd (omega arith))
    (λ j. let h = rising_tail done c rest r d j in absurd (omega arith))
    (Memᴰ.cases_cons k))
    (Memᴰ.append_cases done m)

pub rising_more : (c : ℕ) {l : List ℕ} → Rising l → ((d : ℕ) → Listed l d → d < c) → Rising (l ++ c ∷ [])
rising_more c none_rise h = rises (λ d m. absurd (Memᴰ.not-nil m)) none_rise
rising_more c (rises {c = a} {l} k r) h =
    rises (λ d m. ⊎_elim (λ n. k d n) (λ (n : Listed (c ∷ []) d). let e : d ≡ c = Memᴰ.eq_of_singleton n in let b = h a (Memᴰ.head refl) in omega arith) (Memᴰ.append_cases l m))
    (rising_more c r (λ d m. h d (Memᴰ.tail m)))
