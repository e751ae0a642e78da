-- Decimal lines have one reading: the digits of a number, read from the left, give the number back, and no number above 0 begins with a zero.
use Rattle.std.specs.Prelude.{ℕ, zero, suc, ◌+◌, ◌-◌, ◌*◌, ◌^◌, ◌/◌, ◌%◌, ◌<◌, ◌≤◌, Bool, true, false, List, [], ◌∷◌, ◌++◌, ◌≡◌, refl, ltb, length}
use Rattle.std.proofs.Common.{le_refl, le_trans, arith, sym, ◌∙◌, ap, ap₂, length-append, lt-ltb, le-ltb, ltb-true, ltb-false}
use Rattle.language.specs.Word.{Over, none, one}
use Rattle.language.proofs.Laws.Words.{over_join}
use Rattle.text.specs.Ascii.{line_feed}
use Rattle.text.specs.Digits.{decimal_digit, decimal_to, decimal}
use Rattle.text.specs.Told.{IsDigit, StopsAt}
use Rattle.text.specs.Laws.Runs.{cons_one, stops_other, run_one}

-- A number below 10, and any other, to some depth.
one_digit : (depth n : ℕ) → n < 10 → decimal_to (suc depth) n ≡ decimal_digit n ∷ []
unfolding decimal_to
one_digit depth n l = rw (lt-ltb n 10 l, decimal_to)

more_digits : (depth n : ℕ) → 10 ≤ n → decimal_to (suc depth) n ≡ decimal_to depth (n / 10) ++ decimal_digit (n % 10) ∷ []
unfolding decimal_to
more_digits depth n l = rw (le-ltb n 10 l, decimal_to)

-- What holds of numbers of one digit, and passes from a tenth part to its number, holds at each depth above the number.
module _ (P : ℕ → ℕ → Type 0) (small : (depth n : ℕ) → n < 10 → P (suc depth) n)
    (large : (depth n : ℕ) → 10 ≤ n → P depth (n / 10) → P (suc depth) n) where
  by_digits : (depth n : ℕ) → n < depth → P depth n
  by_digits zero n l = absurd (omega arith)
  by_digits (suc depth) n l = go (ltb n 10) refl (λ g. by_digits depth (n / 10) (omega arith))
    where
      go : (b : Bool) → ltb n 10 ≡ b → (10 ≤ n → P depth (n / 10)) → P (suc depth) n
      go true e rest = small depth n (ltb-true n 10 e)
      go false e rest = large depth n (ltb-false n 10 e) (rest (ltb-false n 10 e))

-- A depth above the number is enough.
pub depth_enough : (depth n : ℕ) → n < depth → (other : ℕ) → n < other → decimal_to depth n ≡ decimal_to other n
depth_enough = by_digits (λ depth n. (other : ℕ) → n < other → decimal_to depth n ≡ decimal_to other n) small large
  where
    small : (depth n : ℕ) → n < 10 → (other : ℕ) → n < other → decimal_to (suc depth) n ≡ decimal_to other n
    small depth n l zero m = absurd (omega arith)
    small depth n l (suc other) m = one_digit depth n l ∙ sym (one_digit other n l)

    large : (depth n : ℕ) → 10 ≤ n → ((other : ℕ) → n / 10 < other → decimal_to depth (n / 10) ≡ decimal_to other (n / 10)) → (other : ℕ)
        → n < other → decimal_to (suc depth) n ≡ decimal_to other n
    large depth n l same zero m = absurd (omega arith)
    large depth n l same (suc other) m =
        more_digits depth n l ∙ ap (λ (s : List ℕ). s ++ decimal_digit (n % 10) ∷ []) (same other (omega arith)) ∙ sym (more_digits other n l)

-- The same of the digits themselves.
pub decimal_small : (n : ℕ) → n < 10 → decimal n ≡ decimal_digit n ∷ []
unfolding decimal
decimal_small n l = one_digit n n l

pub decimal_split : (n : ℕ) → 10 ≤ n → decimal n ≡ decimal (n / 10) ++ decimal_digit (n % 10) ∷ []
unfolding decimal
decimal_split n l =
    more_digits n n l ∙ ap (λ (s : List ℕ). s ++ decimal_digit (n % 10) ∷ []) (depth_enough n (n / 10) (omega arith) (suc (n / 10)) (omega arith))

-- One digit more.
pub decimal_more : (n d : ℕ) → 0 < n → d < 10 → decimal (10 * n + d) ≡ decimal n ++ decimal_digit d ∷ []
decimal_more n d p l =
    let q : (10 * n + d) / 10 ≡ n = omega arith in
    let r : (10 * n + d) % 10 ≡ d = omega arith in
    decimal_split (10 * n + d) (omega arith) ∙ ap₂ (λ (x y : ℕ). decimal x ++ decimal_digit y ∷ []) q r

-- What holds of numbers of one digit, and passes from a tenth part to its number, holds of every number.
module _ (P : ℕ → Type 0) (small : (n : ℕ) → n < 10 → P n) (large : (n : ℕ) → 10 ≤ n → P (n / 10) → P n) where
  pub by_tenths : (n : ℕ) → P n
  by_tenths n = by_digits (λ _ m. P m) (λ _ m l. small m l) (λ _ m l. large m l) (suc n) n (omega arith)

-- A number as the digits give it, from the left, behind a number already read.
pub value_from : ℕ → List ℕ → ℕ
value_from n [] = n
value_from n (c ∷ digits) = value_from (10 * n + (c - 48)) digits

value_append : (n : ℕ) (a b : List ℕ) → value_from n (a ++ b) ≡ value_from (value_from n a) b
unfolding value_from
value_append n [] b = refl
value_append n (c ∷ a) b = value_append (10 * n + (c - 48)) a b

pub value_grows : (n : ℕ) (digits : List ℕ) → n ≤ value_from n digits
unfolding value_from
value_grows n [] = le_refl n
value_grows n (c ∷ digits) = le_trans (omega arith) (value_grows (10 * n + (c - 48)) digits)

-- The digits of a number give it back.
pub value_decimal : (n : ℕ) → value_from 0 (decimal n) ≡ n
unfolding value_from
value_decimal = by_tenths (λ n. value_from 0 (decimal n) ≡ n) small large
  where
    small : (n : ℕ) → n < 10 → value_from 0 (decimal n) ≡ n
    small n l = rw (decimal_small n l) (omega arith)

    large : (n : ℕ) → 10 ≤ n → value_from 0 (decimal (n / 10)) ≡ n / 10 → value_from 0 (decimal n) ≡ n
    large n l e =
        ap (λ (s : List ℕ). value_from 0 s) (decimal_split n l) ∙ value_append 0 (decimal (n / 10)) (decimal_digit (n % 10) ∷ [])
        ∙ ap (λ (m : ℕ). 10 * m + (decimal_digit (n % 10) - 48)) e ∙ omega arith

pub decimal_one : (m n : ℕ) → decimal m ≡ decimal n → m ≡ n
decimal_one m n e = sym (value_decimal m) ∙ ap (λ (s : List ℕ). value_from 0 s) e ∙ value_decimal n

-- A number whose digits go on behind those of another is no lower.
pub longer_higher : (m n : ℕ) (more : List ℕ) → decimal n ≡ decimal m ++ more → m ≤ n
longer_higher m n more e =
    let h = value_grows m more in
    let v : value_from m more ≡ n =
    ap (λ (k : ℕ). value_from k more) (sym (value_decimal m)) ∙ sym (value_append 0 (decimal m) more) ∙ ap (λ (s : List ℕ). value_from 0 s) (sym e)
    ∙ value_decimal n in
    omega arith

-- Digits.
pub digit_is : (d : ℕ) → d < 10 → IsDigit (decimal_digit d)
digit_is d l = record { least = omega arith; most = omega arith }

pub feed_no_digit : IsDigit line_feed → ⊥
feed_no_digit d = omega arith

pub feed_stops : (s : List ℕ) → StopsAt IsDigit (line_feed ∷ s)
feed_stops s = stops_other feed_no_digit

pub decimal_digits : (n : ℕ) → Over IsDigit (decimal n)
decimal_digits = by_tenths (λ n. Over IsDigit (decimal n)) small large
  where
    small : (n : ℕ) → n < 10 → Over IsDigit (decimal n)
    small n l = rw (decimal_small n l) (one (digit_is n l) none)

    large : (n : ℕ) → 10 ≤ n → Over IsDigit (decimal (n / 10)) → Over IsDigit (decimal n)
    large n l h = rw (decimal_split n l) (over_join h (one (digit_is (n % 10) (omega arith)) none))

pub some_digits : (n : ℕ) → 0 < length (decimal n)
some_digits = by_tenths (λ n. 0 < length (decimal n)) small large
  where
    small : (n : ℕ) → n < 10 → 0 < length (decimal n)
    small n l = rw (decimal_small n l) (omega arith)

    large : (n : ℕ) → 10 ≤ n → 0 < length (decimal (n / 10)) → 0 < length (decimal n)
    large n l h = rw (decimal_split n l) (omega (arith, length-append (decimal (n / 10)) (decimal_digit (n % 10) ∷ [])))

-- A number above 0 begins with a digit above `0`.
data Leads : List ℕ → Type 0 where
  leads : {c : ℕ} {s : List ℕ} → 48 < c → Leads (c ∷ s)

leads_on : {s : List ℕ} (t : List ℕ) → Leads s → Leads (s ++ t)
leads_on t (leads l) = leads l

above_zero : (n : ℕ) → 0 < n → Leads (decimal n)
above_zero = by_tenths (λ n. 0 < n → Leads (decimal n)) small large
  where
    small : (n : ℕ) → n < 10 → 0 < n → Leads (decimal n)
    small n l p = rw (decimal_small n l) (leads {c = decimal_digit n} (omega arith))

    large : (n : ℕ) → 10 ≤ n → (0 < n / 10 → Leads (decimal (n / 10))) → 0 < n → Leads (decimal n)
    large n l h p = rw (decimal_split n l) (leads_on (decimal_digit (n % 10) ∷ []) (h (omega arith)))

no_lead : {s : List ℕ} → Leads s → (rest : List ℕ) → s ≡ 48 ∷ rest → ⊥
no_lead (leads l) rest e = let f = (cons_one e).first in omega arith

-- Behind a zero in front no digit goes on.
pub zero_alone : (n c : ℕ) (more : List ℕ) → decimal n ≡ 48 ∷ c ∷ more → ⊥
zero_alone zero c more e = let f = (cons_one (sym (decimal_small 0 (omega arith)) ∙ e)).rest in let z : ◌≡◌ {A = ℕ} 0 1 = cc in omega arith
zero_alone (suc n) c more e = no_lead (above_zero (suc n) (omega arith)) (c ∷ more) e

-- Digits in front of what stops have one reading; so has a decimal line.
pub record SameNumber (m : ℕ) (s : List ℕ) (n : ℕ) (t : List ℕ) : Type 0 where
  pub number : m ≡ n
  pub rest : s ≡ t

pub decimal_run_one : (m n : ℕ) {s t : List ℕ} → StopsAt IsDigit s → StopsAt IsDigit t → decimal m ++ s ≡ decimal n ++ t → SameNumber m s n t
decimal_run_one m n {s} {t} p q e =
    let r = run_one (decimal_digits m) (decimal_digits n) s t p q e in
    record { number = decimal_one m n r.run; rest = r.rest }

pub decimal_line_one : (m n : ℕ) (s t : List ℕ) → decimal m ++ line_feed ∷ s ≡ decimal n ++ line_feed ∷ t → SameNumber m s n t
decimal_line_one m n s t e =
    let r = decimal_run_one m n (feed_stops s) (feed_stops t) e in
    record { number = r.number; rest = (cons_one r.rest).rest }

-- A number of at most so many digits.
pub length_decimal : (most n : ℕ) → n < 10 ^ suc most → length (decimal n) ≤ suc most
length_decimal zero n l = let e = ap (λ (s : List ℕ). length s) (decimal_small n (omega arith)) in omega arith
length_decimal (suc most) n l = go (ltb n 10) refl (λ g. length_decimal most (n / 10) (omega arith))
  where
    go : (b : Bool) → ltb n 10 ≡ b → (10 ≤ n → length (decimal (n / 10)) ≤ suc most) → length (decimal n) ≤ suc (suc most)
    go true e rest = let h = ap (λ (s : List ℕ). length s) (decimal_small n (ltb-true n 10 e)) in omega arith
    go false e rest =
        let h = ap (λ (s : List ℕ). length s) (decimal_split n (ltb-false n 10 e)) in
        let k = rest (ltb-false n 10 e) in
        omega (arith, length-append (decimal (n / 10)) (decimal_digit (n % 10) ∷ []))
