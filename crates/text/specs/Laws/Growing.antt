-- A number digit by digit: its first digit, and one digit more. Where none goes on, no number that is not too large has these digits in front.
use Rattle.std.specs.Prelude.{ℕ, ◌+◌, ◌-◌, ◌*◌, ◌<◌, ◌≤◌, List, [], ◌∷◌, ◌++◌, ◌≡◌, length, Some, None}
use Rattle.std.proofs.Common.{arith, append_assoc, sym, ◌∙◌, ap}
use Rattle.language.specs.Word.{Over, none, one}
use Rattle.language.proofs.Laws.Words.{over_join}
use Rattle.text.specs.Digits.{decimal_digit, decimal}
use Rattle.text.specs.Told.{IsDigit, DigitOf, a_digit, no_digit, StopsAt, NoNumber, Begins, begins, begins_not, Grows, grows, grows_not}
use Rattle.text.specs.Laws.Runs.{stops_other, run_longer, run_one}
use Rattle.text.specs.Laws.Decimal.{decimal_small, decimal_more, decimal_digits, some_digits, longer_higher, zero_alone}

-- The digit of a code.
digit_of_code : (c : ℕ) → IsDigit c → decimal_digit (c - 48) ≡ c
digit_of_code c d = omega arith

-- What an answer says of a digit.
pub record IsDigitOf (c n : ℕ) : Type 0 where
  pub digit : IsDigit c
  pub value : n ≡ c - 48

pub digit_of : (c : ℕ) → 48 ≤ c → c ≤ 57 → DigitOf c (Some (c - 48))
digit_of c l m = a_digit {n = c - 48} (omega arith) (omega arith)

pub is_digit_of : {c n : ℕ} → DigitOf c (Some n) → IsDigitOf c n
is_digit_of (a_digit l e) = record { digit = record { least = omega arith; most = omega arith }; value = omega arith }

pub is_no_digit : {c : ℕ} → DigitOf c None → IsDigit c → ⊥
is_no_digit (no_digit f) = f

-- A number whose digits begin with some digits.
record LongerNumber (digits : List ℕ) (n : ℕ) : Type 0 where
  more : List ℕ
  longer : decimal n ≡ digits ++ more

goes_on : {digits : List ℕ} (n : ℕ) (s rest : List ℕ) → Over IsDigit digits → StopsAt IsDigit rest → digits ++ s ≡ decimal n ++ rest
    → LongerNumber digits n
goes_on n s rest d stop e = let l = run_longer d (decimal_digits n) s rest stop e in record { more = l.more; longer = l.longer }

-- Digits that no number which is not too large begins with.
none_begins : {most : ℕ} (digits s : List ℕ) → Over IsDigit digits → ((n : ℕ) (more : List ℕ) → n ≤ most → decimal n ≡ digits ++ more → ⊥)
    → NoNumber most (digits ++ s)
none_begins digits s d f =
    record { none_read = λ n rest l stop e. let g = goes_on n s rest d stop e in f n g.more l g.longer }

-- Nor do those of a larger number.
larger_begins : {most : ℕ} (value : ℕ) (digits s : List ℕ) → Over IsDigit digits → decimal value ≡ digits → most < value → NoNumber most (digits ++ s)
larger_begins value digits s d e large =
    none_begins digits s d
    (λ n more l f. let h = longer_higher value n more (f ∙ ap (λ (x : List ℕ). x ++ more) (sym e)) in omega arith)

-- The first digit.
first_digits : (c : ℕ) → IsDigit c → decimal (c - 48) ≡ c ∷ []
first_digits c d =
    let l = d.least in
    let m = d.most in
    decimal_small (c - 48) (omega arith) ∙ ap (λ (x : ℕ). x ∷ []) (digit_of_code c d)

pub first_of_number : (c most : ℕ) → IsDigit c → c - 48 ≤ most → Begins c most (Some (c - 48))
first_of_number c most d l = begins {n = c - 48} l (first_digits c d)

pub first_too_large : (c most : ℕ) → IsDigit c → most < c - 48 → Begins c most None
first_too_large c most d l = begins_not (λ rest. larger_begins (c - 48) (c ∷ []) rest (one d none) (first_digits c d) l)

pub no_first_digit : (c most : ℕ) → (IsDigit c → ⊥) → Begins c most None
no_first_digit c most n =
    begins_not
    (λ rest. record {
      none_read = λ m t l stop e.
          let r = (run_one none (decimal_digits m) (c ∷ rest) t (stops_other n) stop e).run in
          let h = ap (λ (s : List ℕ). length s) r in
          omega (arith, some_digits m);
    })

-- One digit more.
more_digits : (value c : ℕ) → (value ≡ 0 → ⊥) → IsDigit c → decimal (10 * value + (c - 48)) ≡ decimal value ++ c ∷ []
more_digits value c n d =
    let l = d.least in
    let m = d.most in
    decimal_more value (c - 48) (omega arith) (omega arith) ∙ ap (λ (x : ℕ). decimal value ++ x ∷ []) (digit_of_code c d)

pub one_digit_more : (value c most : ℕ) → (value ≡ 0 → ⊥) → IsDigit c → 10 * value + (c - 48) ≤ most
    → Grows value c most (Some (10 * value + (c - 48)))
one_digit_more value c most z d l = grows l (more_digits value c z d)

-- Not, where no number has these digits in front; and where c is no digit there is nothing to say.
not_grown : {most : ℕ} (value c : ℕ) → ((s : List ℕ) → IsDigit c → NoNumber most ((decimal value ++ c ∷ []) ++ s)) → Grows value c most None
not_grown {most} value c f = grows_not (λ s d. rw append_assoc at (f s d))

all_digits : (value c : ℕ) → IsDigit c → Over IsDigit (decimal value ++ c ∷ [])
all_digits value c d = over_join (decimal_digits value) (one d none)

-- Not above the largest.
pub too_large : (value c most : ℕ) → (value ≡ 0 → ⊥) → most < 10 * value + (c - 48) → Grows value c most None
too_large value c most z large =
    not_grown value c
    (λ s d. larger_begins (10 * value + (c - 48)) (decimal value ++ c ∷ []) s (all_digits value c d) (more_digits value c z d) large)

-- Not behind a zero.
pub zero_first : (value c most : ℕ) → value ≡ 0 → Grows value c most None
zero_first value c most z =
    not_grown value c
    (λ s d. none_begins (decimal value ++ c ∷ []) s (all_digits value c d)
    (λ n more l f. zero_alone n c more (f ∙ ap (λ (x : List ℕ). (x ++ c ∷ []) ++ more) (ap decimal z ∙ decimal_small 0 (omega arith)))))

-- A number that is no digit.
pub no_digit_more : (value c most : ℕ) → (IsDigit c → ⊥) → Grows value c most None
no_digit_more value c most n = grows_not (λ s d. absurd (n d))
