-- Hex lines have one reading: a digit stands for one half of a byte and is no line feed, so the digits in front of a line feed are those of one
-- list of bytes.
use Rattle.std.specs.Prelude.{ℕ, ◌+◌, ◌-◌, ◌*◌, ◌/◌, ◌%◌, ◌<◌, ◌≤◌, Bool, true, false, List, [], ◌∷◌, ◌++◌, ◌≡◌, refl, ltb, length}
use Rattle.std.proofs.Common.{arith, sym, ◌∙◌, ap, lt-ltb, le-ltb, ltb-true, ltb-false}
use Rattle.language.specs.Word.{none, one, Bytes}
use Rattle.text.specs.Ascii.{line_feed}
use Rattle.text.specs.Digits.{hex_digit, hex}
use Rattle.text.specs.Told.{TwoDigits, NoDigits}
use Rattle.text.specs.Laws.Runs.{Cons, cons_one, SameRun, one_more}

-- The digits `0` to `9`, and `a` to `f`.
pub low_digit : (h : ℕ) → h < 10 → hex_digit h ≡ 48 + h
low_digit h l = rw (lt-ltb h 10 l)

pub high_digit : (h : ℕ) → 10 ≤ h → hex_digit h ≡ 97 + (h - 10)
high_digit h l = rw (le-ltb h 10 l)

-- Which of the two a digit is.
pub data WhichDigit (h : ℕ) : Type 0 where
  is_low : h < 10 → hex_digit h ≡ 48 + h → WhichDigit h
  is_high : 10 ≤ h → hex_digit h ≡ 97 + (h - 10) → WhichDigit h

pub which_digit : (h : ℕ) → WhichDigit h
which_digit h = go (ltb h 10) refl
  where
    go : (b : Bool) → ltb h 10 ≡ b → WhichDigit h
    go true e = is_low (ltb-true h 10 e) (low_digit h (ltb-true h 10 e))
    go false e = is_high (ltb-false h 10 e) (high_digit h (ltb-false h 10 e))

-- A digit stands for one half.
digit_by : {a b : ℕ} → WhichDigit a → WhichDigit b → a < 16 → b < 16 → hex_digit a ≡ hex_digit b → a ≡ b
digit_by (is_low p q) (is_low r s) l m e = omega arith
digit_by (is_low p q) (is_high r s) l m e = omega arith
digit_by (is_high p q) (is_low r s) l m e = omega arith
digit_by (is_high p q) (is_high r s) l m e = omega arith

pub digit_one : (a b : ℕ) → a < 16 → b < 16 → hex_digit a ≡ hex_digit b → a ≡ b
digit_one a b = digit_by (which_digit a) (which_digit b)

-- A digit is no line feed.
no_feed_by : {h : ℕ} → WhichDigit h → hex_digit h ≡ line_feed → ⊥
no_feed_by (is_low p q) e = omega arith
no_feed_by (is_high p q) e = omega arith

pub digit_no_feed : (h : ℕ) → hex_digit h ≡ line_feed → ⊥
digit_no_feed h = no_feed_by (which_digit h)

-- The digits of two lists of bytes, one behind the other.
pub hex_append : (a b : List ℕ) → hex (a ++ b) ≡ hex a ++ hex b
unfolding hex
hex_append [] b = refl
hex_append (x ∷ a) b = ap (λ (l : List ℕ). hex_digit (x / 16) ∷ hex_digit (x % 16) ∷ l) (hex_append a b)

pub length_hex : (a : List ℕ) → length (hex a) ≡ 2 * length a
unfolding hex
length_hex [] = refl
length_hex (x ∷ a) = omega (arith, length_hex a)

-- Two digits stand for one byte.
pub byte_one : {a b high low : ℕ} → TwoDigits a high low → TwoDigits b high low → a ≡ b
byte_one {a} {b} s t =
    let l = s.is_byte in
    let m = t.is_byte in
    let p = digit_one (a / 16) (b / 16) (omega arith) (omega arith) (sym s.high_is ∙ t.high_is) in
    let q = digit_one (a % 16) (b % 16) (omega arith) (omega arith) (sym s.low_is ∙ t.low_is) in
    omega arith

-- A hex line has one reading.
first_bytes : {x y : ℕ} {s t : List ℕ} → x < 256 → y < 256
    → hex_digit (x / 16) ∷ hex_digit (x % 16) ∷ s ≡ hex_digit (y / 16) ∷ hex_digit (y % 16) ∷ t → Cons x s y t
first_bytes {x} {y} l m e =
    let f = cons_one e in
    let g = cons_one f.rest in
    record {
      first = byte_one {high = hex_digit (x / 16)} {low = hex_digit (x % 16)} (record { is_byte = l; high_is = refl; low_is = refl })
          (record { is_byte = m; high_is = f.first; low_is = g.first });
      rest = g.rest;
    }

pub hex_line_one : {a b : List ℕ} → Bytes a → Bytes b → (s t : List ℕ) → hex a ++ line_feed ∷ s ≡ hex b ++ line_feed ∷ t → SameRun a s b t
unfolding hex
hex_line_one none none s t e = record { run = refl; rest = (cons_one e).rest }
hex_line_one none (one {c} q k) s t e = absurd (digit_no_feed (c / 16) (sym (cons_one e).first))
hex_line_one (one {c} p h) none s t e = absurd (digit_no_feed (c / 16) (cons_one e).first)
hex_line_one (one p h) (one q k) s t e =
    let f = first_bytes p q e in
    one_more f.first (hex_line_one h k s t f.rest)

-- No hex line stands in front of a text.
pub record NoHexLine (text : List ℕ) : Type 0 where
  pub none_read : (bytes rest : List ℕ) → Bytes bytes → text ≡ hex bytes ++ line_feed ∷ rest → ⊥

-- Where none goes on behind some digits, none stands in front of them.
no_further : {a b : List ℕ} → Bytes a → Bytes b → (s rest : List ℕ) → NoHexLine s → hex a ++ s ≡ hex b ++ line_feed ∷ rest → ⊥
unfolding hex
no_further {b = b} none k s rest n e = n.none_read b rest k e
no_further (one {c} p h) none s rest n e = digit_no_feed (c / 16) (cons_one e).first
no_further (one p h) (one q k) s rest n e = no_further h k s rest n (first_bytes p q e).rest

pub no_hex_behind : {a s : List ℕ} → Bytes a → NoHexLine s → NoHexLine (hex a ++ s)
no_hex_behind {s = s} h n = record { none_read = λ bytes rest k e. no_further h k s rest n e }

-- None stands where neither a line feed nor the digits of a byte do.
none_there : {s b : List ℕ} → ((rest : List ℕ) → s ≡ line_feed ∷ rest → ⊥) → NoDigits s → Bytes b → (rest : List ℕ) → s ≡ hex b ++ line_feed ∷ rest → ⊥
unfolding hex
none_there n m none rest e = n rest e
none_there n m (one {c = x} {w = w} p h) rest e = m.none_read x (hex w ++ line_feed ∷ rest) p e

pub no_hex_there : {s : List ℕ} → ((rest : List ℕ) → s ≡ line_feed ∷ rest → ⊥) → NoDigits s → NoHexLine s
no_hex_there n m = record { none_read = λ bytes rest k e. none_there n m k rest e }

-- No byte's digits stand at the end of a text, in front of one last number, or in two numbers that are not the digits of a byte.
pub no_digits_at_end : NoDigits []
no_digits_at_end = record { none_read = λ byte rest l e. let z : ◌≡◌ {A = ℕ} 0 1 = cc in omega arith }

pub no_digits_at_last : (c : ℕ) → NoDigits (c ∷ [])
no_digits_at_last c = record { none_read = λ byte rest l e. let f = (cons_one e).rest in let z : ◌≡◌ {A = ℕ} 0 1 = cc in omega arith }

pub no_digits_at_two : (c d : ℕ) (s : List ℕ) → ((byte : ℕ) → TwoDigits byte c d → ⊥) → NoDigits (c ∷ d ∷ s)
no_digits_at_two c d s n =
    record {
      none_read = λ byte rest l e.
          n byte (record { is_byte = l; high_is = (cons_one e).first; low_is = (cons_one (cons_one e).rest).first });
    }
