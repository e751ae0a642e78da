-- Hex digits in code: the half that a digit stands for, and the byte of two halves.
use Rattle.std.specs.Prelude.{ℕ, ◌+◌, ◌-◌, ◌*◌, ◌/◌, ◌%◌, ◌<◌, ◌≤◌, ◌≡◌, Some, None}
use Rattle.std.proofs.Common.{arith, sym, ◌∙◌, ap}
use Rattle.text.specs.Digits.{hex_digit}
use Rattle.text.specs.Told.{HalfOf, half, no_half, ByteOf, a_byte, no_byte}
use Rattle.text.specs.Laws.Hex.{low_digit, high_digit, WhichDigit, is_low, is_high, which_digit}

-- `0` to `9`, and `a` to `f`.
pub low_half : (c : ℕ) → 48 ≤ c → c ≤ 57 → HalfOf c (Some (c - 48))
low_half c l m = half {h = c - 48} (omega arith) (omega (arith, low_digit (c - 48) (omega arith)))

pub high_half : (c : ℕ) → 97 ≤ c → c ≤ 102 → HalfOf c (Some (c - 97 + 10))
high_half c l m = half {h = c - 97 + 10} (omega arith) (omega (arith, high_digit (c - 97 + 10) (omega arith)))

-- Every other number is no digit.
pub data Outside (c : ℕ) : Type 0 where
  below : c < 48 → Outside c
  between : 57 < c → c < 97 → Outside c
  above : 102 < c → Outside c

outside_by : {c h : ℕ} → Outside c → WhichDigit h → h < 16 → c ≡ hex_digit h → ⊥
outside_by (below l) (is_low p q) k e = omega arith
outside_by (below l) (is_high p q) k e = omega arith
outside_by (between l m) (is_low p q) k e = omega arith
outside_by (between l m) (is_high p q) k e = omega arith
outside_by (above l) (is_low p q) k e = omega arith
outside_by (above l) (is_high p q) k e = omega arith

pub outside_half : {c : ℕ} → Outside c → HalfOf c None
outside_half o = no_half (λ h. outside_by o (which_digit h))

-- What an answer says.
pub record IsHalf (c h : ℕ) : Type 0 where
  pub small : h < 16
  pub digit : c ≡ hex_digit h

pub is_half : {c h : ℕ} → HalfOf c (Some h) → IsHalf c h
is_half (half l e) = record { small = l; digit = e }

is_no_half : {c : ℕ} → HalfOf c None → (k : ℕ) → k < 16 → c ≡ hex_digit k → ⊥
is_no_half (no_half f) k = f k

-- The byte of two halves, and none where one half is missing.
pub both_halves : {high low h l : ℕ} → IsHalf high h → IsHalf low l → ByteOf high low (Some (16 * h + l))
both_halves {high} {low} {h} {l} p q =
    let s = p.small in
    let t = q.small in
    let u : (16 * h + l) / 16 ≡ h = omega arith in
    let v : (16 * h + l) % 16 ≡ l = omega arith in
    a_byte {b = 16 * h + l}
    (record {
      is_byte = omega arith;
      high_is = p.digit ∙ ap (λ (x : ℕ). hex_digit x) (sym u);
      low_is = q.digit ∙ ap (λ (x : ℕ). hex_digit x) (sym v);
    })

pub high_missing : {high : ℕ} (low : ℕ) → HalfOf high None → ByteOf high low None
high_missing low p = no_byte (λ b t. let l = t.is_byte in is_no_half p (b / 16) (omega arith) t.high_is)

pub low_missing : {low : ℕ} (high : ℕ) → HalfOf low None → ByteOf high low None
low_missing high p = no_byte (λ b t. is_no_half p (b % 16) (omega arith) t.low_is)
