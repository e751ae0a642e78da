-- Edges of lines, each from the definitions alone: an odd number of hex digits, no digits of a number, a leading zero and a number too large are no line.
use Rattle.std.specs.Prelude.{ℕ, ◌%◌, ◌<◌, List, ◌∷◌, ◌++◌, ◌≡◌, length}
use Rattle.std.proofs.Common.{arith, sym, ap}
use Rattle.language.specs.Word.{none, one, Bytes}
use Rattle.text.specs.Ascii.{line_feed}
use Rattle.text.specs.Digits.{hex, decimal}
use Rattle.text.specs.Told.{IsDigit}
use Rattle.text.specs.Laws.Runs.{cons_one, run_longer, run_one}
use Rattle.text.specs.Laws.Hex.{digit_no_feed, NoHexLine, no_hex_behind, no_hex_there, no_digits_at_two}
use Rattle.text.specs.Laws.Decimal.{digit_is, feed_stops, decimal_digits, some_digits, decimal_line_one, zero_alone}
use Rattle.text.specs.Laws.Lines.{NoNumberLine}

-- An odd number of hex digits.
pub odd_digits : {a : List ℕ} → Bytes a → (c : ℕ) (s : List ℕ) → (c ≡ line_feed → ⊥) → NoHexLine (hex a ++ c ∷ line_feed ∷ s)
odd_digits b c s n =
    no_hex_behind b
    (no_hex_there (λ rest e. n (cons_one e).first) (no_digits_at_two c line_feed s (λ x t. digit_no_feed (x % 16) (sym t.low_is))))

-- No digits, a leading zero, a number too large.
pub no_digits_line : (most : ℕ) (s : List ℕ) → NoNumberLine most (line_feed ∷ s)
no_digits_line most s =
    record {
      none_read = λ n rest l e.
          let r = (run_one none (decimal_digits n) (line_feed ∷ s) (line_feed ∷ rest) (feed_stops s) (feed_stops rest) e).run in
          let k = ap (λ (x : List ℕ). length x) r in
          omega (arith, some_digits n);
    }

pub leading_zero : (most c : ℕ) (s : List ℕ) → IsDigit c → NoNumberLine most (48 ∷ c ∷ s)
leading_zero most c s d =
    record {
      none_read = λ n rest l e.
          let m = run_longer (one (digit_is 0 (omega arith)) (one d none)) (decimal_digits n) s (line_feed ∷ rest) (feed_stops rest) e in
          zero_alone n c m.more m.longer;
    }

pub number_too_large : (most n : ℕ) (s : List ℕ) → most < n → NoNumberLine most (decimal n ++ line_feed ∷ s)
number_too_large most n s l =
    record { none_read = λ m rest k e. let f = (decimal_line_one n m s rest e).number in omega arith }
