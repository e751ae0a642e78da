-- Numbers and bytes as digits, in ASCII: `0` has the code 48 and `a` the code 97.
-- Document 01: "in lower-case hex"; "decimal, no leading zeros".
use Rattle.std.specs.Prelude.{ℕ, zero, suc, ◌+◌, ◌-◌, ◌/◌, ◌%◌, true, false, cond, List, [], ◌∷◌, ◌++◌, ltb}

-- A lower-case hex digit, of a number below 16.
abbrev pub hex_digit : ℕ → ℕ
hex_digit half = cond (ltb half 10) (48 + half) (97 + (half - 10))

-- Two digits a byte, the high half first.
unfoldable pub hex : List ℕ → List ℕ
hex [] = []
hex (byte ∷ bytes) = hex_digit (byte / 16) ∷ hex_digit (byte % 16) ∷ hex bytes

-- A decimal digit, of a number below 10.
abbrev pub decimal_digit : ℕ → ℕ
decimal_digit n = 48 + n

-- A number below 10 is one digit; any other is written by writing its tenth part, then its last digit. So no number but 0 begins with a zero.
-- A tenth part is lower than its number, so a depth above the number is enough.
unfoldable pub decimal_to : ℕ → ℕ → List ℕ
decimal_to zero n = []
decimal_to (suc depth) n =
    elim (ltb n 10) [ true ↦ decimal_digit n ∷ [] | false ↦ decimal_to depth (n / 10) ++ decimal_digit (n % 10) ∷ [] ]

unfoldable pub decimal : ℕ → List ℕ
unfolding decimal_to
decimal n = decimal_to (suc n) n
