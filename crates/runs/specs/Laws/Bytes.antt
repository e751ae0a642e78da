-- Bytes: the two of a number, those of a list, and those that are put down in a part of a room.
use Rattle.std.specs.Prelude.{ℕ, zero, suc, ◌+◌, ◌*◌, ◌-◌, ◌/◌, ◌%◌, ◌<◌, ◌≤◌, List, ◌++◌, ◌≡◌, length, get_or, take, drop}
use Rattle.std.proofs.Common.{arith, append-nil, ◌∙◌, ap, length-drop, drop_of_length-le, take_all, drop-drop}
use Rattle.std.proofs.Math.Seq.{drop-append-add}
use Rattle.language.specs.Word.{none, one, Bytes}

-- The two bytes of a number, low byte first: joined they are the number, and two bytes are those of the number that they are joined to.

pub two_bytes : (n : ℕ) → n % 256 + 256 * (n / 256) ≡ n
two_bytes n = omega arith

pub low_byte : (a b : ℕ) → a < 256 → (a + 256 * b) % 256 ≡ a
low_byte a b l = omega arith

pub high_byte : (a b : ℕ) → a < 256 → (a + 256 * b) / 256 ≡ b
high_byte a b l = omega arith

-- They are bytes, where the number is one of two bytes.

pub low_is_byte : (n : ℕ) → n % 256 < 256
low_is_byte n = omega arith

pub high_is_byte : (n : ℕ) → n < 65536 → n / 256 < 256
high_is_byte n l = omega arith

-- Numbers of two bytes are told apart in a larger number.
pub two_apart : (a b x y : ℕ) → a < 65536 → x < 65536 → a + 65536 * b ≡ x + 65536 * y → (a ≡ x) × (b ≡ y)
two_apart a b x y l m e = (omega arith, omega arith)

-- A number of a list of bytes is a byte, and what is behind some of them is bytes.

pub byte_at : {s : List ℕ} → Bytes s → (i : ℕ) → get_or s i 0 < 256
byte_at none i = omega arith
byte_at (one b o) zero = b
byte_at (one b o) (suc i) = byte_at o i

pub bytes_drop : (n : ℕ) {s : List ℕ} → Bytes s → Bytes (drop n s)
bytes_drop zero b = b
bytes_drop (suc n) none = none
bytes_drop (suc n) (one _ o) = bytes_drop n o

-- What bytes at the start of a room cover of it does not matter behind them.
pub behind_covered : (bytes room : List ℕ) (n m : ℕ) → length bytes ≡ n → n ≤ m → drop m (bytes ++ drop n room) ≡ drop m room
behind_covered bytes room n m long l =
    let e : m ≡ length bytes + (m - n) = omega arith in
    let f : n + (m - n) ≡ m = omega arith in
    ap (λ (k : ℕ). drop k (bytes ++ drop n room)) e ∙ drop-append-add bytes (drop n room) (m - n) ∙ drop-drop (m - n) n room
    ∙ ap (λ (k : ℕ). drop k room) f

-- So many bytes laid at the start of the part of a room that starts at n.
pub put_in_part : (many n : ℕ) (room bytes : List ℕ) {part : List ℕ} → part ≡ bytes ++ drop many (take (length room - n) (drop n room))
    → take n room ++ (part ++ drop (length room - n) (drop n room)) ≡ take n room ++ (bytes ++ drop (n + many) room)
put_in_part many n room bytes e =
    let l : length (drop n room) ≤ length room - n = omega (arith, length-drop n room) in
    rw (e, take_all (length room - n) (drop n room) l, drop_of_length-le (drop n room) {i = length room - n} l, append-nil, drop-drop many n room)
