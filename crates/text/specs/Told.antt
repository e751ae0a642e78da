-- What the readers and writers tell. Named by contracts alone.
use Rattle.std.specs.Prelude.{ℕ, ◌+◌, ◌*◌, ◌/◌, ◌%◌, ◌<◌, ◌≤◌, List, [], ◌∷◌, ◌++◌, ◌≡◌, length, take, drop, Option, Some, None, ⊤}
use Rattle.language.specs.Word.{Bytes}
use Rattle.text.specs.Ascii.{line}
use Rattle.text.specs.Digits.{hex_digit, hex, decimal_digit, decimal}

-- Hex digits.

-- A digit stands for a half of a byte, or for none.
pub data HalfOf (c : ℕ) : Option ℕ → Type 0 where
  half : {h : ℕ} → h < 16 → c ≡ hex_digit h → HalfOf c (Some h)
  no_half : ((h : ℕ) → h < 16 → c ≡ hex_digit h → ⊥) → HalfOf c None

-- Two digits stand for one byte.
pub record TwoDigits (byte high low : ℕ) : Type 0 where
  pub is_byte : byte < 256
  pub high_is : high ≡ hex_digit (byte / 16)
  pub low_is : low ≡ hex_digit (byte % 16)

pub data ByteOf (high low : ℕ) : Option ℕ → Type 0 where
  a_byte : {b : ℕ} → TwoDigits b high low → ByteOf high low (Some b)
  no_byte : ((b : ℕ) → TwoDigits b high low → ⊥) → ByteOf high low None

-- Decimal digits.

pub record IsDigit (c : ℕ) : Type 0 where
  pub least : 48 ≤ c
  pub most : c ≤ 57

-- A digit stands for a number below 10, or for none.
pub data DigitOf (c : ℕ) : Option ℕ → Type 0 where
  a_digit : {n : ℕ} → n < 10 → c ≡ decimal_digit n → DigitOf c (Some n)
  no_digit : (IsDigit c → ⊥) → DigitOf c None

-- A list does not begin with a number that P names.
pub record StopsAt (P : ℕ → Type 0) (s : List ℕ) : Type 0 where
  pub stops : (c : ℕ) (rest : List ℕ) → s ≡ c ∷ rest → P c → ⊥

-- A text does not begin with the digits, all of them, of a number that is not too large.
pub record NoNumber (most : ℕ) (text : List ℕ) : Type 0 where
  pub none_read : (n : ℕ) (rest : List ℕ) → n ≤ most → StopsAt IsDigit rest → text ≡ decimal n ++ rest → ⊥

-- The first digit, and one digit more.
pub data Begins (c most : ℕ) : Option ℕ → Type 0 where
  begins : {n : ℕ} → n ≤ most → decimal n ≡ c ∷ [] → Begins c most (Some n)
  begins_not : ((rest : List ℕ) → NoNumber most (c ∷ rest)) → Begins c most None

pub data Grows (value c most : ℕ) : Option ℕ → Type 0 where
  grows : {n : ℕ} → n ≤ most → decimal n ≡ decimal value ++ c ∷ [] → Grows value c most (Some n)
  grows_not : ((rest : List ℕ) → IsDigit c → NoNumber most (decimal value ++ c ∷ rest)) → Grows value c most None

-- Readers. Each says what stands in the text from a place on, and the place behind that, where the reader goes on; or that nothing of its form
-- stands there, whatever follows.

-- A piece of text. Where it does not stand there, the reader stays.
pub data Passes (text : List ℕ) (from : ℕ) (piece : List ℕ) : Option ⊤ → ℕ → Type 0 where
  passes : {done : ⊤} {to : ℕ} → to ≤ length text → drop from text ≡ piece ++ drop to text → Passes text from piece (Some done) to
  passes_not : ((rest : List ℕ) → drop from text ≡ piece ++ rest → ⊥) → Passes text from piece None from

-- The digits of no byte stand in front.
pub record NoDigits (text : List ℕ) : Type 0 where
  pub none_read : (byte : ℕ) (rest : List ℕ) → byte < 256 → text ≡ hex_digit (byte / 16) ∷ hex_digit (byte % 16) ∷ rest → ⊥

-- One byte in hex. Where none stands there, the reader stays.
pub data ReadsByte (text : List ℕ) (from : ℕ) : Option ℕ → ℕ → Type 0 where
  reads_byte : {byte : ℕ} → from + 2 ≤ length text → byte < 256 → drop from text ≡ hex (byte ∷ []) ++ drop (from + 2) text
      → ReadsByte text from (Some byte) (from + 2)
  reads_no_byte : NoDigits (drop from text) → ReadsByte text from None from

-- Bytes in hex, which stand at the start of the room: the digits go on only where the room is full. The place behind them follows from their count.
pub record ReadsHex (text : List ℕ) (from count : ℕ) (room : List ℕ) : Type 0 where
  pub inside : from + 2 * count ≤ length text
  pub in_room : count ≤ length room
  pub bytes : Bytes (take count room)
  pub read : drop from text ≡ hex (take count room) ++ drop (from + 2 * count) text
  pub ends : count < length room → NoDigits (drop (from + 2 * count) text)

-- One decimal digit. Where none stands there, the reader stays.
pub data ReadsDigit (text : List ℕ) (from : ℕ) : Option ℕ → ℕ → Type 0 where
  reads_digit : {c : ℕ} → from < length text → IsDigit c → drop from text ≡ c ∷ drop (from + 1) text → ReadsDigit text from (Some c) (from + 1)
  reads_no_digit : StopsAt IsDigit (drop from text) → ReadsDigit text from None from

-- A number, with all of its digits.
pub data ReadsNumber (text : List ℕ) (from most : ℕ) : Option ℕ → ℕ → Type 0 where
  reads_number : {n to : ℕ} → to ≤ length text → n ≤ most → StopsAt IsDigit (drop to text) → drop from text ≡ decimal n ++ drop to text
      → ReadsNumber text from most (Some n) to
  reads_no_number : {to : ℕ} → NoNumber most (drop from text) → ReadsNumber text from most None to

-- Lines with their names.
pub data ReadsHexLine (text : List ℕ) (from : ℕ) (name : List ℕ) : Option ℕ → ℕ → List ℕ → Type 0 where
  reads_hex_line : {count to : ℕ} {room : List ℕ} → to ≤ length text → count ≤ length room → Bytes (take count room)
      → drop from text ≡ line name (hex (take count room)) ++ drop to text → ReadsHexLine text from name (Some count) to room
  reads_no_hex_line : {to : ℕ} {room : List ℕ} → ((bytes rest : List ℕ) → Bytes bytes → drop from text ≡ line name (hex bytes) ++ rest → ⊥)
      → ReadsHexLine text from name None to room

pub data ReadsNumberLine (text : List ℕ) (from : ℕ) (name : List ℕ) (most : ℕ) : Option ℕ → ℕ → Type 0 where
  reads_number_line : {n to : ℕ} → to ≤ length text → n ≤ most → drop from text ≡ line name (decimal n) ++ drop to text
      → ReadsNumberLine text from name most (Some n) to
  reads_no_number_line : {to : ℕ} → ((n : ℕ) (rest : List ℕ) → n ≤ most → drop from text ≡ line name (decimal n) ++ rest → ⊥)
      → ReadsNumberLine text from name most None to

-- Writers.

-- A piece stands from a place on, up to where it ends; what stands before it and behind it is as it was.
pub record Puts (out : List ℕ) (at : ℕ) (piece : List ℕ) (to : ℕ) (out' : List ℕ) : Type 0 where
  pub ends : to ≡ at + length piece
  pub stands : take to out' ≡ take at out ++ piece
  pub rest : drop to out' ≡ drop to out

-- How long a number and its line feed can be.
abbrev pub most_number : ℕ
most_number = 21
