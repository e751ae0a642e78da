-- Lines with names have one reading each: so what stands behind a name, read up to its line feed, is the line, or there is none.
use Rattle.std.specs.Prelude.{ℕ, ◌+◌, ◌*◌, ◌≤◌, Bool, true, false, List, [], ◌∷◌, ◌++◌, ◌≡◌, refl, ltb, length, take, drop, Some, None}
use Rattle.std.proofs.Common.{arith, sym, ◌∙◌, ap, drop_of_length-le, ltb-true, ltb-false}
use Rattle.std.proofs.lemmas.List.{append_cancel_left}
use Rattle.language.specs.Word.{Bytes}
use Rattle.text.specs.Ascii.{line_feed, line}
use Rattle.text.specs.Digits.{hex, decimal}
use Rattle.text.specs.Told.{NoNumber, NoDigits, ReadsHex, ReadsHexLine, reads_hex_line, reads_no_hex_line, ReadsNumberLine, reads_number_line, reads_no_number_line}
use Rattle.text.specs.Laws.Runs.{line_then, SameRun}
use Rattle.text.specs.Laws.Hex.{NoHexLine, hex_line_one, no_hex_behind, no_hex_there, no_digits_at_end}
use Rattle.text.specs.Laws.Decimal.{feed_stops, SameNumber, decimal_run_one, decimal_line_one}
use Rattle.text.specs.Laws.Reading.{PassedTo, NumberTo}

-- No decimal line of a number that is not too large stands in front of a text.
pub record NoNumberLine (most : ℕ) (text : List ℕ) : Type 0 where
  pub none_read : (n : ℕ) (rest : List ℕ) → n ≤ most → text ≡ decimal n ++ line_feed ∷ rest → ⊥

-- A named line has one reading.
pub named_hex_one : {a b : List ℕ} (name s t : List ℕ) → Bytes a → Bytes b → line name (hex a) ++ s ≡ line name (hex b) ++ t → SameRun a s b t
named_hex_one {a} {b} name s t h k e =
    hex_line_one h k s t
    (append_cancel_left name (hex a ++ line_feed ∷ s) (hex b ++ line_feed ∷ t) (sym (line_then name (hex a) s) ∙ e ∙ line_then name (hex b) t))

pub named_number_one : (name s t : List ℕ) (m n : ℕ) → line name (decimal m) ++ s ≡ line name (decimal n) ++ t → SameNumber m s n t
named_number_one name s t m n e =
    decimal_line_one m n s t
    (append_cancel_left name (decimal m ++ line_feed ∷ s) (decimal n ++ line_feed ∷ t)
    (sym (line_then name (decimal m) s) ∙ e ∙ line_then name (decimal n) t))

-- A line's value and its line feed, behind the name.
module _ {text : List ℕ} {from : ℕ} {name : List ℕ} {at : ℕ} (named : PassedTo text from name at) where
  -- What stands behind the name is the line's value, and what the line is, behind its name.
  behind : (value rest : List ℕ) → drop from text ≡ line name value ++ rest → drop at text ≡ value ++ line_feed ∷ rest
  behind value rest e = append_cancel_left name (drop at text) (value ++ line_feed ∷ rest) (sym named.read ∙ e ∙ line_then name value rest)

  in_front : (value : List ℕ) {to next : ℕ} → drop at text ≡ value ++ drop to text → PassedTo text to (line_feed ∷ []) next
      → drop from text ≡ line name value ++ drop next text
  in_front value {next = next} e p =
      named.read
      ∙ ap (λ (s : List ℕ). name ++ s) (e ∙ ap (λ (s : List ℕ). value ++ s) p.read)
      ∙ sym (line_then name value (drop next text))

  -- Bytes in hex, and a line feed behind them; where there is none, or no digits, no line of hex stands there.
  pub a_hex_line : {count : ℕ} {room : List ℕ} {next : ℕ} → ReadsHex text at count room → PassedTo text (at + 2 * count) (line_feed ∷ []) next
      → ReadsHexLine text from name (Some count) next room
  a_hex_line {count} {room} h p = reads_hex_line p.inside h.in_room h.bytes (in_front (hex (take count room)) h.read p)

  no_more_digits : {count : ℕ} {room : List ℕ} → length text ≤ 2 * length room → ReadsHex text at count room → NoDigits (drop (at + 2 * count) text)
  no_more_digits {count} {room} l h = go (ltb count (length room)) refl
    where
      go : (b : Bool) → ltb count (length room) ≡ b → NoDigits (drop (at + 2 * count) text)
      go true e = h.ends (ltb-true count (length room) e)
      go false e =
          let k = ltb-false count (length room) e in
          let m : length text ≤ at + 2 * count = omega arith in
          rw (drop_of_length-le text m) no_digits_at_end

  pub no_hex_feed : {count : ℕ} {room : List ℕ} → length text ≤ 2 * length room → ReadsHex text at count room
      → ((rest : List ℕ) → drop (at + 2 * count) text ≡ line_feed ∷ rest → ⊥) → {to : ℕ} → ReadsHexLine text from name None to room
  no_hex_feed l h n =
      let m : NoHexLine (drop at text) = rw h.read (no_hex_behind h.bytes (no_hex_there n (no_more_digits l h))) in
      reads_no_hex_line (λ bytes rest b e. m.none_read bytes rest b (behind (hex bytes) rest e))

  -- A number, and a line feed behind it.
  no_line : {most to : ℕ} → NoNumberLine most (drop at text) → ReadsNumberLine text from name most None to
  no_line n = reads_no_number_line (λ m rest l e. n.none_read m rest l (behind (decimal m) rest e))

  pub a_number_line : {most n to next : ℕ} → NumberTo text at most n to → PassedTo text to (line_feed ∷ []) next
      → ReadsNumberLine text from name most (Some n) next
  a_number_line {n = n} h p = reads_number_line p.inside h.small (in_front (decimal n) h.read p)

  pub no_number_feed : {most n to last : ℕ} → NumberTo text at most n to → ((rest : List ℕ) → drop to text ≡ line_feed ∷ rest → ⊥)
      → ReadsNumberLine text from name most None last
  no_number_feed {n = n} h f =
      no_line
      (record { none_read = λ m rest l e. f rest (decimal_run_one n m h.stops (feed_stops rest) (sym h.read ∙ e)).rest })

  pub no_number_line : {most to : ℕ} → NoNumber most (drop at text) → ReadsNumberLine text from name most None to
  no_number_line n = no_line (record { none_read = λ m rest l e. n.none_read m (line_feed ∷ rest) l (feed_stops rest) e })

-- The name does not stand there.
module _ {text : List ℕ} {from : ℕ} {name : List ℕ} (n : (rest : List ℕ) → drop from text ≡ name ++ rest → ⊥) where
  pub no_hex_name : {to : ℕ} {room : List ℕ} → ReadsHexLine text from name None to room
  no_hex_name = reads_no_hex_line (λ bytes rest b e. n (hex bytes ++ line_feed ∷ rest) (e ∙ line_then name (hex bytes) rest))

  pub no_number_name : {most to : ℕ} → ReadsNumberLine text from name most None to
  no_number_name = reads_no_number_line (λ k rest l e. n (decimal k ++ line_feed ∷ rest) (e ∙ line_then name (decimal k) rest))

-- A line is read, up to the next: what can stand behind it is what does.
pub record HexIs (text : List ℕ) (from : ℕ) (name room : List ℕ) (count to : ℕ) : Type 0 where
  pub inside : to ≤ length text
  pub in_room : count ≤ length room
  pub bytes : Bytes (take count room)
  pub read : drop from text ≡ line name (hex (take count room)) ++ drop to text

pub record NumberIs (text : List ℕ) (from : ℕ) (name : List ℕ) (most n to : ℕ) : Type 0 where
  pub inside : to ≤ length text
  pub small : n ≤ most
  pub read : drop from text ≡ line name (decimal n) ++ drop to text

module _ {text : List ℕ} {from : ℕ} {name : List ℕ} where
  pub hex_is : {room : List ℕ} {count to : ℕ} → ReadsHexLine text from name (Some count) to room → HexIs text from name room count to
  hex_is (reads_hex_line l m b r) = record { inside = l; in_room = m; bytes = b; read = r }

  pub hex_is_not : {room : List ℕ} {to : ℕ} → ReadsHexLine text from name None to room → (bytes rest : List ℕ) → Bytes bytes
      → drop from text ≡ line name (hex bytes) ++ rest → ⊥
  hex_is_not (reads_no_hex_line f) = f

  pub number_is : {most n to : ℕ} → ReadsNumberLine text from name most (Some n) to → NumberIs text from name most n to
  number_is (reads_number_line l m r) = record { inside = l; small = m; read = r }

  pub number_is_not : {most to : ℕ} → ReadsNumberLine text from name most None to → (n : ℕ) (rest : List ℕ) → n ≤ most
      → drop from text ≡ line name (decimal n) ++ rest → ⊥
  number_is_not (reads_no_number_line f) = f

  pub hex_behind : {room : List ℕ} {count to : ℕ} → HexIs text from name room count to → (bytes rest : List ℕ) → Bytes bytes
      → drop from text ≡ line name (hex bytes) ++ rest → drop to text ≡ rest
  hex_behind {to = to} h bytes rest b e = (named_hex_one name (drop to text) rest h.bytes b (sym h.read ∙ e)).rest

  pub number_behind : {most m to : ℕ} → NumberIs text from name most m to → (n : ℕ) (rest : List ℕ)
      → drop from text ≡ line name (decimal n) ++ rest → drop to text ≡ rest
  number_behind {m = m} {to} h n rest e = (named_number_one name (drop to text) rest m n (sym h.read ∙ e)).rest
