-- Readers at work: what is read so far, in front of what is left of the text, and what each way out of a reader's loop says of the whole.
use Rattle.std.specs.Prelude.{ℕ, ◌+◌, ◌-◌, ◌*◌, ◌<◌, ◌≤◌, ◌≡◌, refl, length, get_or, set, Bool, true, false, eqb, Option, Some, None, is_some, ⊤}
use Rattle.std.specs.List.{starts_with}
use Rattle.std.proofs.Math.Numerals.{add-one}
use Rattle.std.proofs.lemmas.Bool.Decides.{Decides-eqb}
use Rattle.std.proofs.lemmas.Slice.Eq.{starts_is}
use mathlib.Core.Bool.{true≢false}
use Rattle.std.proofs.Common.{drop-drop, arith, ◌∙◌, subst, length-append, length-drop, drop_of_length-le, drop-cons, take-suc, take_all, take-suc-set, get_or-drop}
use mathlib.Core.List.{List, [], ◌∷◌, ◌++◌, append_assoc}
use Rattle.std.proofs.Math.Path.{sym, ap, ap₂}
use Rattle.std.proofs.Math.ListN.{take, drop, length-set, get_or-append}
use Rattle.language.specs.Word.{Over, none, one, Bytes}
use Rattle.language.proofs.Laws.Words.{over_join}
use Rattle.text.specs.Digits.{hex, decimal}
use Rattle.text.specs.Told.{TwoDigits, ByteOf, a_byte, no_byte, IsDigit, DigitOf, StopsAt, NoNumber, Begins, begins, begins_not, Grows, grows, grows_not, Passes, passes, passes_not, NoDigits, ReadsByte, reads_byte, reads_no_byte, ReadsHex, ReadsDigit, reads_digit, reads_no_digit, ReadsNumber, reads_number, reads_no_number}
use Rattle.text.specs.Laws.Runs.{stops_end, stops_other}
use Rattle.text.specs.Laws.Hex.{hex_append, no_digits_at_end, no_digits_at_last, no_digits_at_two}
use Rattle.text.specs.Laws.Decimal.{decimal_digits, some_digits}
use Rattle.text.specs.Laws.Growing.{is_digit_of, is_no_digit}

-- What is left of a text: its next number and what is left then.
next : (text : List ℕ) (at : ℕ) → at < length text → drop at text ≡ get_or text at 0 ∷ drop (at + 1) text
next text at l = rw add-one (drop-cons text at 0 l)

-- The slice from a place on.
pub what_is_left : (text : List ℕ) (at : ℕ) → take (length text - at) (drop at text) ≡ drop at text
what_is_left text at = take_all (length text - at) (drop at text) (omega (arith, length-drop at text))

-- A piece of text: its first i numbers are passed.
pub record Passing (text : List ℕ) (from : ℕ) (piece : List ℕ) (i : ℕ) : Type 0 where
  pub inside : i ≤ length piece
  pub room : from + length piece ≤ length text
  pub read : drop from text ≡ take i piece ++ drop (from + i) text

pub none_passed : (text : List ℕ) (from : ℕ) (piece : List ℕ) → from ≤ length text → length piece ≤ length text - from → Passing text from piece 0
none_passed text from piece l m =
    let z : from ≡ from + 0 = omega arith in
    record { inside = omega arith; room = omega arith; read = ap (λ (n : ℕ). drop n text) z }

pub one_passed : {text : List ℕ} {from : ℕ} {piece : List ℕ} {i : ℕ} → Passing text from piece i → i < length piece
    → get_or text (from + i) 0 ≡ get_or piece i 0 → Passing text from piece (i + 1)
one_passed {text} {from} {piece} {i} p l e =
    let r = p.room in
    let n : from + i + 1 ≡ from + (i + 1) = omega arith in
    let t : take (i + 1) piece ≡ take i piece ++ get_or piece i 0 ∷ [] = rw add-one (take-suc piece i 0 l) in
    record {
      inside = omega arith;
      room = r;
      read = p.read
          ∙ ap (λ (s : List ℕ). take i piece ++ s) (next text (from + i) (omega arith))
          ∙ ap₂ (λ (c n : ℕ). take i piece ++ c ∷ drop n text) e n
          ∙ sym (append_assoc (take i piece) (get_or piece i 0 ∷ []) (drop (from + (i + 1)) text))
          ∙ ap (λ (s : List ℕ). s ++ drop (from + (i + 1)) text) (sym t);
    }

pub all_passed : {text : List ℕ} {from : ℕ} {piece : List ℕ} {i : ℕ} → Passing text from piece i → length piece ≤ i
    → Passes text from piece (Some tt) (from + length piece)
all_passed {text} {from} {piece} {i} p l =
    let m = p.inside in
    let n : from + i ≡ from + length piece = omega arith in
    passes p.room (p.read ∙ ap₂ (λ (s : List ℕ) (n : ℕ). s ++ drop n text) (take_all i piece l) n)

pub one_differs : {text : List ℕ} {from : ℕ} {piece : List ℕ} {i : ℕ} → i < length piece → (get_or text (from + i) 0 ≡ get_or piece i 0 → ⊥)
    → Passes text from piece None from
one_differs {text} {from} {piece} {i} l n =
    passes_not
    (λ rest e. n (sym (get_or-drop from text i 0) ∙ ap (λ (s : List ℕ). get_or s i 0) e ∙ get_or-append piece rest 0 i l))

pub too_short : (text : List ℕ) (from : ℕ) (piece : List ℕ) → length text - from < length piece → Passes text from piece None from
too_short text from piece l =
    passes_not (λ rest e. let n = ap (λ (s : List ℕ). length s) e in omega (arith, length-drop from text, length-append piece rest))

-- A piece of text, as a test of what is left tells it.
module _ (text : List ℕ) (from : ℕ) (piece : List ℕ) {r : Bool} (test : r ≡ starts_with eqb (take (length text - from) (drop from text)) piece) where
  tested : r ≡ starts_with eqb (drop from text) piece
  tested = test ∙ ap (λ (s : List ℕ). starts_with eqb s piece) (what_is_left text from)

  pub piece_passed : from ≤ length text → r ≡ true → Passes text from piece (Some tt) (from + length piece)
  piece_passed l t =
      let e : drop from text ≡ piece ++ drop (from + length piece) text =
      (starts_is Decides-eqb (drop from text) piece r tested).0 t ∙ ap (λ (s : List ℕ). piece ++ s) (drop-drop (length piece) from text) in
      let n = ap (λ (s : List ℕ). length s) e in
      passes (omega (arith, length-drop from text, length-append piece (drop (from + length piece) text))) e

  pub piece_missing : r ≡ false → Passes text from piece None from
  piece_missing f =
      passes_not
      (λ rest e. let t = (starts_is Decides-eqb (drop from text) piece r tested).1 rest e in true≢false (sym t ∙ f))

-- Fewer than two numbers are left.
ended_at : (text : List ℕ) (at : ℕ) → length text - at < 2 → NoDigits (drop at text)
ended_at text at l = go (drop at text) (length-drop at text)
  where
    go : (s : List ℕ) → length s ≡ length text - at → NoDigits s
    go [] e = no_digits_at_end
    go (c ∷ []) e = no_digits_at_last c
    go (c ∷ d ∷ s) e = absurd (omega arith)

-- One byte in hex: its two digits, or what stands in their place.
module _ (text : List ℕ) (at : ℕ) where
  -- The two numbers that are left, and what is left then.
  two : 2 ≤ length text - at → drop at text ≡ get_or text at 0 ∷ get_or text (at + 1) 0 ∷ drop (at + 2) text
  two l =
      let m : at + 1 + 1 ≡ at + 2 = omega arith in
      next text at (omega arith)
      ∙ ap (λ (s : List ℕ). get_or text at 0 ∷ s) (next text (at + 1) (omega arith) ∙ ap (λ (k : ℕ). get_or text (at + 1) 0 ∷ drop k text) m)

  pub byte_ended : length text - at < 2 → ReadsByte text at None at
  byte_ended l = reads_no_byte (ended_at text at l)

  pub byte_not : 2 ≤ length text - at → ByteOf (get_or text at 0) (get_or text (at + 1) 0) None → ReadsByte text at None at
  byte_not l b = reads_no_byte (rw (two l) (no_digits_at_two (get_or text at 0) (get_or text (at + 1) 0) (drop (at + 2) text) (no_two b)))
    where
      no_two : {c d : ℕ} → ByteOf c d None → (x : ℕ) → TwoDigits x c d → ⊥
      no_two (no_byte f) x t = f x t

  pub byte_one : {x : ℕ} → 2 ≤ length text - at → ByteOf (get_or text at 0) (get_or text (at + 1) 0) (Some x) → ReadsByte text at (Some x) (at + 2)
  unfolding hex
  byte_one {x} l b =
      let t = is_two b in
      reads_byte (omega arith) t.is_byte (two l ∙ ap₂ (λ (c k : ℕ). c ∷ k ∷ drop (at + 2) text) t.high_is t.low_is)
    where
      is_two : {c d y : ℕ} → ByteOf c d (Some y) → TwoDigits y c d
      is_two (a_byte t) = t

-- The same of the slice from the place on.
module _ (text : List ℕ) (at : ℕ) (rest : List ℕ) (left : rest ≡ take (length text - at) (drop at text)) where
  same_rest : rest ≡ drop at text
  same_rest = left ∙ what_is_left text at

  first_two : {r : Option ℕ} → ByteOf (get_or rest 0 0) (get_or rest 1 0) r → ByteOf (get_or text at 0) (get_or text (at + 1) 0) r
  first_two {r} b =
      let z : at + 0 ≡ at = omega arith in
      let c : get_or rest 0 0 ≡ get_or text at 0 =
      ap (λ (s : List ℕ). get_or s 0 0) same_rest ∙ get_or-drop at text 0 0 ∙ ap (λ (k : ℕ). get_or text k 0) z in
      let d : get_or rest 1 0 ≡ get_or text (at + 1) 0 = ap (λ (s : List ℕ). get_or s 1 0) same_rest ∙ get_or-drop at text 1 0 in
      subst (λ (x : ℕ). ByteOf x (get_or text (at + 1) 0) r) c (subst (λ (y : ℕ). ByteOf (get_or rest 0 0) y r) d b)

  as_many : length rest ≡ length text - at
  as_many = ap (λ (s : List ℕ). length s) same_rest ∙ length-drop at text

  pub rest_ended : length rest < 2 → ReadsByte text at None at
  rest_ended l = let n = as_many in byte_ended text at (omega arith)

  pub rest_not : 2 ≤ length rest → ByteOf (get_or rest 0 0) (get_or rest 1 0) None → ReadsByte text at None at
  rest_not l b = let n = as_many in byte_not text at (omega arith) (first_two b)

  pub rest_one : {x : ℕ} → 2 ≤ length rest → ByteOf (get_or rest 0 0) (get_or rest 1 0) (Some x) → ReadsByte text at (Some x) (at + 2)
  rest_one l b = let n = as_many in byte_one text at (omega arith) (first_two b)

-- Bytes in hex: so many are read, and stand at the start of the room.
pub record HexSoFar (text : List ℕ) (from : ℕ) (room₀ room : List ℕ) (count at : ℕ) : Type 0 where
  pub at_is : at ≡ from + 2 * count
  pub inside : at ≤ length text
  pub in_room : count ≤ length room
  pub as_long : length room ≡ length room₀
  pub bytes : Bytes (take count room)
  pub read : drop from text ≡ hex (take count room) ++ drop at text

pub no_hex_yet : (text : List ℕ) (from : ℕ) (room : List ℕ) → from ≤ length text → HexSoFar text from room room 0 from
unfolding hex
no_hex_yet text from room l =
    record { at_is = omega arith; inside = l; in_room = omega arith; as_long = refl; bytes = none; read = refl }

module _ {text : List ℕ} {from : ℕ} {room₀ room : List ℕ} {count at : ℕ} (h : HexSoFar text from room₀ room count at) where
  -- The bytes so far are all that are read, for there is no room for more, or no digits of one.
  all_hex : (count < length room → NoDigits (drop at text)) → ReadsHex text from count room
  all_hex n =
      let a = h.at_is in
      record {
        inside = rw a at h.inside;
        in_room = h.in_room;
        bytes = h.bytes;
        read = h.read ∙ ap (λ (k : ℕ). hex (take count room) ++ drop k text) a;
        ends = λ l. subst (λ (k : ℕ). NoDigits (drop k text)) a (n l);
      }

  pub hex_full : length room ≤ count → ReadsHex text from count room
  hex_full l = all_hex (λ m. absurd (omega arith))

  pub hex_no_more : {to : ℕ} → ReadsByte text at None to → ReadsHex text from count room
  hex_no_more (reads_no_byte n) = all_hex (λ _. n)

  pub hex_ended : length text - at < 2 → ReadsHex text from count room
  hex_ended l = hex_no_more (byte_ended text at l)

  pub hex_not : 2 ≤ length text - at → ByteOf (get_or text at 0) (get_or text (at + 1) 0) None → ReadsHex text from count room
  hex_not l b = hex_no_more (byte_not text at l b)

  -- One byte more.
  pub hex_more : {x to : ℕ} → count < length room → ReadsByte text at (Some x) to → HexSoFar text from room₀ (set room count x) (count + 1) to
  hex_more {x} k (reads_byte l b e) =
      let a = h.at_is in
      let n = length-set room count x in
      let t : take (count + 1) (set room count x) ≡ take count room ++ x ∷ [] = rw add-one (take-suc-set room count x k) in
      record {
        at_is = omega arith;
        inside = omega arith;
        in_room = omega arith;
        as_long = n ∙ h.as_long;
        bytes = rw t (over_join h.bytes (one b none));
        read = h.read
            ∙ ap (λ (s : List ℕ). hex (take count room) ++ s) e
            ∙ sym (append_assoc (hex (take count room)) (hex (x ∷ [])) (drop (at + 2) text))
            ∙ ap (λ (s : List ℕ). s ++ drop (at + 2) text) (sym (ap hex t ∙ hex_append (take count room) (x ∷ [])));
      }

  pub hex_one : {x : ℕ} → count < length room → 2 ≤ length text - at → ByteOf (get_or text at 0) (get_or text (at + 1) 0) (Some x)
      → HexSoFar text from room₀ (set room count x) (count + 1) (at + 2)
  hex_one k l b = hex_more k (byte_one text at l b)

-- One digit, or what stands in its place.
module _ (text : List ℕ) (at : ℕ) where
  -- The number that stands there is a digit, or it is none.
  pub digit_read : {c n : ℕ} → at < length text → c ≡ get_or text at 0 → DigitOf c (Some n) → ReadsDigit text at (Some c) (at + 1)
  digit_read l e d = reads_digit l (is_digit_of d).digit (next text at l ∙ ap (λ (x : ℕ). x ∷ drop (at + 1) text) (sym e))

  pub digit_other : {c : ℕ} → at < length text → c ≡ get_or text at 0 → DigitOf c None → ReadsDigit text at None at
  digit_other l e d = reads_no_digit (rw (next text at l) (stops_other (λ i. is_no_digit d (rw e i))))

  pub digit_one : at < length text → IsDigit (get_or text at 0) → ReadsDigit text at (Some (get_or text at 0)) (at + 1)
  digit_one l d = reads_digit l d (next text at l)

  pub digit_not : at < length text → (IsDigit (get_or text at 0) → ⊥) → ReadsDigit text at None at
  digit_not l n = reads_no_digit (rw (next text at l) (stops_other n))

  pub digit_ended : length text ≤ at → ReadsDigit text at None at
  digit_ended l = reads_no_digit (rw (drop_of_length-le text l) stops_end)

-- A number: the digits that are read so far are those of a number that is not too large.
pub record NumberSoFar (text : List ℕ) (from most value at : ℕ) : Type 0 where
  pub inside : at ≤ length text
  pub small : value ≤ most
  pub read : drop from text ≡ decimal value ++ drop at text

-- A digit that is read leaves less of the text.
pub record Further (text : List ℕ) (from to : ℕ) : Type 0 where
  pub inside : from < length text
  pub next : to ≡ from + 1

pub goes_further : {text : List ℕ} {from c to : ℕ} → ReadsDigit text from (Some c) to → Further text from to
goes_further (reads_digit l d e) = record { inside = l; next = refl }

-- A reader of a digit or of a piece does not go back.
pub digit_goes_on : {text : List ℕ} {from to : ℕ} {r : Option ℕ} → ReadsDigit text from r to → from ≤ to
digit_goes_on (reads_digit l d e) = omega arith
digit_goes_on (reads_no_digit n) = omega arith

pub pass_goes_on : {text piece : List ℕ} {from to : ℕ} {r : Option ⊤} → from ≤ length text → Passes text from piece r to → from ≤ to
pass_goes_on {text} {piece} {from} {to} l (passes m e) =
    let n = ap (λ (s : List ℕ). length s) e in
    omega (arith, length-append piece (drop to text), length-drop from text, length-drop to text)
pass_goes_on l (passes_not f) = omega arith

-- Where no digit stands, there is no number.
pub number_no_digit : {text : List ℕ} {from to last : ℕ} (most : ℕ) → ReadsDigit text from None to → ReadsNumber text from most None last
number_no_digit {text} {from} most (reads_no_digit n) = reads_no_number (record { none_read = λ m t s stop h. no_run t (decimal_digits m) (some_digits m) h })
  where
    no_run : {digits : List ℕ} (t : List ℕ) → Over IsDigit digits → 0 < length digits → drop from text ≡ digits ++ t → ⊥
    no_run t none l h = omega arith
    no_run t (one {c} {w} d k) l h = n.stops c (w ++ t) h d

pub number_at_end : (text : List ℕ) (from most : ℕ) → from ≡ length text → {to : ℕ} → ReadsNumber text from most None to
number_at_end text from most e = number_no_digit most (digit_ended text from (omega arith))

-- A number with these digits, not too large.
record Grown (most v : ℕ) (s : List ℕ) : Type 0 where
  small : v ≤ most
  digits : decimal v ≡ s

begun : {c most v : ℕ} → Begins c most (Some v) → Grown most v (c ∷ [])
begun (begins l e) = record { small = l; digits = e }

not_begun : {c most : ℕ} → Begins c most None → (rest : List ℕ) → NoNumber most (c ∷ rest)
not_begun (begins_not f) = f

-- The first digit, and the number that it begins.
pub number_first : {text : List ℕ} {from most c v to : ℕ} → ReadsDigit text from (Some c) to → Begins c most (Some v) → NumberSoFar text from most v to
number_first {text} {from} (reads_digit l d e) b =
    let g = begun b in
    record {
      inside = omega arith;
      small = g.small;
      read = e ∙ ap (λ (s : List ℕ). s ++ drop (from + 1) text) (sym g.digits);
    }

pub number_not_first : {text : List ℕ} {from most c to last : ℕ} → ReadsDigit text from (Some c) to → Begins c most None → ReadsNumber text from most None last
number_not_first {text} {from} (reads_digit l d e) b = reads_no_number (rw e (not_begun b (drop (from + 1) text)))

module _ (text : List ℕ) (from most : ℕ) (l : from ≤ length text) (n : from ≡ length text → ⊥) where
  pub number_begun : {v : ℕ} → Begins (get_or text from 0) most (Some v) → NumberSoFar text from most v (from + 1)
  number_begun first =
      let m : from < length text = omega arith in
      let g = begun first in
      record {
        inside = omega arith;
        small = g.small;
        read = next text from m ∙ ap (λ (s : List ℕ). s ++ drop (from + 1) text) (sym g.digits);
      }

  pub number_not_begun : Begins (get_or text from 0) most None → {to : ℕ} → ReadsNumber text from most None to
  number_not_begun first =
      let m : from < length text = omega arith in
      reads_no_number (rw (next text from m) (not_begun first (drop (from + 1) text)))

grown : {c most value v : ℕ} → Grows value c most (Some v) → Grown most v (decimal value ++ c ∷ [])
grown (grows l e) = record { small = l; digits = e }

not_grown : {c most value : ℕ} → Grows value c most None → (rest : List ℕ) → IsDigit c → NoNumber most (decimal value ++ c ∷ rest)
not_grown (grows_not f) = f

module _ {text : List ℕ} {from most value at : ℕ} (h : NumberSoFar text from most value at) where
  -- The digits end at a number that is none, or with the text.
  pub number_done : {to : ℕ} → ReadsDigit text at None to → ReadsNumber text from most (Some value) to
  number_done (reads_no_digit s) = reads_number {n = value} {to = at} h.inside h.small s h.read

  pub number_stops : at < length text → (IsDigit (get_or text at 0) → ⊥) → ReadsNumber text from most (Some value) at
  number_stops l n = number_done (digit_not text at l n)

  pub number_ended : length text ≤ at → ReadsNumber text from most (Some value) at
  number_ended l = number_done (digit_ended text at l)

  -- One digit more, or too many.
  one_more : {c v : ℕ} → at < length text → drop at text ≡ c ∷ drop (at + 1) text → Grows value c most (Some v) → NumberSoFar text from most v (at + 1)
  one_more {c} l e g =
      let k = grown g in
      record {
        inside = omega arith;
        small = k.small;
        read = h.read ∙ ap (λ (s : List ℕ). decimal value ++ s) e ∙ sym (append_assoc (decimal value) (c ∷ []) (drop (at + 1) text))
            ∙ ap (λ (s : List ℕ). s ++ drop (at + 1) text) (sym k.digits);
      }

  pub number_more : {c v to : ℕ} → ReadsDigit text at (Some c) to → Grows value c most (Some v) → NumberSoFar text from most v to
  number_more (reads_digit l d e) g = one_more l e g

  pub number_too_far : {c to last : ℕ} → ReadsDigit text at (Some c) to → Grows value c most None → ReadsNumber text from most None last
  number_too_far {c} (reads_digit l d e) g =
      reads_no_number
      (subst (λ (s : List ℕ). NoNumber most s) (sym (h.read ∙ ap (λ (s : List ℕ). decimal value ++ s) e)) (not_grown g (drop (at + 1) text) d))

  pub number_grown : {v : ℕ} → at < length text → Grows value (get_or text at 0) most (Some v) → NumberSoFar text from most v (at + 1)
  number_grown l g = one_more l (next text at l) g

  pub number_not : {to : ℕ} → at < length text → IsDigit (get_or text at 0) → Grows value (get_or text at 0) most None → ReadsNumber text from most None to
  number_not l d g = number_too_far (digit_one text at l d) g

-- What a reader's answer says: a piece is passed, up to a place, or it does not stand there.
pub record PassedTo (text : List ℕ) (from : ℕ) (piece : List ℕ) (at : ℕ) : Type 0 where
  pub inside : at ≤ length text
  pub read : drop from text ≡ piece ++ drop at text

module _ {text : List ℕ} {from : ℕ} {piece : List ℕ} where
  pub passed_to : {done : ⊤} {at : ℕ} → Passes text from piece (Some done) at → PassedTo text from piece at
  passed_to (passes l e) = record { inside = l; read = e }

  pub passed_not : {at : ℕ} → Passes text from piece None at → (rest : List ℕ) → drop from text ≡ piece ++ rest → ⊥
  passed_not (passes_not f) = f

  -- The same where it is asked whether the piece was passed, as a caller with another piece to try does.
  pub passed_some : {r : Option ⊤} {at : ℕ} → Passes text from piece r at → is_some r ≡ true → PassedTo text from piece at
  passed_some (passes l e) t = record { inside = l; read = e }
  passed_some (passes_not f) t = absurd (true≢false (sym t))

  pub passed_none : {r : Option ⊤} {at : ℕ} → Passes text from piece r at → is_some r ≡ false → Passes text from piece None at
  passed_none (passes l e) t = absurd (true≢false t)
  passed_none (passes_not f) t = passes_not f

  pub stays : {at : ℕ} → Passes text from piece None at → at ≡ from
  stays (passes_not f) = refl

-- A number is read, up to a place, or there is none.
pub record NumberTo (text : List ℕ) (from most n to : ℕ) : Type 0 where
  pub inside : to ≤ length text
  pub small : n ≤ most
  pub stops : StopsAt IsDigit (drop to text)
  pub read : drop from text ≡ decimal n ++ drop to text

pub number_to : {text : List ℕ} {from most n to : ℕ} → ReadsNumber text from most (Some n) to → NumberTo text from most n to
number_to (reads_number l k s e) = record { inside = l; small = k; stops = s; read = e }

pub no_number : {text : List ℕ} {from most to : ℕ} → ReadsNumber text from most None to → NoNumber most (drop from text)
no_number (reads_no_number n) = n
