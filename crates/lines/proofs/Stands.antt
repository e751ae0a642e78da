-- What is read behind a key stands behind it, and the key before it.
use Rattle.std.proofs.Common.{ℕ, ◌+◌, ◌*◌, ◌≤◌, ◌≡◌, List, [], ◌∷◌, ◌++◌, Option, Some, IfSome, IfNone, length, drop, take, subst, sym, ap, ◌∙◌, append_assoc}
use Rattle.std.specs.Prelude.{⊤}
use native.Mathlib.Omega.{arith}
use Rattle.std.proofs.lemmas.List.{append_cancel_left, length-take-le}
use Rattle.text.specs.Digits.{hex, decimal}
use Rattle.text.specs.Told.{NoDigits, NoNumber, Passes, passes, ReadsByte, reads_byte, reads_no_byte, ReadsNumber, reads_number, reads_no_number, ReadsHex}
use Rattle.lines.specs.Line.{Stands, DigitsEnd, NoByte, NoneUpTo}

behind : {text key : List ℕ} {from at to : ℕ} {done : ⊤} (piece : List ℕ) → Passes text from key (Some done) at → to ≤ length text
    → drop at text ≡ piece ++ drop to text → Stands text from (key ++ piece) to
behind {text} {key} {to = to} piece (passes l e) inside stands =
    record { inside = inside; stands = e ∙ ap (λ (s : List ℕ). key ++ s) stands ∙ sym (append_assoc key piece (drop to text)) }

byte_behind : {text key : List ℕ} {from at to : ℕ} {done : ⊤} {r : Option ℕ} → Passes text from key (Some done) at → ReadsByte text at r to
    → IfSome r (λ byte. Stands text from (key ++ hex (byte ∷ [])) to)
byte_behind p (reads_byte l m e) = behind _ p l e
byte_behind p (reads_no_byte n) = tt

number_behind : {text key : List ℕ} {from at to most : ℕ} {done : ⊤} {r : Option ℕ} → Passes text from key (Some done) at
    → ReadsNumber text at most r to → IfSome r (λ number. Stands text from (key ++ decimal number) to)
number_behind p (reads_number l m n e) = behind _ p l e
number_behind p (reads_no_number n) = tt

-- What holds of all that is left behind the key holds of what stands behind it.
of_rest : {text key : List ℕ} {from at : ℕ} {done : ⊤} (P : List ℕ → Type 0) → Passes text from key (Some done) at → P (drop at text)
    → (rest : List ℕ) → drop from text ≡ key ++ rest → P rest
of_rest {text} {key} {at = at} P (passes l e) held rest f = subst P (append_cancel_left key (drop at text) rest (sym e ∙ f)) held

no_byte_behind : {text key : List ℕ} {from at to : ℕ} {done : ⊤} {r : Option ℕ} → Passes text from key (Some done) at → ReadsByte text at r to
    → IfNone r (NoByte text from key)
no_byte_behind p (reads_byte l m e) = tt
no_byte_behind p (reads_no_byte n) = of_rest NoDigits p n

no_number_behind : {text key : List ℕ} {from at to most : ℕ} {done : ⊤} {r : Option ℕ} → Passes text from key (Some done) at
    → ReadsNumber text at most r to → IfNone r (NoneUpTo most text from key)
no_number_behind p (reads_number l m n e) = tt
no_number_behind {most = most} p (reads_no_number n) = of_rest (NoNumber most) p n

-- The same where the reader's text is known to be the same.
pub byte_stands : {text text' key : List ℕ} {from at to : ℕ} {done : ⊤} {r : Option ℕ} → text' ≡ text → Passes text from key (Some done) at
    → ReadsByte text' at r to → IfSome r (λ byte. Stands text from (key ++ hex (byte ∷ [])) to)
byte_stands {at = at} {to = to} {r = r} same p read = byte_behind p (subst (λ (s : List ℕ). ReadsByte s at r to) same read)

pub number_stands : {text text' key : List ℕ} {from at to most : ℕ} {done : ⊤} {r : Option ℕ} → text' ≡ text → Passes text from key (Some done) at
    → ReadsNumber text' at most r to → IfSome r (λ number. Stands text from (key ++ decimal number) to)
number_stands {at = at} {to = to} {most = most} {r = r} same p read = number_behind p (subst (λ (s : List ℕ). ReadsNumber s at most r to) same read)

pub bytes_stand : {text text' key room bytes : List ℕ} {from at to count : ℕ} {done : ⊤} → text' ≡ text → Passes text from key (Some done) at
    → ReadsHex text' at count room → to ≡ at + 2 * count → bytes ≡ take count room → Stands text from (key ++ hex bytes) to
bytes_stand {text} {key = key} {room = room} {from = from} {at = at} {to = to} {count = count} same p read on taken =
    let r = subst (λ (s : List ℕ). ReadsHex s at count room) same read in
    let s = behind _ p r.inside r.read in
    subst (λ (b : List ℕ). Stands text from (key ++ hex b) to) (sym taken) (subst (λ (n : ℕ). Stands text from (key ++ hex (take count room)) n) (sym on) s)

-- The digits end where the bytes do, unless the room is full of them.
pub digits_end : {text text' room bytes : List ℕ} {at to count most : ℕ} → text' ≡ text → ReadsHex text' at count room → to ≡ at + 2 * count
    → bytes ≡ take count room → length room ≡ most → DigitsEnd text to (length bytes) most
digits_end {text} {room = room} {at = at} {count = count} same read on taken long less =
    let r = subst (λ (s : List ℕ). ReadsHex s at count room) same read in
    let n = ap (λ (s : List ℕ). length s) taken in
    let m = length-take-le count room r.in_room in
    subst (λ (k : ℕ). NoDigits (drop k text)) (sym on) (r.ends (omega arith))

pub no_byte : {text text' key : List ℕ} {from at to : ℕ} {done : ⊤} {r : Option ℕ} → text' ≡ text → Passes text from key (Some done) at
    → ReadsByte text' at r to → IfNone r (NoByte text from key)
no_byte {at = at} {to = to} {r = r} same p read = no_byte_behind p (subst (λ (s : List ℕ). ReadsByte s at r to) same read)

pub no_number : {text text' key : List ℕ} {from at to most : ℕ} {done : ⊤} {r : Option ℕ} → text' ≡ text → Passes text from key (Some done) at
    → ReadsNumber text' at most r to → IfNone r (NoneUpTo most text from key)
no_number {at = at} {to = to} {most = most} {r = r} same p read = no_number_behind p (subst (λ (s : List ℕ). ReadsNumber s at most r to) same read)

-- Reading a byte never goes back.
pub byte_goes_on : {text : List ℕ} {from to : ℕ} {r : Option ℕ} → ReadsByte text from r to → from ≤ to
byte_goes_on (reads_byte l b e) = omega arith
byte_goes_on (reads_no_byte n) = omega arith
