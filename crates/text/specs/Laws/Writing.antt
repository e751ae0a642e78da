-- Writers at work: what stands in the room up to a place, piece behind piece, and what is left as it was behind that.
use Rattle.std.specs.Prelude.{ℕ, ◌+◌, ◌*◌, ◌^◌, ◌-◌, ◌/◌, ◌%◌, ◌<◌, ◌≤◌, List, [], ◌∷◌, ◌++◌, ◌≡◌, refl, length, get_or, take, drop, set}
use Rattle.std.proofs.Common.{add-one, arith, append_assoc, append-nil, sym, ◌∙◌, ap, ap₂, subst, length-append, length-set, take-suc, take_all, take-suc-set, drop-set-lt, drop-drop}
use Rattle.text.specs.Ascii.{line_feed, line}
use Rattle.text.specs.Digits.{hex_digit, hex, decimal_digit, decimal}
use Rattle.text.specs.Told.{Puts, most_number}
use Rattle.text.specs.Laws.Hex.{hex_append, length_hex}
use Rattle.text.specs.Laws.Decimal.{decimal_small, decimal_split, length_decimal}

-- A store at the place where what stands so far ends.
store_next : (out : List ℕ) (at c : ℕ) → at < length out → take (at + 1) (set out at c) ≡ take at out ++ c ∷ []
store_next out at c l = rw add-one (take-suc-set out at c l)

first_more : (s : List ℕ) (i : ℕ) → i < length s → take (i + 1) s ≡ take i s ++ get_or s i 0 ∷ []
first_more s i l = rw add-one (take-suc s i 0 l)

-- What is the same from a place on is the same from every later place on, whatever is stored before that.
same_later : (m n : ℕ) (s t : List ℕ) → m ≤ n → drop m s ≡ drop m t → drop n s ≡ drop n t
same_later m n s t l e =
    let z : m + (n - m) ≡ n = omega arith in
    ap (λ (k : ℕ). drop k s) (sym z)
    ∙ sym (drop-drop (n - m) m s)
    ∙ ap (λ (r : List ℕ). drop (n - m) r) e
    ∙ drop-drop (n - m) m t
    ∙ ap (λ (k : ℕ). drop k t) z

same_behind : (m n : ℕ) (s t : List ℕ) (i c : ℕ) → i < n → m ≤ n → drop m s ≡ drop m t → drop n (set s i c) ≡ drop n t
same_behind m n s t i c h l e = drop-set-lt n s i c h ∙ same_later m n s t l e

-- A piece of text: its first i numbers stand in the room.
pub record Putting (out₀ : List ℕ) (at : ℕ) (piece out : List ℕ) (i : ℕ) : Type 0 where
  pub inside : i ≤ length piece
  pub as_long : length out ≡ length out₀
  pub stands : take (at + i) out ≡ take at out₀ ++ take i piece
  pub rest : drop (at + i) out ≡ drop (at + i) out₀

pub none_put : (out : List ℕ) (at : ℕ) (piece : List ℕ) → Putting out at piece out 0
none_put out at piece =
    let z : at + 0 ≡ at = omega arith in
    record { inside = omega arith; as_long = refl; stands = ap (λ (n : ℕ). take n out) z ∙ sym (append-nil (take at out)); rest = refl }

pub one_put : {out₀ : List ℕ} {at : ℕ} {piece out : List ℕ} {i : ℕ} → Putting out₀ at piece out i → at + length piece ≤ length out₀ → i < length piece
    → Putting out₀ at piece (set out (at + i) (get_or piece i 0)) (i + 1)
one_put {out₀} {at} {piece} {out} {i} p room l =
    let n = p.as_long in
    let c = get_or piece i 0 in
    let z : at + (i + 1) ≡ at + i + 1 = omega arith in
    record {
      inside = omega arith;
      as_long = length-set out (at + i) c ∙ p.as_long;
      stands = ap (λ (m : ℕ). take m (set out (at + i) c)) z
          ∙ store_next out (at + i) c (omega arith)
          ∙ ap (λ (s : List ℕ). s ++ c ∷ []) p.stands
          ∙ append_assoc (take at out₀) (take i piece) (c ∷ [])
          ∙ ap (λ (s : List ℕ). take at out₀ ++ s) (sym (first_more piece i l));
      rest = same_behind (at + i) (at + (i + 1)) out out₀ (at + i) c (omega arith) (omega arith) p.rest;
    }

pub all_put : {out₀ : List ℕ} {at : ℕ} {piece out : List ℕ} {i : ℕ} → Putting out₀ at piece out i → length piece ≤ i
    → Puts out₀ at piece (at + length piece) out
all_put {out₀} {at} {piece} {out} {i} p l =
    let m = p.inside in
    let z : at + length piece ≡ at + i = omega arith in
    record {
      ends = refl;
      stands = ap (λ (n : ℕ). take n out) z ∙ p.stands ∙ ap (λ (s : List ℕ). take at out₀ ++ s) (take_all i piece l);
      rest = same_later (at + i) (at + length piece) out out₀ (omega arith) p.rest;
    }

-- Bytes in hex: the digits of the first i stand in the room.
pub record PuttingHex (out₀ : List ℕ) (at : ℕ) (bytes out : List ℕ) (to i : ℕ) : Type 0 where
  pub to_is : to ≡ at + 2 * i
  pub inside : i ≤ length bytes
  pub as_long : length out ≡ length out₀
  pub stands : take to out ≡ take at out₀ ++ hex (take i bytes)
  pub rest : drop to out ≡ drop to out₀

pub no_hex_put : (out : List ℕ) (at : ℕ) (bytes : List ℕ) → PuttingHex out at bytes out at 0
unfolding hex
no_hex_put out at bytes = record { to_is = omega arith; inside = omega arith; as_long = refl; stands = sym (append-nil (take at out)); rest = refl }

pub one_hex_put : {out₀ : List ℕ} {at : ℕ} {bytes out : List ℕ} {to i high low : ℕ} → PuttingHex out₀ at bytes out to i
    → at + 2 * length bytes ≤ length out₀ → i < length bytes → high ≡ hex_digit (get_or bytes i 0 / 16) → low ≡ hex_digit (get_or bytes i 0 % 16)
    → PuttingHex out₀ at bytes (set (set out to high) (to + 1) low) (to + 2) (i + 1)
unfolding hex
one_hex_put {out₀} {at} {bytes} {out} {to} {i} {high} {low} p room l e f =
    let n = p.as_long in
    let t = p.to_is in
    let k = length-set out to high in
    let b = get_or bytes i 0 in
    let z : to + 2 ≡ to + 1 + 1 = omega arith in
    record {
      to_is = omega arith;
      inside = omega arith;
      as_long = length-set (set out to high) (to + 1) low ∙ k ∙ n;
      stands = ap (λ (m : ℕ). take m (set (set out to high) (to + 1) low)) z
          ∙ store_next (set out to high) (to + 1) low (omega arith)
          ∙ ap (λ (s : List ℕ). s ++ low ∷ []) (store_next out to high (omega arith) ∙ ap (λ (s : List ℕ). s ++ high ∷ []) p.stands)
          ∙ append_assoc (take at out₀ ++ hex (take i bytes)) (high ∷ []) (low ∷ [])
          ∙ append_assoc (take at out₀) (hex (take i bytes)) (high ∷ low ∷ [])
          ∙ ap₂ (λ (x y : ℕ). take at out₀ ++ (hex (take i bytes) ++ x ∷ y ∷ [])) e f
          ∙ ap (λ (s : List ℕ). take at out₀ ++ s) (sym (ap hex (first_more bytes i l) ∙ hex_append (take i bytes) (b ∷ [])));
      rest = drop-set-lt (to + 2) (set out to high) (to + 1) low (omega arith)
          ∙ same_behind to (to + 2) out out₀ to high (omega arith) (omega arith) p.rest;
    }

pub all_hex_put : {out₀ : List ℕ} {at : ℕ} {bytes out : List ℕ} {to i : ℕ} → PuttingHex out₀ at bytes out to i → length bytes ≤ i
    → Puts out₀ at (hex bytes) to out
all_hex_put {out₀} {at} {bytes} {out} {to} {i} p l =
    let m = p.inside in
    let t = p.to_is in
    record {
      ends = omega (arith, length_hex bytes);
      stands = p.stands ∙ ap (λ (s : List ℕ). take at out₀ ++ hex s) (take_all i bytes l);
      rest = p.rest;
    }

-- The digits of one byte more.
pub hex_next : (bytes : List ℕ) (i : ℕ) → i < length bytes
    → hex (take i bytes) ++ hex_digit (get_or bytes i 0 / 16) ∷ hex_digit (get_or bytes i 0 % 16) ∷ [] ≡ hex (take (i + 1) bytes)
unfolding hex
hex_next bytes i l = sym (ap hex (first_more bytes i l) ∙ hex_append (take i bytes) (get_or bytes i 0 ∷ []))

-- Nothing is put; one number behind what is put; one piece behind the other.
pub put_nothing : (out : List ℕ) (at : ℕ) → Puts out at [] at out
put_nothing out at = record { ends = omega arith; stands = sym (append-nil (take at out)); rest = refl }

pub put_next : {out : List ℕ} {at : ℕ} {piece : List ℕ} {to : ℕ} {out' : List ℕ} → Puts out at piece to out' → (c : ℕ) → to < length out'
    → Puts out at (piece ++ c ∷ []) (to + 1) (set out' to c)
put_next {out} {at} {piece} {to} {out'} p c l =
    let e = p.ends in
    record {
      ends = omega (arith, length-append piece (c ∷ []));
      stands = store_next out' to c l ∙ ap (λ (s : List ℕ). s ++ c ∷ []) p.stands ∙ append_assoc (take at out) piece (c ∷ []);
      rest = same_behind to (to + 1) out' out to c (omega arith) (omega arith) p.rest;
    }

pub put_both : {out : List ℕ} {at : ℕ} {first : List ℕ} {to : ℕ} {out' second : List ℕ} {to' : ℕ} {out'' : List ℕ} → Puts out at first to out'
    → Puts out' to second to' out'' → Puts out at (first ++ second) to' out''
put_both {out} {at} {first} {to} {out'} {second} {to'} p q =
    let e = p.ends in
    let f = q.ends in
    record {
      ends = omega (arith, length-append first second);
      stands = q.stands ∙ ap (λ (s : List ℕ). s ++ second) p.stands ∙ append_assoc (take at out) first second;
      rest = q.rest ∙ same_later to to' out' out (omega arith) p.rest;
    }

-- One digit of a number, and one digit more.
pub digit_put : {out : List ℕ} {at n to : ℕ} {out' : List ℕ} → n < 10 → Puts out at ((48 + n % 10) ∷ []) to out' → Puts out at (decimal n) to out'
digit_put {out} {at} {n} {to} {out'} l p =
    let e : 48 + n % 10 ≡ 48 + n = omega arith in
    subst (λ (s : List ℕ). Puts out at s to out') (ap (λ (c : ℕ). c ∷ []) e ∙ sym (decimal_small n l)) p

pub digit_behind : {out : List ℕ} {at n mid : ℕ} {out' : List ℕ} {to : ℕ} {out'' : List ℕ} → 10 ≤ n → Puts out at (decimal (n / 10)) mid out'
    → Puts out' mid ((48 + n % 10) ∷ []) to out'' → Puts out at (decimal n) to out''
digit_behind {out} {at} {n} {to = to} {out''} l p q = subst (λ (s : List ℕ). Puts out at s to out'') (sym (decimal_split n l)) (put_both p q)

-- A number of one digit, and of more.
pub small_put : (out : List ℕ) (at n : ℕ) → n < 10 → at + length (decimal n) ≤ length out → Puts out at (decimal n) (at + 1) (set out at (48 + n))
small_put out at n l m =
    let k = ap (λ (s : List ℕ). length s) (decimal_small n l) in
    subst (λ (s : List ℕ). Puts out at s (at + 1) (set out at (48 + n))) (sym (decimal_small n l)) (put_next (put_nothing out at) (48 + n) (omega arith))

pub tenth_room : (at n : ℕ) (out : List ℕ) → 10 ≤ n → at + length (decimal n) ≤ length out → at + length (decimal (n / 10)) < length out
tenth_room at n out l m =
    let k = ap (λ (s : List ℕ). length s) (decimal_split n l) in
    omega (arith, length-append (decimal (n / 10)) (decimal_digit (n % 10) ∷ []))

pub last_room : {out : List ℕ} {at n to : ℕ} {out' : List ℕ} → 10 ≤ n → Puts out at (decimal (n / 10)) to out' → length out' ≡ length out
    → at + length (decimal n) ≤ length out → to < length out'
last_room {out} {at} {n} l p e m = let f = p.ends in omega (arith, tenth_room at n out l m)

pub last_put : {out : List ℕ} {at n to : ℕ} {out' : List ℕ} → 10 ≤ n → Puts out at (decimal (n / 10)) to out' → to < length out'
    → Puts out at (decimal n) (to + 1) (set out' to (48 + n % 10))
last_put {out} {at} {n} {to} {out'} l p m =
    subst (λ (s : List ℕ). Puts out at s (to + 1) (set out' to (48 + n % 10))) (sym (decimal_split n l)) (put_next p (48 + n % 10) m)

-- A number in 64 bits has at most 20 digits.
pub number_short : (n : ℕ) → n < 2 ^ 64 → length (decimal n) + 1 ≤ most_number
number_short n l = let h = length_decimal 19 n (omega arith) in omega arith

-- How long a line is.
pub line_length : (name value : List ℕ) → length (line name value) ≡ length name + length value + 1
line_length name value = omega (arith, length-append (name ++ value) (line_feed ∷ []), length-append name value)

pub hex_line_length : (name bytes : List ℕ) → length (line name (hex bytes)) ≡ length name + 2 * length bytes + 1
hex_line_length name bytes = omega (arith, line_length name (hex bytes), length_hex bytes)
