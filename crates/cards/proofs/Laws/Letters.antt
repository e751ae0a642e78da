-- The letters of a card: ascending, each once, just the bytes that a letter record has; and every atom of a record's pattern is
-- among them.
use Rattle.std.specs.Prelude.{ℕ, zero, suc, ◌*◌, ◌/◌, ◌<◌, Bool, true, false, cond, ◌||◌, List, [], ◌∷◌, ◌++◌, ◌≡◌, refl, eqb, length}
use Rattle.std.proofs.Common.{suc-le-suc, arith, append-nil, ⊎_elim, sym, ◌∙◌, ap, eq-eqb, eqb-true}
use Rattle.std.proofs.Math.Decide.{dec_lt}
use Rattle.std.proofs.lemmas.Bool.{false≢true}
use Rattle.std.proofs.Math.Bool.{or-true}
use mathlib.Core.List.Memᴰ
use Rattle.language.specs.Word.{Bytes, Listed}
use Rattle.language.specs.Language.{Pattern}
use Rattle.language.proofs.Laws.Tests.{Tells, and_left, and_right}
use Rattle.language.proofs.Laws.Atoms.{atoms}
use Rattle.records.specs.declared.kind.Kind.{Kind}
use Rattle.records.specs.declared.kind.Kind.TheVariants.{Nothing, EmptyWord, Letter, Choice, Sequence, Repeat, Unknown}
use Rattle.records.specs.declared.record.Record.{Record}
use Rattle.records.specs.Record.{records, child}
use Rattle.records.specs.Kind.{kind_of, columns}
use Rattle.cards.specs.InOrder.{in_order_after, in_order}
use Rattle.cards.specs.Meaning.{operator, numbered, record_pattern, patterns}
use Rattle.records.specs.Laws.Record.{record_at_place, length_records, byte_at, bytes_drop}
use Rattle.cards.specs.Letters.{letter_of, mentions, those_below, letters}
use Rattle.cards.proofs.Laws.Table.{letter_number}

-- The numbers below n for which a test holds.

-- Each number of the list is above those before it.
pub data Ascending : List ℕ → Type 0 where
  none : Ascending []
  more : {l : List ℕ} {c : ℕ} → Ascending l → ((d : ℕ) → Listed l d → d < c) → Ascending (l ++ c ∷ [])

module _ (n : ℕ) (test : ℕ → Bool) (c : ℕ) where
  sound_more : (Listed (those_below n test) c → (c < n) × (test c ≡ true)) → (b : Bool) → test n ≡ b
      → Listed (those_below n test ++ cond b (n ∷ []) []) c → (c < suc n) × (test c ≡ true)
  sound_more before b e m = ⊎_elim earlier (here b e) (Memᴰ.append_cases (those_below n test) m)
    where
      earlier : Listed (those_below n test) c → (c < suc n) × (test c ≡ true)
      earlier k = let h = before k in (omega arith, h.1)

      here : (b : Bool) → test n ≡ b → Listed (cond b (n ∷ []) []) c → (c < suc n) × (test c ≡ true)
      here true e k = let i = Memᴰ.eq_of_singleton k in (omega arith, ap test i ∙ e)
      here false e k = absurd (Memᴰ.not-nil k)

  complete_more : (c < n → test c ≡ true → Listed (those_below n test) c) → c < suc n → test c ≡ true
      → Listed (those_below n test ++ cond (test n) (n ∷ []) []) c
  complete_more before l e = go (dec_lt c n)
    where
      go : Dec (c < n) → Listed (those_below n test ++ cond (test n) (n ∷ []) []) c
      go (yes m) = Memᴰ.append_left (cond (test n) (n ∷ []) []) (before m e)
      go (no m) =
          let i : c ≡ n = omega arith in
          Memᴰ.append_right (those_below n test) (rw (ap test (sym i) ∙ e) (Memᴰ.head i))

pub those_below_sound : (n : ℕ) (test : ℕ → Bool) (c : ℕ) → Listed (those_below n test) c → (c < n) × (test c ≡ true)
unfolding those_below
those_below_sound zero test c m = absurd (Memᴰ.not-nil m)
those_below_sound (suc n) test c m = sound_more n test c (those_below_sound n test c) (test n) refl m

pub those_below_complete : (n : ℕ) (test : ℕ → Bool) (c : ℕ) → c < n → test c ≡ true → Listed (those_below n test) c
unfolding those_below
those_below_complete zero test c l e = absurd (omega arith)
those_below_complete (suc n) test c l e = complete_more n test c (those_below_complete n test c) l e

ascending_more : (n : ℕ) (test : ℕ → Bool) → Ascending (those_below n test) → (b : Bool) → Ascending (those_below n test ++ cond b (n ∷ []) [])
ascending_more n test h true = more h (λ d m. (those_below_sound n test d m).0)
ascending_more n test h false = rw (append-nil (those_below n test)) h

pub those_below_ascending : (n : ℕ) (test : ℕ → Bool) → Ascending (those_below n test)
unfolding those_below
those_below_ascending zero test = none
those_below_ascending (suc n) test = ascending_more n test (those_below_ascending n test) (test n)

-- The letters of a list of records.

pub letters_sound : (rs : List Record) (c : ℕ) → Listed (letters rs) c → (c < 256) × (mentions rs c ≡ true)
unfolding letters
letters_sound rs c m = those_below_sound 256 (mentions rs) c m

pub letters_complete : (rs : List Record) (c : ℕ) → c < 256 → mentions rs c ≡ true → Listed (letters rs) c
unfolding letters
letters_complete rs c l e = those_below_complete 256 (mentions rs) c l e

pub letters_ascending : (rs : List Record) → Ascending (letters rs)
unfolding letters
letters_ascending rs = those_below_ascending 256 (mentions rs)

-- Some record is a letter record of c.
pub record Mentioned (rs : List Record) (c : ℕ) : Type 0 where
  pub at : ℕ
  pub within : at < length rs
  pub kind : (child rs at).kind ≡ 2
  pub letter : (child rs at).letter ≡ c

mentions_sound : (rs : List Record) (c : ℕ) → mentions rs c ≡ true → Mentioned rs c
unfolding mentions
mentions_sound [] c e = absurd (false≢true e)
mentions_sound (r ∷ rs) c e = go (letter_of (kind_of r.kind) r.letter c) refl (mentions_sound rs c) e
  where
    go : (b : Bool) → letter_of (kind_of r.kind) r.letter c ≡ b → (mentions rs c ≡ true → Mentioned rs c) → b || mentions rs c ≡ true → Mentioned (r ∷ rs) c
    go true f later g =
        let has = (columns (kind_of r.kind)).letter in
        let same = eqb r.letter c in
        record { at = 0; within = omega arith; kind = letter_number r.kind (and_left has same f); letter = eqb-true r.letter c (and_right has same f) }
    go false f later g =
        let m = later g in
        record { at = suc m.at; within = suc-le-suc m.within; kind = m.kind; letter = m.letter }

mentions_complete : (rs : List Record) (c at : ℕ) → at < length rs → (child rs at).kind ≡ 2 → (child rs at).letter ≡ c
    → mentions rs c ≡ true
unfolding mentions
mentions_complete [] c at l e f = absurd (omega arith)
mentions_complete (r ∷ rs) c zero l e f = rw (e, eq-eqb r.letter c f)
mentions_complete (r ∷ rs) c (suc at) l e f =
    rw (mentions_complete rs c at (omega arith) e f) (or-true (letter_of (kind_of r.kind) r.letter c))

pub mentions_right : (rs : List Record) (c : ℕ) → Tells (mentions rs c) (Mentioned rs c)
mentions_right rs c =
    record { sound = mentions_sound rs c; complete = λ m. mentions_complete rs c m.at m.within m.kind m.letter }

-- The letters of a card's records are bytes.
pub mentioned_byte : (card : List ℕ) → Bytes card → (c : ℕ) → mentions (records card) c ≡ true → c < 256
mentioned_byte card b c e =
    let m = mentions_sound (records card) c e in
    let l : m.at < length card / 8 = omega (arith, length_records card) in
    let h : (child (records card) m.at).letter < 256
    = rw (record_at_place card m.at l) (byte_at (bytes_drop (8 * m.at) b) 1) in
    omega arith

-- Atoms.

-- Every atom of every one of these patterns is one that P names.
abbrev AtomsIn : (ℕ → Type 0) → List Pattern → Type 0
AtomsIn P ps = (at c : ℕ) → Listed (atoms (numbered ps at)) c → P c

operator_atoms : (P : ℕ → Type 0) (k : Kind) (l : ℕ) (p q : Pattern)
    → ((c : ℕ) → letter_of k l c ≡ true → P c)
    → ((c : ℕ) → Listed (atoms p) c → P c)
    → ((c : ℕ) → Listed (atoms q) c → P c)
    → (c : ℕ) → Listed (atoms (operator k l p q)) c → P c
unfolding atoms
operator_atoms P Nothing l p q f g h c m = absurd (Memᴰ.not-nil m)
operator_atoms P EmptyWord l p q f g h c m = absurd (Memᴰ.not-nil m)
operator_atoms P Letter l p q f g h c m = f c (eq-eqb l c (sym (Memᴰ.eq_of_singleton m)))
operator_atoms P Choice l p q f g h c m = ⊎_elim (g c) (h c) (Memᴰ.append_cases (atoms p) m)
operator_atoms P Sequence l p q f g h c m = ⊎_elim (g c) (h c) (Memᴰ.append_cases (atoms p) m)
operator_atoms P Repeat l p q f g h c m = g c m
operator_atoms P Unknown l p q f g h c m = absurd (Memᴰ.not-nil m)

append_atoms : (P : ℕ → Type 0) (ps : List Pattern) (p : Pattern) → AtomsIn P ps → ((c : ℕ) → Listed (atoms p) c → P c) → AtomsIn P (ps ++ p ∷ [])
unfolding atoms
append_atoms P [] p f g zero c m = g c m
append_atoms P [] p f g (suc at) c m = absurd (Memᴰ.not-nil m)
append_atoms P (q ∷ ps) p f g zero c m = f zero c m
append_atoms P (q ∷ ps) p f g (suc at) c m = append_atoms P ps p (λ i. f (suc i)) g at c m

after_atoms : (P : ℕ → Type 0) (before : List Pattern) (rs : List Record) → AtomsIn P before → ((c : ℕ) → mentions rs c ≡ true → P c) → AtomsIn P (in_order_after record_pattern before rs)
unfolding in_order_after mentions
after_atoms P before [] f g = f
after_atoms P before (r ∷ rs) f g =
    after_atoms P (before ++ record_pattern before r ∷ []) rs
    (append_atoms P before (record_pattern before r) f
    (operator_atoms P (kind_of r.kind) r.letter (numbered before r.left) (numbered before r.right)
    (λ c e. g c (rw e))
    (f r.left)
    (f r.right)))
    (λ c e. g c (rw e (or-true (letter_of (kind_of r.kind) r.letter c))))

-- Every atom of a record's pattern is mentioned.
pub atoms_mentioned : (rs : List Record) (at c : ℕ) → Listed (atoms (numbered (patterns rs) at)) c → mentions rs c ≡ true
unfolding in_order atoms
atoms_mentioned rs = after_atoms (λ c. mentions rs c ≡ true) [] rs (λ at c m. absurd (Memᴰ.not-nil m)) (λ c e. e)
