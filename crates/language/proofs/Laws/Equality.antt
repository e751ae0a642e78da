-- Equal languages: an equivalence, a congruence for choice, sequence and repeat, and the seven simplifications of document 000
-- (document 001 prints `r + r` twice and loses `0 + r`). All of it holds of any languages, those of patterns among them.
use Rattle.std.specs.Prelude.{ℕ, zero, suc, [], ◌++◌, refl}
use Rattle.std.proofs.Common.{append-nil, inl, inr, sym, ◌∙◌, subst}
use Rattle.language.specs.Word.{Word, Over}
use Rattle.language.specs.Language.{Language, Union, Concatenation, Power, Star, language, nothing, empty_word, EqualOver}
use Rattle.language.proofs.Laws.Words.{front_over, back_over, over_wider}

-- An equivalence, over any letters.

module _ {P : ℕ → Type 0} where
  pub equal_refl : (A : Language) → EqualOver P A A
  equal_refl A = record { to = λ w o h. h; from = λ w o h. h }

  pub equal_sym : {A B : Language} → EqualOver P A B → EqualOver P B A
  equal_sym e = record { to = e.from; from = e.to }

  pub equal_trans : {A B C : Language} → EqualOver P A B → EqualOver P B C → EqualOver P A C
  equal_trans e f = record { to = λ w o h. f.to w o (e.to w o h); from = λ w o h. e.from w o (f.from w o h) }

-- What holds over more letters holds over fewer.

pub equal_narrow : {P Q : ℕ → Type 0} → ((c : ℕ) → P c → Q c) → {A B : Language} → EqualOver Q A B → EqualOver P A B
equal_narrow f e =
    record { to = λ w o h. e.to w (over_wider f o) h; from = λ w o h. e.from w (over_wider f o) h }

-- A congruence. One direction of each is enough: the other is the same law with the equality turned round.

module _ {P : ℕ → Type 0} where
  union_to : {A A' B B' : Language} → EqualOver P A A' → EqualOver P B B' → (w : Word) → Over P w → Union A B w → Union A' B' w
  union_to e f w o (inl h) = inl (e.to w o h)
  union_to e f w o (inr h) = inr (f.to w o h)

  pub union_equal : {A A' B B' : Language} → EqualOver P A A' → EqualOver P B B' → EqualOver P (Union A B) (Union A' B')
  union_equal e f = record { to = union_to e f; from = union_to (equal_sym e) (equal_sym f) }

  concatenation_to : {A A' B B' : Language} → EqualOver P A A' → EqualOver P B B' → (w : Word) → Over P w → Concatenation A B w → Concatenation A' B' w
  concatenation_to e f w o h =
      let o' : Over P (h.front ++ h.back) = subst (Over P) h.joined o in
      record {
        front = h.front;
        back = h.back;
        joined = h.joined;
        in_front = e.to h.front (front_over h.front h.back o') h.in_front;
        in_back = f.to h.back (back_over h.front h.back o') h.in_back;
      }

  pub concatenation_equal : {A A' B B' : Language} → EqualOver P A A' → EqualOver P B B' → EqualOver P (Concatenation A B) (Concatenation A' B')
  concatenation_equal e f = record { to = concatenation_to e f; from = concatenation_to (equal_sym e) (equal_sym f) }

  pub power_equal : {A A' : Language} → EqualOver P A A' → (n : ℕ) → EqualOver P (Power A n) (Power A' n)
  power_equal e zero = equal_refl _
  power_equal e (suc n) = concatenation_equal e (power_equal e n)

  pub star_equal : {A A' : Language} → EqualOver P A A' → EqualOver P (Star A) (Star A')
  star_equal e =
      record {
        to = λ w o h. record { times = h.times; in_power = (power_equal e h.times).to w o h.in_power };
        from = λ w o h. record { times = h.times; in_power = (power_equal e h.times).from w o h.in_power };
      }

  -- The seven simplifications.

  pub choice_with_nothing : (A : Language) → EqualOver P (Union A (language nothing)) A
  choice_with_nothing A =
      record { to = λ w o h. elim h [ inl a ↦ a | inr b ↦ absurd b ]; from = λ w o h. inl h }

  pub choice_of_nothing : (A : Language) → EqualOver P (Union (language nothing) A) A
  choice_of_nothing A =
      record { to = λ w o h. elim h [ inl b ↦ absurd b | inr a ↦ a ]; from = λ w o h. inr h }

  pub sequence_with_empty : (A : Language) → EqualOver P (Concatenation A (language empty_word)) A
  sequence_with_empty A =
      record {
        to = λ w o h. subst A (sym (h.joined ∙ rw (h.in_back, append-nil) refl)) h.in_front;
        from = λ w o h. record { front = w; back = []; joined = sym (append-nil w); in_front = h; in_back = refl };
      }

  pub sequence_of_empty : (A : Language) → EqualOver P (Concatenation (language empty_word) A) A
  sequence_of_empty A =
      record {
        to = λ w o h. subst A (sym (h.joined ∙ rw h.in_front refl)) h.in_back;
        from = λ w o h. record { front = []; back = w; joined = refl; in_front = refl; in_back = h };
      }

  pub sequence_with_nothing : (A : Language) → EqualOver P (Concatenation A (language nothing)) (language nothing)
  sequence_with_nothing A = record { to = λ w o h. h.in_back; from = λ w o h. absurd h }

  pub sequence_of_nothing : (A : Language) → EqualOver P (Concatenation (language nothing) A) (language nothing)
  sequence_of_nothing A = record { to = λ w o h. h.in_front; from = λ w o h. absurd h }

  pub choice_of_same : (A : Language) → EqualOver P (Union A A) A
  choice_of_same A = record { to = λ w o h. elim h [ inl a ↦ a | inr a ↦ a ]; from = λ w o h. inl h }
