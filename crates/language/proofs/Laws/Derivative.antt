-- The empty-word test and the derivative of document 003, as functions on patterns, and that they are right against the set
-- meaning: a pattern's language has the empty word exactly when the test says so; w is in the language of the derivative by c
-- exactly when c followed by w is in the language of the pattern. So membership is decidable.
use Rattle.std.specs.Prelude.{ℕ, zero, suc, Bool, true, false, cond, ◌&&◌, ◌||◌, ◌⊎◌, ◌≡◌, refl, eqb}
use Rattle.std.proofs.lemmas.Bool.{false≢true, eqb-false}
use mathlib.Core.List.{[], ◌∷◌, ◌++◌, head-eq_of_cons-eq, tail-eq_of_cons-eq, nil≢cons, cons≢nil}
use Rattle.std.proofs.Common.{inl, inr, sym, ◌∙◌, ap, subst, eqb-true}
use Rattle.language.specs.Word.{Word, IsByte, one}
use Rattle.language.specs.Language.{Language, Union, Concatenation, Power, Star, Pattern, nothing, empty_word, letter, choice, sequence, repeat, language, Equal}
use Rattle.language.specs.Laws.Derivative.{nullable, derivative}
use Rattle.language.proofs.Laws.Tests.{Tells}
use Rattle.language.proofs.Laws.Quotient.{Quotient}

-- The test.

tells_or : {a b : Bool} {A B : Type 0} → Tells a A → Tells b B → Tells (a || b) (A ⊎ B)
tells_or {a} {b} {A} {B} s t = go a b s.sound s.complete t.sound t.complete
  where
    go : (a b : Bool) → (a ≡ true → A) → (A → a ≡ true) → (b ≡ true → B) → (B → b ≡ true) → Tells (a || b) (A ⊎ B)
    go true b f g h k = record { sound = λ _. inl (f refl); complete = λ _. refl }
    go false b f g h k =
        record { sound = λ e. inr (h e); complete = λ u. elim u [ inl x ↦ absurd (false≢true (g x)) | inr y ↦ k y ] }

tells_and : {a b : Bool} {A B : Type 0} → Tells a A → Tells b B → Tells (a && b) (A × B)
tells_and {a} {b} {A} {B} s t = go a b s.sound s.complete t.sound t.complete
  where
    go : (a b : Bool) → (a ≡ true → A) → (A → a ≡ true) → (b ≡ true → B) → (B → b ≡ true) → Tells (a && b) (A × B)
    go true b f g h k = record { sound = λ e. (f refl, h e); complete = λ u. k u.1 }
    go false b f g h k = record { sound = λ e. absurd (false≢true e); complete = λ u. g u.0 }

-- The empty word is in a concatenation exactly when it is in both parts.
both_empty : (x y : Word) → [] ≡ x ++ y → (x ≡ []) × (y ≡ [])
both_empty [] y e = (refl, sym e)
both_empty (c ∷ x) y e = absurd (nil≢cons e)

concatenation_empty : (A B : Language) → Concatenation A B [] → A [] × B []
concatenation_empty A B h =
    let parts = both_empty h.front h.back h.joined in
    (subst A parts.0 h.in_front, subst B parts.1 h.in_back)

-- The empty word is in a pattern's language exactly when the test says so.
pub nullable_right : (p : Pattern) → Tells (nullable p) (language p [])
unfolding nullable
nullable_right nothing = record { sound = λ e. false≢true e; complete = λ h. absurd h }
nullable_right empty_word = record { sound = λ _. refl; complete = λ _. refl }
nullable_right (letter c) = record { sound = λ e. absurd (false≢true e); complete = λ h. absurd (nil≢cons h) }
nullable_right (choice p q) = tells_or (nullable_right p) (nullable_right q)
nullable_right (sequence p q) =
    let both = tells_and (nullable_right p) (nullable_right q) in
    record {
      sound = λ e. let h = both.sound e in record { front = []; back = []; joined = refl; in_front = h.0; in_back = h.1 };
      complete = λ h. both.complete (concatenation_empty (language p) (language q) h);
    }
nullable_right (repeat p) = record { sound = λ _. record { times = 0; in_power = refl }; complete = λ _. refl }

-- The derivative, one case of each direction a lemma.

letter_to : (c d : ℕ) (w : Word) (b : Bool) → eqb c d ≡ b → language (cond b empty_word nothing) w → c ∷ w ≡ d ∷ []
letter_to c d w true e h = rw (eqb-true c d e, h) refl
letter_to c d w false e h = absurd h

letter_from : (c d : ℕ) (w : Word) (b : Bool) → eqb c d ≡ b → c ∷ w ≡ d ∷ [] → language (cond b empty_word nothing) w
letter_from c d w true e h = tail-eq_of_cons-eq h
letter_from c d w false e h = eqb-false c d e (head-eq_of_cons-eq h)

-- A word that starts with c lies in a concatenation with its first letter in the front part, or else with an empty front part.
data Starts (A B : Language) (c : ℕ) (w : Word) : Type 0 where
  in_the_front : Concatenation (Quotient c A) B w → Starts A B c w
  in_the_back : A [] → B (c ∷ w) → Starts A B c w

starts : (A B : Language) (c : ℕ) (w : Word) → Concatenation A B (c ∷ w) → Starts A B c w
starts A B c w h = go h.front h.back h.joined h.in_front h.in_back
  where
    go : (x y : Word) → c ∷ w ≡ x ++ y → A x → B y → Starts A B c w
    go [] y e a b = in_the_back a (subst B (sym e) b)
    go (d ∷ x) y e a b =
        in_the_front
        (record {
          front = x;
          back = y;
          joined = tail-eq_of_cons-eq e;
          in_front = subst (λ (k : ℕ). A (k ∷ x)) (sym (head-eq_of_cons-eq e)) a;
          in_back = b;
        })

-- A letter put before a concatenation is put before its front part.
before_front : (A B : Language) (c : ℕ) (w : Word) → Concatenation (Quotient c A) B w → Concatenation A B (c ∷ w)
before_front A B c w h =
    record { front = c ∷ h.front; back = h.back; joined = ap (λ (v : Word). c ∷ v) h.joined; in_front = h.in_front; in_back = h.in_back }

concatenation_map : {A A' B B' : Language} (w : Word) → ((v : Word) → A v → A' v) → ((v : Word) → B v → B' v) → Concatenation A B w → Concatenation A' B' w
concatenation_map w f g h =
    record { front = h.front; back = h.back; joined = h.joined; in_front = f h.front h.in_front; in_back = g h.back h.in_back }

power_starts : (A : Language) (c : ℕ) (w : Word) (n : ℕ) → Power A n (c ∷ w) → Concatenation (Quotient c A) (Star A) w
power_starts A c w zero h = absurd (cons≢nil h)
power_starts A c w (suc n) h =
    elim (starts A (Power A n) c w h) [
      | in_the_front k ↦ concatenation_map w (λ v a. a) (λ v b. record { times = n; in_power = b }) k
      | in_the_back a b ↦ power_starts A c w n b
    ]

sequence_to : (c : ℕ) (p q : Pattern) (d e : Pattern) (w : Word)
    → ((v : Word) → language d v → language p (c ∷ v))
    → ((v : Word) → language e v → language q (c ∷ v))
    → (b : Bool) → nullable p ≡ b
    → language (cond b (choice (sequence d q) e) (sequence d q)) w
    → language (sequence p q) (c ∷ w)
sequence_to c p q d e w f g true n (inl h) = before_front (language p) (language q) c w (concatenation_map w f (λ v a. a) h)
sequence_to c p q d e w f g true n (inr h) =
    record { front = []; back = c ∷ w; joined = refl; in_front = (nullable_right p).sound n; in_back = g w h }
sequence_to c p q d e w f g false n h = before_front (language p) (language q) c w (concatenation_map w f (λ v a. a) h)

sequence_from : (c : ℕ) (p q : Pattern) (d e : Pattern) (w : Word)
    → ((v : Word) → language p (c ∷ v) → language d v)
    → ((v : Word) → language q (c ∷ v) → language e v)
    → (b : Bool) → nullable p ≡ b
    → Starts (language p) (language q) c w
    → language (cond b (choice (sequence d q) e) (sequence d q)) w
sequence_from c p q d e w f g true n (in_the_front h) = inl (concatenation_map w f (λ v a. a) h)
sequence_from c p q d e w f g true n (in_the_back a h) = inr (g w h)
sequence_from c p q d e w f g false n (in_the_front h) = concatenation_map w f (λ v a. a) h
sequence_from c p q d e w f g false n (in_the_back a h) = absurd (false≢true (sym n ∙ (nullable_right p).complete a))

repeat_to : (A : Language) (c : ℕ) (w : Word) → Concatenation (Quotient c A) (Star A) w → Star A (c ∷ w)
repeat_to A c w h =
    record {
      times = suc h.in_back.times;
      in_power =
          before_front A (Power A h.in_back.times) c w
          (record { front = h.front; back = h.back; joined = h.joined; in_front = h.in_front; in_back = h.in_back.in_power });
    }

derivative_to : (c : ℕ) (p : Pattern) (w : Word) → language (derivative c p) w → language p (c ∷ w)
unfolding derivative
derivative_to c nothing w h = h
derivative_to c empty_word w h = absurd h
derivative_to c (letter d) w h = letter_to c d w (eqb c d) refl h
derivative_to c (choice p q) w (inl h) = inl (derivative_to c p w h)
derivative_to c (choice p q) w (inr h) = inr (derivative_to c q w h)
derivative_to c (sequence p q) w h =
    sequence_to c p q (derivative c p) (derivative c q) w (derivative_to c p) (derivative_to c q) (nullable p) refl h
derivative_to c (repeat p) w h =
    repeat_to (language p) c w (concatenation_map w (derivative_to c p) (λ v a. a) h)

derivative_from : (c : ℕ) (p : Pattern) (w : Word) → language p (c ∷ w) → language (derivative c p) w
unfolding derivative
derivative_from c nothing w h = h
derivative_from c empty_word w h = cons≢nil h
derivative_from c (letter d) w h = letter_from c d w (eqb c d) refl h
derivative_from c (choice p q) w (inl h) = inl (derivative_from c p w h)
derivative_from c (choice p q) w (inr h) = inr (derivative_from c q w h)
derivative_from c (sequence p q) w h =
    sequence_from c p q (derivative c p) (derivative c q) w (derivative_from c p) (derivative_from c q) (nullable p) refl
    (starts (language p) (language q) c w h)
derivative_from c (repeat p) w h =
    concatenation_map w (derivative_from c p) (λ v a. a) (power_starts (language p) c w h.times h.in_power)

-- w is in the derivative by c exactly when c followed by w is in the pattern.
pub derivative_right : (c : ℕ) (p : Pattern) → Equal (language (derivative c p)) (Quotient c (language p))
derivative_right c p = record { to = λ w o h. derivative_to c p w h; from = λ w o h. derivative_from c p w h }

-- Membership is decidable: derive by each letter in turn, then ask the test.
decide_empty : (p : Pattern) (b : Bool) → nullable p ≡ b → Dec (language p [])
decide_empty p true e = yes ((nullable_right p).sound e)
decide_empty p false e = no (λ h. false≢true (sym e ∙ (nullable_right p).complete h))

pub member? : (w : Word) (p : Pattern) → Dec (language p w)
member? [] p = decide_empty p (nullable p) refl
member? (c ∷ w) p =
    elim (member? w (derivative c p)) [
      | yes h ↦ yes (derivative_to c p w h)
      | no h ↦ no (λ k. h (derivative_from c p w k))
    ]

-- The same of any languages: the quotient of each operator, over the quotients of its parts.

pub quotient_equal : {c : ℕ} → IsByte c → {A B : Language} → Equal A B → Equal (Quotient c A) (Quotient c B)
quotient_equal {c} l e = record { to = λ w o h. e.to (c ∷ w) (one l o) h; from = λ w o h. e.from (c ∷ w) (one l o) h }

pub quotient_empty_word : (c : ℕ) → Equal (Quotient c (language empty_word)) (language nothing)
quotient_empty_word c = record { to = λ w o h. cons≢nil h; from = λ w o h. absurd h }

pub quotient_same_letter : (c d : ℕ) → eqb d c ≡ true → Equal (Quotient c (language (letter d))) (language empty_word)
quotient_same_letter c d e =
    record { to = λ w o h. tail-eq_of_cons-eq h; from = λ w o h. rw (eqb-true d c e, h) refl }

pub quotient_other_letter : (c d : ℕ) → eqb d c ≡ false → Equal (Quotient c (language (letter d))) (language nothing)
quotient_other_letter c d e =
    record { to = λ w o h. eqb-false d c e (sym (head-eq_of_cons-eq h)); from = λ w o h. absurd h }

pub quotient_marked : (c : ℕ) (A B : Language) → A [] → Equal (Quotient c (Concatenation A B)) (Union (Concatenation (Quotient c A) B) (Quotient c B))
quotient_marked c A B m = record { to = λ w o h. to w (starts A B c w h); from = λ w o h. from w h }
  where
    to : (w : Word) → Starts A B c w → Union (Concatenation (Quotient c A) B) (Quotient c B) w
    to w (in_the_front h) = inl h
    to w (in_the_back a h) = inr h

    from : (w : Word) → Union (Concatenation (Quotient c A) B) (Quotient c B) w → Concatenation A B (c ∷ w)
    from w (inl h) = before_front A B c w h
    from w (inr h) = record { front = []; back = c ∷ w; joined = refl; in_front = m; in_back = h }

pub quotient_unmarked : (c : ℕ) (A B : Language) → (A [] → ⊥) → Equal (Quotient c (Concatenation A B)) (Concatenation (Quotient c A) B)
quotient_unmarked c A B m = record { to = λ w o h. to w (starts A B c w h); from = λ w o h. before_front A B c w h }
  where
    to : (w : Word) → Starts A B c w → Concatenation (Quotient c A) B w
    to w (in_the_front h) = h
    to w (in_the_back a h) = absurd (m a)

pub quotient_star : (c : ℕ) (A : Language) → Equal (Quotient c (Star A)) (Concatenation (Quotient c A) (Star A))
quotient_star c A =
    record { to = λ w o h. power_starts A c w h.times h.in_power; from = λ w o h. repeat_to A c w h }
