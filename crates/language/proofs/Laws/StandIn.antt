-- From words over the tried letters to all words, where no pattern has a complement: a word with a letter that neither pattern
-- mentions is in neither language, because an unmentioned letter leads nowhere. Any other word stands for itself.
-- Only the law `represented` knows why. What follows from it holds for any other reason too.
use Rattle.std.specs.Prelude.{ℕ, Bool, true, false, List, [], ◌∷◌, ◌⊎◌, ◌≡◌, refl, eqb}
use mathlib.Core.List.Memᴰ
use Rattle.std.proofs.Common.{inl, ⊎_elim, eqb-true}
use Rattle.std.proofs.lemmas.Bool.{eqb-false}
use Rattle.language.specs.Word.{Word, Over, none, one, Bytes, Listed}
use Rattle.language.specs.Language.{Language, Pattern, language, EqualOver, Equal}
use Rattle.language.specs.Order.{Before}
use Rattle.language.proofs.Laws.Words.{over_wider}
use Rattle.language.proofs.Laws.Atoms.{atoms, only_atoms}

-- The word v speaks for the word w in the language A.
pub record Speaks (A : Language) (v w : Word) : Type 0 where
  pub to : A v → A w
  pub from : A w → A v

-- A word of the tried letters, no later than w in the order, that speaks for w in both languages.
pub record StandIn (tried : List ℕ) (A B : Language) (w : Word) : Type 0 where
  pub word : Word
  pub of_tried : Over (Listed tried) word
  pub no_later : (word ≡ w) ⊎ Before word w
  pub left : Speaks A word w
  pub right : Speaks B word w

-- A word is in neither language, or has a stand-in.
pub data Represented (tried : List ℕ) (A B : Language) (w : Word) : Type 0 where
  in_neither : (A w → ⊥) → (B w → ⊥) → Represented tried A B w
  by_stand_in : StandIn tried A B w → Represented tried A B w

-- Languages that are equal over the tried letters are equal, where every word of bytes is represented.
pub equal_of_tried : (tried : List ℕ) (A B : Language) → ((w : Word) → Bytes w → Represented tried A B w) → EqualOver (Listed tried) A B → Equal A B
equal_of_tried tried A B f e = record { to = λ w b h. to w (f w b) h; from = λ w b h. from w (f w b) h }
  where
    to : (w : Word) → Represented tried A B w → A w → B w
    to w (in_neither a b) h = absurd (a h)
    to w (by_stand_in s) h = s.right.to (e.to s.word s.of_tried (s.left.from h))

    from : (w : Word) → Represented tried A B w → B w → A w
    from w (in_neither a b) h = absurd (b h)
    from w (by_stand_in s) h = s.left.to (e.from s.word s.of_tried (s.right.from h))

-- Whether a number is listed, and whether a word has listed letters alone, can be told.

listed? : (l : List ℕ) (c : ℕ) → Dec (Listed l c)
listed? [] c = no (λ m. Memᴰ.not-nil m)
listed? (d ∷ l) c = go (eqb c d) refl (listed? l c)
  where
    go : (b : Bool) → eqb c d ≡ b → Dec (Listed l c) → Dec (Listed (d ∷ l) c)
    go true e _ = yes (Memᴰ.head (eqb-true c d e))
    go false e (yes m) = yes (Memᴰ.tail m)
    go false e (no m) = no (λ k. ⊎_elim (eqb-false c d e) m (Memᴰ.cases_cons k))

over? : (l : List ℕ) (w : Word) → Dec (Over (Listed l) w)
over? l [] = yes none
over? l (c ∷ w) = go (listed? l c) (over? l w)
  where
    first : Over (Listed l) (c ∷ w) → Listed l c
    first (one m o) = m

    rest : Over (Listed l) (c ∷ w) → Over (Listed l) w
    rest (one m o) = o

    go : Dec (Listed l c) → Dec (Over (Listed l) w) → Dec (Over (Listed l) (c ∷ w))
    go (yes m) (yes o) = yes (one m o)
    go (yes m) (no o) = no (λ k. o (rest k))
    go (no m) _ = no (λ k. m (first k))

-- Where the tried letters have every atom of both patterns, every word is represented.
pub represented : (tried : List ℕ) (p q : Pattern)
    → ((c : ℕ) → Listed (atoms p) c → Listed tried c)
    → ((c : ℕ) → Listed (atoms q) c → Listed tried c)
    → (w : Word) → Bytes w → Represented tried (language p) (language q) w
represented tried p q f g w b = go (over? tried w)
  where
    go : Dec (Over (Listed tried) w) → Represented tried (language p) (language q) w
    go (yes o) =
        by_stand_in
        (record {
          word = w;
          of_tried = o;
          no_later = inl refl;
          left = record { to = λ h. h; from = λ h. h };
          right = record { to = λ h. h; from = λ h. h };
        })
    go (no o) =
        in_neither
        (λ h. o (over_wider f (only_atoms p w h)))
        (λ h. o (over_wider g (only_atoms q w h)))
