-- The letters that a pattern mentions, its atoms: document 004, definition 2.5. A word of its language has no other letter.
use Rattle.std.specs.Prelude.{ℕ, zero, suc, List, [], ◌∷◌, ◌++◌, refl}
use mathlib.Core.List.Memᴰ
use Rattle.std.proofs.Common.{inl, inr, sym, subst}
use Rattle.language.specs.Word.{Word, Over, none, one, Listed}
use Rattle.language.specs.Language.{Language, Concatenation, Power, Pattern, nothing, empty_word, letter, choice, sequence, repeat, language}
use Rattle.language.proofs.Laws.Words.{over_join, over_wider}

-- 2.5: atoms.
unfoldable pub atoms : Pattern → List ℕ
atoms nothing = []
atoms empty_word = []
atoms (letter c) = c ∷ []
atoms (choice p q) = atoms p ++ atoms q
atoms (sequence p q) = atoms p ++ atoms q
atoms (repeat p) = atoms p

module _ (P : ℕ → Type 0) where
  concatenation_over : {A B : Language} (w : Word) → ((v : Word) → A v → Over P v) → ((v : Word) → B v → Over P v) → Concatenation A B w → Over P w
  concatenation_over w f g h =
      subst (Over P) (sym h.joined) (over_join (f h.front h.in_front) (g h.back h.in_back))

  power_over : (A : Language) → ((v : Word) → A v → Over P v) → (n : ℕ) (w : Word) → Power A n w → Over P w
  power_over A f zero w h = subst (Over P) (sym h) none
  power_over A f (suc n) w h = concatenation_over w f (power_over A f n) h

-- Every letter of a word of the language is an atom of the pattern.
pub only_atoms : (p : Pattern) (w : Word) → language p w → Over (Listed (atoms p)) w
unfolding atoms
only_atoms nothing w h = absurd h
only_atoms empty_word w h = subst (Over (Listed [])) (sym h) none
only_atoms (letter c) w h = subst (Over (Listed (c ∷ []))) (sym h) (one (Memᴰ.head refl) none)
only_atoms (choice p q) w (inl h) = over_wider (λ c m. Memᴰ.append_left (atoms q) m) (only_atoms p w h)
only_atoms (choice p q) w (inr h) = over_wider (λ c m. Memᴰ.append_right (atoms p) m) (only_atoms q w h)
only_atoms (sequence p q) w h =
    concatenation_over (Listed (atoms p ++ atoms q)) w
    (λ v k. over_wider (λ c m. Memᴰ.append_left (atoms q) m) (only_atoms p v k))
    (λ v k. over_wider (λ c m. Memᴰ.append_right (atoms p) m) (only_atoms q v k))
    h
only_atoms (repeat p) w h = power_over (Listed (atoms p)) (language p) (only_atoms p) h.times w h.in_power
