-- The left quotient: document 004, definition 2.2, and lemma 2.3.
use Rattle.std.specs.Prelude.{ℕ, [], ◌∷◌, ◌++◌}
use Rattle.std.proofs.Common.{append-nil, sym, subst}
use Rattle.language.specs.Word.{Word}
use Rattle.language.specs.Language.{Language}

-- 2.2: Deriv x A = { xs | x · xs ∈ A }
abbrev pub Quotient : ℕ → Language → Language
Quotient c A w = A (c ∷ w)

-- 2.2: Derivs xs A = { ys | xs @ ys ∈ A }
abbrev pub Quotients : Word → Language → Language
Quotients v A w = A (v ++ w)

-- 2.3: a word is in a language exactly when the empty word is in the language's quotient by the word.
pub quotients_to : (A : Language) (w : Word) → A w → Quotients w A []
quotients_to A w h = subst A (sym (append-nil w)) h

pub quotients_from : (A : Language) (w : Word) → Quotients w A [] → A w
quotients_from A w h = subst A (append-nil w) h
