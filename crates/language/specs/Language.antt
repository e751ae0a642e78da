-- Patterns and their languages, in the set meaning: document 004, definitions 2.1, 2.4 and 2.6, without derivatives.
-- Where 004 prints power 0 badly, document 01 mends it: "its power 0, badly printed, is the set of just the empty word".
use Rattle.std.specs.Prelude.{ℕ, zero, suc, [], ◌∷◌, ◌++◌, ◌⊎◌, ◌≡◌}
use Rattle.language.specs.Word.{Word, IsByte, Over}

-- 2.1: a language is a set of words. `A w` says that the word w is in the language A.
abbrev pub Language : Type 1
Language = Word → Type 0

-- The words in A, and those in B.
abbrev pub Union : Language → Language → Language
Union A B w = A w ⊎ B w

-- 2.1: A @@ B = { xs @ ys | xs ∈ A ∧ ys ∈ B }
pub record Concatenation (A B : Language) (w : Word) : Type 0 where
  pub front : Word
  pub back : Word
  pub joined : w ≡ front ++ back
  pub in_front : A front
  pub in_back : B back

-- 2.1: A^0 is the set of just the empty word, and A^(n+1) = A @@ A^n.
abbrev pub Power : Language → ℕ → Language
Power A zero w = w ≡ []
Power A (suc n) w = Concatenation A (Power A n) w

-- 2.1: A* is the union of A^n over every n.
pub record Star (A : Language) (w : Word) : Type 0 where
  pub times : ℕ
  pub in_power : Power A times w

-- 2.4: patterns.
pub data Pattern : Type 0 where
  nothing : Pattern
  empty_word : Pattern
  letter : ℕ → Pattern
  choice : Pattern → Pattern → Pattern
  sequence : Pattern → Pattern → Pattern
  repeat : Pattern → Pattern

-- 2.6: the language of a pattern.
abbrev pub language : Pattern → Language
language nothing w = ⊥
language empty_word w = w ≡ []
language (letter c) w = w ≡ c ∷ []
language (choice p q) w = Union (language p) (language q) w
language (sequence p q) w = Concatenation (language p) (language q) w
language (repeat p) w = Star (language p) w

-- Two languages have the same words, of those whose letters P names.
pub record EqualOver (P : ℕ → Type 0) (A B : Language) : Type 0 where
  pub to : (w : Word) → Over P w → A w → B w
  pub from : (w : Word) → Over P w → B w → A w

-- Two languages are equal: a word of bytes is in one exactly when it is in the other.
abbrev pub Equal : Language → Language → Type 0
Equal A B = EqualOver IsByte A B
