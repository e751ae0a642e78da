-- The language at a place of a store, and each kind's operator over languages.
use Rattle.std.specs.Prelude.{ℕ, ◌<◌, true, List, ◌++◌, ◌≡◌, refl, length}
use Rattle.std.proofs.Common.{subst}
use Rattle.language.specs.Language.{Language, Union, Concatenation, Star, Pattern, language, Equal, nothing, empty_word, letter}
use Rattle.language.proofs.Laws.Equality.{equal_refl, union_equal, concatenation_equal, star_equal}
use Rattle.records.specs.declared.kind.Kind.{Kind}
use Rattle.records.specs.declared.kind.Kind.TheVariants.{Nothing, EmptyWord, Letter, Choice, Sequence, Repeat, Unknown}
use Rattle.records.specs.declared.record.Record.{Record}
use Rattle.records.specs.Kind.{columns}
use Rattle.cards.specs.Meaning.{operator, patterns, numbered}
use Rattle.cards.proofs.Laws.Meaning.{pattern_kept}

-- The language at a place.
abbrev pub language_at : List Record → ℕ → Language
language_at store place = language (numbered (patterns store) place)

-- A kind's operator over a letter and the children's languages.
abbrev pub operator_over : Kind → ℕ → Language → Language → Language
operator_over Nothing c A B = language nothing
operator_over EmptyWord c A B = language empty_word
operator_over Letter c A B = language (letter c)
operator_over Choice c A B = Union A B
operator_over Sequence c A B = Concatenation A B
operator_over Repeat c A B = Star A
operator_over Unknown c A B = language nothing

pub language_of_operator : (k : Kind) (c : ℕ) (p q : Pattern) → Equal (language (operator k c p q)) (operator_over k c (language p) (language q))
language_of_operator Nothing c p q = equal_refl _
language_of_operator EmptyWord c p q = equal_refl _
language_of_operator Letter c p q = equal_refl _
language_of_operator Choice c p q = equal_refl _
language_of_operator Sequence c p q = equal_refl _
language_of_operator Repeat c p q = equal_refl _
language_of_operator Unknown c p q = equal_refl _

-- An operator goes by the children that its kind has: over equal languages of these it gives equal languages.
pub operator_equal : (k : Kind) (c : ℕ) {A A' B B' : Language} → ((columns k).left ≡ true → Equal A A') → ((columns k).right ≡ true → Equal B B')
    → Equal (operator_over k c A B) (operator_over k c A' B')
operator_equal Nothing c e f = equal_refl _
operator_equal EmptyWord c e f = equal_refl _
operator_equal Letter c e f = equal_refl _
operator_equal Choice c e f = union_equal (e refl) (f refl)
operator_equal Sequence c e f = concatenation_equal (e refl) (f refl)
operator_equal Repeat c e f = star_equal (e refl)
operator_equal Unknown c e f = equal_refl _

-- Equal patterns have equal languages.
pub equal_of_path : {p q : Pattern} → p ≡ q → Equal (language p) (language q)
equal_of_path {p} e = subst (λ (x : Pattern). Equal (language p) (language x)) e (equal_refl (language p))

-- The language at a place stays as it is when records are added.
pub language_kept : (store more : List Record) (place : ℕ) → place < length store → Equal (language_at (store ++ more) place) (language_at store place)
language_kept store more place l = equal_of_path (pattern_kept store more place l)
