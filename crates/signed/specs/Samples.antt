-- Patterns as document 01 writes them, and the card of each: "Cards hold just the records needed, children first."
use Rattle.std.specs.Prelude.{ℕ, List, [], ◌∷◌, ◌++◌, length}
use Rattle.language.specs.Language.{Pattern, nothing, empty_word, letter, choice, sequence, repeat}
use Rattle.records.specs.declared.record.Record.{Record}
use Rattle.records.specs.Record.{run_of}
use Rattle.records.specs.Kind.{nothing_kind, empty_word_kind, letter_kind, choice_kind, sequence_kind, repeat_kind}
use Rattle.std.specs.declared.option.Option.TheVariants.{Some, None}
use Rattle.store.specs.Making.{find, new_record}

infixr 20 ◌⊕◌
infixr 30 ◌·◌
infixl 40 ◌*
-- Choice, which document 01 writes as a sum, sequence and repeat: `1 ⊕ a·a*` is the choice of the empty word and the sequence of `a` and the repeat of `a`.
abbrev pub ◌⊕◌ : Pattern → Pattern → Pattern
◌⊕◌ = choice

abbrev pub ◌·◌ : Pattern → Pattern → Pattern
◌·◌ = sequence

abbrev pub ◌* : Pattern → Pattern
◌* = repeat

-- The letters `a`, `b` and `h`.
abbrev pub a : Pattern
a = letter 97

abbrev pub b : Pattern
b = letter 98

abbrev pub h : Pattern
h = letter 104

-- A record put behind those of a card, unless it stands there; what comes next goes on from its number and the card.
abbrev put : ℕ → ℕ → ℕ → ℕ → List Record → (ℕ → List Record → List ℕ) → List ℕ
put kind c left right card next =
    let r = new_record card kind c left right in elim (find card r) [ Some n ↦ next n card | None ↦ next (length card) (card ++ r ∷ []) ]

-- A pattern's records put there, its children's first.
unfoldable pub enter : Pattern → List Record → (ℕ → List Record → List ℕ) → List ℕ
unfolding find
enter nothing card next = put nothing_kind 0 0 0 card next
enter empty_word card next = put empty_word_kind 0 0 0 card next
enter (letter c) card next = put letter_kind c 0 0 card next
enter (choice p q) card next = enter p card (λ x card₁. enter q card₁ (λ y card₂. put choice_kind 0 x y card₂ next))
enter (sequence p q) card next = enter p card (λ x card₁. enter q card₁ (λ y card₂. put sequence_kind 0 x y card₂ next))
enter (repeat p) card next = enter p card (λ x card₁. put repeat_kind 0 x 0 card₁ next)

-- The bytes of a pattern's card.
unfoldable pub card_of : Pattern → List ℕ
unfolding enter run_of
card_of p = enter p [] (λ root card. run_of card)
