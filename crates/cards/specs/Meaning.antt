-- The pattern that a card means: each record's from its children's, and the last record is the root.
-- Document 01: "Several records may name the same child": such a child's pattern counts at each of them.
use Rattle.std.specs.Prelude.{ℕ, ◌-◌, List, length, get_or}
use Rattle.language.specs.Language.{Pattern, nothing, empty_word, letter, choice, sequence, repeat}
use Rattle.records.specs.declared.kind.Kind.{Kind}
use Rattle.records.specs.declared.kind.Kind.TheVariants.{Nothing, EmptyWord, Letter, Choice, Sequence, Repeat, Unknown}
use Rattle.records.specs.declared.record.Record.{Record}
use Rattle.cards.specs.InOrder.{in_order}
use Rattle.records.specs.Record.{records}
use Rattle.records.specs.Kind.{kind_of}

-- The operator of a kind, over a letter and the children's patterns.
abbrev pub operator : Kind → ℕ → Pattern → Pattern → Pattern
operator Nothing c p q = nothing
operator EmptyWord c p q = empty_word
operator Letter c p q = letter c
operator Choice c p q = choice p q
operator Sequence c p q = sequence p q
operator Repeat c p q = repeat p
operator Unknown c p q = nothing

-- The pattern numbered `at`.
abbrev pub numbered : List Pattern → ℕ → Pattern
numbered ps at = get_or ps at nothing

-- A record's pattern, over the patterns of the records before it.
abbrev pub record_pattern : List Pattern → Record → Pattern
record_pattern before r =
    operator (kind_of r.kind) r.letter (numbered before r.left) (numbered before r.right)

-- The patterns of a list of records.
abbrev pub patterns : List Record → List Pattern
patterns rs = in_order record_pattern rs

-- The pattern that a card means.
unfoldable pub card_pattern : List ℕ → Pattern
unfolding in_order records
card_pattern card = numbered (patterns (records card)) (length (records card) - 1)
