-- The number of a kind; `Unknown`, which is of every other number, has the first that names none.
use Rattle.std.specs.Prelude.{ℕ, length}
use Rattle.records.specs.declared.kind.Kind.{Kind}
use Rattle.records.specs.declared.kind.Kind.TheVariants.{Nothing, EmptyWord, Letter, Choice, Sequence, Repeat, Unknown}
use Rattle.records.specs.Kind.{nothing_kind, empty_word_kind, letter_kind, choice_kind, sequence_kind, repeat_kind, kinds}

abbrev pub number : Kind → ℕ
number Nothing = nothing_kind
number EmptyWord = empty_word_kind
number Letter = letter_kind
number Choice = choice_kind
number Sequence = sequence_kind
number Repeat = repeat_kind
number Unknown = length kinds
