-- The kinds of record, and what each has in its fields. Document 01's kind table:
--   kind  name        letter  left   right
--   0     nothing     0       0      0
--   1     empty word  0       0      0
--   2     letter      any     0      0
--   3     choice      0       child  child
--   4     sequence    0       child  child
--   5     repeat      0       child  0
use Rattle.std.specs.Prelude.{ℕ, Bool, true, false, List, [], ◌∷◌, get_or}
use Rattle.records.specs.declared.kind.Kind.{Kind}
use Rattle.records.specs.declared.kind.Kind.TheVariants.{Nothing, EmptyWord, Letter, Choice, Sequence, Repeat, Unknown}
use Rattle.records.specs.declared.kind.Columns.{Columns}

-- The numbers of the kinds.
abbrev pub nothing_kind : ℕ
nothing_kind = 0

abbrev pub empty_word_kind : ℕ
empty_word_kind = 1

abbrev pub letter_kind : ℕ
letter_kind = 2

abbrev pub choice_kind : ℕ
choice_kind = 3

abbrev pub sequence_kind : ℕ
sequence_kind = 4

abbrev pub repeat_kind : ℕ
repeat_kind = 5

-- The kinds in the order of their numbers, from 0.
abbrev pub kinds : List Kind
kinds = Nothing ∷ EmptyWord ∷ Letter ∷ Choice ∷ Sequence ∷ Repeat ∷ []

-- The kind that a number names.
abbrev pub kind_of : ℕ → Kind
kind_of number = get_or kinds number Unknown

-- What a line says of a field: it is 0, it is any byte, it names a child.
abbrev zero : Bool
zero = false

abbrev any : Bool
any = true

abbrev child : Bool
child = true

-- A line of the table, by its letter, left and right.
abbrev pub line : Bool → Bool → Bool → Columns
line letter left right = record { known = true; letter = letter; left = left; right = right }

-- The table, a line a kind; a number that names no kind has no line.
abbrev pub columns : Kind → Columns
columns Nothing = line zero zero zero
columns EmptyWord = line zero zero zero
columns Letter = line any zero zero
columns Choice = line zero child child
columns Sequence = line zero child child
columns Repeat = line zero child zero
columns Unknown = record { known = false; letter = zero; left = zero; right = zero }
