-- The mark. Document 01: "The mark is 1 when the record's language has the empty word, else 0: no for 0 and 2, yes for 1 and 5,
-- either child for 3, both for 4 (000, nullable)."
use Rattle.std.specs.Prelude.{ℕ, Bool, true, false, ◌&&◌, ◌||◌, eqb}
use Rattle.records.specs.declared.kind.Kind.{Kind}
use Rattle.records.specs.declared.kind.Kind.TheVariants.{Nothing, EmptyWord, Letter, Choice, Sequence, Repeat, Unknown}
use Rattle.records.specs.declared.record.Record.{Record}

-- Yes is 1 and no is 0.
abbrev pub bit : Bool → ℕ
bit true = 1
bit false = 0

-- The record's mark says yes.
abbrev pub marked : Record → Bool
marked r = eqb r.mark 1

-- What a record's mark has to say, by its kind and by what its children's marks say.
abbrev pub has_empty : Kind → Bool → Bool → Bool
has_empty Nothing left right = false
has_empty EmptyWord left right = true
has_empty Letter left right = false
has_empty Choice left right = left || right
has_empty Sequence left right = left && right
has_empty Repeat left right = true
has_empty Unknown left right = false
