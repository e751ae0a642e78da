-- What the standing of a card means, said without the examiner. Both read the kind table of `records`; the law proofs/Laws/Table writes it out by numbers.
-- Document 01: "given exactly when": 1, "card length 0, not a multiple of 8, or too long"; 2, "a record breaks the kind table, its
-- fourth byte isn't zero, or a child isn't lower"; 3, "a mark is wrong". "each 1 first, then record by record, 2 before 3". "The
-- mark is 1 when the record's language has the empty word, else 0".
use Rattle.std.specs.Prelude.{ℕ, ◌*◌, ◌/◌, ◌%◌, ◌<◌, ◌≤◌, Bool, true, false, List, [], ◌≡◌, length}
use Rattle.language.specs.Language.{language}
use Rattle.records.specs.declared.kind.Columns.{Columns}
use Rattle.records.specs.declared.record.Record.{Record}
use Rattle.refusals.specs.Order.{Standing}
use Rattle.refusals.specs.Order.{Good, Refused}
use Rattle.refusals.specs.Numbers.{card_length, broken_record, wrong_mark}
use Rattle.records.specs.Record.{records, child}
use Rattle.records.specs.Kind.{kind_of, columns}
use Rattle.cards.specs.Meaning.{patterns, numbered}

-- The length of a card that may hold `most` records.
pub record RightLength (most size : ℕ) : Type 0 where
  pub some : 0 < size
  pub whole : size % 8 ≡ 0
  pub not_long : size ≤ 8 * most

-- A letter that is any byte, or else 0.
abbrev pub LetterField : Bool → ℕ → Type 0
LetterField true letter = Unit {0}
LetterField false letter = letter ≡ 0

-- A field that names a child, whose number is lower than `at`, or else is 0.
abbrev pub ChildField : Bool → ℕ → ℕ → Type 0
ChildField true at field = field < at
ChildField false at field = field ≡ 0

-- A line of the kind table, for the record numbered `at`.
pub record LineOf (line : Columns) (at : ℕ) (r : Record) : Type 0 where
  pub known : line.known ≡ true
  pub letter : LetterField line.letter r.letter
  pub left : ChildField line.left at r.left
  pub right : ChildField line.right at r.right

-- The kind table, for the record numbered `at`: the line of the record's kind.
abbrev pub Line : ℕ → Record → Type 0
Line at r = LineOf (columns (kind_of r.kind)) at r

-- A record obeys the table, and its fourth byte is zero.
pub record Obeys (at : ℕ) (r : Record) : Type 0 where
  pub fourth : r.fourth ≡ 0
  pub line : Line at r

-- A mark tells the truth of A.
pub data TrueMark (mark : ℕ) (A : Type 0) : Type 0 where
  one : mark ≡ 1 → A → TrueMark mark A
  zero : mark ≡ 0 → (A → ⊥) → TrueMark mark A

-- The mark of the record numbered `at` tells whether the record's language has the empty word.
abbrev pub MarkRight : List Record → ℕ → Type 0
MarkRight rs at = TrueMark (child rs at).mark (language (numbered (patterns rs) at) [])

-- The record numbered `at` is right in all.
pub record Right (rs : List Record) (at : ℕ) : Type 0 where
  pub obeys : Obeys at (child rs at)
  pub mark : MarkRight rs at

-- The standing of any bytes, as a card of at most so many records.
pub data Stands (most : ℕ) (card : List ℕ) : Standing → Type 0 where
  by_1 : (RightLength most (length card) → ⊥) → Stands most card (Refused card_length)
  by_2 : RightLength most (length card) → (at : ℕ) → at < length card / 8
      → ((i : ℕ) → i < at → Right (records card) i)
      → (Obeys at (child (records card) at) → ⊥)
      → Stands most card (Refused broken_record)
  by_3 : RightLength most (length card) → (at : ℕ) → at < length card / 8
      → ((i : ℕ) → i < at → Right (records card) i)
      → Obeys at (child (records card) at)
      → (MarkRight (records card) at → ⊥)
      → Stands most card (Refused wrong_mark)
  in_good_standing : RightLength most (length card)
      → ((i : ℕ) → i < length card / 8 → Right (records card) i)
      → Stands most card Good
