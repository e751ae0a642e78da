-- A good store: what the store's own workings need of one another and keep. No public call names it.
use Rattle.std.specs.Prelude.{ℕ, suc, ◌*◌, ◌<◌, ◌≤◌, Bool, true, false, List, [], ◌∷◌, ◌≡◌, length, take}
use Rattle.language.specs.Word.{Bytes}
use Rattle.language.specs.Laws.Derivative.{nullable}
use Rattle.refusals.specs.Limits.{most_places}
use Rattle.records.specs.declared.kind.Kind.{Kind}
use Rattle.records.specs.declared.kind.Kind.TheVariants.{Nothing, EmptyWord, Letter, Choice, Sequence, Repeat, Unknown}
use Rattle.records.specs.declared.record.Record.{Record}
use Rattle.records.specs.Record.{child}
use Rattle.records.specs.Kind.{kind_of}
use Rattle.cards.specs.Mark.{bit}
use Rattle.cards.specs.Meaning.{patterns, numbered}
use Rattle.cards.specs.Standing.{Line, Obeys}
use Rattle.store.specs.Room.{store_in, nothing_record, empty_word_record}
use Rattle.store.specs.Making.{Making, placed, nothing_place, empty_word_place, new_record, make, is_kind, members}

-- Making a record again from its own kind, letter and children.
abbrev pub make_again : ℕ → List Record → Record → Making
make_again room store r = make room store r.kind r.letter r.left r.right

-- The kinds whose records are sets.
abbrev pub is_set : Kind → Bool
is_set Nothing = false
is_set EmptyWord = false
is_set Letter = false
is_set Choice = true
is_set Sequence = false
is_set Repeat = false
is_set Unknown = false

-- A kind, by its number, whose records are sets.
pub record SetKind (kind : ℕ) : Type 0 where
  pub is : is_set (kind_of kind) ≡ true

-- Members of a set of a kind, above the place `low`: their places rise, and none of them is of that kind.
pub data Set (kind : ℕ) (store : List Record) : ℕ → List ℕ → Type 0 where
  none : {low : ℕ} → Set kind store low []
  member : {low m : ℕ} {ms : List ℕ} → low < m → m < length store → is_kind kind (child store m) ≡ false → Set kind store m ms
      → Set kind store low (m ∷ ms)

-- A record is a set of two members or more: its left child and the members of its right child. Nothing is no member, so they stand above its place.
pub record IsSet (kind : ℕ) (store : List Record) (r : Record) : Type 0 where
  pub set : Set kind store nothing_place (r.left ∷ members kind store r.right)
  pub more : nothing_place < r.right

-- A good store.
pub record Good (store : List Record) : Type 0 where
  pub some : 2 ≤ length store
  pub nothing : child store nothing_place ≡ nothing_record
  pub empty_word : child store empty_word_place ≡ empty_word_record
  pub obeys : (at : ℕ) → at < length store → Obeys at (child store at)
  pub letter : (at : ℕ) → at < length store → (child store at).letter < 256
  pub mark : (at : ℕ) → at < length store → (child store at).mark ≡ bit (nullable (numbered (patterns store) at))
  pub once : (i j : ℕ) → i < length store → j < length store → child store i ≡ child store j → i ≡ j
  pub sets : (at : ℕ) → at < length store → is_set (kind_of (child store at).kind) ≡ true → IsSet (child store at).kind store (child store at)
  pub settled : (at : ℕ) → at < length store → (room : ℕ) → make_again room store (child store at) ≡ placed at store
  pub in_turn : (at : ℕ) → 2 ≤ at → at < length store → (room : ℕ) → at < room
      → make_again room (take at store) (child store at) ≡ placed at (take (suc at) store)

-- The store of so many places in a room is good.
pub record GoodStore (room : List ℕ) (places : ℕ) : Type 0 where
  pub bytes : Bytes room
  pub fits : 8 * places ≤ length room
  pub short : length room ≤ 8 * most_places
  pub good : Good (store_in room places)

-- What can be made: a record that obeys the kind table at the first free place, with a letter that is a byte.
pub record Makeable (store : List Record) (kind letter left right : ℕ) : Type 0 where
  pub line : Line (length store) (new_record store kind letter left right)
  pub byte : letter < 256
