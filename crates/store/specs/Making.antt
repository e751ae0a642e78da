-- Making a record. Document 01, "The store and its making rules":
--   sequence: left nothing or right nothing gives nothing; left empty gives right; right empty gives left.
--   "Otherwise an identical record already in the store is used; failing that, each new record is written into the part of the
--   room that starts at the first free place. These are the only rules." Number 7: "a new record, and no free place".
-- Of a choice document 02, P3: "a choice is a set: its left child is no choice, its members down the right side have strictly rising
-- places, and nothing is no member. Making a choice merges two such sets and builds from the last member backward, before looking for
-- identical records; no member gives nothing, one gives itself."
use Rattle.std.specs.Prelude.{ℕ, zero, suc, Bool, true, false, cond, ◌&&◌, ◌||◌, List, [], ◌∷◌, ◌++◌, eqb, ltb, length}
use Rattle.records.specs.declared.kind.Kind.{Kind}
use Rattle.records.specs.declared.kind.Kind.TheVariants.{Nothing, EmptyWord, Letter, Choice, Sequence, Repeat, Unknown}
use Rattle.records.specs.declared.record.Record.{Record}
use Rattle.records.specs.Record.{child}
use Rattle.records.specs.Kind.{kind_of}
use Rattle.cards.specs.Mark.{bit, marked, has_empty}
use Rattle.std.specs.declared.option.Option.{Option}
use Rattle.std.specs.declared.option.Option.TheVariants.{Some, None}
use Rattle.store.specs.declared.making.Ruled.{Ruled}
use Rattle.store.specs.declared.making.Ruled.TheVariants.{Gives, Stays, Merges}

-- What making comes to: the place of the record and the store afterwards, or a full room and the store as it stands.
pub data Making : Type 0 where
  placed : (place : ℕ) (store : List Record) → Making
  full : (store : List Record) → Making

-- Two records are identical.
abbrev pub identical : Record → Record → Bool
identical r s =
    eqb r.kind s.kind && eqb r.letter s.letter && eqb r.mark s.mark
    && eqb r.fourth s.fourth && eqb r.left s.left && eqb r.right s.right

-- The first place that holds the record, of records of which the first stands at `at`.
unfoldable pub find_from : ℕ → List Record → Record → Option ℕ
find_from at [] r = None
find_from at (s ∷ rest) r = elim (identical s r) [ true ↦ Some at | false ↦ find_from (suc at) rest r ]

unfoldable pub find : List Record → Record → Option ℕ
unfolding find_from
find store r = find_from 0 store r

-- The record is used where it was found, and else written at the first free place of a room of so many places.
abbrev pub use_or_write : ℕ → List Record → Record → Option ℕ → Making
use_or_write room store r (Some place) = placed place store
use_or_write room store r None =
    cond (ltb (length store) room) (placed (length store) (store ++ r ∷ [])) (full store)

unfoldable pub intern : ℕ → List Record → Record → Making
unfolding find
intern room store r = use_or_write room store r (find store r)

-- "place 0 is nothing, place 1 the empty word".
abbrev pub nothing_place : ℕ
nothing_place = 0

abbrev pub empty_word_place : ℕ
empty_word_place = 1

-- The rules, by kind and by the children's places: the rule gives a place, the record stays one, or two sets are merged.
abbrev pub sequence_rule : ℕ → ℕ → Ruled
sequence_rule left right =
    cond (eqb left nothing_place || eqb right nothing_place) (Gives nothing_place)
    (cond (eqb left empty_word_place) (Gives right) (cond (eqb right empty_word_place) (Gives left) Stays))

abbrev pub rule : Kind → ℕ → ℕ → Ruled
rule Nothing left right = Stays
rule EmptyWord left right = Stays
rule Letter left right = Stays
rule Choice left right = Merges
rule Sequence left right = sequence_rule left right
rule Repeat left right = Stays
rule Unknown left right = Stays

-- The record of this kind, letter and children, with the mark that its children's marks in the store give it.
abbrev pub new_record : List Record → ℕ → ℕ → ℕ → ℕ → Record
new_record store kind letter left right =
    record {
      kind = kind;
      letter = letter;
      mark = bit (has_empty (kind_of kind) (marked (child store left)) (marked (child store right)));
      fourth = 0;
      left = left;
      right = right;
    }

-- Sets. They are of one kind each, whose number is given: of the kind choice, a choice's members.

-- A record is of this kind.
abbrev pub is_kind : ℕ → Record → Bool
is_kind kind r = eqb r.kind kind

-- The first member of a set, and the place of the set behind it: the left and right child of a record of this kind. A place of any other
-- kind is its own only member, and nothing is behind it.
abbrev pub first : ℕ → List Record → ℕ → ℕ
first kind store place = cond (is_kind kind (child store place)) (child store place).left place

abbrev pub behind : ℕ → List Record → ℕ → ℕ
behind kind store place = cond (is_kind kind (child store place)) (child store place).right nothing_place

-- The members of a place, down the right side: nothing has none. What is behind stands lower, so a depth above the place is enough.
unfoldable pub members_to : ℕ → ℕ → List Record → ℕ → List ℕ
members_to kind zero store place = []
members_to kind (suc depth) store place =
    elim (eqb place nothing_place) [ true ↦ [] | false ↦ first kind store place ∷ members_to kind depth store (behind kind store place) ]

unfoldable pub members : ℕ → List Record → ℕ → List ℕ
unfolding members_to
members kind store place = members_to kind (suc place) store place

-- A member entered among members of rising places, in its turn, and once.
unfoldable pub entered : ℕ → List ℕ → List ℕ
entered m [] = m ∷ []
entered m (n ∷ ns) =
    elim (ltb m n) [ true ↦ m ∷ n ∷ ns | false ↦ elim (eqb m n) [ true ↦ n ∷ ns | false ↦ n ∷ entered m ns ] ]

-- Two sets merged: each member of the first entered among those of the second.
unfoldable pub merged : List ℕ → List ℕ → List ℕ
unfolding entered
merged [] ns = ns
merged (m ∷ ms) ns = entered m (merged ms ns)

-- A member put before the set that was built of the later ones: where that is nothing the member is the set, and else the record of this kind
-- with both as its children is used or written.
abbrev pub put_before : ℕ → ℕ → ℕ → Making → Making
put_before room kind m (placed rest store) =
    cond (eqb rest nothing_place) (placed m store) (intern room store (new_record store kind 0 m rest))
put_before room kind m (full store) = full store

-- A set built from its last member backward: no member gives nothing, one gives itself.
unfoldable pub built : ℕ → ℕ → List Record → List ℕ → Making
unfolding intern
built room kind store [] = placed nothing_place store
built room kind store (m ∷ ms) = put_before room kind m (built room kind store ms)

-- The set of both places' members: of the kind choice, the choice of two places.
unfoldable pub set_of_both : ℕ → ℕ → List Record → ℕ → ℕ → Making
unfolding members merged built
set_of_both room kind store left right = built room kind store (merged (members kind store left) (members kind store right))

-- What the rule says, done: a place is given, the record is used or written, or the sets of its children are merged.
abbrev pub by_rule : Ruled → ℕ → List Record → Record → Making
by_rule (Gives place) room store r = placed place store
by_rule Stays room store r = intern room store r
by_rule Merges room store r = set_of_both room r.kind store r.left r.right

-- Making a record in a store, in a room of so many places.
unfoldable pub make : ℕ → List Record → ℕ → ℕ → ℕ → ℕ → Making
unfolding intern set_of_both
make room store kind letter left right =
    by_rule (rule (kind_of kind) left right) room store (new_record store kind letter left right)

-- The store afterwards.
abbrev pub after : Making → List Record
after (placed place store) = store
after (full store) = store
