-- Places grouped, and joined by making sets of a kind: what is said of them. Whatever their number, order and grouping, groupings of the same
-- members come to one place, whichever is made first and whatever else is made between. It is proved in OnePlace.
use Rattle.std.specs.Prelude.{ℕ, ◌<◌, List, [], ◌∷◌, ◌++◌, ◌≡◌, length}
use Rattle.records.specs.declared.record.Record.{Record}
use Rattle.store.specs.Making.{Making, placed, full, members, make}
use Rattle.store.specs.Good.{Good}
use Rattle.store.specs.Laws.Wall.{Grows, Ready, Kept}
use Rattle.store.proofs.Laws.Wall.{Filled}
use Rattle.store.proofs.Laws.Sets.{SameMembers}

-- Places grouped: one alone, or two groups to be joined.
pub data Grouping : Type 0 where
  alone : ℕ → Grouping
  joined : Grouping → Grouping → Grouping

-- All its places stand in the store.
pub data Within (store : List Record) : Grouping → Type 0 where
  lone : {p : ℕ} → p < length store → Within store (alone p)
  two : {g h : Grouping} → Within store g → Within store h → Within store (joined g h)

-- The members of all its places in the store, one place after the other.
unfoldable pub all_members : ℕ → List Record → Grouping → List ℕ
all_members kind store (alone p) = members kind store p
all_members kind store (joined g h) = all_members kind store g ++ all_members kind store h

-- Two groupings are of the same members, in whatever order and however often.
abbrev pub EqualMembers : ℕ → List Record → Grouping → Grouping → Type 0
EqualMembers kind store g h = SameMembers (all_members kind store g) (all_members kind store h)

-- The places of a grouping, from left to right.
unfoldable pub places : Grouping → List ℕ
places (alone p) = p ∷ []
places (joined g h) = places g ++ places h

-- Making the record of two places, of a kind without a letter.
abbrev pub made_of : ℕ → ℕ → List Record → ℕ → ℕ → Making
made_of room kind store left right = make room store kind 0 left right

-- What is made next, where a place was made; a full room ends it.
abbrev pub and_then : Making → (ℕ → List Record → Making) → Making
and_then (placed place store) next = next place store
and_then (full store) next = full store

-- A grouping made in a store, in a room of so many places: the left group, then the right one, then the two joined.
unfoldable pub make_grouping : ℕ → ℕ → List Record → Grouping → Making
make_grouping room kind store (alone p) = placed p store
make_grouping room kind store (joined g h) =
    and_then (make_grouping room kind store g) (λ x s. and_then (make_grouping room kind s h) (λ y t. made_of room kind t x y))

-- A grouping of places of the store was made.
pub record Made (kind : ℕ) (g : Grouping) (room : ℕ) (store : List Record) (place : ℕ) (store' : List Record) : Type 0 where
  pub ready : Ready room store
  pub within : Within store g
  pub is : make_grouping room kind store g ≡ placed place store'

-- A grouping came to a place, by the time that the store had grown so far: its groups were made in any order, with anything between. Of what was
-- made between no more is asked than that the store stays good and keeps what stood.
pub data CameTo (kind : ℕ) : Grouping → ℕ → List Record → Type 0 where
  stands : {p : ℕ} {store : List Record} → Good store → p < length store → CameTo kind (alone p) p store
  joins : {g h : Grouping} {x y place room : ℕ} {store store' : List Record} → CameTo kind g x store → CameTo kind h y store → Ready room store
      → made_of room kind store x y ≡ placed place store' → CameTo kind (joined g h) place store'
  later : {g : Grouping} {place : ℕ} {store grown : List Record} → CameTo kind g place store → Grows store grown → Good grown → CameTo kind g place grown

-- What it came to: a place of a good store, with just the members of the places grouped.
pub record Came (kind : ℕ) (g : Grouping) (place : ℕ) (store : List Record) : Type 0 where
  pub good : Good store
  pub inside : place < length store
  pub within : Within store g
  pub same : SameMembers (members kind store place) (all_members kind store g)

-- What making a grouping comes to: a place, or a full room.
pub data GroupingLaw (room kind : ℕ) (store : List Record) (g : Grouping) : Making → Type 0 where
  came_to : {place : ℕ} {store' : List Record} → Kept room store store' → CameTo kind g place store' → GroupingLaw room kind store g (placed place store')
  filled : {store' : List Record} → Filled room store store' → GroupingLaw room kind store g (full store')

-- Sets of a kind stand at one place.
pub record OnePlace (kind : ℕ) : Type 0 where
  -- Two places of a good store with the same members are one, whether they are records of the kind or not.
  pub equal_members : {store : List Record} → Good store → (p q : ℕ) → p < length store → q < length store
      → SameMembers (members kind store p) (members kind store q) → p ≡ q
  -- A grouping is made, and another of the same members in any good store grown from there: they come to one place.
  pub made_in_any_grouping : {g h : Grouping} {room room' : ℕ} {s₁ s₂ s₃ s₄ : List Record} {one other : ℕ} → Made kind g room s₁ one s₂ → Grows s₂ s₃
      → Made kind h room' s₃ other s₄ → EqualMembers kind s₃ g h → one ≡ other
  -- So they do where the groups of either are made in any order, with anything between.
  pub in_any_grouping : {g h : Grouping} {store store' : List Record} {one other : ℕ} → CameTo kind g one store → Grows store store'
      → CameTo kind h other store' → EqualMembers kind store' g h → one ≡ other
  -- Of the other no more than its groups can be new: where they stand, joining them comes to that place and adds nothing, in any room, full or not.
  pub joined_again : {g h₁ h₂ : Grouping} {store : List Record} {one x y : ℕ} → CameTo kind g one store → CameTo kind h₁ x store → CameTo kind h₂ y store
      → EqualMembers kind store g (joined h₁ h₂) → (room : ℕ) → made_of room kind store x y ≡ placed one store
  -- A grouping that came to its place, made again whole, comes to it and adds nothing, in any room.
  pub made_again : {g : Grouping} {store : List Record} {one : ℕ} → CameTo kind g one store → (room : ℕ) → make_grouping room kind store g ≡ placed one store
  -- The place has just the members grouped: groupings of other members come to other places.
  pub came : {g : Grouping} {store : List Record} {one : ℕ} → CameTo kind g one store → Came kind g one store
  -- Groupings of the same places, in any order and each any number of times, are of the same members.
  pub equal_places : (store : List Record) (g h : Grouping) → SameMembers (places g) (places h) → EqualMembers kind store g h
  -- Made in a room, a grouping comes to a place, or the room is full.
  pub comes : (g : Grouping) {room : ℕ} {store : List Record} → Ready room store → Within store g
      → GroupingLaw room kind store g (make_grouping room kind store g)
