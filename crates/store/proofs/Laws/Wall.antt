-- The wall: what everything above the store uses of it. Nothing above unfolds a making rule.
--   grows     only records at the end are added, where a step stops too
--   good      the store stays good, where a step stops too
--   means     the language at the made place is the operator's over the parts' languages
--   stops     only for a new record with no free place, and what was placed by then stands; in a larger room it goes on from there
--   replays   done again in any store that has grown from there, it gives the same place and adds nothing
--   enough    in any room that holds what it placed it does the same
use Rattle.std.specs.Prelude.{ℕ, ◌<◌, ◌≤◌, List, [], ◌∷◌, ◌++◌, ◌≡◌, refl, length}
use Rattle.std.proofs.Common.{arith, append_assoc, append-nil, sym, ◌∙◌, ap, length-append}
use Rattle.language.specs.Language.{Equal}
use Rattle.records.specs.declared.record.Record.{Record}
use Rattle.records.specs.Kind.{kind_of}
use Rattle.store.specs.Making.{Making, placed, full, make, after}
use Rattle.store.specs.Laws.Wall.{Grows, Ready, Kept}
use Rattle.store.proofs.Laws.Languages.{language_at, operator_over, language_kept}

pub grows_refl : (store : List Record) → Grows store store
grows_refl store = record { more = []; is = sym (append-nil store) }

pub grows_trans : {a b c : List Record} → Grows a b → Grows b c → Grows a c
grows_trans {a} g h =
    record { more = g.more ++ h.more; is = h.is ∙ ap (λ (s : List Record). s ++ h.more) g.is ∙ append_assoc a g.more h.more }

pub grows_length : {a b : List Record} → Grows a b → length a ≤ length b
grows_length {a} g = omega (arith, ap length g.is, length-append a g.more)

-- The language at a place stays as it is.
pub grows_language : {a b : List Record} → Grows a b → (place : ℕ) → place < length a → Equal (language_at b place) (language_at a place)
grows_language {a} g place l = rw g.is (language_kept a g.more place l)

-- The second store begins with the first and is longer.
pub record Longer (store store' : List Record) : Type 0 where
  pub grows : Grows store store'
  pub longer : length store < length store'

pub longer_grows : {a b c : List Record} → Longer a b → Grows b c → Longer a c
longer_grows h g = record { grows = grows_trans h.grows g; longer = let l = h.longer in omega (arith, grows_length g) }

pub longer_by_one : (store : List Record) (r : Record) → Longer store (store ++ r ∷ [])
longer_by_one store r = record { grows = record { more = r ∷ []; is = refl }; longer = omega (arith, length-append store (r ∷ [])) }

pub kept_refl : {room : ℕ} {store : List Record} → Ready room store → Kept room store store
kept_refl {store = store} r = record { grows = grows_refl store; ready = r }

pub kept_trans : {room : ℕ} {a b c : List Record} → Kept room a b → Kept room b c → Kept room a c
kept_trans j k = record { grows = grows_trans j.grows k.grows; ready = k.ready }

-- A record was made.
pub record Placed (room : ℕ) (store : List Record) (kind letter left right place : ℕ) (store' : List Record) : Type 0 where
  pub kept : Kept room store store'
  pub inside : place < length store'
  pub means : Equal (language_at store' place) (operator_over (kind_of kind) letter (language_at store left) (language_at store right))
  pub replays : (room' : ℕ) (store'' : List Record) → Grows store' store'' → make room' store'' kind letter left right ≡ placed place store''
  pub enough : (room' : ℕ) → length store' ≤ room' → make room' store kind letter left right ≡ placed place store'

-- No free place was left for a new record.
pub record Filled (room : ℕ) (store store' : List Record) : Type 0 where
  pub kept : Kept room store store'
  pub fills : length store' ≡ room

-- So a step stopped; `leaves` tells the store that the step leaves in a room of so many places. In every larger room it goes on from there.
pub record Outgrown (leaves : ℕ → List Record) (room : ℕ) (store store' : List Record) : Type 0 where
  pub kept : Kept room store store'
  pub fills : length store' ≡ room
  pub goes_on : (room' : ℕ) → room < room' → Longer store' (leaves room')

pub outgrown_filled : {leaves : ℕ → List Record} {room : ℕ} {store store' : List Record} → Outgrown leaves room store store' → Filled room store store'
outgrown_filled h = record { kept = h.kept; fills = h.fills }

-- The law of making.
pub data MakeLaw (room : ℕ) (store : List Record) (kind letter left right : ℕ) : Making → Type 0 where
  was_placed : {place : ℕ} {store' : List Record} → Placed room store kind letter left right place store' → MakeLaw room store kind letter left right (placed place store')
  was_full : {store' : List Record} → Outgrown (λ room'. after (make room' store kind letter left right)) room store store'
      → MakeLaw room store kind letter left right (full store')

-- A step that led from one store to another, done again: in a store that has grown from the second, where it adds nothing; or anew
-- from the first, in a room that holds the second.
pub data Course (store store' : List Record) (room : ℕ) : List Record → List Record → Type 0 where
  replay : {grown : List Record} → Grows store' grown → Course store store' room grown grown
  anew : length store' ≤ room → Course store store' room store store'

pub course_grows : {a b : List Record} {room : ℕ} {s s' : List Record} → Grows a b → Course a b room s s' → Grows a s
course_grows g (replay h) = grows_trans g h
course_grows {a} g (anew n) = grows_refl a

-- A step that adds nothing adds nothing when done again.
pub course_same : {a : List Record} {room : ℕ} {s s' : List Record} → Course a a room s s' → s ≡ s'
course_same (replay h) = refl
course_same (anew n) = refl

-- Two steps one after the other.
pub record Legs (a b c : List Record) (room : ℕ) (s s' : List Record) : Type 0 where
  pub between : List Record
  pub first : Course a b room s between
  pub second : Course b c room between s'

pub course_legs : {a b c : List Record} {room : ℕ} {s s' : List Record} → Grows b c → Course a c room s s' → Legs a b c room s s'
course_legs {s = s} g (replay h) = record { between = s; first = replay (grows_trans g h); second = replay h }
course_legs {b = b} g (anew n) = record { between = b; first = anew (omega (arith, grows_length g)); second = anew n }

-- Making done again.
pub placed_again : {room : ℕ} {store store' : List Record} {kind letter left right place : ℕ} → Placed room store kind letter left right place store'
    → (room' : ℕ) {s s' : List Record} → Course store store' room' s s' → make room' s kind letter left right ≡ placed place s'
placed_again p room' (replay {grown} h) = p.replays room' grown h
placed_again p room' (anew n) = p.enough room' n
