-- Deriving in a room: what the code answers of a derivation and the room that it leaves are what the next step of it goes on from, since
-- the store that a derivation comes to is good again and stands in the room that was left.
use Rattle.std.specs.Prelude.{ℕ, zero, suc, IfOk, ◌-◌, ◌<◌, ◌≤◌, Bool, true, false, cond, List, ◌≡◌, refl, length}
use Rattle.std.proofs.Common.{arith, sym, ◌∙◌, ap, ap₂, subst}
use Rattle.std.specs.declared.result.Result.{Result}
use Rattle.std.specs.declared.result.Result.TheVariants.{Ok, Err}
use Rattle.language.specs.Word.{IsByte}
use Rattle.refusals.specs.declared.refusal.Refusal.{Refusal}
use Rattle.records.specs.declared.kind.Kind.{Kind}
use Rattle.records.specs.declared.kind.Kind.TheVariants.{Nothing, EmptyWord, Letter, Choice, Sequence, Repeat, Unknown}
use Rattle.records.specs.declared.record.Record.{Record}
use Rattle.records.specs.Record.{record_at, child}
use Rattle.records.specs.Kind.{kind_of, columns, choice_kind, sequence_kind}
use Rattle.cards.specs.Mark.{marked}
use Rattle.cards.specs.Standing.{LineOf, Line}
use Rattle.store.specs.declared.work.Work.{Work}
use Rattle.store.specs.Work.{store_of, space_of}
use Rattle.store.specs.Room.{store_in, places_of, laid}
use Rattle.store.specs.Good.{GoodStore, Makeable}
use Rattle.store.proofs.Laws.Room.{laid_same, laid_laid, child_in_room}
use Rattle.store.specs.Laws.Wall.{Ready, Kept}
use Rattle.store.proofs.Laws.Wall.{grows_length, kept_refl, kept_trans}
use Rattle.store.proofs.Laws.GoodRoom.{room_ready, length_store_in, places_after, store_after, good_after}
use Rattle.derivative.proofs.Laws.Told.{Derived}
use Rattle.derivative.proofs.Laws.Told.{At, Stopped}
use Rattle.derivative.specs.declared.Visited.{Visited}
use Rattle.derivative.specs.declared.Visited.TheVariants.{Leaf, Parts}
use Rattle.derivative.specs.Derivative.{Deriving, derived, stopped, price, and_then, of_making, making, after_product, derive_record, derive_to}
use Rattle.derivative.specs.Parts.{asks, asked, product_of, with_left, derive_parts, derive_asked}
use Rattle.derivative.specs.Told.{deriving_told, Comes}
use Rattle.derivative.proofs.Laws.Told.{after_deriving, ComesRoom}
use Rattle.derivative.proofs.Laws.Steps.{Step, StepLaw, was_done, was_ended, two_makeable, making_law}
use Rattle.derivative.proofs.Laws.Derivative.{is_unpaid, is_paid, derive_to_law}

-- What a derivation keeps, in a room of so many places: the wall, and a derived place is in the store.
pub data Keeps (cap : ℕ) (store : List Record) : Deriving → Type 0 where
  derives : {place : ℕ} {store' : List Record} {budget : ℕ} → Kept cap store store' → place < length store' → Keeps cap store (derived place store' budget)
  stops : {number : ℕ} {store' : List Record} {budget : ℕ} → Kept cap store store' → Keeps cap store (stopped number store' budget)

pub step_keeps : {f : Step} {cap : ℕ} {store : List Record} {budget cost : ℕ} {Mean : List Record → ℕ → Type 0} {d : Deriving}
    → StepLaw f cap store budget cost Mean d → Keeps cap store d
step_keeps (was_done h) = derives h.kept h.inside
step_keeps (was_ended h) = stops h.kept

pub keeps_longer : {cap : ℕ} {store : List Record} {d : Deriving} → Keeps cap store d → length store ≤ length (after_deriving d)
keeps_longer (derives k _) = grows_length k.grows
keeps_longer (stops k) = grows_length k.grows

keeps_more : {cap : ℕ} {a b : List Record} {d : Deriving} → Kept cap a b → Keeps cap b d → Keeps cap a d
keeps_more j (derives k l) = derives (kept_trans j k) l
keeps_more j (stops k) = stops (kept_trans j k)

keeps_then : {cap : ℕ} {store : List Record} {next : ℕ → List Record → ℕ → Deriving} {d : Deriving} → Keeps cap store d
    → ((x : ℕ) (s : List Record) (b : ℕ) → Kept cap store s → x < length s → Keeps cap s (next x s b))
    → Keeps cap store (and_then d next)
keeps_then (derives {place} {store'} {budget} k l) h = keeps_more k (h place store' budget k l)
keeps_then (stops k) h = stops k

-- What each step keeps.

making_keeps : {cap : ℕ} {store : List Record} → Ready cap store → {kind left right : ℕ} → Makeable store kind 0 left right
    → (budget : ℕ) → Keeps cap store (making cap kind left right store budget)
making_keeps ready can budget = step_keeps (making_law {budget = budget} ready can {Mean = λ _ _. Unit {0}} (λ _ _ _. tt))

choice_keeps : {cap : ℕ} {store : List Record} → Ready cap store → (x y : ℕ) → x < length store → y < length store
    → (budget : ℕ) → Keeps cap store (making cap choice_kind x y store budget)
choice_keeps ready x y l m budget = making_keeps ready (two_makeable choice_kind refl l m) budget

sequence_keeps : {cap : ℕ} {store : List Record} → Ready cap store → (x y : ℕ) → x < length store → y < length store
    → (budget : ℕ) → Keeps cap store (making cap sequence_kind x y store budget)
sequence_keeps ready x y l m budget = making_keeps ready (two_makeable sequence_kind refl l m) budget

product_keeps : {cap : ℕ} {store : List Record} → Ready cap store → (x right : ℕ) (product : Bool) → x < length store → right < length store
    → (budget : ℕ) → Keeps cap store (of_making (product_of cap store x right product) budget)
product_keeps ready x right true l m budget = sequence_keeps ready x right l m budget
product_keeps ready x right false l m budget = derives (kept_refl ready) l

-- Deriving by a letter to a depth, in a room of so many places.
abbrev D : ℕ → ℕ → ℕ → ℕ → List Record → ℕ → Deriving
D letter depth cap place store budget = derive_to depth cap letter place store budget

module _ (letter : ℕ) (byte : IsByte letter) (depth : ℕ) where
  derive_keeps : {cap : ℕ} {store : List Record} → Ready cap store → (place : ℕ) → place < depth → place < length store
      → (budget : ℕ) → Keeps cap store (D letter depth cap place store budget)
  derive_keeps {cap} {store} ready place l m budget = step_keeps (derive_to_law letter byte depth cap place store budget l m ready)

  right_keeps : {cap : ℕ} {store : List Record} → Ready cap store → (x right : ℕ) (both : Bool)
      → cond both right 0 < depth → x < length store → right < length store
      → (budget : ℕ) → Keeps cap store (after_product (D letter depth cap) cap right both x store budget)
  right_keeps ready x right true l m n budget =
      keeps_then (derive_keeps ready right l n budget)
      (λ y s b k i. choice_keeps k.ready x y (omega (arith, grows_length k.grows)) i b)
  right_keeps ready x right false l m n budget = derives (kept_refl ready) m

  left_keeps : {cap : ℕ} {store : List Record} → Ready cap store → (x right : ℕ) (product both : Bool)
      → cond both right 0 < depth → x < length store → right < length store
      → (budget : ℕ) → Keeps cap store (with_left (D letter depth cap) cap x right product both store budget)
  left_keeps ready x right product both l m n budget =
      keeps_then (product_keeps ready x right product m n budget)
      (λ y s b k i. right_keeps k.ready y right both l i (omega (arith, grows_length k.grows)) b)

-- What the code told is one thing.
pub not_both : {answer : Derived} {number taken rest x taken' rest' : ℕ} → answer ≡ Stopped number taken rest → answer ≡ At rest' x taken' → ⊥
not_both e f = let z : ◌≡◌ {A = ℕ} 0 1 = cc in omega arith

-- A place was derived from the store of a room: the store that then stands in it.
pub record Stands (room : List ℕ) (places : ℕ) (d : Deriving) (x taken rest : ℕ) (room' : List ℕ) : Type 0 where
  pub store : List Record
  pub is : d ≡ derived x store rest
  pub taken_is : taken ≡ length store
  pub room_is : room' ≡ laid store room
  pub kept : Kept (places_of room) (store_in room places) store
  pub inside : x < length store

pub stands : {room : List ℕ} {places : ℕ} {d : Deriving} {answer : Derived} {room' : List ℕ}
    → Keeps (places_of room) (store_in room places) d → ComesRoom room d answer room'
    → {x taken rest : ℕ} → answer ≡ At rest x taken → Stands room places d x taken rest room'
stands (derives {place} {store'} k l) c {x} e =
    let a = c.answers in
    let same : x ≡ place = cc in
    record {
      store = store';
      is = cc;
      taken_is = cc;
      room_is = c.leaves;
      kept = k;
      inside = rw same l;
    }
stands (stops k) c e = absurd (not_both c.answers e)

-- A stop stays a stop.
pub stopped_then : {room : List ℕ} {d : Deriving} {answer : Derived} {room' : List ℕ} → ComesRoom room d answer room'
    → {number taken rest : ℕ} → answer ≡ Stopped number taken rest
    → (next : ℕ → List Record → ℕ → Deriving) → ComesRoom room (and_then d next) (Stopped number taken rest) room'
stopped_then {d = derived place store budget} c e next = absurd (not_both e c.answers)
stopped_then {d = stopped number store budget} c e next = record { answers = sym e ∙ c.answers; leaves = c.leaves }

-- What the next step may ask of the room, once a place was derived or made.
pub record Next (places : ℕ) (room' : List ℕ) (x taken : ℕ) : Type 0 where
  pub good : GoodStore room' taken
  pub inside : x < taken
  pub more : places ≤ taken

-- A place that is taken is in the store.
pub in_store : (room : List ℕ) {place places : ℕ} → place < places → place < length (store_in room places)
in_store room {place} {places} l = omega (arith, length_store_in room places)

module _ {room : List ℕ} {places : ℕ} (good : GoodStore room places) {d : Deriving} {x taken rest : ℕ} {room' : List ℕ}
    (s : Stands room places d x taken rest room') where
  pub next : Next places room' x taken
  next =
      record {
        good = rw (s.room_is, s.taken_is) (good_after room s.kept good);
        inside = let l = s.inside in omega (arith, s.taken_is);
        more = omega (arith, s.taken_is, grows_length s.kept.grows, length_store_in room places);
      }

  places_then : places_of room' ≡ places_of room
  places_then = ap places_of s.room_is ∙ places_after room s.kept

  pub store_then : store_in room' taken ≡ s.store
  store_then = ap₂ store_in s.room_is s.taken_is ∙ store_after room s.kept

  -- What follows goes on from the store that stands.
  comes_then : (then : ℕ → ℕ → List Record → ℕ → Deriving)
      → Keeps (places_of room') (store_in room' taken) (then (places_of room') x (store_in room' taken) rest)
      → {answer : Derived} {room'' : List ℕ} → ComesRoom room' (then (places_of room') x (store_in room' taken) rest) answer room''
      → ComesRoom room (and_then d (then (places_of room))) answer room''
  comes_then then k c =
      let d₂ = then (places_of room) x s.store rest in
      let same : then (places_of room') x (store_in room' taken) rest ≡ d₂ = rw (places_then, store_then) in
      let longer : length s.store ≤ length (after_deriving d₂) = keeps_longer (rw (places_then, store_then) at k) in
      let c₂ = rw same at c in
      rw s.is
      (record {
        answers = c₂.answers;
        leaves = c₂.leaves ∙ ap (laid (after_deriving d₂)) s.room_is ∙ laid_laid s.store (after_deriving d₂) room longer;
      })

-- Where nothing is made the room stays as it is.

module _ {room : List ℕ} {places : ℕ} (good : GoodStore room places) where
  derived_here : (x rest : ℕ) → ComesRoom room (derived x (store_in room places) rest) (At rest x places) room
  derived_here x rest =
      record {
        answers = ap (λ (n : ℕ). At rest x n) (sym (length_store_in room places));
        leaves = sym (laid_same places room good.fits good.bytes);
      }

  stopped_here : (number rest : ℕ) → ComesRoom room (stopped number (store_in room places) rest) (Stopped number places rest) room
  stopped_here number rest =
      record {
        answers = ap (λ (n : ℕ). Stopped number n rest) (sym (length_store_in room places));
        leaves = sym (laid_same places room good.fits good.bytes);
      }

-- A sequence or a choice can be made of any two places that are taken.
module _ (room : List ℕ) {places x y : ℕ} (inside : (x < places) × (y < places)) where
  pub sequence_makeable : Makeable (store_in room places) sequence_kind 0 x y
  sequence_makeable = two_makeable sequence_kind refl (in_store room inside.0) (in_store room inside.1)

  pub choice_makeable : Makeable (store_in room places) choice_kind 0 x y
  choice_makeable = two_makeable choice_kind refl (in_store room inside.0) (in_store room inside.1)

-- What each function of the code ensures of a room with a store of so many places, of its answer and of the room that it leaves.
module _ (letter : ℕ) (room : List ℕ) (places : ℕ) where
  abbrev cap : ℕ
  cap = places_of room

  abbrev store : List Record
  store = store_in room places

  abbrev Derives : (place budget : ℕ) → Derived → List ℕ → Type 0
  Derives place budget answer exit = (depth : ℕ) → place < depth → ComesRoom room (derive_to depth cap letter place store budget) answer exit

  abbrev DerivesRight : (x right : ℕ) (both : Bool) (budget : ℕ) → Derived → List ℕ → Type 0
  DerivesRight x right both budget answer exit =
      (depth : ℕ) → cond both right 0 < depth → ComesRoom room (after_product (D letter depth cap) cap right both x store budget) answer exit

  abbrev DerivesLeft : (x right : ℕ) (product both : Bool) (budget : ℕ) → Derived → List ℕ → Type 0
  DerivesLeft x right product both budget answer exit =
      (depth : ℕ) → cond both right 0 < depth → ComesRoom room (with_left (D letter depth cap) cap x right product both store budget) answer exit

  abbrev DerivesParts : (left right : ℕ) (product both : Bool) (budget : ℕ) → Derived → List ℕ → Type 0
  DerivesParts left right product both budget answer exit =
      (depth : ℕ) → left < depth → cond both right 0 < depth
      → ComesRoom room (derive_parts (D letter depth cap) cap left right product both store budget) answer exit

-- Where a derivation comes to a place, that place is taken, and no place taken is given up.
keeps_told : {cap : ℕ} {store : List Record} (answer : Result ℕ Refusal) (store' : List Record) (budget : ℕ) → Keeps cap store (deriving_told answer store' budget)
    → IfOk answer (λ next. next < length store') × (length store ≤ length store')
keeps_told (Ok place) store' budget (derives k l) = (l, grows_length k.grows)
keeps_told (Err refusal) store' budget (stops k) = (tt, grows_length k.grows)

module _ (letter : ℕ) (byte : IsByte letter) {w : Work} (place : ℕ) (inside : place < w.places) {answer : Result ℕ Refusal} {w' : Work}
    (c : (depth : ℕ) → place < depth → Comes w (derive_to depth (space_of w) letter place (store_of w) w.budget) answer w') where
  kept_inside : IfOk answer (λ next. next < length (store_of w')) × (length (store_of w) ≤ length (store_of w'))
  kept_inside =
      keeps_told answer (store_of w') w'.budget
      (subst (Keeps (space_of w) (store_of w)) (c (suc place) (omega arith)).is
      (derive_keeps letter byte (suc place) (room_ready w.good) place (omega arith) (in_store w.room.now inside) w.budget))

  pub derived_inside : IfOk answer (λ next. next < w'.places)
  derived_inside = rw (length_store_in w'.room.now w'.places) at kept_inside.0

  pub derived_grows : w.places ≤ w'.places
  derived_grows = rw (length_store_in w.room.now w.places, length_store_in w'.room.now w'.places) at kept_inside.1

module _ (letter : ℕ) (byte : IsByte letter) {room : List ℕ} {places : ℕ} (good : GoodStore room places) where
  -- A place is derived first.
  module _ (place budget : ℕ) (inside : place < places) {first : Derived} {room₁ : List ℕ} (c : Derives letter room places place budget first room₁) where
    first_stands : {x taken rest : ℕ} → first ≡ At rest x taken → (depth : ℕ) → place < depth
        → Stands room places (D letter depth (places_of room) place (store_in room places) budget) x taken rest room₁
    first_stands e depth l = stands (derive_keeps letter byte depth (room_ready good) place l (in_store room inside) budget) (c depth l) e

    pub first_next : {x taken rest : ℕ} → first ≡ At rest x taken → Next places room₁ x taken
    first_next e = next good (first_stands e (suc place) (omega arith))

    -- It came to x; `other` is a place that stood before.
    module _ {x taken rest : ℕ} (e : first ≡ At rest x taken) (other : ℕ) (there : other < places) where
      ready : Ready (places_of room₁) (store_in room₁ taken)
      ready = room_ready (first_next e).good

      x_there : x < length (store_in room₁ taken)
      x_there = in_store room₁ (first_next e).inside

      other_there : other < length (store_in room₁ taken)
      other_there = let m = (first_next e).more in in_store room₁ {places = taken} (omega arith)

      pub right_made : {answer : Derived} {exit : List ℕ}
          → ComesRoom room₁ (making (places_of room₁) choice_kind other x (store_in room₁ taken) rest) answer exit
          → {both : Bool} → both ≡ true → DerivesRight letter room places other place both budget answer exit
      right_made made g depth l =
          rw g
          (comes_then good (first_stands e depth (rw g at l)) (λ cap y s b. making cap choice_kind other y s b)
          (choice_keeps ready other x other_there x_there rest) made)

      pub parts_derived : (product both : Bool) {answer : Derived} {exit : List ℕ} → DerivesLeft letter room₁ taken x other product both rest answer exit
          → DerivesParts letter room places place other product both budget answer exit
      parts_derived product both h depth l m =
          comes_then good (first_stands e depth l) (λ cap y s b. with_left (D letter depth cap) cap y other product both s b)
          (left_keeps letter byte depth ready x other product both m x_there other_there rest)
          (h depth m)

  -- The product of x with the right part is made first, where it is asked for.
  module _ (x right budget : ℕ) (inside : (x < places) × (right < places)) (product both : Bool) {told : Derived} {room₁ : List ℕ}
      (made : ComesRoom room (of_making (product_of (places_of room) (store_in room places) x right product) budget) told room₁) where
    product_stands : {y taken rest : ℕ} → told ≡ At rest y taken
        → Stands room places (of_making (product_of (places_of room) (store_in room places) x right product) budget) y taken rest room₁
    product_stands e = stands (product_keeps (room_ready good) x right product (in_store room inside.0) (in_store room inside.1) budget) made e

    pub product_next : {y taken rest : ℕ} → told ≡ At rest y taken → Next places room₁ y taken
    product_next e = next good (product_stands e)

    pub product_placed : {y taken rest : ℕ} → told ≡ At rest y taken → {answer : Derived} {exit : List ℕ}
        → DerivesRight letter room₁ taken y right both rest answer exit
        → DerivesLeft letter room places x right product both budget answer exit
    product_placed {y} {taken} {rest} e h depth l =
        let n = product_next e in
        let right_there : right < taken = let m = n.more in let b = inside.1 in omega arith in
        comes_then good (product_stands e) (λ cap z s b. after_product (D letter depth cap) cap right both z s b)
        (right_keeps letter byte depth (room_ready n.good) y right both l (in_store room₁ n.inside) (in_store room₁ right_there) rest)
        (h depth l)

-- The right part is not asked for.
pub right_unasked : (letter : ℕ) {room : List ℕ} {places : ℕ} → GoodStore room places → (x right budget : ℕ) {both : Bool} → both ≡ false
    → DerivesRight letter room places x right both budget (At budget x places) room
right_unasked letter good x right budget e depth l = rw e (derived_here good x budget)

-- No product is asked for.
pub product_unasked : {room : List ℕ} {places : ℕ} → GoodStore room places → (x right budget : ℕ) {product : Bool} → product ≡ false
    → ComesRoom room (of_making (product_of (places_of room) (store_in room places) x right product) budget) (At budget x places) room
product_unasked good x right budget e = rw e (derived_here good x budget)

-- Once the visit is paid: the definition, kind by kind, is what the record asks for.
then_derived : (d : Deriving) → and_then d (λ x s b. derived x s b) ≡ d
then_derived (derived x s b) = refl
then_derived (stopped n s b) = refl

repeated : (next next' : ℕ → List Record → ℕ → Deriving) → ((x : ℕ) (s : List Record) (b : ℕ) → next x s b ≡ next' x s b)
    → (d : Deriving) → and_then d next ≡ and_then d next'
repeated next next' h (derived x s b) = h x s b
repeated next next' h (stopped n s b) = refl

by_kind : (derive : ℕ → List Record → ℕ → Deriving) (cap letter : ℕ) (r : Record) (left_marked : Bool) (self : ℕ) (store : List Record) (budget : ℕ) (K : Kind)
    → derive_record K derive cap letter r left_marked self store budget ≡ derive_asked (asks K letter r left_marked self) derive cap store budget
by_kind derive cap letter r left_marked self store budget Nothing = refl
by_kind derive cap letter r left_marked self store budget EmptyWord = refl
by_kind derive cap letter r left_marked self store budget Letter = refl
by_kind derive cap letter r left_marked self store budget Choice = refl
by_kind derive cap letter r left_marked self store budget Sequence = refl
by_kind derive cap letter r left_marked self store budget Repeat =
    repeated (λ x s b. making cap sequence_kind x self s b) (λ x s b. with_left derive cap x self true false s b)
    (λ x s b. sym (then_derived (making cap sequence_kind x self s b))) (derive r.left store budget)
by_kind derive cap letter r left_marked self store budget Unknown = refl

-- The visit to a place.
module _ (letter : ℕ) {room : List ℕ} {places : ℕ} (good : GoodStore room places) (place : ℕ) (inside : place < places) where
  -- The record is read and its kind is named.
  module _ {r : Record} (read : r ≡ record_at room place) {k : Kind} (named : k ≡ kind_of r.kind) where
    here : child (store_in room places) place ≡ r
    here = child_in_room places room place inside ∙ sym read

    -- Its line of the kind table, and with it that its children stand lower.
    pub children_lower : {K : Kind} → k ≡ K → LineOf (columns K) place r
    children_lower e =
        subst (λ (K : Kind). LineOf (columns K) place r) (sym named ∙ e)
        (subst (Line place) here (good.good.obeys place (in_store room inside)).line)

    pub asked_by : {K : Kind} → k ≡ K → asks K letter r (marked (child (store_in room places) r.left)) place ≡ asked (store_in room places) letter place
    asked_by e = rw (here, sym named ∙ e)

  -- The children that are derived stand lower, and the right part is in the store.
  pub record Lower (left right : ℕ) (both : Bool) : Type 0 where
    pub left_lower : left < place
    pub right_inside : right < places
    pub both_lower : cond both right 0 < place

  -- What it asks for is known.
  module _ {v : Visited} (says : v ≡ asked (store_in room places) letter place) where
    pub parts_lower : {left right : ℕ} {product both : Bool} → v ≡ Parts left right product both → Lower left right both
    parts_lower {left} {right} {product} {both} e =
        go (kind_of r.kind) (sym says ∙ e) (good.good.obeys place (in_store room inside)).line
      where
        r : Record
        r = child (store_in room places) place

        not_leaf : {n : ℕ} → Leaf n ≡ Parts left right product both → ⊥
        not_leaf h = let z : ◌≡◌ {A = ℕ} 0 1 = cc in omega arith

        lower_by : {b : Bool} → b ≡ both → left < place → right < places → cond b right 0 < place → Lower left right both
        lower_by h l m n = record { left_lower = l; right_inside = m; both_lower = rw (sym h) n }

        mark_lower : (b : Bool) → left < place → right < place → cond b right 0 < place
        mark_lower true l m = m
        mark_lower false l m = omega arith

        go : (K : Kind) → asks K letter r (marked (child (store_in room places) r.left)) place ≡ Parts left right product both
            → LineOf (columns K) place r → Lower left right both
        go Nothing h l = absurd (not_leaf h)
        go EmptyWord h l = absurd (not_leaf h)
        go Letter h l = absurd (not_leaf h)
        go Choice h l =
            let a : r.left ≡ left = cc in
            let b : r.right ≡ right = cc in
            let c : true ≡ both = cc in
            lower_by c (omega arith) (omega arith) (omega arith)
        go Sequence h l =
            let a : r.left ≡ left = cc in
            let b : r.right ≡ right = cc in
            let c : marked (child (store_in room places) r.left) ≡ both = cc in
            lower_by c (omega arith) (omega arith) (mark_lower (marked (child (store_in room places) r.left)) (omega arith) (omega arith))
        go Repeat h l =
            let a : r.left ≡ left = cc in
            let b : place ≡ right = cc in
            let c : false ≡ both = cc in
            lower_by c (omega arith) (omega arith) (omega arith)
        go Unknown h l = absurd (not_leaf h)

  module _ (budget : ℕ) {fee : ℕ} (f : fee ≡ price place) where
    pub unpaid : budget < fee → Derives letter room places place budget (Stopped 8 places budget) room
    unpaid l zero m = absurd (omega arith)
    unpaid l (suc depth) m = rw (is_unpaid depth letter place (places_of room) (store_in room places) budget (omega arith)) (stopped_here good 8 budget)

    module _ (paid : fee ≤ budget) {v : Visited} (says : v ≡ asked (store_in room places) letter place) where
      visited : {answer : Derived} {exit : List ℕ}
          → ((depth : ℕ) → place ≤ depth
          → ComesRoom room (derive_asked v (D letter depth (places_of room)) (places_of room) (store_in room places) (budget - fee)) answer exit)
          → Derives letter room places place budget answer exit
      visited h zero l = absurd (omega arith)
      visited h (suc depth) l =
          let c = rw (f, says) at (h depth (omega arith)) in
          rw (
            is_paid depth letter place (places_of room) (store_in room places) budget (omega arith),
            by_kind (D letter depth (places_of room)) (places_of room) letter (child (store_in room places) place)
                (marked (child (store_in room places) (child (store_in room places) place).left)) place (store_in room places) (budget - price place)
                (kind_of (child (store_in room places) place).kind),
          ) c

      pub visited_leaf : {next : ℕ} → v ≡ Leaf next → Derives letter room places place budget (At (budget - fee) next places) room
      visited_leaf {next} e = visited (λ depth l. rw e (derived_here good next (budget - fee)))

      pub visited_parts : {left right : ℕ} {product both : Bool} → v ≡ Parts left right product both → {answer : Derived} {exit : List ℕ}
          → DerivesParts letter room places left right product both (budget - fee) answer exit → Derives letter room places place budget answer exit
      visited_parts e h =
          let m = parts_lower says e in
          visited (λ depth l. rw e (h depth (omega (arith, m.left_lower)) (omega (arith, m.both_lower))))
