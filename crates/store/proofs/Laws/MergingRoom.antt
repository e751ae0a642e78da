-- Merging in a room: where a set is used up the other comes out; else the lower of the two first members is put before the set of what
-- is left of both, in the room that making this set left.
use Rattle.std.specs.Prelude.{ℕ, zero, suc, ◌+◌, ◌<◌, ◌≤◌, min, Bool, true, false, cond, ◌||◌, List, [], ◌∷◌, ◌≡◌, refl, eqb, ltb, length}
use Rattle.std.proofs.Common.{arith, sym, ◌∙◌, ap, ap₂, subst, length-append, eqb-true, lt-ltb, le-ltb, eq-eqb, ne_eqb}
use Rattle.std.proofs.lemmas.Bool.{false≢true}
use Rattle.records.specs.declared.record.Record.{Record}
use Rattle.std.specs.declared.result.Result.{Result}
use Rattle.std.specs.declared.result.Result.TheVariants.{Ok, Err}
use Rattle.refusals.specs.declared.refusal.Refusal.{Refusal}
use Rattle.refusals.specs.declared.refusal.Refusal.TheVariants.{NoFreePlace}
use Rattle.store.specs.Room.{store_in, places_of, laid}
use Rattle.store.specs.Making.{Making, placed, full, new_record, first, behind, members, merged, put_before, built, set_of_both, after, intern}
use Rattle.store.specs.declared.merging.Side.{Side}
use Rattle.store.specs.Told.{making_answer, Makes, side}
use Rattle.store.specs.Good.{SetKind, Good, Set, member, GoodStore}
use Rattle.store.proofs.Laws.Room.{laid_same, laid_laid}
use Rattle.store.proofs.Laws.Wall.{grows_refl, grows_length}
use Rattle.store.proofs.Laws.Members.{behind_lower, members_of_nothing, members_step, members_set}
use Rattle.store.proofs.Laws.Merging.{merged_none, merged_with_none, merged_self, merged_left, merged_same, merged_right, merged_set, Order, lower, same, higher, order}
use Rattle.store.proofs.Laws.Interning.{Way, found, written, stopped, way}
use Rattle.store.proofs.Laws.Choosing.{set_settled, both_kept, built_more}
use Rattle.store.proofs.Laws.Building.{BuildLaw, was_built, ran_out, build_law}
use Rattle.store.proofs.Laws.GoodRoom.{room_ready, length_store_in, places_after, store_after, good_after}

-- The lower of two places, and what is left of a set behind a member.
abbrev pub lower_of : ℕ → ℕ → ℕ
lower_of one other = cond (ltb one other) one other

-- The lower of two is what the code takes.
min_lower : (one other : ℕ) → min one other ≡ lower_of one other
min_lower one other = go (order one other)
  where
    go : Order one other → min one other ≡ lower_of one other
    go (lower h) = rw (lt-ltb one other h) (omega arith)
    go (same h) = rw (le-ltb one other (omega arith)) (omega arith)
    go (higher h) = rw (le-ltb one other (omega arith)) (omega arith)

abbrev pub left_of : ℕ → List Record → ℕ → ℕ → ℕ
left_of kind store m place = cond (eqb (first kind store place) m) (behind kind store place) place

-- A step: of the set of both places' members the member n is put before the set of what is left of both.
record Step (room kind : ℕ) (store : List Record) (left right n one other : ℕ) : Type 0 where
  inside : n < length store
  one_inside : one < length store
  other_inside : other < length store
  falls : one + other < left + right
  is : set_of_both room kind store left right ≡ put_before room kind n (set_of_both room kind store one other)

module _ {kind : ℕ} (set : SetKind kind) {store : List Record} (g : Good store) (room : ℕ) where
  by_members : (left right : ℕ) → left < length store → right < length store
      → set_of_both room kind store left right ≡ built room kind store (merged (members kind store left) (members kind store right))
  by_members left right l m = both_kept set g (grows_refl store) room left right l m

  settled : (place : ℕ) → place < length store → built room kind store (members kind store place) ≡ placed place store
  settled place l = set_settled set g (grows_refl store) room place l

  -- A set that is used up, and a set with itself.
  pub none_left : (left right : ℕ) → left < length store → right < length store → left ≡ 0 → set_of_both room kind store left right ≡ placed right store
  none_left left right l m e =
      by_members left right l m
      ∙ ap (λ (ms : List ℕ). built room kind store (merged ms (members kind store right))) (ap (members kind store) e ∙ members_of_nothing kind store)
      ∙ ap (built room kind store) (merged_none (members kind store right)) ∙ settled right m

  pub none_right : (left right : ℕ) → left < length store → right < length store → right ≡ 0 → set_of_both room kind store left right ≡ placed left store
  none_right left right l m e =
      by_members left right l m
      ∙ ap (λ (ms : List ℕ). built room kind store (merged (members kind store left) ms)) (ap (members kind store) e ∙ members_of_nothing kind store)
      ∙ ap (built room kind store) (merged_with_none (members_set set g left l)) ∙ settled left l

  pub one_set : (left right : ℕ) → left < length store → right < length store → left ≡ right → set_of_both room kind store left right ≡ placed right store
  one_set left right l m e =
      by_members left right l m
      ∙ ap (λ (n : ℕ). built room kind store (merged (members kind store n) (members kind store right))) e
      ∙ ap (built room kind store) (merged_self (members_set set g right m)) ∙ settled right m

  -- Both have a member: the lower first one is put before what is left of both.
  module _ (left right : ℕ) (p : 0 < left) (l : left < length store) (q : 0 < right) (m : right < length store) where
    abbrev a : ℕ
    a = first kind store left

    abbrev b : ℕ
    b = first kind store right

    abbrev low : ℕ
    low = lower_of a b

    abbrev after_a : List ℕ
    after_a = members kind store (behind kind store left)

    abbrev after_b : List ℕ
    after_b = members kind store (behind kind store right)

    set_of : (place : ℕ) → 0 < place → place < length store → Set kind store 0 (first kind store place ∷ members kind store (behind kind store place))
    set_of place p l = subst (Set kind store 0) (members_step kind g place p l) (members_set set g place l)

    both : set_of_both room kind store left right ≡ built room kind store (merged (a ∷ after_a) (b ∷ after_b))
    both =
        by_members left right l m
        ∙ ap (λ (ms : List ℕ). built room kind store (merged ms (members kind store right))) (members_step kind g left p l)
        ∙ ap (λ (ms : List ℕ). built room kind store (merged (a ∷ after_a) ms)) (members_step kind g right q m)

    step_by : {n one other : ℕ} → one < length store → other < length store
        → merged (a ∷ after_a) (b ∷ after_b) ≡ n ∷ merged (members kind store one) (members kind store other)
        → set_of_both room kind store left right ≡ put_before room kind n (set_of_both room kind store one other)
    step_by {n} {one} {other} i j e =
        both ∙ ap (built room kind store) e ∙ built_more room kind store n (merged (members kind store one) (members kind store other))
        ∙ ap (put_before room kind n) (sym (by_members one other i j))

    lower_step : a < b → Set kind store 0 (a ∷ after_a) → Set kind store 0 (b ∷ after_b)
        → Step room kind store left right a (behind kind store left) right
    lower_step h (member u i e s) (member v j f t) =
        let c = behind_lower kind g left p l in
        record {
          inside = i;
          one_inside = omega arith;
          other_inside = m;
          falls = omega arith;
          is =
              step_by (omega arith) m
              (merged_left h s t j f
              ∙ ap (λ (ms : List ℕ). a ∷ merged after_a ms) (sym (members_step kind g right q m)));
        }

    same_step : a ≡ b → Set kind store 0 (a ∷ after_a) → Step room kind store left right a (behind kind store left) (behind kind store right)
    same_step h (member u i e s) =
        let c = behind_lower kind g left p l in
        let d = behind_lower kind g right q m in
        record {
          inside = i;
          one_inside = omega arith;
          other_inside = omega arith;
          falls = omega arith;
          is = step_by (omega arith) (omega arith) (merged_same after_b h s);
        }

    higher_step : b < a → Set kind store 0 (a ∷ after_a) → Set kind store 0 (b ∷ after_b)
        → Step room kind store left right b left (behind kind store right)
    higher_step h (member u i e s) (member v j f t) =
        let d = behind_lower kind g right q m in
        record {
          inside = j;
          one_inside = l;
          other_inside = omega arith;
          falls = omega arith;
          is =
              step_by l (omega arith)
              (merged_right after_b (member h i e s)
              ∙ ap (λ (ms : List ℕ). b ∷ merged ms after_b) (sym (members_step kind g left p l)));
        }

    step : Step room kind store left right low (left_of kind store low left) (left_of kind store low right)
    step = go (order a b)
      where
        go : Order a b → Step room kind store left right low (left_of kind store low left) (left_of kind store low right)
        go (lower h) =
            rw (lt-ltb a b h, eq-eqb a a refl, ne_eqb b a (λ z. omega arith)) (lower_step h (set_of left p l) (set_of right q m))
        go (same h) =
            rw (le-ltb a b (omega arith), eq-eqb a b h, eq-eqb b b refl)
            (subst (λ (n : ℕ). Step room kind store left right n (behind kind store left) (behind kind store right)) h (same_step h (set_of left p l)))
        go (higher h) =
            rw (le-ltb a b (omega arith), ne_eqb a b (λ z. omega arith), eq-eqb b b refl) (higher_step h (set_of left p l) (set_of right q m))

-- Putting a member before a set only adds records.
put_before_longer : (room kind m rest : ℕ) (store : List Record) → length store ≤ length (after (put_before room kind m (placed rest store)))
put_before_longer room kind m rest store = go (eqb rest 0)
  where
    used : {made : Making} → Way room store (new_record store kind 0 m rest) made → length store ≤ length (after made)
    used (found f) = omega arith
    used (written f l) = omega (arith, length-append store (new_record store kind 0 m rest ∷ []))
    used (stopped f l) = omega arith

    go : (b : Bool) → length store ≤ length (after (cond b (placed m store) (intern room store (new_record store kind 0 m rest))))
    go true = omega arith
    go false = used (way room store (new_record store kind 0 m rest))

-- In a room.

-- Nothing was added.
pub tells_placed : {room : List ℕ} {places : ℕ} → GoodStore room places → {place : ℕ} {m : Making} → m ≡ placed place (store_in room places)
    → Makes room m (Ok place) room places
tells_placed {room} {places} g e =
    record {
      answers = sym (ap making_answer e);
      taken = rw e (sym (length_store_in room places));
      leaves = rw e (sym (laid_same places room g.fits g.bytes));
    }

module _ {kind : ℕ} (set : SetKind kind) {room : List ℕ} {places : ℕ} (g : GoodStore room places) (one other : ℕ) (i : one < places) (j : other < places)
    {answer : Result ℕ Refusal} {room' : List ℕ} {places' : ℕ}
    (t : Makes room (set_of_both (places_of room) kind (store_in room places) one other) answer room' places') where
  abbrev of_both : List ℕ
  of_both = merged (members kind (store_in room places) one) (members kind (store_in room places) other)

  abbrev rest_made : Making
  rest_made = set_of_both (places_of room) kind (store_in room places) one other

  -- The room after the set of what is left, and its place there.
  record Next (place : ℕ) : Type 0 where
    good : GoodStore room' places'
    inside : place < places'
    more : places ≤ places'
    is : rest_made ≡ placed place (store_in room' places')
    as_many : places_of room' ≡ places_of room
    covers : (store : List Record) → places' ≤ length store → laid store room' ≡ laid store room

  law : BuildLaw (places_of room) kind (store_in room places) of_both rest_made
  law =
      let ready = room_ready g in
      let a : one < length (store_in room places) = omega (arith, length_store_in room places) in
      let b : other < length (store_in room places) = omega (arith, length_store_in room places) in
      subst (BuildLaw (places_of room) kind (store_in room places) of_both) (sym (by_members set ready.good (places_of room) one other a b))
      (build_law set ready (merged_set (members_set set ready.good one a) (members_set set ready.good other b)))

  next : {place : ℕ} → answer ≡ Ok place → Next place
  next {place} e = go law refl
    where
      go : {made : Making} → BuildLaw (places_of room) kind (store_in room places) of_both made → rest_made ≡ made → Next place
      go (was_built {place = p} {store' = store'} h) f =
          let r : room' ≡ laid store' room = t.leaves ∙ ap (λ (m : Making). laid (after m) room) f in
          let n : places' ≡ length store' = t.taken ∙ ap (λ (m : Making). length (after m)) f in
          let k : ◌≡◌ {A = Result ℕ Refusal} (Ok p) (Ok place) = sym (t.answers ∙ ap making_answer f) ∙ e in
          let u : p ≡ place = cc in
          subst Next u
          (record {
            good = rw (r, n) (good_after room h.kept g);
            inside = omega (arith, n, h.inside);
            more = omega (arith, n, grows_length h.kept.grows, length_store_in room places);
            is = f ∙ ap (placed p) (sym (ap₂ store_in r n ∙ store_after room h.kept));
            as_many = ap places_of r ∙ places_after room h.kept;
            covers = λ store l. ap (laid store) r ∙ laid_laid store' store room (omega (arith, n));
          })
      go (ran_out {store' = store'} h) f =
          let k : ◌≡◌ {A = Result ℕ Refusal} (Err NoFreePlace) (Ok place) = sym (t.answers ∙ ap making_answer f) ∙ e in
          let z : ◌≡◌ {A = ℕ} 0 1 = cc in
          absurd (omega arith)

  -- The room ran out there: so it does here.
  full_there : (n : ℕ) {whole : Making} {refusal : Refusal} → whole ≡ put_before (places_of room) kind n rest_made → answer ≡ Err refusal
      → Makes room whole (Err refusal) room' places'
  full_there n {whole} {refusal} w e = rw w (go rest_made t)
    where
      go : (m : Making) → Makes room m answer room' places' → Makes room (put_before (places_of room) kind n m) (Err refusal) room' places'
      go (placed place store) m =
          let k : ◌≡◌ {A = Result ℕ Refusal} (Ok place) (Err refusal) = sym m.answers ∙ e in
          let z : ◌≡◌ {A = ℕ} 0 1 = cc in
          absurd (omega arith)
      go (full store) m = record { answers = sym e ∙ m.answers; taken = m.taken; leaves = m.leaves }

  -- The member was put before what was made there.
  put_there : (n : ℕ) {whole : Making} {place : ℕ} → whole ≡ put_before (places_of room) kind n rest_made → Next place
      → {made : Result ℕ Refusal} {exit : List ℕ} {taken : ℕ}
      → Makes room' (put_before (places_of room') kind n (placed place (store_in room' places'))) made exit taken
      → Makes room whole made exit taken
  put_there n {whole} {place} w h u =
      record {
        answers = u.answers ∙ ap making_answer here;
        taken = u.taken ∙ ap (λ (m : Making). length (after m)) here;
        leaves = u.leaves ∙ h.covers _ longer ∙ ap (λ (m : Making). laid (after m) room) here;
      }
    where
      here : put_before (places_of room') kind n (placed place (store_in room' places')) ≡ whole
      here =
          ap (λ (c : ℕ). put_before c kind n (placed place (store_in room' places'))) h.as_many
          ∙ ap (put_before (places_of room) kind n) (sym h.is) ∙ sym w

      longer : places' ≤ length (after (put_before (places_of room') kind n (placed place (store_in room' places'))))
      longer = omega (arith, put_before_longer (places_of room') kind n place (store_in room' places'), length_store_in room' places')

-- Two sets of a room's store.
module _ {kind : ℕ} (set : SetKind kind) {room : List ℕ} {places : ℕ} (g : GoodStore room places) (left right : ℕ)
    (inside : (left < places) × (right < places)) where
  abbrev here : List Record
  here = store_in room places

  abbrev whole : Making
  whole = set_of_both (places_of room) kind here left right

  left_inside : left < length here
  left_inside = omega (arith, length_store_in room places, inside.0)

  right_inside : right < length here
  right_inside = omega (arith, length_store_in room places, inside.1)

  -- One is used up, or both are one.
  pub tells_right : eqb left 0 || eqb left right ≡ true → Makes room whole (Ok right) room places
  tells_right t = tells_placed g (go (eqb left 0) refl t)
    where
      go : (b : Bool) → eqb left 0 ≡ b → b || eqb left right ≡ true → whole ≡ placed right here
      go true e t = none_left set g.good (places_of room) left right left_inside right_inside (eqb-true left 0 e)
      go false e t = one_set set g.good (places_of room) left right left_inside right_inside (eqb-true left right t)

  pub tells_left : right ≡ 0 → Makes room whole (Ok left) room places
  tells_left e = tells_placed g (none_right set g.good (places_of room) left right left_inside right_inside e)

  some_left : eqb left 0 || eqb left right ≡ false → 0 < left
  some_left t = go left t
    where
      go : (n : ℕ) → eqb n 0 || eqb n right ≡ false → 0 < n
      go zero f = absurd (false≢true (sym f))
      go (suc n) f = omega arith

  -- Neither is: the step that the code takes, with both sets as they were read.
  module _ (t : eqb left 0 || eqb left right ≡ false) (some_right : right ≡ 0 → ⊥)
      {a b : Side} (is-a : a ≡ side kind here left) (is_b : b ≡ side kind here right) {m : ℕ} (is-lower : m ≡ min a.first b.first)
      {one other : ℕ} (is_one : one ≡ cond (eqb a.first m) a.behind left) (is-other : other ≡ cond (eqb b.first m) b.behind right) where
    q : 0 < right
    q = omega (arith, some_right)

    abbrev lowest : ℕ
    lowest = lower_of (first kind here left) (first kind here right)

    step_member : m ≡ lowest
    step_member = is-lower ∙ min_lower a.first b.first ∙ ap₂ (λ (a b : Side). lower_of a.first b.first) is-a is_b

    left_behind : (place : ℕ) {s : Side} → s ≡ side kind here place → cond (eqb s.first m) s.behind place ≡ left_of kind here lowest place
    left_behind place e = ap₂ (λ (s : Side) (n : ℕ). cond (eqb s.first n) s.behind place) e step_member

    stepped : Step (places_of room) kind here left right m one other
    stepped =
        rw (step_member, is_one ∙ left_behind left is-a, is-other ∙ left_behind right is_b)
        (step set g.good (places_of room) left right (some_left t) left_inside q right_inside)

    -- What is left can be merged, and is less.
    pub insides : (one < places) × (other < places)
    insides =
        let n = length_store_in room places in
        (omega (arith, stepped.one_inside, n), omega (arith, stepped.other_inside, n))

    pub falls : one + other < left + right
    falls = stepped.falls

    -- What was made of it, in the room that this left.
    module _ {answer : Result ℕ Refusal} {room' : List ℕ} {places' : ℕ}
        (u : Makes room (set_of_both (places_of room) kind here one other) answer room' places') where
      pub can_put : {place : ℕ} → answer ≡ Ok place → GoodStore room' places' × ((m < places') × (place < places'))
      can_put e =
          let h = next set g one other insides.0 insides.1 u e in
          (h.good, (omega (arith, h.more, stepped.inside, length_store_in room places), h.inside))

      pub put : {place : ℕ} → answer ≡ Ok place → {made : Result ℕ Refusal} {exit : List ℕ} {taken : ℕ}
          → Makes room' (put_before (places_of room') kind m (placed place (store_in room' places'))) made exit taken → Makes room whole made exit taken
      put e v =
          put_there set g one other insides.0 insides.1 u m stepped.is
          (next set g one other insides.0 insides.1 u e) v

      pub filled : {refusal : Refusal} → answer ≡ Err refusal → Makes room whole (Err refusal) room' places'
      filled e = full_there set g one other insides.0 insides.1 u m stepped.is e
