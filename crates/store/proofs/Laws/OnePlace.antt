-- Sets of equal members stand at one place: they are one list, and a list is built to one place. What is built of a grouping has the members
-- of the places grouped, so number, order and grouping play no part.
use Rattle.std.specs.Prelude.{ℕ, ◌<◌, ◌≡◌, length}
use Rattle.std.proofs.Common.{arith, inl, inr, sym, ◌∙◌, ap₂}
use mathlib.Core.List.Memᴰ
use mathlib.Core.List.{List, [], ◌∷◌, ◌++◌}
use Rattle.std.proofs.Math.Logic.{⊎_elim}
use Rattle.std.proofs.Math.Path.{refl, ap, subst}
use Rattle.language.specs.Word.{Listed}
use Rattle.records.specs.declared.record.Record.{Record}
use Rattle.records.specs.Kind.{choice_kind}
use Rattle.store.specs.Making.{Making, placed, members, merged, built}
use Rattle.store.specs.Good.{SetKind, Good, Set}
use Rattle.store.specs.Laws.Wall.{Grows, Ready, Kept}
use Rattle.store.proofs.Laws.Wall.{grows_refl, grows_trans, grows_length, kept_refl, kept_trans}
use Rattle.store.proofs.Laws.Members.{members_set, members_kept}
use Rattle.store.proofs.Laws.Merging.{merged_set}
use Rattle.store.proofs.Laws.Sets.{SameMembers, merged_from, merged_to, one_set}
use Rattle.store.proofs.Laws.Choosing.{set_settled, both_kept}
use Rattle.store.proofs.Laws.Rules.{make_merged, AlwaysMerged, set_merged, choice_set}
use Rattle.store.proofs.Laws.Building.{BuildLaw, was_built, ran_out, build_law}
use Rattle.store.proofs.Laws.Grouping.{Grouping, alone, joined, Within, lone, two, all_members, EqualMembers, places}
use Rattle.store.proofs.Laws.Grouping.{made_of, and_then, make_grouping, Made, CameTo, stands, joins, later, Came, GroupingLaw, came_to, filled, OnePlace}

-- A set stands at one place only.
pub one_place : {kind : ℕ} → SetKind kind → {store : List Record} → Good store → (p q : ℕ) → p < length store → q < length store
    → members kind store p ≡ members kind store q → p ≡ q
one_place {kind} set {store} g p q l m e =
    same (sym (set_settled set g (grows_refl store) 0 p l) ∙ ap (built 0 kind store) e ∙ set_settled set g (grows_refl store) 0 q m)
  where
    same : placed p store ≡ placed q store → p ≡ q
    same f = cc

-- .. so two places with the same members are one.
same_place : {kind : ℕ} → SetKind kind → {store : List Record} → Good store → (p q : ℕ) → p < length store → q < length store
    → SameMembers (members kind store p) (members kind store q) → p ≡ q
same_place set g p q l m same = one_place set g p q l m (one_set (members_set set g p l) (members_set set g q m) same)

-- Two places joined: the set of their members, merged, is built.
abbrev both : ℕ → List Record → ℕ → ℕ → List ℕ
both kind store left right = merged (members kind store left) (members kind store right)

module _ {kind : ℕ} (always : AlwaysMerged kind) {store : List Record} (good : Good store) {left right : ℕ} (l : left < length store)
    (m : right < length store) where
  both_set : Set kind store 0 (both kind store left right)
  both_set = merged_set (members_set always.set good left l) (members_set always.set good right m)

  is_built : (room : ℕ) → made_of room kind store left right ≡ built room kind store (both kind store left right)
  is_built room =
      make_merged room store kind 0 left right (always.merges left right) ∙ both_kept always.set good (grows_refl store) room left right l m

-- What was made: its members are those of both, merged, and they are a set.
pub record MadeOf (room kind : ℕ) (store : List Record) (left right place : ℕ) (store' : List Record) : Type 0 where
  pub kept : Kept room store store'
  pub inside : place < length store'
  pub lists : members kind store' place ≡ merged (members kind store left) (members kind store right)
  pub set : Set kind store' 0 (members kind store' place)

module _ {kind : ℕ} (always : AlwaysMerged kind) {room : ℕ} {store : List Record} (ready : Ready room store) {left right : ℕ} (l : left < length store)
    (m : right < length store) where
  made_of_law : BuildLaw room kind store (both kind store left right) (made_of room kind store left right)
  made_of_law =
      subst (BuildLaw room kind store (both kind store left right)) (sym (is_built always ready.good l m room))
      (build_law always.set ready (both_set always ready.good l m))

  pub was_made_of : {place : ℕ} {store' : List Record} → made_of room kind store left right ≡ placed place store'
      → MadeOf room kind store left right place store'
  was_made_of {place} {store'} e = go (subst (BuildLaw room kind store (both kind store left right)) e made_of_law)
    where
      go : BuildLaw room kind store (both kind store left right) (placed place store') → MadeOf room kind store left right place store'
      go (was_built h) =
          record { kept = h.kept; inside = h.inside; lists = h.lists; set = members_set always.set h.kept.ready.good place h.inside }

-- The same members, turned round and one after the other; of two merged, those of both.
same_turned : {ms ns : List ℕ} → SameMembers ms ns → SameMembers ns ms
same_turned a = record { to = a.from; from = a.to }

same_through : {ls ms ns : List ℕ} → SameMembers ls ms → SameMembers ms ns → SameMembers ls ns
same_through a b = record { to = λ k h. b.to k (a.to k h); from = λ k h. a.from k (b.from k h) }

same_merged : {ks ls ms ns : List ℕ} → SameMembers ks ms → SameMembers ls ns → SameMembers (merged ks ls) (ms ++ ns)
same_merged {ks} {ls} {ms} {ns} a b =
    record {
      to = λ k h. ⊎_elim (λ u. Memᴰ.append_left ns (a.to k u)) (λ u. Memᴰ.append_right ms (b.to k u)) (merged_from ks ls k h);
      from = λ k h. merged_to ks ls k (⊎_elim (λ u. inl (a.from k u)) (λ u. inr (b.from k u)) (Memᴰ.append_cases ms h));
    }

-- Places of a store stand in one grown from it, and their members stay as they are.
within_later : {store grown : List Record} {g : Grouping} → Within store g → Grows store grown → Within grown g
within_later (lone {p} l) more = lone {p = p} (omega (arith, grows_length more, l))
within_later (two v w) more = two (within_later v more) (within_later w more)

all_kept : (kind : ℕ) {store grown : List Record} {g : Grouping} → Within store g → Good store → Grows store grown
    → all_members kind grown g ≡ all_members kind store g
unfolding all_members
all_kept kind (lone {p} l) good more = members_kept kind good more p l
all_kept kind (two v w) good more = ap₂ (λ (ms ns : List ℕ). ms ++ ns) (all_kept kind v good more) (all_kept kind w good more)

-- What came in a store came in one grown from it.
came_later : {kind : ℕ} {store grown : List Record} {g : Grouping} {place : ℕ} → Came kind g place store → Grows store grown → Good grown
    → Came kind g place grown
came_later {kind} {place = place} c more good =
    record {
      good = good;
      inside = omega (arith, grows_length more, c.inside);
      within = within_later c.within more;
      same = rw (members_kept kind c.good more place c.inside, all_kept kind c.within c.good more) c.same;
    }

-- Groupings of the same places, in any order and each any number of times, are of the same members.
module _ (kind : ℕ) (store : List Record) (k : ℕ) where
  record MemberOf (ps : List ℕ) : Type 0 where
    place : ℕ
    listed : Listed ps place
    member : Listed (members kind store place) k

  member_from : (g : Grouping) → Listed (all_members kind store g) k → MemberOf (places g)
  unfolding all_members places
  member_from (alone p) l = record { place = p; listed = Memᴰ.head refl; member = l }
  member_from (joined g h) l =
      ⊎_elim
      (λ u. let m = member_from g u in record { place = m.place; listed = Memᴰ.append_left (places h) m.listed; member = m.member })
      (λ u. let m = member_from h u in record { place = m.place; listed = Memᴰ.append_right (places g) m.listed; member = m.member })
      (Memᴰ.append_cases (all_members kind store g) l)

  member_to : (g : Grouping) (place : ℕ) → Listed (places g) place → Listed (members kind store place) k → Listed (all_members kind store g) k
  unfolding all_members places
  member_to (alone p) place l m = subst (λ (q : ℕ). Listed (members kind store q) k) (Memᴰ.eq_of_singleton l) m
  member_to (joined g h) place l m =
      ⊎_elim (λ u. Memᴰ.append_left (all_members kind store h) (member_to g place u m)) (λ u. Memᴰ.append_right (all_members kind store g) (member_to h place u m))
      (Memᴰ.append_cases (places g) l)

same_places : (kind : ℕ) (store : List Record) (g h : Grouping) → SameMembers (places g) (places h) → EqualMembers kind store g h
same_places kind store g h same =
    record {
      to = λ k l. let m = member_from kind store k g l in member_to kind store k h m.place (same.to m.place m.listed) m.member;
      from = λ k l. let m = member_from kind store k h l in member_to kind store k g m.place (same.from m.place m.listed) m.member;
    }

module _ {kind : ℕ} (always : AlwaysMerged kind) where
  -- The members of what came are those of the places grouped: of two groups joined, the members of both.
  what_came : {g : Grouping} {place : ℕ} {store : List Record} → CameTo kind g place store → Came kind g place store
  unfolding all_members
  what_came (stands good l) = record { good = good; inside = l; within = lone l; same = record { to = λ k m. m; from = λ k m. m } }
  what_came (later c more good) = came_later (what_came c) more good
  what_came (joins {g} {h} {x} {y} {place} {room} {store} {store'} a b ready e) = go (what_came a) (what_came b)
    where
      go : Came kind g x store → Came kind h y store → Came kind (joined g h) place store'
      go c d =
          let m = was_made_of always ready c.inside d.inside e in
          let w = two c.within d.within in
          record {
            good = m.kept.ready.good;
            inside = m.inside;
            within = within_later w m.kept.grows;
            same = rw (m.lists, all_kept kind w c.good m.kept.grows) (same_merged c.same d.same);
          }

  -- Two that came, of the same members: in the later store they are one place.
  in_any : {g h : Grouping} {store store' : List Record} {one other : ℕ} → CameTo kind g one store → Grows store store' → CameTo kind h other store'
      → EqualMembers kind store' g h → one ≡ other
  in_any {one = one} {other = other} a more b same =
      let d = what_came b in
      let c = came_later (what_came a) more d.good in
      same_place always.set d.good one other c.inside d.inside (same_through c.same (same_through same (same_turned d.same)))

  -- Two groups joined, where a place stands with the members of both.
  joined_to : {g h₁ h₂ : Grouping} {store : List Record} {one x y : ℕ} → Came kind g one store → Came kind h₁ x store → Came kind h₂ y store
      → EqualMembers kind store g (joined h₁ h₂) → (room : ℕ) → made_of room kind store x y ≡ placed one store
  unfolding all_members
  joined_to {store = store} {one = one} {x = x} {y = y} a b c same room =
      is_built always a.good b.inside c.inside room
      ∙ ap (built room kind store)
      (one_set (both_set always a.good b.inside c.inside) (members_set always.set a.good one a.inside)
      (same_through (same_merged b.same c.same) (same_turned (same_through a.same same))))
      ∙ set_settled always.set a.good (grows_refl store) room one a.inside

  -- Made again in a grown store, group by group.
  again : {g : Grouping} {store grown : List Record} {one : ℕ} → CameTo kind g one store → Grows store grown → Good grown → (room : ℕ)
      → make_grouping room kind grown g ≡ placed one grown
  unfolding make_grouping
  again (stands good l) more good' room = refl
  again (later c more good) more' good' room = again c (grows_trans more more') good' room
  again (joins a b ready e) more good' room =
      let c = what_came a in
      let d = what_came b in
      let more' = grows_trans (was_made_of always ready c.inside d.inside e).kept.grows more in
      rw (again a more' good' room, again b more' good' room)
      (joined_to (came_later (what_came (joins a b ready e)) more good') (came_later c more' good') (came_later d more' good')
      (record { to = λ k n. n; from = λ k n. n }) room)

  -- Made in a room: group by group, and then joined.
  made_law : (g : Grouping) {room : ℕ} {store : List Record} → Ready room store → Within store g
      → GroupingLaw room kind store g (make_grouping room kind store g)
  unfolding make_grouping
  made_law (alone p) ready (lone l) = came_to (kept_refl ready) (stands ready.good l)
  made_law (joined g h) {room} {store} ready (two v w) = left (made_law g ready v) (λ s r u. made_law h r u)
    where
      last : {x y : ℕ} {s : List Record} → Kept room store s → CameTo kind g x s → CameTo kind h y s → {ms : List ℕ} {made : Making}
          → BuildLaw room kind s ms made → made_of room kind s x y ≡ made → GroupingLaw room kind store (joined g h) made
      last k a b (was_built m) e = came_to (kept_trans k m.kept) (joins a b k.ready e)
      last k a b (ran_out m) e = filled (record { kept = kept_trans k m.kept; fills = m.fills })

      right : {x : ℕ} {s : List Record} → Kept room store s → CameTo kind g x s → {made : Making} → GroupingLaw room kind s h made
          → GroupingLaw room kind store (joined g h) (and_then made (λ y t. made_of room kind t x y))
      right k a (came_to k' b) =
          let a' = later a k'.grows k'.ready.good in
          last (kept_trans k k') a' b (made_of_law always k'.ready (what_came a').inside (what_came b).inside) refl
      right k a (filled f) = filled (record { kept = kept_trans k f.kept; fills = f.fills })

      left : {made : Making} → GroupingLaw room kind store g made
          → ((s : List Record) → Ready room s → Within s h → GroupingLaw room kind s h (make_grouping room kind s h))
          → GroupingLaw room kind store (joined g h) (and_then made (λ x s. and_then (make_grouping room kind s h) (λ y t. made_of room kind t x y)))
      left (came_to k a) next = right k a (next _ k.ready (within_later w k.grows))
      left (filled f) next = filled f

  -- What was made.
  module _ {g : Grouping} {room : ℕ} {store store' : List Record} {place : ℕ} (m : Made kind g room store place store') where
    was_made : GroupingLaw room kind store g (placed place store')
    was_made = subst (GroupingLaw room kind store g) m.is (made_law g m.ready m.within)

    made_grows : Grows store store'
    made_grows = go was_made
      where
        go : GroupingLaw room kind store g (placed place store') → Grows store store'
        go (came_to k c) = k.grows

    made_came : CameTo kind g place store'
    made_came = go was_made
      where
        go : GroupingLaw room kind store g (placed place store') → CameTo kind g place store'
        go (came_to k c) = c

  -- Two that were made, one after the other.
  made_in_any : {g h : Grouping} {room room' : ℕ} {s₁ s₂ s₃ s₄ : List Record} {one other : ℕ} → Made kind g room s₁ one s₂ → Grows s₂ s₃
      → Made kind h room' s₃ other s₄ → EqualMembers kind s₃ g h → one ≡ other
  made_in_any a more b same =
      let good = b.ready.good in
      let c = later (made_came a) more good in
      in_any c (made_grows b) (made_came b)
      (rw (all_kept kind (what_came c).within good (made_grows b), all_kept kind b.within good (made_grows b)) same)

  -- All of it.
  pub merged_at_one_place : OnePlace kind
  merged_at_one_place =
      record {
        equal_members = λ good p q l m same. same_place always.set good p q l m same;
        made_in_any_grouping = λ a more b same. made_in_any a more b same;
        in_any_grouping = λ a more b same. in_any a more b same;
        joined_again = λ a b c same room. joined_to (what_came a) (what_came b) (what_came c) same room;
        made_again = λ c room. again c (grows_refl _) (what_came c).good room;
        came = λ c. what_came c;
        equal_places = λ store g h same. same_places kind store g h same;
        comes = λ g ready within. made_law g ready within;
      }

-- So it is with every kind of sets, and with choices.
pub sets_at_one_place : {kind : ℕ} → SetKind kind → OnePlace kind
sets_at_one_place set = merged_at_one_place (set_merged set)

pub choices_at_one_place : OnePlace choice_kind
choices_at_one_place = sets_at_one_place choice_set

-- Three places joined by making two records of the kind, from a store to another: (p + q) + r, p + (q + r) or r + (q + p).
pub data Joined (room kind : ℕ) (p q r : ℕ) (store : List Record) (place : ℕ) (store' : List Record) : Type 0 where
  left_first : {first : ℕ} {between : List Record} → made_of room kind store p q ≡ placed first between
      → made_of room kind between first r ≡ placed place store' → Joined room kind p q r store place store'
  right_first : {first : ℕ} {between : List Record} → made_of room kind store q r ≡ placed first between
      → made_of room kind between p first ≡ placed place store' → Joined room kind p q r store place store'
  turned : {first : ℕ} {between : List Record} → made_of room kind store q p ≡ placed first between
      → made_of room kind between r first ≡ placed place store' → Joined room kind p q r store place store'

-- Each is a grouping of the three, made.
record Three (room p q r : ℕ) (store : List Record) (place : ℕ) (store' : List Record) : Type 0 where
  grouping : Grouping
  made : Made choice_kind grouping room store place store'
  same : SameMembers (places grouping) (p ∷ q ∷ r ∷ [])

three : {room p q r : ℕ} {store : List Record} {place : ℕ} {store' : List Record} → p < length store → q < length store → r < length store
    → Ready room store → Joined room choice_kind p q r store place store' → Three room p q r store place store'
unfolding make_grouping places
three i j k ready (left_first a b) =
    record {
      grouping = joined (joined (alone _) (alone _)) (alone _);
      made = record { ready = ready; within = two (two (lone i) (lone j)) (lone k); is = rw a b };
      same = record { to = λ k h. h; from = λ k h. h };
    }
three i j k ready (right_first a b) =
    record {
      grouping = joined (alone _) (joined (alone _) (alone _));
      made = record { ready = ready; within = two (lone i) (two (lone j) (lone k)); is = rw a b };
      same = record { to = λ k h. h; from = λ k h. h };
    }
three i j k ready (turned a b) =
    record {
      grouping = joined (alone _) (joined (alone _) (alone _));
      made = record { ready = ready; within = two (lone k) (two (lone j) (lone i)); is = rw a b };
      same = record { to = back; from = back };
    }
  where
    back : {x y z : ℕ} (k : ℕ) → Listed (x ∷ y ∷ z ∷ []) k → Listed (z ∷ y ∷ x ∷ []) k
    back k h =
        ⊎_elim (λ e. Memᴰ.tail (Memᴰ.tail (Memᴰ.head e)))
        (λ t. ⊎_elim (λ e. Memᴰ.tail (Memᴰ.head e)) (λ u. Memᴰ.head (Memᴰ.eq_of_singleton u)) (Memᴰ.cases_cons t))
        (Memᴰ.cases_cons h)

-- Of choices: (p + q) + r, p + (q + r) and r + (q + p) are one place, whichever is made first and whatever is made between.
pub choices_in_any_order : {base : List Record} → Good base → {p q r : ℕ} → p < length base → q < length base → r < length base
    → {room : ℕ} {s₁ s₂ s₃ s₄ : List Record} {one other : ℕ} → Ready room s₁ → Grows base s₁ → Joined room choice_kind p q r s₁ one s₂
    → Ready room s₃ → Grows s₂ s₃ → Joined room choice_kind p q r s₃ other s₄ → one ≡ other
choices_in_any_order {base} good i j k {s₃ = s₃} ready₁ g₁ a ready₃ g₃ b =
    let l = grows_length g₁ in
    let t = three (omega (arith, i)) (omega (arith, j)) (omega (arith, k)) ready₁ a in
    let m = grows_length (grows_trans (made_grows (set_merged choice_set) t.made) g₃) in
    let u = three (omega (arith, i)) (omega (arith, j)) (omega (arith, k)) ready₃ b in
    choices_at_one_place.made_in_any_grouping t.made g₃ u.made
    (same_places choice_kind s₃ t.grouping u.grouping (same_through t.same (same_turned u.same)))
