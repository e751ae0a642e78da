-- The members of a place in a good store: its first member and those of the set behind it, whatever the depth of the walk; they are a set,
-- where records of the kind are, and stay as they are when records are added.
use Rattle.std.specs.Prelude.{ℕ, zero, suc, ◌<◌, Bool, true, false, cond, ◌≡◌, refl, length}
use Rattle.std.proofs.Common.{arith, ⊎_elim, sym, ◌∙◌, subst, eqb-true, ne_eqb}
use mathlib.Core.List.{List, [], ◌∷◌, ◌++◌}
use Rattle.std.proofs.Math.Path.{ap}
use Rattle.std.proofs.Math.ListN.{get_or-append}
use Rattle.records.specs.declared.record.Record.{Record}
use Rattle.records.specs.Record.{child}
use Rattle.records.specs.Kind.{kind_of}
use Rattle.cards.proofs.Laws.Line.{lower_right}
use Rattle.store.specs.Making.{is_kind, first, behind, members_to, members}
use Rattle.store.specs.Good.{is_set, SetKind, Good, Set, none, member, IsSet}
use Rattle.store.specs.Laws.Wall.{Grows}
use Rattle.store.proofs.Laws.Wall.{grows_length}

-- A record stays as it is when records are added.
pub child_kept : (store more : List Record) (at : ℕ) → at < length store → child (store ++ more) at ≡ child store at
child_kept store more at l = get_or-append store more _ at l

pub grows_child : {store grown : List Record} → Grows store grown → (at : ℕ) → at < length store → child grown at ≡ child store at
grows_child {store} h at l = ap (λ (s : List Record). child s at) h.is ∙ child_kept store h.more at l

-- One step down the right side.
to_nothing : (kind depth : ℕ) (store : List Record) → members_to kind depth store 0 ≡ []
unfolding members_to
to_nothing kind zero store = refl
to_nothing kind (suc depth) store = refl

to_none : (kind place : ℕ) (store : List Record) → members_to kind 0 store place ≡ []
unfolding members_to
to_none kind place store = refl

to_more : (kind depth : ℕ) (store : List Record) (place : ℕ) → 0 < place
    → members_to kind (suc depth) store place ≡ first kind store place ∷ members_to kind depth store (behind kind store place)
unfolding members_to
to_more kind depth store place l = rw (ne_eqb place 0 (λ e. omega arith), members_to)

pub members_of_nothing : (kind : ℕ) (store : List Record) → members kind store 0 ≡ []
unfolding members
members_of_nothing kind store = to_nothing kind 1 store

module _ (kind : ℕ) {store : List Record} (g : Good store) where
  -- What is behind stands lower.
  pub behind_lower : (place : ℕ) → 0 < place → place < length store → behind kind store place < place
  behind_lower place p l = go (is_kind kind (child store place))
    where
      go : (b : Bool) → cond b (child store place).right 0 < place
      go true = ⊎_elim (λ m. m) (λ e. omega arith) (lower_right (g.obeys place l).line)
      go false = p

  pub behind_inside : (place : ℕ) → place < length store → behind kind store place < length store
  behind_inside zero l = go (is_kind kind (child store 0))
    where
      go : (b : Bool) → cond b (child store 0).right 0 < length store
      go true = ⊎_elim (λ m. omega arith) (λ e. omega arith) (lower_right (g.obeys 0 l).line)
      go false = l
  behind_inside (suc n) l = let low = behind_lower (suc n) (omega arith) l in omega arith

  -- Any depth above the place serves.
  at_most_depth : (d e place : ℕ) → place < d → place < e → place < length store → members_to kind d store place ≡ members_to kind e store place
  at_most_depth zero e place a b l = absurd (omega arith)
  at_most_depth (suc d) zero place a b l = absurd (omega arith)
  at_most_depth (suc d) (suc e) zero a b l = to_nothing kind (suc d) store ∙ sym (to_nothing kind (suc e) store)
  at_most_depth (suc d) (suc e) (suc n) a b l =
      let low = behind_lower (suc n) (omega arith) l in
      to_more kind d store (suc n) (omega arith)
      ∙ ap (λ (ms : List ℕ). first kind store (suc n) ∷ ms) (at_most_depth d e (behind kind store (suc n)) (omega arith) (omega arith) (omega arith))
      ∙ sym (to_more kind e store (suc n) (omega arith))

  pub members_step : (place : ℕ) → 0 < place → place < length store
      → members kind store place ≡ first kind store place ∷ members kind store (behind kind store place)
  unfolding members
  members_step place p l =
      let low = behind_lower place p l in
      to_more kind place store place p
      ∙ ap (λ (ms : List ℕ). first kind store place ∷ ms)
      (at_most_depth place (suc (behind kind store place)) (behind kind store place) low (omega arith) (omega arith))

  -- The members of a record of the kind, and of any other place.
  pub members_of_set : (place : ℕ) → 0 < place → place < length store → is_kind kind (child store place) ≡ true
      → members kind store place ≡ (child store place).left ∷ members kind store (child store place).right
  members_of_set place p l e = members_step place p l ∙ rw e

  pub members_of_one : (place : ℕ) → 0 < place → place < length store → is_kind kind (child store place) ≡ false → members kind store place ≡ place ∷ []
  members_of_one place p l e = members_step place p l ∙ rw (e, members_of_nothing kind store)

  -- They stay as they are when records are added.
  to_kept : (depth place : ℕ) (more : List Record) → place < length store → members_to kind depth (store ++ more) place ≡ members_to kind depth store place
  to_kept zero place more l = to_none kind place (store ++ more) ∙ sym (to_none kind place store)
  to_kept (suc depth) zero more l = to_nothing kind (suc depth) (store ++ more) ∙ sym (to_nothing kind (suc depth) store)
  to_kept (suc depth) (suc n) more l =
      let low = behind_lower (suc n) (omega arith) l in
      to_more kind depth (store ++ more) (suc n) (omega arith)
      ∙ rw (child_kept store more (suc n) l)
      (ap (λ (ms : List ℕ). first kind store (suc n) ∷ ms) (to_kept depth (behind kind store (suc n)) more (omega arith)))
      ∙ sym (to_more kind depth store (suc n) (omega arith))

  pub members_kept : {grown : List Record} → Grows store grown → (place : ℕ) → place < length store → members kind grown place ≡ members kind store place
  unfolding members
  members_kept h place l = ap (λ (s : List Record). members kind s place) h.is ∙ to_kept (suc place) place h.more l

-- Where records of the kind are sets, the members of any place are one.
module _ {kind : ℕ} (s : SetKind kind) {store : List Record} (g : Good store) where
  pub set_at : (at : ℕ) → at < length store → is_kind kind (child store at) ≡ true → IsSet kind store (child store at)
  set_at at l e =
      let k = eqb-true (child store at).kind kind e in
      subst (λ (n : ℕ). IsSet n store (child store at)) k
      (g.sets at l (ap (λ (n : ℕ). is_set (kind_of n)) k ∙ s.is))

  pub members_set : (place : ℕ) → place < length store → Set kind store 0 (members kind store place)
  members_set zero l = subst (Set kind store 0) (sym (members_of_nothing kind store)) none
  members_set (suc n) l = go (is_kind kind (child store (suc n))) refl
    where
      go : (b : Bool) → is_kind kind (child store (suc n)) ≡ b → Set kind store 0 (members kind store (suc n))
      go true e = subst (Set kind store 0) (sym (members_of_set kind g (suc n) (omega arith) l e)) (set_at (suc n) l e).set
      go false e = subst (Set kind store 0) (sym (members_of_one kind g (suc n) (omega arith) l e)) (member (omega arith) l e none)

-- A set stays one when records are added.
pub set_kept : {kind : ℕ} {store grown : List Record} → Grows store grown → {low : ℕ} {ms : List ℕ} → Set kind store low ms → Set kind grown low ms
set_kept h none = none
set_kept {kind} h (member {m = m} a l e s) = member a (omega (arith, grows_length h)) (ap (is_kind kind) (grows_child h m l) ∙ e) (set_kept h s)
