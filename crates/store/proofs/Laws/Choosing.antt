-- A set that stands comes out again: built anew of its members, in the store or in one grown from it, it is the place it was, and nothing
-- is added. So the set of a member and a set behind it is used or written as their record.
use Rattle.std.specs.Prelude.{ℕ, zero, suc, ◌<◌, Bool, true, false, List, [], ◌∷◌, ◌≡◌, refl, length}
use Rattle.std.proofs.Common.{arith, sym, ◌∙◌, ap, ap₂, eqb-true, ne_eqb}
use Rattle.records.specs.declared.record.Record.{Record}
use Rattle.records.specs.Record.{child}
use Rattle.cards.specs.Standing.{LineOf}
use Rattle.store.specs.Making.{placed, intern, new_record, is_kind, members, entered, merged, put_before, built, set_of_both}
use Rattle.store.specs.Good.{SetKind, Good, Set, member}
use Rattle.store.specs.Laws.Wall.{Grows}
use Rattle.store.proofs.Laws.Rules.{two_children, set_line}
use Rattle.store.proofs.Laws.Members.{members_of_nothing, members_of_set, members_of_one, members_kept, set_at}
use Rattle.store.proofs.Laws.Merging.{merged_none, merged_more, first_before}
use Rattle.store.proofs.Laws.Interning.{intern_found, grows_found, fresh_kept, own_record, own_found}

-- No member, and a member before the rest.
pub built_none : (room kind : ℕ) (store : List Record) → built room kind store [] ≡ placed 0 store
unfolding built
built_none room kind store = refl

pub built_more : (room kind : ℕ) (store : List Record) (m : ℕ) (ms : List ℕ)
    → built room kind store (m ∷ ms) ≡ put_before room kind m (built room kind store ms)
unfolding built
built_more room kind store m ms = refl

-- Before a set that is not nothing, the record of the two is used or written.
pub put_before_some : (room kind m : ℕ) (rest : ℕ) (store : List Record) → 0 < rest
    → put_before room kind m (placed rest store) ≡ intern room store (new_record store kind 0 m rest)
put_before_some room kind m rest store p = rw (ne_eqb rest 0 (λ e. omega arith))

module _ {kind : ℕ} (s : SetKind kind) {store : List Record} (g : Good store) where
  -- The line of a set of the store.
  line_at : (at : ℕ) → at < length store → is_kind kind (child store at) ≡ true → LineOf two_children at (child store at)
  line_at at l e = set_line s (eqb-true (child store at).kind kind e) (g.obeys at l).line

  -- A set of the store is the record to be made of its children.
  own_set : (at : ℕ) → at < length store → is_kind kind (child store at) ≡ true
      → new_record store kind 0 (child store at).left (child store at).right ≡ child store at
  own_set at l e =
      ap₂ (λ (k a : ℕ). new_record store k a (child store at).left (child store at).right)
      (sym (eqb-true (child store at).kind kind e)) (sym (line_at at l e).letter)
      ∙ own_record g at l

  module _ {grown : List Record} (more : Grows store grown) (room : ℕ) where
    -- A set that stands, built of its members.
    settled_below : (n place : ℕ) → place < n → place < length store → built room kind grown (members kind store place) ≡ placed place grown
    settled_below zero place b l = absurd (omega arith)
    settled_below (suc n) zero b l = ap (built room kind grown) (members_of_nothing kind store) ∙ built_none room kind grown
    settled_below (suc n) (suc k) b l = go (is_kind kind (child store (suc k))) refl (λ p h. settled_below n p h)
      where
        go : (c : Bool) → is_kind kind (child store (suc k)) ≡ c
            → ((p : ℕ) → p < n → p < length store → built room kind grown (members kind store p) ≡ placed p grown)
            → built room kind grown (members kind store (suc k)) ≡ placed (suc k) grown
        go true e before =
            let c = line_at (suc k) l e in
            let left = (child store (suc k)).left in
            let right = (child store (suc k)).right in
            ap (built room kind grown) (members_of_set kind g (suc k) (omega arith) l e)
            ∙ built_more room kind grown left (members kind store right)
            ∙ ap (put_before room kind left) (before right (omega (arith, c.right)) (omega (arith, c.right)))
            ∙ put_before_some room kind left right grown (set_at s g (suc k) l e).more
            ∙ ap (intern room grown) (fresh_kept more kind 0 left right (omega (arith, c.left)) (omega (arith, c.right)) ∙ own_set (suc k) l e)
            ∙ intern_found room grown (child store (suc k)) (grows_found more (child store (suc k)) (suc k) (own_found g (suc k) l))
        go false e before =
            ap (built room kind grown) (members_of_one kind g (suc k) (omega arith) l e)
            ∙ built_more room kind grown (suc k) [] ∙ ap (put_before room kind (suc k)) (built_none room kind grown)

    pub set_settled : (place : ℕ) → place < length store → built room kind grown (members kind store place) ≡ placed place grown
    set_settled place l = settled_below (suc place) place (omega arith) l

    -- The set of both places' members, by the members that they have in the store.
    pub both_kept : (left right : ℕ) → left < length store → right < length store
        → set_of_both room kind grown left right ≡ built room kind grown (merged (members kind store left) (members kind store right))
    unfolding set_of_both
    both_kept left right l m = rw (members_kept kind g more left l, members_kept kind g more right m)

    -- The set of a member and a set behind it is used or written as their record.
    pub set_of_member : (m rest : ℕ) → 0 < m → m < length store → is_kind kind (child store m) ≡ false → 0 < rest → rest < length store
        → Set kind store m (members kind store rest)
        → set_of_both room kind grown m rest ≡ intern room grown (new_record store kind 0 m rest)
    set_of_member m rest p l e q k above =
        both_kept m rest l k
        ∙ ap (λ (ms : List ℕ). built room kind grown (merged ms (members kind store rest))) (members_of_one kind g m p l e)
        ∙ ap (built room kind grown)
        (merged_more m [] (members kind store rest)
        ∙ ap (entered m) (merged_none (members kind store rest)) ∙ first_before above)
        ∙ built_more room kind grown m (members kind store rest)
        ∙ ap (put_before room kind m) (set_settled rest k)
        ∙ put_before_some room kind m rest grown q
        ∙ ap (intern room grown) (fresh_kept more kind 0 m rest l k)

    -- A set that stands, made again.
    pub both_settled : (at : ℕ) → at < length store → is_kind kind (child store at) ≡ true
        → set_of_both room kind grown (child store at).left (child store at).right ≡ placed at grown
    both_settled at l e = go (set_at s g at l e).set
      where
        c : LineOf two_children at (child store at)
        c = line_at at l e

        go : Set kind store 0 ((child store at).left ∷ members kind store (child store at).right)
            → set_of_both room kind grown (child store at).left (child store at).right ≡ placed at grown
        go (member p m f above) =
            set_of_member (child store at).left (child store at).right p m f (set_at s g at l e).more (omega (arith, c.right)) above
            ∙ ap (intern room grown) (own_set at l e)
            ∙ intern_found room grown (child store at) (grows_found more (child store at) at (own_found g at l))
