-- A set built of its members keeps the wall: records are only added at the end, the store stays good, the place's members are the list, it
-- stops only for a new record with no free place, from where it goes on in a larger room, and in any room that holds what it placed it does the
-- same.
use Rattle.std.specs.Prelude.{ℕ, zero, suc, ◌<◌, ◌≤◌, false, List, [], ◌∷◌, ◌++◌, ◌≡◌, refl, length}
use Rattle.std.proofs.Common.{arith, sym, ◌∙◌, ap, subst, eq-eqb, length-append}
use Rattle.std.proofs.lemmas.Bool.{false≢true}
use Rattle.std.proofs.Math.Seq.{get_or-append_seam}
use Rattle.records.specs.declared.record.Record.{Record}
use Rattle.records.specs.Record.{child}
use Rattle.records.specs.Kind.{kind_of}
use Rattle.std.specs.declared.option.Option.TheVariants.{None}
use Rattle.store.specs.Making.{Making, placed, full, after, find, new_record, is_kind, members, put_before, built}
use Rattle.store.specs.Good.{is_set, SetKind, Good, Set, none, member}
use Rattle.store.proofs.Laws.Finding.{found_within, found_holds, added_found}
use Rattle.store.specs.Laws.Wall.{Grows, Ready, Kept}
use Rattle.store.proofs.Laws.Wall.{grows_refl, grows_length, kept_refl, kept_trans, longer_grows, longer_by_one, Outgrown}
use Rattle.store.proofs.Laws.Members.{members_of_nothing, members_of_set, members_of_one, members_kept, grows_child, set_kept}
use Rattle.store.proofs.Laws.Interning.{Way, found, written, stopped, way, intern_found, intern_written}
use Rattle.store.proofs.Laws.Choosing.{built_none, built_more, put_before_some, set_of_member}
use Rattle.store.proofs.Laws.Rules.{make_merged, set_merges, line_of_set}
use Rattle.store.proofs.Laws.Adding.{put_before_adds}
use Rattle.store.proofs.Laws.Growing.{good_more}

-- A set of a kind was built.
pub record Built (room kind : ℕ) (store : List Record) (ms : List ℕ) (place : ℕ) (store' : List Record) : Type 0 where
  pub kept : Kept room store store'
  pub inside : place < length store'
  pub lists : members kind store' place ≡ ms
  pub enough : (room' : ℕ) → length store' ≤ room' → built room' kind store ms ≡ placed place store'

-- The law of building.
pub data BuildLaw (room kind : ℕ) (store : List Record) (ms : List ℕ) : Making → Type 0 where
  was_built : {place : ℕ} {store' : List Record} → Built room kind store ms place store' → BuildLaw room kind store ms (placed place store')
  ran_out : {store' : List Record} → Outgrown (λ room'. after (built room' kind store ms)) room store store'
      → BuildLaw room kind store ms (full store')

-- The record of a member and a set behind it, where it is absent, is written: the store is good again.
module _ {kind : ℕ} (set : SetKind kind) {store : List Record} (g : Good store) (m rest : ℕ) (p : 0 < m) (l : m < length store)
    (e : is_kind kind (child store m) ≡ false) (q : 0 < rest) (k : rest < length store) (s : Set kind store m (members kind store rest))
    (absent : find store (new_record store kind 0 m rest) ≡ None) where
  abbrev new : Record
  new = new_record store kind 0 m rest

  abbrev grown : List Record
  grown = store ++ new ∷ []

  grows : Grows store grown
  grows = record { more = new ∷ []; is = refl }

  pub set_more : Good grown
  set_more =
      good_more store g kind 0 m rest (line_of_set set refl (record { known = refl; letter = refl; left = l; right = k })) (omega arith) absent
      (λ _. record { set = member p l e s; more = q })
      (λ room.
      make_merged room grown kind 0 m rest (set_merges set m rest p q)
      ∙ set_of_member set g grows room m rest p l e q k s
      ∙ intern_found room grown new (added_found store new absent))
      (λ room n.
      make_merged room store kind 0 m rest (set_merges set m rest p q)
      ∙ set_of_member set g (grows_refl store) room m rest p l e q k s
      ∙ intern_written room store new absent n)

module _ {room kind : ℕ} (set : SetKind kind) {store : List Record} (ready : Ready room store) where
  -- A member before the set that was built of the later ones.
  module _ {m : ℕ} {ms : List ℕ} (p : 0 < m) (l : m < length store) (e : is_kind kind (child store m) ≡ false) (above : Set kind store m ms)
      {rest : ℕ} {store' : List Record} (h : Built room kind store ms rest store') where
    good' : Good store'
    good' = h.kept.ready.good

    inside' : m < length store'
    inside' = omega (arith, grows_length h.kept.grows, l)

    one' : is_kind kind (child store' m) ≡ false
    one' = ap (is_kind kind) (grows_child h.kept.grows m l) ∙ e

    behind' : Set kind store' m (members kind store' rest)
    behind' = subst (Set kind store' m) (sym h.lists) (set_kept h.kept.grows above)

    abbrev new' : Record
    new' = new_record store' kind 0 m rest

    -- In any room that holds what the later ones placed, the member is put before their set.
    before : (room' : ℕ) → length store' ≤ room' → built room' kind store (m ∷ ms) ≡ put_before room' kind m (placed rest store')
    before room' n = built_more room' kind store m ms ∙ ap (put_before room' kind m) (h.enough room' n)

    alone : rest ≡ 0 → BuildLaw room kind store (m ∷ ms) (put_before room kind m (placed rest store'))
    alone z =
        subst (λ (n : ℕ). BuildLaw room kind store (m ∷ ms) (put_before room kind m (placed n store'))) (sym z)
        (was_built
        record {
          kept = h.kept;
          inside = inside';
          lists =
              members_of_one kind good' m p inside' one'
              ∙ ap (λ (l : List ℕ). m ∷ l) (sym (members_of_nothing kind store') ∙ ap (members kind store') (sym z) ∙ h.lists);
          enough = λ room' n. before room' n ∙ ap (λ (k : ℕ). put_before room' kind m (placed k store')) z;
        })

    module _ (q : 0 < rest) where
      -- The members of a place that holds their record.
      set_lists : {store'' : List Record} → Good store'' → Grows store' store'' → (place : ℕ) → place < length store'' → child store'' place ≡ new'
          → members kind store'' place ≡ m ∷ ms
      set_lists {store''} good grows place inside holds =
          members_of_set kind good place above_0 inside (ap (is_kind kind) holds ∙ eq-eqb kind kind refl)
          ∙ ap (λ (r : Record). r.left ∷ members kind store'' r.right) holds
          ∙ ap (λ (l : List ℕ). m ∷ l) (members_kept kind good' grows rest h.inside ∙ h.lists)
        where
          above_0 : 0 < place
          above_0 = go place holds
            where
              -- Place 0 is nothing, whose kind has no sets.
              go : (n : ℕ) → child store'' n ≡ new' → 0 < n
              go zero f =
                  let k : 0 ≡ kind = ap (λ (r : Record). r.kind) (sym good.nothing ∙ f) in
                  absurd (false≢true (ap (λ (n : ℕ). is_set (kind_of n)) k ∙ set.is))
              go (suc n) f = omega arith

      put : {made : Making} → Way room store' new' made → BuildLaw room kind store (m ∷ ms) made
      put (found {place = place} f) =
          was_built
          record {
            kept = h.kept;
            inside = found_within store' new' place f;
            lists = set_lists good' (grows_refl store') place (found_within store' new' place f) (found_holds store' new' place f);
            enough = λ room' n. before room' n ∙ put_before_some room' kind m rest store' q ∙ intern_found room' store' new' f;
          }
      put (written f n) =
          let long : length (store' ++ new' ∷ []) ≡ suc (length store') = length-append store' (new' ∷ []) ∙ omega arith in
          let grows : Grows store' (store' ++ new' ∷ []) = record { more = new' ∷ []; is = refl } in
          let good = set_more set good' m rest p inside' one' q h.inside behind' f in
          was_built {place = length store'} {store' = store' ++ new' ∷ []}
          record {
            kept = kept_trans h.kept (record { grows = grows; ready = record { within = omega arith; good = good } });
            inside = omega arith;
            lists = set_lists good grows (length store') (omega arith) (get_or-append_seam store' new' [] _);
            enough = λ room' k.
                before room' (omega arith) ∙ put_before_some room' kind m rest store' q ∙ intern_written room' store' new' f (omega arith);
          }
      put (stopped f n) =
          let w = h.kept.ready.within in
          ran_out
          record {
            kept = h.kept;
            fills = omega arith;
            goes_on = λ room' k.
                rw (before room' (omega arith) ∙ put_before_some room' kind m rest store' q ∙ intern_written room' store' new' f (omega arith))
                (longer_by_one store' new');
          }

    put_before_law : BuildLaw room kind store (m ∷ ms) (put_before room kind m (placed rest store'))
    put_before_law = go rest refl
      where
        go : (n : ℕ) → rest ≡ n → BuildLaw room kind store (m ∷ ms) (put_before room kind m (placed rest store'))
        go zero z = alone z
        go (suc n) z =
            let q : 0 < rest = omega arith in
            subst (BuildLaw room kind store (m ∷ ms)) (sym (put_before_some room kind m rest store' q)) (put q (way room store' new'))

  one_more : {m : ℕ} {ms : List ℕ} → 0 < m → m < length store → is_kind kind (child store m) ≡ false → Set kind store m ms
      → {made : Making} → BuildLaw room kind store ms made → BuildLaw room kind store (m ∷ ms) (put_before room kind m made)
  one_more p l e s (was_built h) = put_before_law p l e s h
  one_more {m} {ms} p l e s (ran_out h) =
      ran_out
      record {
        kept = h.kept;
        fills = h.fills;
        goes_on = λ room' k.
            rw (built_more room' kind store m ms) (longer_grows (h.goes_on room' k) (put_before_adds room' kind m (built room' kind store ms)).grows);
      }

  pub build_law : {low : ℕ} {ms : List ℕ} → Set kind store low ms → BuildLaw room kind store ms (built room kind store ms)
  build_law none =
      subst (BuildLaw room kind store []) (sym (built_none room kind store))
      (was_built {place = 0}
      record {
        kept = kept_refl ready;
        inside = let two = ready.good.some in omega arith;
        lists = members_of_nothing kind store;
        enough = λ room' n. built_none room' kind store;
      })
  build_law (member {m = m} {ms = ms} a l e s) =
      subst (BuildLaw room kind store (m ∷ ms)) (sym (built_more room kind store m ms)) (one_more (omega arith) l e s (build_law s))
