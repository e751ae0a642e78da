-- What making adds to any store, good or not, in a room of any size: only records at the end, one for a record that stays one, and for a set at
-- most one for each member. Each member put before a set uses or writes one record, and nothing else writes any.
use Rattle.std.specs.Prelude.{ℕ, suc, ◌+◌, ◌≤◌, Bool, true, false, cond, List, [], ◌∷◌, eqb, length}
use Rattle.std.proofs.Common.{arith, length-append}
use Rattle.records.specs.declared.record.Record.{Record}
use Rattle.records.specs.Kind.{kind_of}
use Rattle.store.specs.Making.{Making, placed, full, after, intern, nothing_place, new_record, members, merged, put_before, built, set_of_both, make}
use Rattle.store.specs.Laws.Wall.{Grows}
use Rattle.store.proofs.Laws.Wall.{grows_refl, grows_trans, longer_by_one}
use Rattle.store.proofs.Laws.Interning.{Way, found, written, stopped, way}
use Rattle.store.proofs.Laws.Choosing.{built_none, built_more}
use Rattle.store.proofs.Laws.Rules.{make_given, make_kept, make_merged, Says, gives, stays, merges, says}

-- Records are added at the end, at most so many.
pub record Adds (most : ℕ) (store store' : List Record) : Type 0 where
  pub grows : Grows store store'
  pub few : length store' ≤ most + length store

-- None are added.
adds_none : {most : ℕ} (store : List Record) → Adds most store store
adds_none store = record { grows = grows_refl store; few = omega arith }

-- At most so many, and so at most more.
adds_more : {most more : ℕ} {store store' : List Record} → Adds most store store' → most ≤ more → Adds more store store'
adds_more h l = record { grows = h.grows; few = let a = h.few in omega arith }

-- At most so many, and then at most one.
adds_then : {most : ℕ} {a b c : List Record} → Adds most a b → Adds 1 b c → Adds (suc most) a c
adds_then h k = record { grows = grows_trans h.grows k.grows; few = let a = h.few in let b = k.few in omega arith }

-- A record used or written.
pub intern_adds : (room : ℕ) (store : List Record) (r : Record) → Adds 1 store (after (intern room store r))
intern_adds room store r = go (way room store r)
  where
    go : {made : Making} → Way room store r made → Adds 1 store (after made)
    go (found e) = adds_none store
    go (written e l) = record { grows = (longer_by_one store r).grows; few = omega (arith, length-append store (r ∷ [])) }
    go (stopped e l) = adds_none store

-- A member put before what was made.
pub put_before_adds : (room kind m : ℕ) (made : Making) → Adds 1 (after made) (after (put_before room kind m made))
put_before_adds room kind m (placed rest store) = go (eqb rest nothing_place)
  where
    go : (b : Bool) → Adds 1 store (after (cond b (placed m store) (intern room store (new_record store kind 0 m rest))))
    go true = adds_none store
    go false = intern_adds room store (new_record store kind 0 m rest)
put_before_adds room kind m (full store) = adds_none store

-- A set built.
pub built_adds : (room kind : ℕ) (store : List Record) (ms : List ℕ) → Adds (length ms) store (after (built room kind store ms))
built_adds room kind store [] = rw (built_none room kind store) (adds_none store)
built_adds room kind store (m ∷ ms) =
    rw (built_more room kind store m ms) (adds_then (built_adds room kind store ms) (put_before_adds room kind m (built room kind store ms)))

-- A record made: no more records than its children have members, and one.
abbrev pub most_added : ℕ → List Record → ℕ → ℕ → ℕ
most_added kind store left right = suc (length (merged (members kind store left) (members kind store right)))

both_adds : (room kind : ℕ) (store : List Record) (left right : ℕ)
    → Adds (most_added kind store left right) store (after (set_of_both room kind store left right))
unfolding set_of_both
both_adds room kind store left right = adds_more (built_adds room kind store (merged (members kind store left) (members kind store right))) (omega arith)

pub make_adds : (room : ℕ) (store : List Record) (kind letter left right : ℕ)
    → Adds (most_added kind store left right) store (after (make room store kind letter left right))
make_adds room store kind letter left right = go (says (kind_of kind) left right)
  where
    go : Says (kind_of kind) left right → Adds (most_added kind store left right) store (after (make room store kind letter left right))
    go (gives place e) = rw (make_given room store kind letter left right e) (adds_none store)
    go (stays s e) =
        rw (make_kept room store kind letter left right e)
        (adds_more (intern_adds room store (new_record store kind letter left right)) (omega arith))
    go (merges s e) = rw (make_merged room store kind letter left right e) (both_adds room kind store left right)
