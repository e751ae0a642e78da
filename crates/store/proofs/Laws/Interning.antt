-- Using or writing a record: each way that it can go, with its outcome; and a record of a good store, made again, is found where it stands.
use Rattle.std.specs.Prelude.{ℕ, ◌<◌, ◌≤◌, List, [], ◌∷◌, ◌++◌, ◌≡◌, refl, length}
use Rattle.std.proofs.Math.Decide.{dec_lt}
use Rattle.std.proofs.Common.{arith, sym, ◌∙◌, lt-ltb, le-ltb}
use Rattle.std.proofs.Math.Path.{ap}
use Rattle.language.specs.Laws.Derivative.{nullable}
use Rattle.records.specs.declared.record.Record.{Record}
use Rattle.records.specs.Record.{child}
use Rattle.cards.specs.Mark.{bit, marked}
use Rattle.cards.specs.Meaning.{patterns, numbered}
use Rattle.cards.proofs.Laws.Meaning.{pattern_of_record}
use Rattle.cards.proofs.Laws.Examine.{marked_bit, has_empty_right}
use Rattle.std.specs.declared.option.Option.{Option}
use Rattle.std.specs.declared.option.Option.TheVariants.{Some, None}
use Rattle.store.specs.Making.{Making, placed, full, find, use_or_write, intern, new_record}
use Rattle.store.specs.Good.{Good}
use Rattle.store.proofs.Laws.Finding.{found_within, found_holds, found_kept, absent_nowhere}
use Rattle.store.specs.Laws.Wall.{Grows}
use Rattle.store.proofs.Laws.Members.{grows_child}

-- What becomes of a record, and why.
pub data Way (room : ℕ) (store : List Record) (r : Record) : Making → Type 0 where
  found : {place : ℕ} → find store r ≡ Some place → Way room store r (placed place store)
  written : find store r ≡ None → length store < room → Way room store r (placed (length store) (store ++ r ∷ []))
  stopped : find store r ≡ None → room ≤ length store → Way room store r (full store)

module _ (room : ℕ) (store : List Record) (r : Record) where
  by_find : {f : Option ℕ} → find store r ≡ f → intern room store r ≡ use_or_write room store r f
  unfolding intern
  by_find e = ap (use_or_write room store r) e

  -- Each way leads to one outcome.
  pub intern_found : {place : ℕ} → find store r ≡ Some place → intern room store r ≡ placed place store
  intern_found e = by_find e

  pub intern_written : find store r ≡ None → length store < room → intern room store r ≡ placed (length store) (store ++ r ∷ [])
  intern_written e l = by_find e ∙ rw (lt-ltb (length store) room l)

  pub intern_stopped : find store r ≡ None → room ≤ length store → intern room store r ≡ full store
  intern_stopped e l = by_find e ∙ rw (le-ltb (length store) room l)

  -- And some way is taken.
  pub way : Way room store r (intern room store r)
  way = go (find store r) refl
    where
      go : (f : Option ℕ) → find store r ≡ f → Way room store r (intern room store r)
      go (Some place) e = rw (intern_found e) (found e)
      go None e = room_left (dec_lt (length store) room)
        where
          room_left : Dec (length store < room) → Way room store r (intern room store r)
          room_left (yes l) = rw (intern_written e l) (written e l)
          room_left (no l) = rw (intern_stopped e (omega arith)) (stopped e (omega arith))

-- What is found stays found there in a store with more records.
pub grows_found : {store grown : List Record} → Grows store grown → (r : Record) (place : ℕ) → find store r ≡ Some place → find grown r ≡ Some place
grows_found {store} k r place e = ap (λ (s : List Record). find s r) k.is ∙ found_kept store k.more r place e

-- The record to be made is the same in a store with more records.
pub fresh_kept : {store grown : List Record} → Grows store grown → (kind letter left right : ℕ) → left < length store → right < length store
    → new_record grown kind letter left right ≡ new_record store kind letter left right
fresh_kept k kind letter left right l m = rw (grows_child k left l, grows_child k right m)

module _ {store : List Record} (g : Good store) where
  -- A mark says whether the language has the empty word.
  pub marked_nullable : (at : ℕ) → at < length store → marked (child store at) ≡ nullable (numbered (patterns store) at)
  marked_nullable at l = marked_bit (child store at) _ (g.mark at l)

  -- A record of the store is the one to be made of its own kind, letter and children.
  pub own_record : (at : ℕ) → at < length store
      → new_record store (child store at).kind (child store at).letter (child store at).left (child store at).right ≡ child store at
  own_record at l =
      let r = child store at in
      let o = g.obeys at l in
      let e = has_empty_right store (patterns store) at (λ i m. marked_nullable i (omega arith)) r o.line
      ∙ ap nullable (sym (pattern_of_record store at l o.line)) in
      λ i. record {
        kind = r.kind;
        letter = r.letter;
        mark = (ap bit e ∙ sym (g.mark at l)) i;
        fourth = sym o.fourth i;
        left = r.left;
        right = r.right;
      }

  -- It is found where it stands.
  pub own_found : (at : ℕ) → at < length store → find store (child store at) ≡ Some at
  own_found at l = go (find store (child store at)) refl
    where
      go : (f : Option ℕ) → find store (child store at) ≡ f → find store (child store at) ≡ Some at
      go (Some place) e =
          e ∙ ap Some (g.once place at (found_within store (child store at) place e) l (found_holds store (child store at) place e))
      go None e = absurd (absent_nowhere store (child store at) e at l refl)
