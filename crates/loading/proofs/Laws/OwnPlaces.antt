-- A good store, loaded as a card into a good store that it grew from, puts each record at its own place and leaves itself. While the record
-- at a place is loaded, the store that stands ends just before that place, or is still the first store: there each record is settled, and
-- every later record is made in its turn.
use Prim.Native.Nat.{ℕ, zero, suc, ◌+◌, max, ◌<◌, ◌≤◌}
use Rattle.std.proofs.Math.Decide.{dec_lt}
use native.Mathlib.Omega.{arith}
use Rattle.std.specs.Prelude.{Bool, ◌≡◌, refl, get_or, take, drop}
use mathlib.Core.List.{List, [], ◌∷◌, ◌++◌}
use Rattle.std.proofs.Common.{sym, ◌∙◌, ap₂, length-append, drop_of_length-le, take_all, drop-cons}
use Rattle.std.proofs.Math.Path.{ap}
use Rattle.std.proofs.Math.ListN.{length, get_or-append}
use Rattle.std.proofs.Math.Seq.{take-append_seam}
use Rattle.std.proofs.lemmas.List.{get_or_at}
use Rattle.records.specs.declared.record.Record.{Record}
use Rattle.records.specs.Record.{child, no_record}
use Rattle.records.specs.Kind.{kind_of, columns}
use Rattle.cards.specs.Standing.{ChildField, Line}
use Rattle.cards.proofs.Laws.Line.{field_same, field_own}
use Rattle.store.specs.Making.{placed, make}
use Rattle.loading.specs.Loading.{loaded, child_place, make_loaded, load_after, load}
use Rattle.store.specs.Good.{Good, make_again}
use Rattle.store.specs.Laws.Wall.{Grows}
use Rattle.loading.proofs.Laws.Loading.{go_on}

-- The numbers below n, ascending: each is its own place.
unfoldable pub own_places : ℕ → List ℕ
own_places zero = []
own_places (suc n) = own_places n ++ n ∷ []

-- There are n of them.
pub length_own : (n : ℕ) → length (own_places n) ≡ n
unfolding own_places
length_own zero = refl
length_own (suc n) = omega (arith, length-append (own_places n) (n ∷ []), length_own n)

-- Each stands at its own place.

one_more_own : (n : ℕ) → ((at : ℕ) → at < n → get_or (own_places n) at 0 ≡ at) → (at : ℕ) → at < suc n → get_or (own_places n ++ n ∷ []) at 0 ≡ at
one_more_own n before at l = go (dec_lt at n)
  where
    go : Dec (at < n) → get_or (own_places n ++ n ∷ []) at 0 ≡ at
    go (yes m) = get_or-append (own_places n) (n ∷ []) 0 at (omega (arith, length_own n)) ∙ before at m
    go (no m) = let e : n ≡ at = omega arith in get_or_at (own_places n) n [] 0 at (length_own n ∙ e) ∙ e

pub own_place : (n at : ℕ) → at < n → get_or (own_places n) at 0 ≡ at
unfolding own_places
own_place zero at l = absurd (omega arith)
own_place (suc n) at l = one_more_own n (own_place n) at l

-- Where every place is a record's own, the children's places are the record's own fields.

field_in_place : (child : Bool) (at field : ℕ) → ChildField child at field → child_place child (own_places at) field ≡ field
field_in_place child at field h =
    field_same child at field (λ i. get_or (own_places at) i 0) (λ i. i) (own_place at) h ∙ field_own child at field h

-- So that making it as a card's record is making it again.
made_again : (room : ℕ) (store : List Record) {at : ℕ} {r : Record} → Line at r → make_loaded room store (own_places at) r ≡ make_again room store r
made_again room store {at} {r} line =
    ap₂ (make room store r.kind r.letter)
    (field_in_place (columns (kind_of r.kind)).left at r.left line.left)
    (field_in_place (columns (kind_of r.kind)).right at r.right line.right)

module _ (room : ℕ) (store₂ store : List Record) (good₂ : Good store₂) (good : Good store) (grows : Grows store₂ store) (fits : length store ≤ room) where
  -- The store that stands while the record at a place is loaded.
  abbrev stands : ℕ → List Record
  stands at = take (max at (length store₂)) store

  -- It is still the first store, up to that store's end ..
  still : (at : ℕ) → at ≤ length store₂ → stands at ≡ store₂
  still at l =
      let n : max at (length store₂) ≡ length store₂ = omega arith in
      ap (λ (k : ℕ). take k store) n ∙ ap (take (length store₂)) grows.is ∙ take-append_seam store₂ grows.more

  -- .. and then ends just before the place.
  past : (at : ℕ) → length store₂ ≤ at → stands at ≡ take at store
  past at l = let n : max at (length store₂) ≡ at = omega arith in ap (λ (k : ℕ). take k store) n

  -- The record at a place is made there, and the store that stands for the next is left.
  one_more : (at : ℕ) → at < length store → make_again room (stands at) (child store at) ≡ placed at (stands (suc at))
  one_more at l = go (dec_lt at (length store₂))
    where
      go : Dec (at < length store₂) → make_again room (stands at) (child store at) ≡ placed at (stands (suc at))
      go (yes m) =
          let same : child store at ≡ child store₂ at
          = ap (λ (s : List Record). child s at) grows.is ∙ get_or-append store₂ grows.more no_record at m in
          ap₂ (make_again room) (still at (omega arith)) same ∙ good₂.settled at m room ∙ ap (placed at) (sym (still (suc at) m))
      go (no m) =
          let some = good₂.some in
          ap (λ (s : List Record). make_again room s (child store at)) (past at (omega arith))
          ∙ good.in_turn at (omega arith) l room (omega arith)
          ∙ ap (placed at) (sym (past (suc at) (omega arith)))

  -- Loading the records from a place on.
  from_on : (left at : ℕ) → at + left ≡ length store
      → load_after room (stands at) (own_places at) (drop at store) ≡ loaded (own_places (length store)) store
  unfolding load_after own_places
  from_on zero at e =
      let n : at ≡ length store = omega arith in
      rw (drop_of_length-le store {i = at} (omega arith))
      (ap₂ loaded (ap own_places n) (take_all (max at (length store₂)) store (omega arith)))
  from_on (suc left) at e =
      let l : at < length store = omega arith in
      ap (load_after room (stands at) (own_places at)) (drop-cons store at no_record l)
      ∙ ap (go_on room (own_places at) (drop (suc at) store)) (made_again room (stands at) (good.obeys at l).line ∙ one_more at l)
      ∙ from_on left (suc at) (omega arith)

  -- Loading the store as a card puts each record at its own place, and leaves the store.
  pub own_loaded : load room store₂ store ≡ loaded (own_places (length store)) store
  unfolding load own_places
  own_loaded =
      ap (λ (s : List Record). load_after room s [] store) (sym (still 0 (omega arith))) ∙ from_on (length store) 0 (omega arith)
