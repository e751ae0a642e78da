-- A room with a good store in it, after a step that keeps the wall: the store that stands is good again, and the room is as long.
use Rattle.std.specs.Prelude.{ℕ, ◌*◌, ◌/◌, ◌<◌, ◌≤◌, List, Bool, true, false, ◌≡◌, length}
use Rattle.std.proofs.Common.{arith, ⊎_elim, ap}
use Rattle.language.specs.Laws.Derivative.{nullable}
use Rattle.refusals.specs.Limits.{most_places}
use Rattle.records.specs.declared.record.Record.{Record}
use Rattle.records.specs.Record.{child}
use Rattle.cards.specs.Mark.{bit}
use Rattle.cards.specs.Meaning.{patterns, numbered}
use Rattle.cards.proofs.Laws.Line.{lower_left, lower_right, line_kind}
use Rattle.records.specs.Laws.Record.{Fitting, length_first}
use Rattle.store.specs.Room.{store_in, places_of, laid}
use Rattle.store.specs.Good.{Good, GoodStore}
use Rattle.store.proofs.Laws.Room.{store_of_laid, length_laid, bytes_laid}
use Rattle.store.specs.Laws.Wall.{Ready, Kept}

bit_small : (b : Bool) → bit b < 256
bit_small true = omega arith
bit_small false = omega arith

-- The records of a good store of no more places than a room can have fit their bytes.
pub good_fits : {store : List Record} → Good store → length store ≤ most_places → (at : ℕ) → at < length store → Fitting (child store at)
good_fits {store} g few at l =
    let o = g.obeys at l in
    record {
      kind = line_kind o.line;
      letter = g.letter at l;
      mark = rw (g.mark at l) (bit_small (nullable (numbered (patterns store) at)));
      fourth = let f = o.fourth in omega arith;
      left = ⊎_elim (λ h. omega arith) (λ h. omega arith) (lower_left o.line);
      right = ⊎_elim (λ h. omega arith) (λ h. omega arith) (lower_right o.line);
    }

-- The places of a store in a room.
pub length_store_in : (room : List ℕ) (places : ℕ) → length (store_in room places) ≡ places
length_store_in room places = length_first places room

-- A room with a good store is ready to be worked on.
pub room_ready : {room : List ℕ} {places : ℕ} → GoodStore room places → Ready (places_of room) (store_in room places)
room_ready {room} {places} g =
    let f = g.fits in
    record { within = omega (arith, length_store_in room places); good = g.good }

module _ (room : List ℕ) {store store' : List Record} (k : Kept (places_of room) store store') where
  laid_within : 8 * length store' ≤ length room
  laid_within = let w = k.ready.within in omega arith

  pub length_after : length (laid store' room) ≡ length room
  length_after = length_laid store' room laid_within

  pub places_after : places_of (laid store' room) ≡ places_of room
  places_after = ap (λ (n : ℕ). n / 8) length_after

  pub store_after : store_in (laid store' room) (length store') ≡ store'
  store_after = store_of_laid store' room

  -- The store that a step leaves has no more places than a room can have, and is good in the room.
  few_after : {places : ℕ} → GoodStore room places → length store' ≤ most_places
  few_after g = let s = g.short in let w = laid_within in omega arith

  pub good_after : {places : ℕ} → GoodStore room places → GoodStore (laid store' room) (length store')
  good_after g =
      record {
        bytes = bytes_laid store' (good_fits k.ready.good (few_after g)) g.bytes;
        fits = let w = laid_within in omega (arith, length_after);
        short = let s = g.short in omega (arith, length_after);
        good = rw store_after k.ready.good;
      }
