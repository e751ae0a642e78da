-- What the code answers of the parts of a search, with the rooms that it leaves. Named by inner contracts alone.
use Rattle.std.specs.Prelude.{ℕ, ◌-◌, ◌*◌, ◌≤◌, Bool, List, [], ◌∷◌, ◌++◌, ◌≡◌, length}
use Rattle.std.specs.declared.result.Result.{Result}
use Rattle.std.specs.declared.result.Result.TheVariants.{Ok, Err}
use Rattle.language.specs.Word.{Bytes}
use Rattle.refusals.specs.declared.refusal.Refusal.{Refusal}
use Rattle.refusals.specs.Number.{number}
use Rattle.refusals.specs.Limits.{most_pairs, most_pair_room}
use Rattle.records.specs.declared.record.Record.{Record}
use Rattle.store.specs.declared.work.Work.{Work}
use Rattle.store.specs.Room.{store_in, laid}
use Rattle.store.specs.Work.{store_of}
use Rattle.pairs.specs.declared.pair.Pair.{Pair}
use Rattle.pairs.specs.Room.{table_in, laid_pairs}
use Rattle.searching.specs.declared.going.End.{End}
use Rattle.searching.specs.declared.going.End.TheVariants.{Different, Refused}
use Rattle.searching.specs.declared.table.Table.{Table}
use Rattle.searching.specs.ReadOff.{word_of}
use Rattle.searching.specs.Search.{Search, same, different, stopped, Going, on, ends}
use Rattle.searching.specs.Laws.Words.{Ordered}

-- A pair room of legal size.
pub record LegalPairs (room : List ℕ) : Type 0 where
  pub bytes : Bytes room
  pub short : length room ≤ most_pair_room

-- The pairs of a table in a room each come from one with a lower number.
pub record OrderedPairs (pairs : List ℕ) (placed : ℕ) : Type 0 where
  pub fits : 8 * placed ≤ length pairs
  pub few : placed ≤ most_pairs
  pub ordered : Ordered (table_in pairs placed)

-- The table that stands.
abbrev pub table_of : Table → List Pair
table_of t = table_in t.room.now t.pairs

-- The word of a pair that is reached from the pair of this number by a letter; the opening pair, in an empty table, has the empty word.
abbrev pub found_word : List Pair → ℕ → ℕ → List ℕ
found_word [] from letter = []
found_word (p ∷ table) from letter = word_of (p ∷ table) from ++ letter ∷ []

-- The code's answer tells an end, with this store, this table and this budget left: "different" by the pair and the letter that lead there.
pub data TellsEnd (store : List Record) (table : List Pair) (budget : ℕ) : Search → End → Type 0 where
  tells_different : {word : List ℕ} {left_has : Bool} {from letter : ℕ} → word ≡ found_word table from letter → from ≤ length table - 1
      → TellsEnd store table budget (different word left_has store table budget) (Different from letter left_has)
  tells_refused : {refusal : Refusal} → TellsEnd store table budget (stopped (number refusal) store table budget) (Refused refusal)

-- It goes on, or is at that end.
pub data TellsGoing (store : List Record) (table : List Pair) (budget : ℕ) : Going → Result (Unit {0}) End → Type 0 where
  tells_on : TellsGoing store table budget (on store table budget) (Ok tt)
  tells_ends : {s : Search} {end : End} → TellsEnd store table budget s end → TellsGoing store table budget (ends s) (Err end)

-- Every placed pair was taken, or it is at that end.
pub data TellsSearch (store : List Record) (table : List Pair) (budget : ℕ) : Search → Result (Unit {0}) End → Type 0 where
  tells_same : TellsSearch store table budget (same store table budget) (Ok tt)
  tells_before : {s : Search} {end : End} → TellsEnd store table budget s end → TellsSearch store table budget s (Err end)

-- The answer tells what a part of the search comes to, and every byte of the two rooms behind the store and the table is as it was.
pub record Goes (w : Work) (t : Table) (g : Going) (answer : Result (Unit {0}) End) (w' : Work) (t' : Table) : Type 0 where
  pub tells : TellsGoing (store_of w') (table_of t') w'.budget g answer
  pub work_room : w'.room.now ≡ laid (store_of w') w.room.now
  pub pair_room : t'.room.now ≡ laid_pairs (table_of t') t.room.now

-- The same in a room that is only read, over the store of so many places there: that store is the one told, with this budget left.
pub record GoesIn (room : List ℕ) (places budget : ℕ) (t : Table) (g : Going) (answer : Result (Unit {0}) End) (t' : Table) : Type 0 where
  pub tells : TellsGoing (store_in room places) (table_of t') budget g answer
  pub work_room : room ≡ laid (store_in room places) room
  pub pair_room : t'.room.now ≡ laid_pairs (table_of t') t.room.now

pub record Ends (w : Work) (t : Table) (s : Search) (answer : Result (Unit {0}) End) (w' : Work) (t' : Table) : Type 0 where
  pub tells : TellsSearch (store_of w') (table_of t') w'.budget s answer
  pub work_room : w'.room.now ≡ laid (store_of w') w.room.now
  pub pair_room : t'.room.now ≡ laid_pairs (table_of t') t.room.now
