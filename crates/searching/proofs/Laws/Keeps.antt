-- What the search keeps, where it stops too: records and pairs are only added at the end, the store stays good and within its room, the
-- table stays within its own and names places of the store, and budget is only spent. It is what the search over any machine keeps, for the store.
use Rattle.std.specs.Prelude.{ℕ, ◌-◌, ◌<◌, ◌≤◌, Bool, List, [], length}
use Rattle.std.proofs.Common.{le_refl, arith, subst}
use Rattle.language.specs.Word.{IsByte, Listed}
use Rattle.machine.specs.Laws.Search.{Search as MachineSearch, Going as MachineGoing}
use Rattle.machine.specs.Laws.Keeps.{Extends, extends_refl, extends_trans}
use Rattle.machine.specs.Laws.Keeps as machine
use Rattle.records.specs.declared.record.Record.{Record}
use Rattle.store.specs.Laws.Wall.{Grows, Ready, Kept}
use Rattle.store.proofs.Laws.Wall.{grows_length, kept_refl, kept_trans}
use Rattle.pairs.specs.declared.pair.Pair.{Pair}
use Rattle.searching.specs.Laws.Keeps.{Tabled}
use Rattle.searching.specs.Search.{Search, same, different, stopped, Going, on, ends, look, by_letter, by_letters, take_pairs, search}
use Rattle.searching.specs.Laws.StoreMachine.{Having, having, store_machine}
use Rattle.searching.proofs.Laws.StoreMachine.{store_sense, store_lawful}
use Rattle.searching.proofs.Laws.Unfolds.{told, told_going, look_is, by_letter_is, by_letters_is, take_pairs_is, search_is}

-- What a part of the search leaves, where it ends too.
pub record KeptBoth (room pairs : ℕ) (store : List Record) (table : List Pair) (budget : ℕ)
    (store' : List Record) (table' : List Pair) (budget' : ℕ) : Type 0 where
  pub kept : Kept room store store'
  pub extends : Extends table table'
  pub tabled : Tabled pairs store' table'
  pub spent : budget' ≤ budget

pub data KeepsSearch (room pairs : ℕ) (store : List Record) (table : List Pair) (budget : ℕ) : Search → Type 0 where
  keeps_same : {store' : List Record} {table' : List Pair} {budget' : ℕ} → KeptBoth room pairs store table budget store' table' budget'
      → KeepsSearch room pairs store table budget (same store' table' budget')
  keeps_different : {word : List ℕ} {left_has : Bool} {store' : List Record} {table' : List Pair} {budget' : ℕ} → KeptBoth room pairs store table budget store' table' budget'
      → KeepsSearch room pairs store table budget (different word left_has store' table' budget')
  keeps_stopped : {number : ℕ} {store' : List Record} {table' : List Pair} {budget' : ℕ} → KeptBoth room pairs store table budget store' table' budget'
      → KeepsSearch room pairs store table budget (stopped number store' table' budget')

-- A part of the search that ends by itself ends with "different" or stops; "same" comes only when every pair has been taken.
pub data KeepsGoing (room pairs : ℕ) (store : List Record) (table : List Pair) (budget : ℕ) : Going → Type 0 where
  keeps_on : {store' : List Record} {table' : List Pair} {budget' : ℕ} → KeptBoth room pairs store table budget store' table' budget'
      → KeepsGoing room pairs store table budget (on store' table' budget')
  keeps_ends_different : {word : List ℕ} {left_has : Bool} {store' : List Record} {table' : List Pair} {budget' : ℕ} → KeptBoth room pairs store table budget store' table' budget'
      → KeepsGoing room pairs store table budget (ends (different word left_has store' table' budget'))
  keeps_ends_stopped : {number : ℕ} {store' : List Record} {table' : List Pair} {budget' : ℕ} → KeptBoth room pairs store table budget store' table' budget'
      → KeepsGoing room pairs store table budget (ends (stopped number store' table' budget'))

-- The store grows.
pub tabled_grows : {pairs : ℕ} {store store' : List Record} {table : List Pair} → Tabled pairs store table → Grows store store' → Tabled pairs store' table
tabled_grows t g =
    record {
      inside = λ n l. let h = t.inside n l in (omega (arith, grows_length g), omega (arith, grows_length g));
      ordered = t.ordered;
      origins = t.origins;
      letters = t.letters;
      distinct = t.distinct;
      fits = t.fits;
    }

-- A part of the search that changes nothing, and one part after another.

pub kept_both_refl : {room pairs : ℕ} {store : List Record} {table : List Pair} (budget : ℕ) → Ready room store → Tabled pairs store table
    → KeptBoth room pairs store table budget store table budget
kept_both_refl {table = table} budget ready tabled =
    record { kept = kept_refl ready; extends = extends_refl table; tabled = tabled; spent = le_refl budget }

pub kept_both_trans : {room pairs : ℕ} {a b c : List Record} {s t u : List Pair} {i j k : ℕ}
    → KeptBoth room pairs a s i b t j → KeptBoth room pairs b t j c u k → KeptBoth room pairs a s i c u k
kept_both_trans f g =
    record {
      kept = kept_trans f.kept g.kept;
      extends = extends_trans f.extends g.extends;
      tabled = g.tabled;
      spent = let h = f.spent in let l = g.spent in omega arith;
    }

-- The same over the machine, and back.

abbrev MachineTabled : ℕ → Having → List Pair → Type 0
MachineTabled pairs h table = machine.Tabled store_machine store_sense pairs h table

to_machine : {pairs : ℕ} {h : Having} {table : List Pair} → Tabled pairs h.store table → MachineTabled pairs h table
to_machine t = record { stands = t.inside; ordered = t.ordered; origins = t.origins; letters = t.letters; distinct = t.distinct; fits = t.fits }

of_machine : {pairs : ℕ} {h : Having} {table : List Pair} → MachineTabled pairs h table → Tabled pairs h.store table
of_machine t = record { inside = t.stands; ordered = t.ordered; origins = t.origins; letters = t.letters; distinct = t.distinct; fits = t.fits }

pub tabled_none : (pairs : ℕ) (store : List Record) → Tabled pairs store []
tabled_none pairs store = of_machine (machine.tabled_none store_machine store_sense pairs (having 0 store 0))

module _ {pairs : ℕ} {h : Having} {table : List Pair} where
  kept_of : {k : Having} {table' : List Pair} → machine.KeptBoth store_machine store_sense pairs h table k table'
      → KeptBoth h.room pairs h.store table h.budget k.store table' k.budget
  kept_of {k} f =
      record {
        kept = record { grows = f.grows.store; ready = subst (λ (n : ℕ). Ready n k.store) f.grows.room f.ready };
        extends = f.extends;
        tabled = of_machine f.tabled;
        spent = f.grows.spent;
      }

  going_of : {g : MachineGoing Having Pair} → machine.KeepsGoing store_machine store_sense pairs h table g
      → KeepsGoing h.room pairs h.store table h.budget (told_going g)
  going_of (machine.keeps_on k) = keeps_on (kept_of k)
  going_of (machine.keeps_ends_different k) = keeps_ends_different (kept_of k)
  going_of (machine.keeps_ends_stopped k _) = keeps_ends_stopped (kept_of k)

  search_of : {s : MachineSearch Having Pair} → machine.KeepsSearch store_machine store_sense pairs h table s
      → KeepsSearch h.room pairs h.store table h.budget (told s)
  search_of (machine.keeps_same k) = keeps_same (kept_of k)
  search_of (machine.keeps_different k) = keeps_different (kept_of k)
  search_of (machine.keeps_stopped k _) = keeps_stopped (kept_of k)

-- What each part keeps.
module _ {room pairs : ℕ} where
  -- A reached pair is looked at. It is the opening pair, in an empty table, or comes from a pair of the table.
  pub look_keeps : (x y origin letter : ℕ) (word : List ℕ) {store : List Record} {table : List Pair} (budget : ℕ) → Ready room store → Tabled pairs store table
      → x < length store → y < length store → origin ≤ length table - 1 → IsByte letter
      → KeepsGoing room pairs store table budget (look pairs x y origin letter word store table budget)
  look_keeps x y origin letter word {store} {table} budget ready tabled l m from byte =
      rw (look_is pairs x y origin letter word (having room store budget) table)
      (going_of (machine.look_keeps store_lawful x y origin letter word ready (to_machine tabled) l m from byte))

  -- The pair n by one letter, and by each of these letters.

  pub by_letter_keeps : (n c : ℕ) {store : List Record} {table : List Pair} (budget : ℕ) → Ready room store → Tabled pairs store table → n < length table → IsByte c
      → KeepsGoing room pairs store table budget (by_letter room pairs n c store table budget)
  by_letter_keeps n c {store} {table} budget ready tabled inside byte =
      rw (by_letter_is pairs n c (having room store budget) table) (going_of (machine.by_letter_keeps store_lawful n c byte inside ready (to_machine tabled)))

  pub by_letters_keeps : (n : ℕ) (rest : List ℕ) {store : List Record} {table : List Pair} (budget : ℕ) → Ready room store → Tabled pairs store table
      → n < length table → ((c : ℕ) → Listed rest c → IsByte c)
      → KeepsGoing room pairs store table budget (by_letters room pairs n rest store table budget)
  by_letters_keeps n rest {store} {table} budget ready tabled inside bytes =
      rw (by_letters_is pairs n rest (having room store budget) table) (going_of (machine.by_letters_keeps store_lawful n rest bytes ready (to_machine tabled) inside))

  -- The pairs from number n on, and the search from the opening pair.
  module _ (letters : List ℕ) (bytes : (c : ℕ) → Listed letters c → IsByte c) where
    pub take_pairs_keeps : (turns n : ℕ) {store : List Record} {table : List Pair} (budget : ℕ) → Ready room store → Tabled pairs store table
        → KeepsSearch room pairs store table budget (take_pairs turns room pairs letters n store table budget)
    take_pairs_keeps turns n {store} {table} budget ready tabled =
        rw (take_pairs_is turns pairs letters n (having room store budget) table) (search_of (machine.take_pairs_keeps store_lawful letters bytes turns n ready (to_machine tabled)))

    pub search_keeps : (x y : ℕ) {store : List Record} (budget : ℕ) → Ready room store → x < length store → y < length store
        → KeepsSearch room pairs store [] budget (search room pairs letters x y store budget)
    search_keeps x y {store} budget ready l m =
        rw (search_is pairs letters x y (having room store budget)) (search_of (machine.search_keeps store_lawful letters bytes x y ready l m))
