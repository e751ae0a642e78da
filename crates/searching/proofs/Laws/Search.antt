-- The law of the search, by the law over any machine: where it ends with "same" its table is good and the languages are equal over the letters tried;
-- where it ends with "different" the word is in exactly one of the languages and every word of tried letters before it is in both or in neither.
use Rattle.std.specs.Prelude.{ℕ, ◌<◌, ◌≤◌, Bool, true, false, not, List, ◌≡◌, refl, length}
use Rattle.std.proofs.lemmas.Bool.{false≢true}
use Rattle.std.proofs.Common.{subst}
use Rattle.language.specs.Word.{Word, Over, IsByte, Listed}
use Rattle.language.specs.Language.{Language, EqualOver, Equal}
use Rattle.language.specs.Order.{Before}
use Rattle.language.proofs.Laws.Rising.{Rising}
use Rattle.machine.specs.Laws.Search.{Search as MachineSearch}
use Rattle.machine.specs.Laws.Check.{Inside, GoodTable}
use Rattle.machine.specs.Laws.Keeps as keeps
use Rattle.machine.specs.Laws.Ends.{Marked, Agreed}
use Rattle.machine.specs.Laws.Ends as machine
use Rattle.machine.specs.Laws.Meaning.{frontier_inside, same_good, same_over}
use Rattle.records.specs.declared.record.Record.{Record}
use Rattle.store.specs.Laws.Wall.{Ready, Kept}
use Rattle.store.proofs.Laws.Languages.{language_at}
use Rattle.derivative.proofs.Laws.Steps.{no_place, no_budget}
use Rattle.pairs.specs.declared.pair.Pair.{Pair}
use Rattle.searching.specs.Search.{Search, same, different, stopped, search}
use Rattle.searching.specs.FirstWord.{Alike, OnlyOne, only_left, only_right}
use Rattle.searching.specs.Laws.StoreMachine.{Having, having, store_machine}
use Rattle.searching.proofs.Laws.StoreMachine.{Grown, store_sense, store_lawful}
use Rattle.searching.proofs.Laws.Unfolds.{told, search_is}

-- Why a search stops.
pub data Halts (room pairs : ℕ) (store : List Record) (table : List Pair) (budget : ℕ) : ℕ → Type 0 where
  no_free_place : length store ≡ room → Halts room pairs store table budget 7
  nothing_left : budget ≡ 0 → Halts room pairs store table budget 8
  no_free_pair : length table ≡ pairs → Halts room pairs store table budget 9

-- What the end of a search means, begun in the first store with the opening pair of places x and y. Why a search stops is `Halts`.
pub data Ends (room pairs : ℕ) (letters : List ℕ) (A B : Language) (x y : ℕ) (store₀ : List Record) : Search → Type 0 where
  ends_same : {k : Having} {table : List Pair} → Kept room store₀ k.store → EqualOver (Listed letters) A B
      → Inside store_machine store_sense k table → GoodTable store_machine store_sense letters k table x y → length table ≤ pairs
      → Ends room pairs letters A B x y store₀ (same k.store table k.budget)
  ends_different : {word : Word} {left_has : Bool} {store : List Record} {table : List Pair} {budget : ℕ} → Over (Listed letters) word → OnlyOne A B word left_has
      → ((v : Word) → Over (Listed letters) v → Before v word → Alike A B v)
      → length word ≤ length table
      → Ends room pairs letters A B x y store₀ (different word left_has store table budget)
  ends_stopped : {number : ℕ} {store : List Record} {table : List Pair} {budget : ℕ} → Ends room pairs letters A B x y store₀ (stopped number store table budget)

-- What two marks tell of a word, in the words of the promise.

only_one : {A B : Language} {v : Word} (p : Bool) → Marked A B v p (not p) → OnlyOne A B v p
only_one true m = only_left (m.left.sound refl) (λ h. false≢true (m.right.complete h))
only_one false m = only_right (λ h. false≢true (m.left.complete h)) (m.right.sound refl)

alike : {A B : Language} {v : Word} → Agreed A B v → Alike A B v
alike a =
    let m = a.marked in
    record { to = λ h. m.right.sound (m.left.complete h); from = λ h. m.left.sound (m.right.complete h) }

-- What the machine has at an end, for the store.

pub kept_of : {h k : Having} → Grown h k → Ready k.room k.store → Kept h.room h.store k.store
kept_of {k = k} g ready = record { grows = g.store; ready = subst (λ (n : ℕ). Ready n k.store) g.room ready }

pub halts_of : {h k : Having} → Grown h k → {pairs : ℕ} {table : List Pair} {number : ℕ} → keeps.Halts store_machine store_sense pairs k table number
    → Halts h.room pairs k.store table k.budget number
halts_of g (keeps.machine_stops (no_place e)) = no_free_place (rw (← g.room) e)
halts_of g (keeps.machine_stops (no_budget e)) = nothing_left e
halts_of g (keeps.no_free_pair new e) = no_free_pair e

module _ (room pairs : ℕ) (letters : List ℕ) (bytes : (d : ℕ) → Listed letters d → IsByte d) (A B : Language) (rising : Rising letters)
    {store : List Record} (ready : Ready room store) (x y : ℕ) (x_inside : x < length store) (y_inside : y < length store)
    (x-means : Equal (language_at store x) A) (y-means : Equal (language_at store y) B) (budget : ℕ) where
  ended : {s : MachineSearch Having Pair} → machine.Ends store_machine store_sense pairs letters A B x y (having room store budget) s
      → Ends room pairs letters A B x y store (told s)
  ended (machine.ends_same grows r f fits) = ends_same (kept_of grows r) (same_over store_lawful bytes r f) (frontier_inside f) (same_good f) fits
  ended (machine.ends_different grows r over marked before short fits) =
      ends_different over (only_one _ marked) (λ v o h. alike (before v o h)) short
  ended (machine.ends_stopped grows r) = ends_stopped

  -- The search from the opening pair.
  pub search_law : Ends room pairs letters A B x y store (search room pairs letters x y store budget)
  search_law =
      rw (search_is pairs letters x y (having room store budget))
      (ended (machine.search_law store_lawful pairs letters bytes A B rising ready x y x_inside y_inside x-means y-means))
