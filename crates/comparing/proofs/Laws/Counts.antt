-- What a comparison tells: places are the records standing and pairs the pairs placed, never more than their rooms have; visits are never more
-- than the budget; at 7 the places fill the work room, at 8 the visits are the budget, at 9 the pairs fill the pair room. It holds because a
-- call comes to its outcome in one of three ways: refused at once, a full room in opening, or a search.
use Rattle.std.specs.Prelude.{ℕ, ◌/◌, ◌<◌, ◌≤◌, List, [], ◌≡◌, length}
use Rattle.std.proofs.Common.{arith}
use Rattle.std.proofs.Math.Path.{refl}
use Rattle.language.specs.Word.{Bytes, IsByte, Listed}
use Rattle.machine.specs.Laws.Search as machine
use Rattle.machine.specs.Laws.Keeps.{KeptBoth}
use Rattle.machine.specs.Laws.Outcome.{of_search as machine-of-search}
use Rattle.machine.specs.Laws.Outcome as machine-outcome
use Rattle.machine.specs.Laws.Enough.{told_kept, refused_halts}
use Rattle.records.specs.declared.record.Record.{Record}
use Rattle.refusals.specs.Order.{Standing}
use Rattle.refusals.specs.Order.{Good, Refused}
use Rattle.store.specs.Room.{fresh_store}
use Rattle.store.specs.Laws.Wall.{Ready}
use Rattle.store.proofs.Laws.Wall.{Filled}
use Rattle.pairs.specs.declared.pair.Pair.{Pair}
use Rattle.pairs.specs.Tried.{tried}
use Rattle.pairs.specs.Opening.{Opening}
use Rattle.pairs.specs.Laws.Tried.{tried_bytes}
use Rattle.pairs.specs.Laws.Opening.{BothOpened, OpenLaw, both_opened, was_filled, open_law}
use Rattle.searching.specs.Search.{search}
use Rattle.answers.specs.Comparing.{refused_by}
use Rattle.comparing.specs.Compare.{compare_standing, Outcome, told_at, of_search, search_opened, compare_by, compare_outcome}
use Rattle.comparing.proofs.Laws.Unfolds.{searched_is}
use Rattle.comparing.proofs.Laws.Refusals.{Unrefused, unrefused, at_once_number}
use Rattle.searching.proofs.Laws.Search.{Halts, no_free_place, nothing_left, no_free_pair, kept_of, halts_of}
use Rattle.searching.specs.Laws.StoreMachine.{Having, having, store_machine}
use Rattle.searching.proofs.Laws.StoreMachine.{store_sense, store_lawful}

-- How a call comes to its outcome.
pub data Call (left right : List ℕ) (work pairs word budget : ℕ) : Outcome → Type 0 where
  refused_at_once : {number : ℕ} → compare_standing left right work pairs ≡ Refused number
      → Call left right work pairs word budget (told_at (refused_by number) [] [] 0 [])
  full_in_opening : Unrefused left right work pairs → {store : List Record} → Filled (work / 8) fresh_store store
      → Call left right work pairs word budget (told_at (refused_by 7) store [] 0 [])
  searched : Unrefused left right work pairs → {x y : ℕ} {store : List Record} → BothOpened left right (work / 8) x y store
      → Call left right work pairs word budget (of_search word budget (search (work / 8) (pairs / 8) (tried left right) x y store budget))

module _ (left right : List ℕ) (lefts : Bytes left) (rights : Bytes right) (work pairs word budget : ℕ) where
  after_opening : Unrefused left right work pairs → {o : Opening} → OpenLaw left right (work / 8) o
      → Call left right work pairs word budget (search_opened (work / 8) (pairs / 8) word (tried left right) budget o)
  after_opening u (both_opened o) = searched u o
  after_opening u (was_filled f) = full_in_opening u f

  -- How any call comes to its outcome.
  pub call : Call left right work pairs word budget (compare_outcome left right work pairs word budget)
  unfolding compare_outcome
  call = go (compare_standing left right work pairs) refl
    where
      go : (s : Standing) → compare_standing left right work pairs ≡ s → Call left right work pairs word budget (compare_by s left right work pairs word budget)
      go (Refused number) e = refused_at_once e
      go Good e =
          let u = unrefused left right work pairs e in
          after_opening u (open_law left right lefts rights work u.left_good u.right_good u.room_legal)

-- What is told; the rooms' sizes are in bytes.
pub record Counts (work pairs budget : ℕ) (o : Outcome) : Type 0 where
  pub places : o.tells.places ≡ length o.store
  pub placed : o.tells.pairs ≡ length o.table
  pub places_within : o.tells.places ≤ work / 8
  pub pairs_within : o.tells.pairs ≤ pairs / 8
  pub affordable : o.tells.visits ≤ budget
  pub at_7 : o.tells.says ≡ refused_by 7 → o.tells.places ≡ work / 8
  pub at_8 : o.tells.says ≡ refused_by 8 → o.tells.visits ≡ budget
  pub at_9 : o.tells.says ≡ refused_by 9 → o.tells.pairs ≡ pairs / 8

-- A refusal before anything is searched: no pair and no visit is told.
module _ {work pairs budget : ℕ} where
  counted : (number : ℕ) (store : List Record) → length store ≤ work / 8 → (number ≡ 7 → length store ≡ work / 8) → (number ≡ 8 → ⊥) → (number ≡ 9 → ⊥)
      → Counts work pairs budget (told_at (refused_by number) store [] 0 [])
  counted number store stands by-7 not-8 not-9 =
      record {
        places = refl;
        placed = refl;
        places_within = stands;
        pairs_within = omega arith;
        affordable = omega arith;
        at_7 = λ e. by-7 cc;
        at_8 = λ e. absurd (not-8 cc);
        at_9 = λ e. absurd (not-9 cc);
      }

-- What is full where a search stops by 7, 8 or 9.
full_at : {room pairs : ℕ} {store : List Record} {table : List Pair} {left number : ℕ} → Halts room pairs store table left number
    → (number ≡ 7 → length store ≡ room) × (number ≡ 8 → left ≡ 0) × (number ≡ 9 → length table ≡ pairs)
full_at (no_free_place e) = (λ _. e, λ f. absurd (omega arith), λ f. absurd (omega arith))
full_at (nothing_left e) = (λ f. absurd (omega arith), λ _. e, λ f. absurd (omega arith))
full_at (no_free_pair e) = (λ f. absurd (omega arith), λ f. absurd (omega arith), λ _. e)

-- What is told of a search, by what is told over the store as a machine.
module _ (work pairs word budget : ℕ) (letters : List ℕ) (bytes : (c : ℕ) → Listed letters c → IsByte c) (x y : ℕ) {store : List Record}
    (ready : Ready (work / 8) store) (l : x < length store) (m : y < length store) where
  abbrev told : machine-outcome.Outcome Having Pair
  told = machine-of-search word (machine.search store_machine (pairs / 8) letters x y (having (work / 8) store budget))

  kept : KeptBoth store_machine store_sense (pairs / 8) (having (work / 8) store budget) [] told.has told.table
  kept = told_kept store_lawful letters bytes (pairs / 8) word ready x y l m

  halted : (number : ℕ) → told.says ≡ refused_by number → Halts (work / 8) (pairs / 8) told.has.store told.table told.has.budget number
  halted number e = halts_of kept.grows (refused_halts store_lawful letters bytes (pairs / 8) word ready x y l m number e)

  search_counts : Counts work pairs budget (of_search word budget (search (work / 8) (pairs / 8) letters x y store budget))
  search_counts =
      rw (searched_is (pairs / 8) word letters x y (having (work / 8) store budget) budget)
      (record {
        places = refl;
        placed = refl;
        places_within = (kept_of kept.grows kept.ready).ready.within;
        pairs_within = kept.tabled.fits;
        affordable = omega arith;
        at_7 = λ e. (full_at (halted 7 e)).0 refl;
        at_8 = λ e. let none = (full_at (halted 8 e)).1 refl in omega arith;
        at_9 = λ e. (full_at (halted 9 e)).2 refl;
      })

call_counts : {left right : List ℕ} {work pairs word budget : ℕ} {o : Outcome} → Call left right work pairs word budget o → Counts work pairs budget o
call_counts {left} {right} {work} {pairs} (refused_at_once {number} e) =
    let n = at_once_number left right work pairs number e in
    counted number [] (omega arith) (λ f. absurd (omega arith)) (λ f. omega arith) (λ f. omega arith)
call_counts (full_in_opening u {store} f) = counted 7 store f.kept.ready.within (λ _. f.fills) (λ g. omega arith) (λ g. omega arith)
call_counts {left} {right} {work} {pairs} {word} {budget} (searched u {x} {y} o) =
    search_counts work pairs word budget (tried left right) (tried_bytes left right) x y o.kept.ready o.left_inside o.right_inside

-- What any call tells.
pub compare_counts : (left right : List ℕ) → Bytes left → Bytes right → (work pairs word budget : ℕ)
    → Counts work pairs budget (compare_outcome left right work pairs word budget)
compare_counts left right lefts rights work pairs word budget = call_counts (call left right lefts rights work pairs word budget)
