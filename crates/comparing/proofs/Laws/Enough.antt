-- Just enough: "same" or "different", telling n places, k pairs and v visits with a word of m bytes, is given, with the same numbers, store,
-- table and word, exactly in legal rooms of at least n places, k pairs and m bytes with a budget of at least v. It holds because a search can
-- be done again in any rooms that hold what it placed, at its own cost; and no call tells more than its rooms and its budget give.
use Rattle.std.specs.Prelude.{ℕ, ◌+◌, ◌-◌, ◌/◌, ◌≤◌, Bool, true, false, List, ◌≡◌, refl, length}
use Rattle.std.proofs.Common.{arith, sym, ◌∙◌, subst}
use Rattle.std.proofs.lemmas.Bool.{false≢true}
use Rattle.std.proofs.Math.Path.{ap}
use Rattle.language.specs.Word.{Bytes}
use Rattle.machine.specs.Laws.Search as machine
use Rattle.machine.specs.Laws.Outcome.{of_search as machine-of-search, written_fits, short_then_written}
use Rattle.machine.specs.Laws.Outcome as machine-outcome
use Rattle.machine.specs.Laws.Enough.{final_says, AlsoOutcome, also_told, just_enough as just-enough-told, told_kept}
use Rattle.records.specs.declared.record.Record.{Record}
use Rattle.refusals.specs.Order.{Standing}
use Rattle.refusals.specs.Order.{Good, Refused}
use Rattle.records.specs.Record.{records}
use Rattle.store.specs.Room.{wrong_room}
use Rattle.store.proofs.Laws.Wall.{grows_length}
use Rattle.pairs.specs.declared.pair.Pair.{Pair}
use Rattle.pairs.specs.Room.{wrong_pair_room}
use Rattle.pairs.specs.Tried.{tried}
use Rattle.pairs.specs.Laws.Tried.{tried_bytes}
use Rattle.pairs.specs.Opening.{Opening, opened, unopened, open_both}
use Rattle.pairs.specs.Laws.Opening.{BothOpened}
use Rattle.searching.specs.Search.{search}
use Rattle.searching.specs.Laws.StoreMachine.{Having, having, store_machine}
use Rattle.searching.proofs.Laws.StoreMachine.{Grown, store_lawful, Beside, store_redoing}
use Rattle.answers.specs.Comparing.{Verdict, are_same, are_different, word_room_short}
use Rattle.comparing.specs.Compare.{compare_standing, Outcome, told_at, of_search, search_opened, compare_by, compare_outcome}
use Rattle.comparing.proofs.Laws.Refusals.{Unrefused, no_refusal}
use Rattle.comparing.proofs.Laws.Unfolds.{compared, searched_is}
use Rattle.comparing.proofs.Laws.Counts.{Call, refused_at_once, full_in_opening, searched, call, compare_counts}

-- A final answer: same or different.
pub data Final : Verdict → Type 0 where
  final_same : Final are_same
  final_different : {length : ℕ} {left_has : Bool} → Final (are_different length left_has)

is_final : {v : Verdict} → Final v → final_says v ≡ true
is_final final_same = refl
is_final final_different = refl

not_final : {A : Type 0} {v : Verdict} → Final v → final_says v ≡ false → A
not_final f e = absurd (false≢true (sym e ∙ is_final f))

-- The same search, in other rooms and with another budget.
module _ {left right : List ℕ} {work pairs : ℕ} (u : Unrefused left right work pairs) {x y : ℕ} {store : List Record} (o : BothOpened left right (work / 8) x y store)
    (work' pairs' word' budget' : ℕ) (room_legal : wrong_room work' ≡ false) (pair_room_legal : wrong_pair_room pairs' ≡ false) where
  -- In legal rooms that hold the opened store the call comes to the search from the same opening pair.
  comes_to_search : length store ≤ work' / 8
      → compare_outcome left right work' pairs' word' budget'
      ≡ of_search word' budget' (search (work' / 8) (pairs' / 8) (tried left right) x y store budget')
  unfolding compare_outcome
  comes_to_search n =
      ap (λ (s : Standing). compare_by s left right work' pairs' word' budget')
      (no_refusal left right work' pairs' (record { left_good = u.left_good; right_good = u.right_good; room_legal = room_legal; pair_room_legal = pair_room_legal }))
      ∙ ap (search_opened (work' / 8) (pairs' / 8) word' (tried left right) budget') (o.enough (work' / 8) n)

  -- What was told, over the store as a machine.
  module _ (word budget : ℕ) where
    abbrev first : machine-outcome.Outcome Having Pair
    first = machine-of-search word (machine.search store_machine (pairs / 8) (tried left right) x y (having (work / 8) store budget))

    grown : Grown (having (work / 8) store budget) first.has
    grown = (told_kept store_lawful (tried left right) (tried_bytes left right) (pairs / 8) word o.kept.ready x y o.left_inside o.right_inside).grows

    -- What stands beside it tells the same, with the visits of its own budget.
    told_beside : (rest : ℕ) → budget' + first.has.budget ≡ budget + rest → first.has.budget ≤ budget
        → {o o' : machine-outcome.Outcome Having Pair} → o.has.budget ≡ first.has.budget → AlsoOutcome (Beside first.has rest) o o' → compared budget' o' ≡ compared budget o
    told_beside rest pays spent e (also_told {says} {k} {k'} {table} {written} b) =
        let visits : budget' - k'.budget ≡ budget - k.budget = omega (arith, b.budget) in
        λ i. told_at says (b.store i) table (visits i) written

    search_enough : Final first.says → length first.has.store ≤ work' / 8 → length first.table ≤ pairs' / 8 → length first.written ≤ word'
        → budget - first.has.budget ≤ budget' → compare_outcome left right work' pairs' word' budget' ≡ compared budget first
    search_enough f places table written visits =
        let letters = tried left right in
        let bytes = tried_bytes left right in
        let spent : first.has.budget ≤ budget = grown.spent in
        let longer = grows_length grown.store in
        let rest = budget' - (budget - first.has.budget) in
        let pays : budget' + first.has.budget ≡ budget + rest = omega arith in
        comes_to_search (omega arith)
        ∙ searched_is (pairs' / 8) word' letters x y (having (work' / 8) store budget') budget'
        ∙ told_beside rest pays spent refl
        (just-enough-told store_lawful letters bytes (pairs / 8) word o.kept.ready x y o.left_inside o.right_inside (store_redoing first.has rest)
        (record { store = refl; budget = pays; fits = places })
        (pairs' / 8)
        word'
        (is_final f)
        table
        written)

-- A call that comes to a final answer comes to it again.
call_enough : {left right : List ℕ} {work pairs word budget : ℕ} {o : Outcome} → Call left right work pairs word budget o → Final o.tells.says
    → (work' pairs' word' budget' : ℕ) → wrong_room work' ≡ false → wrong_pair_room pairs' ≡ false
    → o.tells.places ≤ work' / 8 → o.tells.pairs ≤ pairs' / 8 → length o.written ≤ word' → o.tells.visits ≤ budget'
    → compare_outcome left right work' pairs' word' budget' ≡ o
call_enough (refused_at_once e) f work' pairs' word' budget' a b n m l p = not_final f refl
call_enough (full_in_opening u h) f work' pairs' word' budget' a b n m l p = not_final f refl
call_enough {left} {right} {work} {pairs} {word} {budget} (searched u {x} {y} {store} o) f work' pairs' word' budget' a b n m l p =
    go (searched_is (pairs / 8) word (tried left right) x y (having (work / 8) store budget) budget) f n m l p
  where
    go : {c : Outcome} → c ≡ compared budget (first u o work' pairs' word' budget' a b word budget) → Final c.tells.says → c.tells.places ≤ work' / 8 → c.tells.pairs ≤ pairs' / 8
        → length c.written ≤ word' → c.tells.visits ≤ budget' → compare_outcome left right work' pairs' word' budget' ≡ c
    go e = rw e (search_enough u o work' pairs' word' budget' a b word budget)

-- A final answer came in legal rooms, with a word that fits the word room.
call_within : {left right : List ℕ} {work pairs word budget : ℕ} {o : Outcome} → Call left right work pairs word budget o → Final o.tells.says
    → (wrong_room work ≡ false) × (wrong_pair_room pairs ≡ false) × (length o.written ≤ word)
call_within (refused_at_once e) f = not_final f refl
call_within (full_in_opening u h) f = not_final f refl
call_within {left} {right} {work} {pairs} {word} {budget} (searched u {x} {y} {store} o) f =
    let h = having (work / 8) store budget in (
      u.room_legal,
      u.pair_room_legal,
      rw (searched_is (pairs / 8) word (tried left right) x y h budget) (written_fits word (machine.search store_machine (pairs / 8) (tried left right) x y h)),
    )

module _ (left right : List ℕ) (lefts : Bytes left) (rights : Bytes right) (work pairs word budget : ℕ) where
  -- In legal rooms that hold what is told, with a budget that pays it, the outcome is the same ..
  pub just_enough : Final (compare_outcome left right work pairs word budget).tells.says
      → (work' pairs' word' budget' : ℕ) → wrong_room work' ≡ false → wrong_pair_room pairs' ≡ false
      → (compare_outcome left right work pairs word budget).tells.places ≤ work' / 8
      → (compare_outcome left right work pairs word budget).tells.pairs ≤ pairs' / 8
      → length (compare_outcome left right work pairs word budget).written ≤ word'
      → (compare_outcome left right work pairs word budget).tells.visits ≤ budget'
      → compare_outcome left right work' pairs' word' budget' ≡ compare_outcome left right work pairs word budget
  just_enough f = call_enough (call left right lefts rights work pairs word budget) f

  -- .. and in no other.
  pub no_less : Final (compare_outcome left right work pairs word budget).tells.says → (work' pairs' word' budget' : ℕ)
      → compare_outcome left right work' pairs' word' budget' ≡ compare_outcome left right work pairs word budget
      → (wrong_room work' ≡ false) × (wrong_pair_room pairs' ≡ false)
      × ((compare_outcome left right work pairs word budget).tells.places ≤ work' / 8)
      × ((compare_outcome left right work pairs word budget).tells.pairs ≤ pairs' / 8)
      × (length (compare_outcome left right work pairs word budget).written ≤ word')
      × ((compare_outcome left right work pairs word budget).tells.visits ≤ budget')
  no_less f work' pairs' word' budget' e =
      let c = compare_counts left right lefts rights work' pairs' word' budget' in
      let w = call_within (call left right lefts rights work' pairs' word' budget') (subst (λ (o : Outcome). Final o.tells.says) (sym e) f) in (
        w.0,
        w.1,
        subst (λ (o : Outcome). o.tells.places ≤ work' / 8) e c.places_within,
        subst (λ (o : Outcome). o.tells.pairs ≤ pairs' / 8) e c.pairs_within,
        subst (λ (o : Outcome). length o.written ≤ word') e w.2,
        subst (λ (o : Outcome). o.tells.visits ≤ budget') e c.affordable,
      )

-- The second outcome is "different" by a word of n bytes that it writes, with the first's store, table and visits.
pub record WordWritten (n : ℕ) (o o' : Outcome) : Type 0 where
  pub word : List ℕ
  pub left_has : Bool
  pub long : length word ≡ n
  pub is : o' ≡ told_at (are_different n left_has) o.store o.table o.tells.visits word

module _ (left right : List ℕ) (work pairs word budget n : ℕ) (word' : ℕ) (enough : n ≤ word') where
  -- An outcome, of the word room's size: where the room is short of n bytes, one that is long enough gets the word.
  abbrev Written : (ℕ → Outcome) → Type 0
  Written o = (o word).tells.says ≡ word_room_short 10 n → WordWritten n (o word) (o word')

  search_then : (x y : ℕ) (h : Having) → Written (λ room. of_search room budget (search h.room (pairs / 8) (tried left right) x y h.store h.budget))
  search_then x y h = rw (searched_is (pairs / 8) word (tried left right) x y h budget, searched_is (pairs / 8) word' (tried left right) x y h budget) (λ e. of_machine (short_then_written word word' n (machine.search store_machine (pairs / 8) (tried left right) x y h) e enough))
    where
      of_machine : {o o' : machine-outcome.Outcome Having Pair} → machine-outcome.WordWritten n o o' → WordWritten n (compared budget o) (compared budget o')
      of_machine w = record { word = w.word; left_has = w.left_has; long = w.long; is = ap (compared budget) w.is }

  opened_then : (o : Opening) → Written (λ room. search_opened (work / 8) (pairs / 8) room (tried left right) budget o)
  opened_then (opened x y store) e = search_then x y (having (work / 8) store budget) e
  opened_then (unopened store) e = let z : ◌≡◌ {A = ℕ} 0 1 = cc in absurd (omega arith)

  standing_then : (s : Standing) → Written (λ room. compare_by s left right work pairs room budget)
  standing_then (Refused number) e = let z : ◌≡◌ {A = ℕ} 0 1 = cc in absurd (omega arith)
  standing_then Good e = opened_then (open_both (work / 8) (records left) (records right)) e

  -- Where only the word room is short, a word room of the length wanted gets the word, and all else is the same: number 10 is the word room's alone.
  pub short_then_different : (compare_outcome left right work pairs word budget).tells.says ≡ word_room_short 10 n
      → WordWritten n (compare_outcome left right work pairs word budget) (compare_outcome left right work pairs word' budget)
  unfolding compare_outcome
  short_then_different e = standing_then (compare_standing left right work pairs) e
