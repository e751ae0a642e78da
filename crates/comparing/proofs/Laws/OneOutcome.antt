-- The promise of `compare` has one outcome: two answers with their rooms that both meet it are the same. What the rooms held before plays
-- no part: rooms of the same sizes are told and written the same.
use Rattle.std.specs.Prelude.{ℕ, ◌*◌, List, ◌++◌, ◌≡◌, refl, length, take, drop}
use Rattle.std.proofs.Common.{sym, ◌∙◌, ap, take_at, drop_at}
use Rattle.answers.specs.declared.Comparison.{Comparison}
use Rattle.answers.proofs.Laws.Comparing.{told_apart}
use Rattle.records.specs.declared.record.Record.{Record}
use Rattle.records.specs.Record.{run_of}
use Rattle.records.specs.Laws.Record.{length_run}
use Rattle.store.specs.Room.{laid}
use Rattle.pairs.specs.declared.pair.Pair.{Pair}
use Rattle.pairs.specs.Pair.{run_of_pairs}
use Rattle.pairs.specs.Room.{laid_pairs}
use Rattle.pairs.specs.Laws.Pair.{length_pair_run}
use Rattle.comparing.specs.Compare.{Outcome, compare_outcome}
use Rattle.comparing.specs.Promise.{Compares}

-- Two answers with their rooms, for the same cards, rooms and budget.

module _ {left right work pairs word : List ℕ} {budget : ℕ} {a b : Comparison} {work₁ work₂ pairs₁ pairs₂ word₁ word₂ : List ℕ}
    (f : Compares left right work pairs word budget a work₁ pairs₁ word₁) (g : Compares left right work pairs word budget b work₂ pairs₂ word₂) where
  pub one_answer : a ≡ b
  one_answer = told_apart a b (f.leaves.tells ∙ sym g.leaves.tells)

  pub one_work_room : work₁ ≡ work₂
  one_work_room = f.leaves.work_room ∙ sym g.leaves.work_room

  pub one_pair_room : pairs₁ ≡ pairs₂
  one_pair_room = f.leaves.pair_room ∙ sym g.leaves.pair_room

  pub one_word_room : word₁ ≡ word₂
  one_word_room = f.leaves.word_room ∙ sym g.leaves.word_room

-- Rooms in which bytes are written, every other byte as lent.

module _ (bytes : List ℕ) (n : ℕ) (long : length bytes ≡ n) where
  -- The bytes behind those written are as lent.
  bytes_behind : (lent : List ℕ) {room : List ℕ} → room ≡ bytes ++ drop n lent → drop n room ≡ drop n lent
  bytes_behind lent is = ap (drop n) is ∙ drop_at bytes (drop n lent) n long

  -- Whatever two rooms held, the bytes written are the same.
  bytes_written : (lent lent' : List ℕ) {room room' : List ℕ} → room ≡ bytes ++ drop n lent → room' ≡ bytes ++ drop n lent' → take n room ≡ take n room'
  bytes_written lent lent' is is' =
      ap (take n) is ∙ take_at bytes (drop n lent) n long ∙ sym (ap (take n) is' ∙ take_at bytes (drop n lent') n long)

-- Every byte behind those written is as lent.

module _ {left right work pairs word : List ℕ} {budget : ℕ} {a : Comparison} {work₁ pairs₁ word₁ : List ℕ}
    (f : Compares left right work pairs word budget a work₁ pairs₁ word₁) where
  abbrev left_by : Outcome
  left_by = compare_outcome left right (length work) (length pairs) (length word) budget

  pub work_rest_as_lent : drop (8 * length left_by.store) work₁ ≡ drop (8 * length left_by.store) work
  work_rest_as_lent = bytes_behind (run_of left_by.store) (8 * length left_by.store) (length_run left_by.store) work f.leaves.work_room

  pub pairs_rest_as_lent : drop (8 * length left_by.table) pairs₁ ≡ drop (8 * length left_by.table) pairs
  pairs_rest_as_lent =
      bytes_behind (run_of_pairs left_by.table) (8 * length left_by.table) (length_pair_run left_by.table) pairs f.leaves.pair_room

  pub word_rest_as_lent : drop (length left_by.written) word₁ ≡ drop (length left_by.written) word
  word_rest_as_lent = bytes_behind left_by.written (length left_by.written) refl word f.leaves.word_room

-- Two calls on rooms of the same sizes, whatever they held.

module _ {left right work work' pairs pairs' word word' : List ℕ} {budget : ℕ} {a b : Comparison} {work₁ work₂ pairs₁ pairs₂ word₁ word₂ : List ℕ}
    (same-work : length work ≡ length work') (same-pairs : length pairs ≡ length pairs') (same_word : length word ≡ length word')
    (f : Compares left right work pairs word budget a work₁ pairs₁ word₁) (g : Compares left right work' pairs' word' budget b work₂ pairs₂ word₂) where
  abbrev outcome : Outcome
  outcome = compare_outcome left right (length work) (length pairs) (length word) budget

  abbrev outcome' : Outcome
  outcome' = compare_outcome left right (length work') (length pairs') (length word') budget

  same_outcome : outcome ≡ outcome'
  same_outcome = rw (same-work, same-pairs, same_word) refl

  abbrev store : List Record
  store = outcome.store

  abbrev table : List Pair
  table = outcome.table

  abbrev written : List ℕ
  written = outcome.written

  pub told_same : a ≡ b
  told_same = told_apart a b (f.leaves.tells ∙ ap (λ (o : Outcome). o.tells) same_outcome ∙ sym g.leaves.tells)

  -- The bytes written are the same.
  pub work_written_same : take (8 * length store) work₁ ≡ take (8 * length store) work₂
  work_written_same =
      bytes_written (run_of store) (8 * length store) (length_run store) work work' f.leaves.work_room
      (g.leaves.work_room ∙ ap (λ (o : Outcome). laid o.store work') (sym same_outcome))

  pub pairs_written_same : take (8 * length table) pairs₁ ≡ take (8 * length table) pairs₂
  pairs_written_same =
      bytes_written (run_of_pairs table) (8 * length table) (length_pair_run table) pairs pairs' f.leaves.pair_room
      (g.leaves.pair_room ∙ ap (λ (o : Outcome). laid_pairs o.table pairs') (sym same_outcome))

  pub word_written_same : take (length written) word₁ ≡ take (length written) word₂
  word_written_same =
      bytes_written written (length written) refl word word' f.leaves.word_room
      (g.leaves.word_room ∙ ap (λ (o : Outcome). o.written ++ drop (length o.written) word') (sym same_outcome))
