-- The promise of `check` has one outcome: two answers with their rooms that both meet it are the same. What the room held before plays no
-- part: rooms of one size are told and written the same.
use Rattle.std.specs.Prelude.{ℕ, ◌*◌, List, ◌≡◌, length, take, drop}
use Rattle.std.proofs.Common.{sym, ◌∙◌, ap, take_at, drop_at}
use Rattle.answers.specs.declared.Checked.{Checked}
use Rattle.answers.proofs.Laws.Checking.{told_apart}
use Rattle.records.specs.declared.record.Record.{Record}
use Rattle.records.specs.Record.{run_of}
use Rattle.records.specs.Laws.Record.{length_run}
use Rattle.store.specs.Room.{laid}
use Rattle.checking.specs.Outcome.{check_outcome}
use Rattle.checking.specs.Promise.{Checks}

pub one_answer : {left right proof list room : List ℕ} {budget : ℕ} {a b : Checked} {r s : List ℕ}
    → Checks left right proof list room budget a r → Checks left right proof list room budget b s → a ≡ b
one_answer {a = a} {b} f g = told_apart a b (f.tells ∙ sym g.tells)

pub one_room : {left right proof list room : List ℕ} {budget : ℕ} {a b : Checked} {r s : List ℕ}
    → Checks left right proof list room budget a r → Checks left right proof list room budget b s → r ≡ s
one_room f g = f.leaves ∙ sym g.leaves

-- Two rooms of one size, whatever they held.

module _ {left right proof list room room' : List ℕ} {budget : ℕ} {a b : Checked} {r s : List ℕ}
    (same : length room ≡ length room') (f : Checks left right proof list room budget a r) (g : Checks left right proof list room' budget b s) where
  abbrev store : List Record
  store = (check_outcome left right proof list (length room) budget).store

  pub told_same : a ≡ b
  told_same = told_apart a b (f.tells ∙ ap (λ (n : ℕ). (check_outcome left right proof list n budget).tells) same ∙ sym g.tells)

  -- The bytes written are the same, and every byte behind them is as lent.
  pub written_same : take (8 * length store) r ≡ take (8 * length store) s
  written_same =
      ap (take (8 * length store)) f.leaves
      ∙ take_at (run_of store) (drop (8 * length store) room) (8 * length store) (length_run store)
      ∙ sym
      (ap (take (8 * length store)) (g.leaves ∙ ap (λ (n : ℕ). laid (check_outcome left right proof list n budget).store room') (sym same))
      ∙ take_at (run_of store) (drop (8 * length store) room') (8 * length store) (length_run store))

  pub rest_as_lent : drop (8 * length store) r ≡ drop (8 * length store) room
  rest_as_lent = ap (drop (8 * length store)) f.leaves ∙ drop_at (run_of store) (drop (8 * length store) room) (8 * length store) (length_run store)
