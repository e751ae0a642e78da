-- What the code answers of the checker's parts, with the store that then stands and the budget left. Named by inner contracts alone.
use Rattle.std.specs.Prelude.{ℕ, ◌≤◌, true, false, List, ◌≡◌}
use Rattle.std.specs.Bool.{beq}
use Rattle.std.specs.declared.result.Result.{Result}
use Rattle.std.specs.declared.result.Result.TheVariants.{Ok, Err}
use Rattle.answers.specs.Checking.{at_opening, at_marks, at_letter, Verdict, is_accepted, is_rejected, refused_by}
use Rattle.refusals.specs.Number.{number}
use Rattle.records.specs.declared.record.Record.{Record}
use Rattle.records.specs.Record.{child}
use Rattle.cards.specs.Mark.{marked}
use Rattle.store.specs.declared.work.Work.{Work}
use Rattle.store.specs.Room.{laid}
use Rattle.store.specs.Work.{store_of, space_of}
use Rattle.store.specs.Laws.Wall.{Kept}
use Rattle.pairs.specs.declared.pair.Pair.{Pair}
use Rattle.checking.specs.declared.failing.Failure.{Failure}
use Rattle.checking.specs.declared.failing.Failure.TheVariants.{OpeningMissing, MarksDiffer, NotListed, Refused}
use Rattle.checking.specs.Check.{Checking, accepted, rejected, cut_off, Passing, passes, ends, check_letters}
use Rattle.checking.specs.Outcome.{Outcome, of_checking}

-- The pair numbered n: its marks, then each letter.
abbrev pub check_pair : ℕ → List ℕ → List Pair → ℕ → Pair → List Record → ℕ → Passing
check_pair room letters pairs n p store budget =
    elim (beq (marked (child store p.left)) (marked (child store p.right))) [
      | false ↦ ends (rejected (at_marks n) store budget)
      | true ↦ check_letters room pairs n p.left p.right letters store budget
    ]

-- What an answer tells, with the store that then stands and the budget left.

abbrev pub failure_told : Failure → List Record → ℕ → Checking
failure_told OpeningMissing store budget = rejected at_opening store budget
failure_told (MarksDiffer n) store budget = rejected (at_marks n) store budget
failure_told (NotListed n letter) store budget = rejected (at_letter n letter) store budget
failure_told (Refused refusal) store budget = cut_off (number refusal) store budget

abbrev pub passing_told : Result (Unit {0}) Failure → List Record → ℕ → Passing
passing_told (Ok _) store budget = passes store budget
passing_told (Err failure) store budget = ends (failure_told failure store budget)

abbrev pub checking_told : Result (Unit {0}) Failure → List Record → ℕ → Checking
checking_told (Ok _) store budget = accepted store budget
checking_told (Err failure) store budget = failure_told failure store budget

-- The verdict alone.

abbrev pub failure_verdict : Failure → Verdict
failure_verdict OpeningMissing = is_rejected at_opening
failure_verdict (MarksDiffer n) = is_rejected (at_marks n)
failure_verdict (NotListed n letter) = is_rejected (at_letter n letter)
failure_verdict (Refused refusal) = refused_by (number refusal)

abbrev pub verdict_told : Result (Unit {0}) Failure → Verdict
verdict_told (Ok _) = is_accepted
verdict_told (Err failure) = failure_verdict failure

-- The store that stands has grown from the first and is good, every byte of the room behind it is as it was, and budget was only spent.
pub record Leaves (w w' : Work) : Type 0 where
  pub room_is : w'.room.now ≡ laid (store_of w') w.room.now
  pub kept : Kept (space_of w) (store_of w) (store_of w')
  pub spent : w'.budget ≤ w.budget

-- A part of the checker comes to what the answer tells.
pub record Goes (w : Work) (p : Passing) (answer : Result (Unit {0}) Failure) (w' : Work) : Type 0 where
  pub is : p ≡ passing_told answer (store_of w') w'.budget
  pub leaves : Leaves w w'

pub record Ends (w : Work) (c : Checking) (answer : Result (Unit {0}) Failure) (w' : Work) : Type 0 where
  pub is : c ≡ checking_told answer (store_of w') w'.budget
  pub leaves : Leaves w w'

-- The outcome is that of what the answer tells: the visits are what was spent of the budget.
pub record Tells (w : Work) (o : Outcome) (answer : Result (Unit {0}) Failure) (w' : Work) : Type 0 where
  pub is : o ≡ of_checking w.budget (checking_told answer (store_of w') w'.budget)
  pub leaves : Leaves w w'
