-- The law of the checker over a list, by the law over any machine. Accepted: the table is good in the store that the checker leaves. Rejected: the list fails
-- there, at the point told, and at none before it. Cut off: room or budget gave out. At every end the visits along the way and the budget left add
-- up to the budget given, and a pass that came to its end does so again wherever room and budget are enough.
use Rattle.std.specs.Prelude.{ℕ, ◌+◌, ◌≤◌, List, ◌≡◌, refl, length}
use Rattle.std.proofs.Common.{arith, ◌∙◌}
use Rattle.answers.specs.Checking.{Point}
use Rattle.language.specs.Word.{IsByte, Listed}
use Rattle.language.proofs.Laws.Rising.{Rising}
use Rattle.machine.specs.Laws.Check as machine
use Rattle.machine.specs.Laws.Pass as pass
use Rattle.machine.specs.Laws.PassAgain.{checking_has, AlsoChecking, also_accepted, also_rejected, check_again}
use Rattle.records.specs.declared.record.Record.{Record}
use Rattle.store.specs.Laws.Wall.{Ready}
use Rattle.derivative.proofs.Laws.Steps.{Why}
use Rattle.pairs.specs.declared.pair.Pair.{Pair}
use Rattle.searching.specs.Laws.StoreMachine.{Having, having, store_machine}
use Rattle.searching.proofs.Laws.StoreMachine.{store_sense, store_lawful, Beside, store_redoing}
use Rattle.checking.specs.Check.{Checking, accepted, rejected, cut_off, check_list}
use Rattle.checking.specs.Along.{visits_of_list}
use Rattle.checking.specs.Point.{GoodTable, FailsAt}
use Rattle.checking.proofs.Laws.Turns.{checking_store, checking_left}
use Rattle.checking.proofs.Laws.Unfolds.{told, list_is}
use Rattle.checking.proofs.Laws.Point.{good_of, fails_of}
use Rattle.checking.proofs.Laws.Along.{Ran, Inside, list_ran}

-- The law of the checker over a list, for the opening pair of places x and y.
pub data CheckLaw (room : ℕ) (letters : List ℕ) (pairs : List Pair) (x y : ℕ) (store : List Record) (budget cost : ℕ) : Checking → Type 0 where
  was_accepted : {store' : List Record} {left : ℕ} → Ran room store budget cost store' left
      → GoodTable letters store' pairs x y
      → ((room' rest : ℕ) → length store' ≤ room' → check_list room' letters pairs x y store (cost + rest) ≡ accepted store' rest)
      → CheckLaw room letters pairs x y store budget cost (accepted store' left)
  was_rejected : {point : Point} {store' : List Record} {left : ℕ} → Ran room store budget cost store' left
      → FailsAt letters store' pairs x y point
      → ((room' rest : ℕ) → length store' ≤ room' → check_list room' letters pairs x y store (cost + rest) ≡ rejected point store' rest)
      → CheckLaw room letters pairs x y store budget cost (rejected point store' left)
  was_cut_off : {number : ℕ} {store' : List Record} {left : ℕ} → Ran room store budget cost store' left
      → Why room store' left number
      → CheckLaw room letters pairs x y store budget cost (cut_off number store' left)

module _ (room : ℕ) {letters : List ℕ} (rising : Rising letters) (bytes : (c : ℕ) → Listed letters c → IsByte c) (pairs : List Pair) (x y : ℕ)
    (store : List Record) (budget : ℕ) (ready : Ready room store) (inside : Inside store pairs) where
  abbrev over : Having → machine.Checking Having
  over h = machine.check_list store_machine letters pairs x y h

  -- The pass over the machine, done again in a room that holds this end, with its cost and some rest.
  module _ {c : machine.Checking Having} (found : over (having room store budget) ≡ c) (cost : ℕ) (paid : budget ≡ cost + (checking_has c).budget)
      (room' rest : ℕ) (holds : length (checking_has c).store ≤ room') where
    also : AlsoChecking (Beside (checking_has c) rest) c (over (having room' store (cost + rest)))
    also =
        let pays : cost + rest + (checking_has c).budget ≡ budget + rest = omega arith in
        rw found at
        (check_again store_lawful (store_redoing (checking_has c) rest) bytes pairs x y ready inside
        (record { store = refl; budget = pays; fits = holds })
        (rw found (store_lawful.grows_refl (checking_has c))))

  -- By the end that the pass over the machine comes to.
  ended : {cost : ℕ} {c : machine.Checking Having} → over (having room store budget) ≡ c → pass.CheckLaw store_machine store_sense letters pairs x y (having room store budget) c
      → Ran room store budget cost (checking_store (told c)) (checking_left (told c)) → CheckLaw room letters pairs x y store budget cost (told c)
  ended {cost} found (pass.was_accepted {k} grows r good) ran =
      was_accepted ran (good_of good)
      (λ room' rest holds. list_is room' pairs letters x y store (cost + rest) ∙ go rest (also found cost ran.paid room' rest holds))
    where
      go : (rest : ℕ) {c' : machine.Checking Having} → AlsoChecking (Beside k rest) (machine.accepted k) c' → told c' ≡ accepted k.store rest
      go rest (also_accepted {k' = k'} b) = let left : k'.budget ≡ rest = omega (arith, b.budget) in λ i. accepted (b.store i) (left i)
  ended {cost} found (pass.was_rejected {point} {k} grows r fails) ran =
      was_rejected ran (fails_of fails)
      (λ room' rest holds. list_is room' pairs letters x y store (cost + rest) ∙ go rest (also found cost ran.paid room' rest holds))
    where
      go : (rest : ℕ) {c' : machine.Checking Having} → AlsoChecking (Beside k rest) (machine.rejected point k) c' → told c' ≡ rejected point k.store rest
      go rest (also_rejected {k' = k'} b) = let left : k'.budget ≡ rest = omega (arith, b.budget) in λ i. rejected point (b.store i) (left i)
  ended found (pass.was_cut_off {number} {k} grows r why) ran = was_cut_off {number = number} ran (rw (← grows.room) why)

  pub check_law : CheckLaw room letters pairs x y store budget (visits_of_list room letters pairs x y store budget) (check_list room letters pairs x y store budget)
  check_law =
      rw (list_is room pairs letters x y store budget)
      (ended refl (pass.check_law store_lawful rising bytes pairs x y ready inside)
      (rw (← list_is room pairs letters x y store budget) (list_ran room pairs letters bytes x y store budget ready inside)))
