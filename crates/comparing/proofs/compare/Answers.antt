-- `compare` comes to its outcome: refused at once it tells that; else it opens the two cards and searches as the definition does, and what is so
-- told is true.
use Rattle.std.proofs.Common.{rules, ℕ, List, ◌≡◌, ◌<◌, ◌∙◌, get_or, length, ap, sym}
use Rattle.std.specs.declared.result.Result.{Result}
use Rattle.std.specs.declared.result.Result.TheVariants.{Ok}
use Rattle.language.proofs.Laws.Words.{bytes_all}
use Rattle.refusals.specs.declared.refusal.Refusal.{Refusal}
use Rattle.refusals.specs.Order.{Standing}
use Rattle.refusals.specs.Told.{standing_told}
use Rattle.records.specs.Record.{records}
use Rattle.pairs.specs.Laws.LegalRoom.{legal_pair_room}
use Rattle.pairs.specs.Laws.OpeningWork.{opens_fresh}
use Rattle.comparing.specs.Compare.{compare_standing}
use Rattle.comparing.proofs.Laws.Refusals.{Unrefused, unrefused}
use Rattle.comparing.proofs.Laws.Calling.{Lent, refused_at_once, told_full, told_compared}
use Rattle.comparing.proofs.compare.Goals as goal

-- What is known once the refusals were asked.
lent : {left right work pairs word : List ℕ} {budget : ℕ} {found : Standing} → ((i : ℕ) → get_or left i 0 < 256) → ((i : ℕ) → get_or right i 0 < 256)
    → ((i : ℕ) → get_or work i 0 < 256) → ((i : ℕ) → get_or pairs i 0 < 256) → found ≡ compare_standing left right (length work) (length pairs)
    → Lent left right work pairs word budget found
lent {left} {right} {work} {pairs} a b d e f =
    record { lefts = bytes_all left a; rights = bytes_all right b; works = bytes_all work d; pair_bytes = bytes_all pairs e; stands = f }

-- No refusal was due.
good : {left right : List ℕ} {work pairs : ℕ} {answer : Result (Unit {0}) Refusal} {done : Unit {0}}
    → standing_told answer ≡ compare_standing left right work pairs → answer ≡ Ok done → Unrefused left right work pairs
good {left} {right} {work} {pairs} e f = unrefused left right work pairs (sym e ∙ ap standing_told f)

pub returns-in-Err : goal.returns-in-Err
returns-in-Err c =
    rw c.number.ensures
    (refused_at_once
    (lent {word = c.args.word.now} {budget = c.args.budget} (search rules) (search rules) (search rules) (search rules) c.standing.ensures)
    (ap standing_told c.in-Err.is))

pub begin-working-requires : goal.begin-working-requires
begin-working-requires c = (good c.standing.ensures c.in_default.is).room_legal

pub empty-table-requires : goal.empty-table-requires
empty-table-requires c = (legal_pair_room _ (good c.standing.ensures c.in_default.is).pair_room_legal).not_large

pub open_in-requires : goal.open_in-requires
open_in-requires c =
    let u = good c.standing.ensures c.in_default.is in
    record { left_good = u.left_good; right_good = u.right_good }

pub returns-in-Ok : goal.returns-in-Ok
returns-in-Ok c =
    told_compared
    (lent {word = c.args.word.now} {budget = c.args.budget} (search rules) (search rules) (search rules) (search rules) c.standing.ensures)
    (ap standing_told c.in_default.is)
    c.begin-working.ensures.room_after
    (opens_fresh c.begin-working.ensures.begun (records c.args.left.now) (records c.args.right.now) c.open_in.ensures.opens)
    c.in-Ok.is
    c.letters_tried-letters.ensures
    c.begin-working.ensures.budget
    c.empty-table.result
    c.empty-table.ensures.room_as_lent
    c.compare_opened.ensures.leaves
    (search rules)
    (search rules)

pub returns-in-Err-open_in : goal.returns-in-Err-open_in
returns-in-Err-open_in c =
    told_full
    (lent {word = c.args.word.now} {budget = c.args.budget} (search rules) (search rules) (search rules) (search rules) c.standing.ensures)
    (ap standing_told c.in_default.is)
    c.begin-working.ensures.room_after
    (opens_fresh c.begin-working.ensures.begun (records c.args.left.now) (records c.args.right.now) c.open_in.ensures.opens)
    c.in-Err-open_in.is
    c.number-in-Err-open_in.ensures
    (search rules)
    (search rules)
