-- `judge` comes to the outcome: it enters the card as the definition loads it, follows the word as the definition does, and reads the mark of the
-- place reached in the store that the room then holds.
use Rattle.std.proofs.lemmas.Result.{err_from_is_err_and}
use Rattle.language.proofs.Laws.Words.{bytes_all}
use Rattle.matching.proofs.Laws.Rooms.{Entered, all_spent, judges_stopped, judges_mark}
use Rattle.matching.proofs.judge.Goals as goal
use Rattle.matching.proofs.judge.Goals.{In_ok-root}

-- What is known once the card was entered.
entered : (c : In_ok-root) → Entered c.args.work.now c.args.card.now c.args.word.now c.in_ok-root.root c.enter.new.work
entered c =
    record {
      asked = record {
        cards = bytes_all c.args.card.now (λ i. (c.type_inv.card i).fits);
        letters = bytes_all c.args.word.now (λ i. (c.type_inv.word i).fits);
        good = c.requires;
      };
      enters = c.in_ok-root.ensures.enters;
      inside = c.in_ok-root.ensures.inside;
    }

pub returns-in_err-last-clause-spent : goal.returns-in_err-last-clause-spent
returns-in_err-last-clause-spent c =
    all_spent (entered (goal.at.returns-in_err-last-clause-spent c).In_ok-root) c.follow.ensures.comes

pub returns-in_err-last-clause-judges : goal.returns-in_err-last-clause-judges
returns-in_err-last-clause-judges c =
    let told = err_from_is_err_and c.from_residual-in_err-last.result c.from_residual-in_err-last.ensures.1 in
    rw (told.1, told.2)
    (judges_stopped (entered (goal.at.returns-in_err-last-clause-judges c).In_ok-root) c.follow.ensures.comes c.in_err-last.was)

pub returns-clause-spent : goal.returns-clause-spent
returns-clause-spent c = all_spent (entered (goal.at.returns-clause-spent c).In_ok-root) c.follow.ensures.comes

pub returns-clause-judges : goal.returns-clause-judges
returns-clause-judges c =
    judges_mark (entered (goal.at.returns-clause-judges c).In_ok-root) c.follow.ensures.comes c.in_ok-last.was c.marked.ensures
