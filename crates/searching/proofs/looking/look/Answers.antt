-- `look` looks in the room of what the call works with, and with the budget that it has.
use Rattle.searching.proofs.looking.look.Goals as goal

pub returns-clause-goes : goal.returns-clause-goes
returns-clause-goes c =
    let told = c.look_in.ensures.goes c.args.work.now.budget in
    record { tells = told.tells; work_room = told.work_room; pair_room = told.pair_room }
