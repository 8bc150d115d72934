use Rattle.hart_worker.proofs.Common.{List, subst, TurnRow, began_of, AreAllOwn}
use Rattle.hart_worker.proofs.OwnRuns.{taken_of}
use Rattle.hart_worker.proofs.comparing.compares.Goals as goal

pub returns-in-Some-clause-taken : goal.returns-in-Some-clause-taken
returns-in-Some-clause-taken g c = λ agreed t running.
    let b = began_of c.args.from.now in
    let own = subst (λ (rows : List TurnRow). AreAllOwn b rows) c.in-Some.ensures.rows (c.agree_all.ensures.own agreed) in
    taken_of c.own_rows_are_turns.ensures g.B.Book.tells c.args.bus.now b c.requires.began c.raw-settings.ensures.in_range (c.in-Some.ensures.told t) running own
