use Rattle.whole_runs.proofs.Common.{◌≡◌, subst, ◌⊎◌, Some, IfOk, IfErr, OutOfMemory, Began, began_of, error_of, IsClosed}
use Rattle.whole_runs.proofs.Whole.{taken_none}
use Rattle.whole_runs.proofs.runs.run_turns.Goals as goal

pub followed-requires-clause-start : goal.followed-requires-clause-start
followed-requires-clause-start g c =
    let n = c.in_ok-bus.ensures in
    taken_none g.B.Book.tells c.in_ok-bus.bus (began_of c.args.from.now) n.began n.state n.rows n.flags.0 n.flags.1

pub returns-clause-run : goal.returns-clause-run
returns-clause-run g c =
    subst (λ (x : Began). IfOk c.followed.result (λ closed. IsClosed g.B.Book.tells x c.args.list.now closed (g.B.Book.told closed.book))) c.in_ok-bus.ensures.began c.followed.ensures.run

pub returns-clause-refused : goal.returns-clause-refused
returns-clause-refused g c =
    subst (λ (x : Began). IfErr c.followed.result (λ e. (e ≡ OutOfMemory) ⊎ (error_of x c.args.list.now ≡ Some e))) c.in_ok-bus.ensures.began c.followed.ensures.refused
