use Rattle.hart_worker.proofs.Common.{subst, Began, began_of, IsClosed}
use Rattle.hart_worker.proofs.OwnRuns.{threads_of}
use Rattle.hart_worker.proofs.settling.close_own.Goals as goal

pub returns-clause-run : goal.returns-clause-run
returns-clause-run g c = λ list h over t.
    let rows = g.B.Book.told c.close.result.book in
    let closed = subst (λ (b : Began). IsClosed g.B.Book.tells b list c.close.result rows) c.requires (c.close.ensures.closed list h over) in
    threads_of c.turns_are_lawful.ensures c.turns_are_own.ensures c.rows_name_their_harts.ensures g.B.Book.tells (began_of c.args.from.now) list c.close.result rows c.raw-settings.ensures.in_range t closed
