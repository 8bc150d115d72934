use Rattle.whole_runs.proofs.Common.{◌∙◌, has_finished, run_after, list_run}
use Rattle.whole_runs.proofs.Taken.{turns_are}
use Rattle.whole_runs.proofs.Whole.{finished_is, running_of, of_rows}
use Rattle.whole_runs.proofs.turns.close.Goals as goal

pub returns-clause-closed : goal.returns-clause-closed
returns-clause-closed g c = λ list h over.
    let bus = c.args.bus in
    let run = list_run bus.began list in
    let e = c.close.ensures in
    record {
      legal = h.legal;
      over = over;
      finished = finished_is c.close.result.finished bus.halted bus.disordered (has_finished bus.began.settings run) (e.finished run h.state) h.running h.orderly over;
      out = e.out run h.state;
      err = e.err run h.state;
      ends = e.ends run h.state;
      turns = e.turns ∙ turns_are g.B.Book.tells bus list h;
      size = e.size;
      log = e.log run h.state;
      told = λ t. e.book ∙ h.rows t;
    }

pub returns-clause-running : goal.returns-clause-running
returns-clause-running g c = λ whole.
    let bus = c.args.bus in
    let e = c.close.ensures in
    let run = run_after bus.began bus.halted e.some.0 in
    running_of c.close.result.finished bus.halted bus.disordered (has_finished bus.began.settings run) (e.finished run e.some.1.state) whole

pub returns-clause-of_rows : goal.returns-clause-of_rows
returns-clause-of_rows g c = λ whole.
    let bus = c.args.bus in
    let e = c.close.ensures in
    let rows = e.some.0 in
    let l = e.some.1 in
    let run = run_after bus.began bus.halted rows in
    (rows, of_rows bus c.close.result rows l (e.finished run l.state) whole (e.out run l.state) (e.err run l.state) (e.ends run l.state) e.turns e.fit e.last_marks)
