use Rattle.run_model.proofs.Begun.{trace_guarded}
use Rattle.run_model.proofs.trace.Trace.guard.Goals as goal

pub returns-then-guarded-clause-run : goal.returns-then-guarded-clause-run
returns-then-guarded-clause-run c settings run is =
    trace_guarded settings c.begin_anew.new.self c.args.guarded run c.args.hart c.args.state.now c.if-guarded.true (c.begin_anew.ensures.run settings run is)
