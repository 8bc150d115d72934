use Rattle.step_debugger.proofs.Common.{ℕ, List, subst, Appends}
use Rattle.step_debugger.proofs.sending.send.Goals as goal

pub returns-in-Ok-clause-sent : goal.returns-in-Ok-clause-sent
returns-in-Ok-clause-sent g c = (subst (λ (x : List ℕ). Appends (g.O.Sink.stream c.args.out.now).text (g.O.Sink.stream c.send_all.new.sink).text x) c.as_bytes.ensures c.in-Ok.ensures.ok, tt)
