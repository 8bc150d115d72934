use Rattle.log_commands.proofs.Rows.{end-some, line-lacks}
use Rattle.log_commands.proofs.replay_lines.send_end.Goals as goal

pub returns-in_err-write_end-in-Done-clause-memory : goal.returns-in_err-write_end-in-Done-clause-memory
returns-in_err-write_end-in-Done-clause-memory g c =
    rw c.in-Done.is (line-lacks _ (g.O.Sink.stream c.args.out.now) c.from_residual.result (end-some c.args.hart c.args.interval c.args.mark.now))
