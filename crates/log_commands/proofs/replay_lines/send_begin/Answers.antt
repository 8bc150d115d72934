use Rattle.log_commands.proofs.Common.{begin_text}
use Rattle.log_commands.proofs.Rows.{begin-some, line-lacks}
use Rattle.log_commands.proofs.replay_lines.send_begin.Goals as goal

pub returns-in_err-push_begin-clause-memory : goal.returns-in_err-push_begin-clause-memory
returns-in_err-push_begin-clause-memory g c =
    line-lacks (begin_text c.args.hart c.args.interval c.args.ic) (g.O.Sink.stream c.args.out.now) c.from_residual.result (begin-some c.args.hart c.args.interval c.args.ic)
