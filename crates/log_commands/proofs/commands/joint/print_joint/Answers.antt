use Rattle.log_commands.proofs.Joins.{joint-unbegun, joint-prints}
use Rattle.log_commands.proofs.commands.joint.print_joint.Goals as goal

pub returns-in-Err : goal.returns-in-Err
returns-in-Err g c = joint-unbegun c.args.reading.now (g.O.Sink.stream c.args.out.now)

pub returns : goal.returns
returns g c = joint-prints c.args.reading.now c.in-Ok.joint (g.O.Sink.stream c.args.out.now) (g.O.Sink.stream c.send_joint.new.out) c.send_joint.result c.in-Ok.ensures.fresh c.send_joint.ensures.sends
