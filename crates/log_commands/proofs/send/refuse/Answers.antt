use Rattle.log_commands.proofs.Common.{refl, inr, line_of, said_of, OutOfMemory}
use Rattle.log_commands.proofs.Prints.{wrote}
use Rattle.log_commands.proofs.send.refuse.Goals as goal

pub returns : goal.returns
unfolding line_of said_of
returns g c =
    let sent = c.send_all-in-Err.ensures in
    (inr (refl, wrote (g.X.Sink.stream c.args.err.now).text (g.X.Sink.stream c.send_all-in-Err.new.sink).text (g.X.Sink.stream c.args.err.now).faults (g.X.Sink.stream c.send_all-in-Err.new.sink).faults (line_of c.args.names.now OutOfMemory) c.send_all-in-Err.result sent.ok sent.part sent.cause), sent.later)
