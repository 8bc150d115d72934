use Rattle.log_commands.proofs.Prints.{part-whole}
use Rattle.log_commands.proofs.send.send_short.Goals as goal

pub returns : goal.returns
returns g c = record {
  sent = (part-whole (g.O.Sink.stream c.args.out.now).text (g.O.Sink.stream c.send.new.sink).text c.args.text.now c.in_ok-send.ensures.sends.sent.0, tt);
  later = c.send.ensures.sends.later;
}
