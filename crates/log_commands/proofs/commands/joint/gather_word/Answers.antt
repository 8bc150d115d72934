use Rattle.log_commands.proofs.Common.{known_text}
use Rattle.log_commands.proofs.Prints.{gathered-short}
use Rattle.log_commands.proofs.commands.joint.gather_word.Goals as goal

pub returns-in-Err : goal.returns-in-Err
returns-in-Err g c = record {
  sent =
      gathered-short _ _ _ _ c.args.text.now (known_text (c.args.addr, c.args.word)) c.write_known.new.text c.send_short.result
      (rw c.in-Err.ensures.err at c.send_short.ensures.sent);
  later = c.send_short.ensures.later;
}
