use Rattle.log_commands.proofs.Common.{ap, Ok, LogCounts, check_of, IsMade, check_line, printed}
use Rattle.log_commands.proofs.Answering.{unread}
use Rattle.log_commands.proofs.Loads.{own_log}
use Rattle.log_commands.proofs.commands.check.evaluate.Goals as goal

pub returns-in-Ok : goal.returns-in-Ok
returns-in-Ok c =
    let k = c.in-Ok.ensures.counted in
    record {
      gives = λ names. record { says = Ok k.log; reads = (k.content, k.spelled); is = ap (λ (n : LogCounts). printed (check_line n)) k.counts };
      own = λ before now. tt;
      kind = tt;
    }

pub returns-in-Err : goal.returns-in-Err
returns-in-Err c =
    unread IsMade c.args.log.now (λ names. check_of) c.of_damage.result (c.in-Err.damage, c.of_damage.ensures, c.in-Err.ensures.refused)
    (λ before now. own_log c.in-Err.damage c.of_damage.result before now c.of_damage.ensures)
