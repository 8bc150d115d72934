use Rattle.log_commands.proofs.Renewals.{renewed-told}
use Rattle.log_commands.proofs.commands.convert.renew.Goals as goal

pub returns : goal.returns
returns c = record {
  gives = λ names. renewed-told (record { file = c.in_ok-file.file; counts = c.counts_of.result }) c.args.log.now c.in_ok-file.ensures c.counts_of.ensures;
  own = λ before now. tt;
  kind = tt;
}
