use Rattle.log_commands.proofs.Common.{arith, PrintsTo, printing_on, told_of_reading}
use Rattle.log_commands.proofs.Acts.{prints-so}
use Rattle.log_commands.proofs.Answering.{passed-on}
use Rattle.log_commands.proofs.Causes.{sends-absent}
use Rattle.log_commands.proofs.Prints.{appends-nothing}
use Rattle.log_commands.proofs.Tells.{untouched}
use Rattle.log_commands.proofs.Shows.{not-begun}
use Rattle.log_commands.proofs.commands.replay.print_interval.Goals as goal

pub returns-in_err-replayer : goal.returns-in_err-replayer
returns-in_err-replayer g c =
    passed-on (PrintsTo (λ names. told_of_reading names c.args.reading.now) _ _) _ c.from_residual.result c.from_residual.ensures.1
    (λ names store status err end closed.
    prints-so names (told_of_reading names c.args.reading.now) status (printing_on store _ _ err end)
    (not-begun names c.args.reading.now _ status (printing_on store _ _ err end) c.in_err-replayer.ensures.refused (appends-nothing _) (untouched store.files) closed.0)
    (record { out = omega arith; err = closed.1 })
    (sends-absent names _ _ _ status err.text end.text err.faults end.faults _ _ c.in_err-replayer.ensures.refused closed.0))
