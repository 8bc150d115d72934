use Rattle.log_commands.proofs.Common.{arith, text_from, IfErr, IsCutShort, Prints, PrintsTo, printing_on, told_of_reading}
use Rattle.log_commands.proofs.Acts.{sends-done, prints-so, closed-done}
use Rattle.log_commands.proofs.Answering.{passed-on}
use Rattle.log_commands.proofs.Causes.{sends-told, sends-replay}
use Rattle.log_commands.proofs.Prints.{appends-nothing}
use Rattle.log_commands.proofs.Tells.{untouched}
use Rattle.log_commands.proofs.Shows.{interval-done, interval-differs, interval-stopped}
use Rattle.log_commands.proofs.commands.replay.print_begun.Goals as goal

pub returns-in-Done-clause-prints : goal.returns-in-Done-clause-prints
returns-in-Done-clause-prints g c = λ names store status err end closed.
    let old = g.O.Sink.stream c.args.out.now in
    let new = g.O.Sink.stream c.send_interval.new.out in
    closed-done (λ n e. Prints names (told_of_reading names c.args.reading.now) n (printing_on store old new err e)) status err end closed
    (prints-so names (told_of_reading names c.args.reading.now) 0 (printing_on store old new err err)
    (interval-done names c.args.reading.now c.args.replayer.now c.args.mark.now c.in_ok-end.end (printing_on store old new err err)
    c.requires c.in_ok-end.ensures.sends.sent.0 c.in_ok-end.ensures.sends.sent.1 c.in-Done.is (appends-nothing err.text) (untouched store.files))
    (record { out = c.send_interval.ensures.sends.later; err = omega arith }) (sends-done old.faults new.faults))

pub returns-in-Stopped-clause-prints : goal.returns-in-Stopped-clause-prints
returns-in-Stopped-clause-prints g c = λ names store status err end closed.
    prints-so names (told_of_reading names c.args.reading.now) status (printing_on store _ _ err end)
    (interval-differs names c.args.reading.now c.args.replayer.now c.args.mark.now c.in_ok-end.end c.in-Stopped.error status (printing_on store _ _ err end)
    c.requires c.in_ok-end.ensures.sends.sent.0 c.in_ok-end.ensures.sends.sent.1 c.in-Stopped.is (untouched store.files) closed.0)
    (record { out = c.send_interval.ensures.sends.later; err = closed.1 })
    (sends-replay names c.in-Stopped.error status err.text end.text err.faults end.faults _ _ closed.0)

pub returns-in_err-end-clause-prints : goal.returns-in_err-end-clause-prints
returns-in_err-end-clause-prints g c =
    passed-on (PrintsTo (λ names. told_of_reading names c.args.reading.now) _ _) _ c.from_residual.result c.from_residual.ensures.1
    (λ names store status err end closed.
    prints-so names (told_of_reading names c.args.reading.now) status (printing_on store _ _ err end)
    (interval-stopped names c.args.reading.now c.args.replayer.now c.args.mark.now _ status (printing_on store _ _ err end)
    c.requires c.in_err-end.ensures.sends.sent (untouched store.files) closed.0)
    (record { out = c.send_interval.ensures.sends.later; err = closed.1 })
    (sends-told names _ status err.text end.text err.faults end.faults _ _ c.in_err-end.ensures.sends.sent.1 closed.0))

pub returns-in_err-end-clause-memory : goal.returns-in_err-end-clause-memory
returns-in_err-end-clause-memory g c =
    let text = text_from c.args.reading.now.hart c.args.reading.now.interval _ c.args.mark.now _ in
    passed-on (λ result. IfErr result (IsCutShort text c.send_interval.new.replayer (g.O.Sink.stream c.args.out.now) (g.O.Sink.stream c.send_interval.new.out))) _ c.from_residual.result c.from_residual.ensures.1 c.in_err-end.ensures.memory
