use Rattle.bugnet.proofs.Common.{Option, Some, None, sym, subst, Line, RecordLine, seen, seen_recording, Schedule, DoesTo, reading}
use Rattle.bugnet.specs.Common.{call}
use Rattle.bugnet.proofs.RecordLoads.{takes-itself}
use Rattle.bugnet.proofs.Replied.{replied}
use Rattle.bugnet.proofs.program.attempt.Goals as goal

pub returns-in-None : goal.returns-in-None
returns-in-None g c = c.perform.ensures c.args.schedule (takes-itself (Some (seen c.args.command.now)) c.args.schedule)

pub returns-in-Some : goal.returns-in-Some
returns-in-Some g c =
    let line = RecordLine (seen_recording c.in-Some.options.now) in
    let names = c.args.names.now in
    let result = c.keep_threaded.result in
    let i = reading g.I.Source.source g.I.Source.note c.args.input.now c.args.input.now in
    let k = call g.S.Store.stored g.O.Sink.stream g.X.Sink.stream c.args.files.now c.args.out.now c.args.err.now c.keep_threaded.new.files c.keep_threaded.new.out c.keep_threaded.new.err in
    let is = c.in-Some.ensures in
    subst (λ (s : Option Schedule). DoesTo s (seen c.args.command.now) names g.S.Store.note i k result) (sym is.2)
    (subst (λ (l : Line). DoesTo None l names g.S.Store.note i k result) (sym is.0)
    (replied None line names g.S.Store.note g.I.Source.source g.I.Source.note c.args.input.now k result tt c.keep_threaded.ensures))
