use Rattle.bugnet.proofs.Common.{subst, Option, Some, None, Result, RecordLine, seen, seen_recording, Schedule, Start, GivesStatus, IsRecordingBy, Refusal, RepliesTo, Status, reading}
use Rattle.bugnet.specs.Common.{call}
use Rattle.bugnet.proofs.Debugs.{session-does}
use Rattle.std.proofs.Common.{rules}
use Rattle.bugnet.proofs.RecordLoads.{recorded-as, takes-given}
use Rattle.bugnet.proofs.Replied.{replied}
use Rattle.bugnet.proofs.program.perform.Goals as goal

pub returns-in-Debug : goal.returns-in-Debug
returns-in-Debug g c = λ o alike status end ended.
    let names = c.args.names.now in
    let err = g.X.Sink.stream c.args.err.now in
    session-does o (record { one_reading = c.readings_are_unique.ensures })
    (record { contents = c.logs_are_contents.ensures; limit = c.saved_files_keep_to_the_limit.ensures; read = c.files_are_read.ensures })
    (record { saved = c.saved_files_keep_to_the_limit.ensures; converted = c.converted_files_keep_to_the_limit.ensures })
    c.sessions_show_the_run.ensures c.refusals_stay.ensures (seen c.args.command.now) _ status g.S.Store.note (reading g.I.Source.source g.I.Source.note c.args.input.now c.debug_files.new.input) _
    (λ n. rw c.in-Debug.is at n) c.requires.named
    (c.debug_files.ensures status _ end (subst (λ (r : Result Status Refusal). GivesStatus names r status err end) c.done.ensures ended))

pub returns-in-Some : goal.returns-in-Some
returns-in-Some g c = λ o alike.
    let r = c.in-Record.options in
    rw c.in-Record.is (replied o (RecordLine (seen_recording r)) c.args.names.now g.S.Store.note g.I.Source.source g.I.Source.note c.args.input.now _ c.keep_recording.result tt
    (c.keep_recording.ensures o (λ start run h. recorded-as r o (Some c.in-Some.seed) start run c.in-Some.is (subst (λ (s : Start). IsRecordingBy s (record { seed = Some c.in-Some.seed; lean = r.lean; schedule = None }) run) h.2 h.1))))

pub returns-in_default : goal.returns-in_default
returns-in_default g c = λ o alike.
    replied o (seen c.args.command.now) c.args.names.now g.S.Store.note g.I.Source.source g.I.Source.note c.args.input.now _ c.reply.result (search rules) (c.reply.ensures o)

pub returns-in-None : goal.returns-in-None
returns-in-None g c = λ o alike.
    let r = c.in-Record.options in
    let k = call g.S.Store.stored g.O.Sink.stream g.X.Sink.stream c.args.files.now c.args.out.now c.args.err.now c.keep_scheduled.new.files c.keep_scheduled.new.out c.keep_scheduled.new.err in
    let same = takes-given r.seed c.args.schedule o c.in-None.is (rw c.in-Record.is at alike) in
    rw c.in-Record.is (replied o (RecordLine (seen_recording r)) c.args.names.now g.S.Store.note g.I.Source.source g.I.Source.note c.args.input.now k c.keep_scheduled.result tt
    (subst (λ (s : Option Schedule). RepliesTo s (RecordLine (seen_recording r)) c.args.names.now g.S.Store.note k c.keep_scheduled.result) same c.keep_scheduled.ensures))
