use Rattle.bugnet.proofs.Common.{AreTaken, Scheduling, false, [], None}
use Rattle.bugnet.proofs.Recorded.{recording-run}
use Rattle.bugnet.proofs.recorder.record_scheduled.Goals as goal

pub returns : goal.returns
returns c =
    let s = c.args.start.now in
    let how : Scheduling = record { seed = None; lean = c.args.lean; schedule = c.args.schedule } in
    let some = c.in_ok-run.ensures in
    let is = some.1.closed_is in
    let taken : AreTaken None s.settings s.image s.input.items some.0 = record { legal = is.legal; over = is.over } in
    recording-run false s c.in_ok-run.run' [] some.0 how c.recording_of.result taken some.2 some.1 c.recording_of.ensures
