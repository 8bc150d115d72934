use Rattle.bugnet.proofs.Common.{None, subst, Scheduling, Start, IsRecordingBy}
use Rattle.bugnet.proofs.RecordLoads.{recorded-as}
use Rattle.bugnet.proofs.recordings.keep_threaded.Goals as goal

pub returns : goal.returns
returns g c =
    let r = c.args.options.now in
    let how : Scheduling = record { seed = None; lean = r.lean; schedule = None } in
    c.keep_recording.ensures None (λ start run h. recorded-as r None None start run c.requires.unseeded (subst (λ (s : Start). IsRecordingBy s how run) h.2 h.1))
