use Rattle.log_commands.proofs.Common.{refl, Joined, Listed, Checked, Agreed, Shown, Interval}
use Rattle.log_commands.proofs.Acts.{sent-prints}
use Rattle.log_commands.proofs.Kept.{prints-act}
use Rattle.log_commands.proofs.acting.act.Goals as goal

pub returns-in-Interval : goal.returns-in-Interval
returns-in-Interval g c =
    rw c.in-Interval.is (rw c.done-in-Interval.ensures (prints-act c.args.names.now (Interval c.in-Interval.reading) g.S.Store.note (g.S.Store.stored c.args.files.now) (g.O.Sink.stream c.args.out.now) (g.O.Sink.stream c.print_interval.new.out) (g.X.Sink.stream c.args.err.now) c.print_interval.result
    refl (λ status. refl) c.print_interval.ensures))

pub returns-in-Joined : goal.returns-in-Joined
returns-in-Joined g c =
    rw c.in-Joined.is (rw c.done-in-Joined.ensures (prints-act c.args.names.now (Joined c.in-Joined.reading) g.S.Store.note (g.S.Store.stored c.args.files.now) (g.O.Sink.stream c.args.out.now) (g.O.Sink.stream c.print_joint.new.out) (g.X.Sink.stream c.args.err.now) c.print_joint.result
    refl (λ status. refl) c.print_joint.ensures))

pub returns-in-Listed : goal.returns-in-Listed
returns-in-Listed g c =
    rw c.in-Listed.is (rw c.done-in-Listed.ensures (prints-act c.args.names.now (Listed c.in-Listed.log) g.S.Store.note (g.S.Store.stored c.args.files.now) (g.O.Sink.stream c.args.out.now) (g.O.Sink.stream c.send_list.new.out) (g.X.Sink.stream c.args.err.now) c.send_list.result
    refl (λ status. refl) (sent-prints _ _ _ c.send_list.result c.send_list.ensures)))

pub returns-in-Checked : goal.returns-in-Checked
returns-in-Checked g c =
    rw c.in-Checked.is (rw c.done-in-Checked.ensures (prints-act c.args.names.now (Checked c.in-Checked.counts) g.S.Store.note (g.S.Store.stored c.args.files.now) (g.O.Sink.stream c.args.out.now) (g.O.Sink.stream c.send_check.new.out) (g.X.Sink.stream c.args.err.now) c.send_check.result
    refl (λ status. refl) (sent-prints _ _ _ c.send_check.result c.send_check.ensures)))

pub returns-in-Agreed : goal.returns-in-Agreed
returns-in-Agreed g c =
    rw c.in-Agreed.is (rw c.done-in-Agreed.ensures (prints-act c.args.names.now Agreed g.S.Store.note (g.S.Store.stored c.args.files.now) (g.O.Sink.stream c.args.out.now) (g.O.Sink.stream c.send_agreement.new.out) (g.X.Sink.stream c.args.err.now) c.send_agreement.result
    refl (λ status. refl) (sent-prints _ _ _ c.send_agreement.result c.send_agreement.ensures)))

pub returns-in-Shown : goal.returns-in-Shown
returns-in-Shown g c =
    rw c.in-Shown.is (rw c.done-in-Shown.ensures (prints-act c.args.names.now (Shown c.in-Shown.text) g.S.Store.note (g.S.Store.stored c.args.files.now) (g.O.Sink.stream c.args.out.now) (g.O.Sink.stream c.send.new.sink) (g.X.Sink.stream c.args.err.now) c.send.result
    refl (λ status. refl) (sent-prints _ _ _ c.send.result c.send.ensures.sends)))
