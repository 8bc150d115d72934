use Rattle.bugnet.proofs.Common.{command_in, reading}
use Rattle.bugnet.proofs.Promises.{runs}
use Rattle.bugnet.proofs.program.run_by_schedule.Goals as goal

pub returns : goal.returns
returns g c =
    rw c.code.ensures (runs c.headline.ensures c.joint_headline.ensures c.each_can_be_done.ensures c.audits_agree.ensures c.args.schedule (command_in c.args.words.now) _ g.S.Store.note
    (reading g.I.Source.source g.I.Source.note c.args.input.now c.obey.new.input) _ c.obey.ensures)
