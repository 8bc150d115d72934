use Rattle.std.proofs.Common.{sym, ◌∙◌}
use Rattle.joint_replay.proofs.Headers.{is_there, indexed}
use Rattle.joint_replay.proofs.intervals.retained_at.Goals as goal

pub returns-in-Some-clause-there : goal.returns-in-Some-clause-there
returns-in-Some-clause-there c =
    is_there c.ordered_logs_have_shape.ensures c.args.log.now.head.settings c.args.log.now.dropped c.args.log.now.records c.records-records.ensures.whole.order
    c.args.hart c.in-Some.number c.args.place c.requires.hart c.get.result
    (indexed c.args.log.now.records c.records-records.result.now c.args.place c.get.result c.records-records.ensures.value c.requires.place c.get.ensures) (sym c.number_in.ensures ∙ c.in-Some.is)
