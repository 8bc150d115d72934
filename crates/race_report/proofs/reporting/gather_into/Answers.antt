use Rattle.joint_replay.specs.Joining.{fresh}
use Rattle.race_report.proofs.Stepping.{way_fresh, rest_into}
use Rattle.race_report.proofs.reporting.gather_into.Goals as goal

pub gather_all-requires : goal.gather_all-requires
gather_all-requires c =
    let log = c.args.log.now in
    (log.head.settings.harts, fresh c.args.image.now log.head.settings.harts log.records, way_fresh c.args.image.now log.head.settings.harts c.args.most log.records c.in-Ok.joint c.args.gathered.now c.in-Ok.ensures.fresh c.requires)

pub returns : goal.returns
returns c =
    let log = c.args.log.now in
    rest_into log.head.settings.harts c.args.most (fresh c.args.image.now log.head.settings.harts log.records) c.in-Ok.joint c.args.gathered.now c.gather_all.result c.gather_all.new.gathered
    (way_fresh c.args.image.now log.head.settings.harts c.args.most log.records c.in-Ok.joint c.args.gathered.now c.in-Ok.ensures.fresh c.requires) c.gather_all.ensures.gathers
