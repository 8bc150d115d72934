use Rattle.race_report.specs.Reports.{joint_of}
use Rattle.race_report.proofs.Stepping.{reported}
use Rattle.race_report.proofs.reporting.report.Goals as goal

pub returns-in-Ok-races : goal.returns-in-Ok-races
returns-in-Ok-races c = reported c.args.log.now.head.settings.harts c.args.max c.count.result (joint_of c.args.image.now c.args.log.now) c.in-Ok.gathered c.from_vec.result c.in-Ok-races.races.items c.in-Ok.ensures c.count.ensures c.if-count-max.false c.from_vec.ensures c.in-Ok-races.ensures
