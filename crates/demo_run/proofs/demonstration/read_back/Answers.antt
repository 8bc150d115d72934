use Rattle.demo_run.specs.Demonstration.{demo_log}
use Rattle.demo_run.proofs.Shown.{says}
use Rattle.demo_run.proofs.demonstration.read_back.Goals as goal

pub as_alloc_error-requires : goal.as_alloc_error-requires
as_alloc_error-requires c = c.in-Err.ensures.only (demo_log c.args.seed) (says c.demonstrations_are_recordings.ensures c.logs_are_contents.ensures c.args.seed) c.requires

pub returns-in-Ok : goal.returns-in-Ok
returns-in-Ok c = c.in-Ok.ensures.only (demo_log c.args.seed) (says c.demonstrations_are_recordings.ensures c.logs_are_contents.ensures c.args.seed) c.requires
