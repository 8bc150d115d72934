use Rattle.demo_run.proofs.Common.{counts_of, demo_log}
use Rattle.demo_run.proofs.Shown.{says, counted-so, never-refused}
use Rattle.demo_run.proofs.demonstration.counts.Goals as goal

pub unreachable-requires : goal.unreachable-requires
unreachable-requires c =
    never-refused c.in-Err.field-0 (counts_of (demo_log c.args.seed))
    (c.in-Err.ensures.only (demo_log c.args.seed) (says c.demonstrations_are_recordings.ensures c.logs_are_contents.ensures c.args.seed) c.requires)

pub returns : goal.returns
returns c =
    counted-so c.in-Ok.counts (counts_of (demo_log c.args.seed))
    (c.in-Ok.ensures.only (demo_log c.args.seed) (says c.demonstrations_are_recordings.ensures c.logs_are_contents.ensures c.args.seed) c.requires)
