use Rattle.demo_run.proofs.Common.{sym, ◌∙◌, demo_settings}
use Rattle.demo_run.proofs.Whole.{never_bad}
use Rattle.demo_run.proofs.starting.demo_settings.Goals as goal

pub unreachable-requires : goal.unreachable-requires
unfolding demo_settings
unreachable-requires c = never_bad c.in-Err.field-0 (sym c.in-Err.is ∙ c.checked.ensures)
