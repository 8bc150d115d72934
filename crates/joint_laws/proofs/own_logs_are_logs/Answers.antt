use Rattle.joint_laws.specs.Recordings.{recorded}
use Rattle.joint_laws.proofs.own_logs_are_logs.Goals as goal

pub returns : goal.returns
returns c r is = record { recording = is; end = c.kept_records_are_an_end.ensures r.settings (recorded r) }
