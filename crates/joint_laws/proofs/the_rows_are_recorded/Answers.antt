use Rattle.joint_laws.proofs.Rows.{first_rows}
use Rattle.joint_laws.proofs.the_rows_are_recorded.Goals as goal

pub returns-clause-first : goal.returns-clause-first
returns-clause-first c = first_rows c.ends_suffice.ensures c.interval_rows_are_of_turns.ensures
