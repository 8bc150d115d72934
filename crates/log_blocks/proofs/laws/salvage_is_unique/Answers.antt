use Rattle.log_blocks.proofs.Uniques.{one_salvaged, salvaged_or_refused, one_salvage_refusal}
use Rattle.log_blocks.proofs.laws.salvage_is_unique.Goals as goal

pub returns-clause-log : goal.returns-clause-log
returns-clause-log c = one_salvaged c.no_record_begins_another.ensures

pub returns-clause-either : goal.returns-clause-either
returns-clause-either c = salvaged_or_refused c.no_record_begins_another.ensures

pub returns-clause-cause : goal.returns-clause-cause
returns-clause-cause c = one_salvage_refusal c.no_record_begins_another.ensures
