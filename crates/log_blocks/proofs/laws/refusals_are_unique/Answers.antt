use Rattle.log_blocks.proofs.Uniques.{one_refusal}
use Rattle.log_blocks.proofs.laws.refusals_are_unique.Goals as goal

pub returns : goal.returns
returns c = one_refusal c.no_record_begins_another.ensures c.refusals_are_unique.ensures
