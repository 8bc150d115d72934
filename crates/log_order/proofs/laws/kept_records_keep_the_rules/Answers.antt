use Rattle.log_order.proofs.Suffixes.{keeps_rules}
use Rattle.log_order.proofs.laws.kept_records_keep_the_rules.Goals as goal

pub returns : goal.returns
returns c = keeps_rules
