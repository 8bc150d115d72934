use Rattle.log_order.proofs.Suffixes.{keeps_order_over}
use Rattle.log_order.proofs.laws.kept_records_are_in_order.Goals as goal

pub returns : goal.returns
returns c = keeps_order_over
