use Rattle.log_order.proofs.Suffixes.{early}
use Rattle.log_order.proofs.laws.early_edges_are_not_late.Goals as goal

pub returns : goal.returns
returns c = early
