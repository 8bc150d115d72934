use Rattle.log_ring.proofs.Fitting.{kept-kept}
use Rattle.log_ring.proofs.keeping.dropped_records_stay_dropped.Goals as goal

pub returns : goal.returns
returns c = kept-kept
