use Rattle.log_ring.proofs.Fitting.{kept-small}
use Rattle.log_ring.proofs.keeping.kept_records_fit.Goals as goal

pub returns : goal.returns
returns c = kept-small
