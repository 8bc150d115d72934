use Rattle.log_ring.proofs.Fitting.{kept-suffix}
use Rattle.log_ring.proofs.keeping.a_suffix_is_kept.Goals as goal

pub returns : goal.returns
returns c = kept-suffix
