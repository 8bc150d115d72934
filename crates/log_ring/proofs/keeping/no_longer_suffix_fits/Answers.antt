use Rattle.log_ring.proofs.Fitting.{kept-longest}
use Rattle.log_ring.proofs.keeping.no_longer_suffix_fits.Goals as goal

pub returns : goal.returns
returns c = kept-longest
