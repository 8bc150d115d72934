use Rattle.std.proofs.Common.{rules}
use Rattle.rv_meaning.proofs.replies.absorb_in_place.Goals as goal

pub returns-in-ScFailed : goal.returns-in-ScFailed
returns-in-ScFailed c = search rules
