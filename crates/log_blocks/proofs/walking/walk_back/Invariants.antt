use Rattle.std.proofs.Common.{◌≤◌, length}
use Rattle.log_blocks.proofs.Backwards.{SeenTo}
use Rattle.log_blocks.proofs.walking.walk_back.Given as goal

abbrev pub invariant-loop-len : goal.invariant-loop-len
invariant-loop-len l = record {
  within : l.rest ≤ length l.bytes;
  few : l.size ≤ l.n;
  seen : SeenTo l.digest l.n l.bytes l.rest l.size l.sizes.items l.listed;
}

abbrev pub decreases-loop-len : goal.decreases-loop-len
decreases-loop-len l = l.rest
