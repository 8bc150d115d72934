use Rattle.log_blocks.proofs.Common.{◌≤◌, List, length, Piece, AreLaid}
use Rattle.log_blocks.proofs.Left.{GatheredTo}
use Rattle.log_blocks.proofs.gathering.gather.Given as goal

abbrev pub invariant-loop-left : goal.invariant-loop-left
invariant-loop-left l = record {
  within : l.left ≤ length l.walk.sizes.items;
  laid : (pieces : List Piece) × AreLaid l.bytes l.walk.rest l.walk.size l.walk.sizes.items pieces;
  whole : (pieces : List Piece) → AreLaid l.bytes l.walk.rest l.walk.size l.walk.sizes.items pieces → GatheredTo l.bytes l.walk.sizes.items l.out.items l.at l.left pieces;
}

abbrev pub decreases-loop-left : goal.decreases-loop-left
decreases-loop-left l = l.left
