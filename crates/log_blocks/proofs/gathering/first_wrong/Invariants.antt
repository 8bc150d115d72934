use Rattle.log_blocks.proofs.Common.{◌≡◌, ℕ, ◌≤◌, List, length, flat_map, AllByRecursion, Record, bytes_of, Fits, Piece, gathered, AreLaid}
use Rattle.log_blocks.proofs.Left.{AreLeft}
use Rattle.log_blocks.proofs.Compared.{ComparedTo}
use Rattle.log_blocks.proofs.gathering.first_wrong.Given as goal

abbrev pub invariant-loop-left : goal.invariant-loop-left
invariant-loop-left l = record {
  within : l.left ≤ length l.walk.sizes.items;
  stand : (ps : List Piece) × AreLeft l.bytes l.walk.sizes.items l.at l.left ps;
  compared : (format : ℕ) (rs : List Record) (pieces : List Piece) → AllByRecursion (Fits format) rs → l.records ≡ flat_map bytes_of rs → l.records ≡ gathered pieces
      → AreLaid l.bytes l.walk.rest l.walk.size l.walk.sizes.items pieces → ComparedTo format l.bytes l.walk.sizes.items rs pieces l.dropped l.walk.rest l.at l.left l.before l.rest;
}

abbrev pub decreases-loop-left : goal.decreases-loop-left
decreases-loop-left l = l.left
