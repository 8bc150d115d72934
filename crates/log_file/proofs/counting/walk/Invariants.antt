use Rattle.std.proofs.Common.{◌+◌, ◌≤◌, length}
use Rattle.log_file.proofs.Walks.{WalkedTo}
use Rattle.log_file.proofs.counting.walk.Given as goal

abbrev pub invariant-loop-rest : goal.invariant-loop-rest
invariant-loop-rest l = record {
  so_far : WalkedTo l.format l.terms l.fn.harts l.harts l.bytes l.rest l.records l.headers l.broken;
  few : l.records + length l.rest ≤ length l.bytes;
  fewer : l.headers ≤ l.records;
}

abbrev pub decreases-loop-rest : goal.decreases-loop-rest
decreases-loop-rest l = length l.rest
