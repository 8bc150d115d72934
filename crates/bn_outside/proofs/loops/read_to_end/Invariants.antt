use Rattle.std.proofs.Common.{length, vec_len, ◌≡◌, ◌-◌, ◌≤◌}
use Rattle.std.specs.Io.KnownBytes.{Consumes}
use Rattle.bn_outside.proofs.loops.read_to_end.Given as goal

abbrev pub invariant-pieces : goal.invariant-pieces
invariant-pieces g l = record {
  within : vec_len l.bytes ≤ l.limit;
  room : length l.piece ≡ 65536;
  gone : Consumes (g.I.Source.source l.fn.source).left (g.I.Source.source l.source).left l.bytes.items;
  same : (g.I.Source.source l.source).faults ≡ (g.I.Source.source l.fn.source).faults;
}

abbrev pub decreases-pieces : goal.decreases-pieces
decreases-pieces g l = l.limit - vec_len l.bytes
