use Rattle.std.proofs.Common.{length, take, ◌≡◌, ◌-◌, ◌≤◌}
use Rattle.std.specs.Io.KnownBytes.{Appends}
use Rattle.bn_outside.proofs.loops.send_all.Given as goal

abbrev pub invariant-loop-sent : goal.invariant-loop-sent
invariant-loop-sent g l = record {
  within : l.sent ≤ length l.text;
  gained : Appends (g.K.Sink.stream l.fn.sink).text (g.K.Sink.stream l.sink).text (take l.sent l.text);
  same : (g.K.Sink.stream l.sink).faults ≡ (g.K.Sink.stream l.fn.sink).faults;
}

abbrev pub decreases-loop-sent : goal.decreases-loop-sent
decreases-loop-sent g l = length l.text - l.sent
