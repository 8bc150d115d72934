use Rattle.std.proofs.Common.{◌≡◌, drop}
use Rattle.std.specs.Prelude.{max}
use Rattle.bn_base.specs.Programs.{read_only_end}
use Rattle.bn_base.proofs.image.read_only_end.Given as goal

abbrev pub invariant-loop-segment : goal.invariant-loop-segment
invariant-loop-segment l = max l.end (read_only_end (drop l.segment-index l.segments)) ≡ read_only_end l.segments
