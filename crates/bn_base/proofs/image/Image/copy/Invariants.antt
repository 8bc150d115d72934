use Rattle.std.proofs.Common.{◌≡◌, take}
use Rattle.bn_base.proofs.image.Image.copy.Given as goal

abbrev pub invariant-loop-segment : goal.invariant-loop-segment
invariant-loop-segment l = l.segments.items ≡ take l.segment-index l.self-inside.segments.items
