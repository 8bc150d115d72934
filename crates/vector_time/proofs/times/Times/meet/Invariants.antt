use Rattle.std.proofs.Common.{◌≡◌, ◌<◌, ◌≤◌, ℕ, min}
use Rattle.vector_time.specs.Times.{count_of}
use Rattle.vector_time.proofs.times.Times.meet.Given as goal

abbrev pub invariant-loop-place : goal.invariant-loop-place
invariant-loop-place l = record {
  met : (h : ℕ) → h < l.place → count_of l.self h ≡ min (count_of l.initial.self h) (count_of l.other h);
  left : (h : ℕ) → l.place ≤ h → count_of l.self h ≡ count_of l.initial.self h;
}
