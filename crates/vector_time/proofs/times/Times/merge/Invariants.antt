use Rattle.std.proofs.Common.{◌≡◌, ◌<◌, ◌≤◌, ℕ, max}
use Rattle.vector_time.specs.Times.{count_of}
use Rattle.vector_time.proofs.times.Times.merge.Given as goal

abbrev pub invariant-loop-hart : goal.invariant-loop-hart
invariant-loop-hart l = record {
  merged : (h : ℕ) → h < l.hart → count_of l.self h ≡ max (count_of l.initial.self h) (count_of l.other h);
  left : (h : ℕ) → l.hart ≤ h → count_of l.self h ≡ count_of l.initial.self h;
}
