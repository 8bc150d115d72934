use Rattle.std.proofs.Common.{◌≡◌, vec_len}
use Rattle.bus_memory.proofs.Touched.{FirstPages}
use Rattle.bus_memory.proofs.memory.Memory.new.Given as goal

abbrev pub invariant-loop-number : goal.invariant-loop-number
invariant-loop-number l = record { len : vec_len l.pages ≡ l.number; first : FirstPages l.image l.pages.items l.number }
