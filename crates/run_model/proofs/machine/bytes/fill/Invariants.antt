use Rattle.run_model.proofs.Common.{◌≡◌, ℕ, length, take, drop, HoldsMap, filled}
use Rattle.run_model.proofs.machine.bytes.fill.Given as goal

abbrev pub invariant-loop-place : goal.invariant-loop-place
invariant-loop-place l = record {
  size : length l.memory.words ≡ length l.fn.memory.words;
  made : l.memory.made ≡ l.fn.memory.made;
  holds : (m : ℕ → ℕ) → HoldsMap l.fn.memory.words m → HoldsMap l.memory.words (filled l.addr (take l.place (drop l.start l.bytes)) m);
}
