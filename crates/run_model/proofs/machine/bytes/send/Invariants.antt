use Rattle.run_model.proofs.Common.{◌≡◌, ◌+◌, ◌++◌, ℕ, vec_len, vec_capacity, HoldsMap, bytes_in}
use Rattle.run_model.proofs.machine.bytes.send.Given as goal

abbrev pub invariant-loop-place : goal.invariant-loop-place
invariant-loop-place l = record {
  len : vec_len l.stream ≡ vec_len l.fn.stream + l.place;
  capacity : vec_capacity l.stream ≡ vec_capacity l.fn.stream;
  items : (m : ℕ → ℕ) → HoldsMap l.memory.words m → l.stream.items ≡ l.fn.stream.items ++ bytes_in m l.addr l.place;
}
