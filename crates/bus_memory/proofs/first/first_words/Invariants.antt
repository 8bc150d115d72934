use Rattle.bus_memory.proofs.Common.{◌≡◌, ◌<◌, ◌+◌, ◌*◌, ℕ, get_or, vec_len, first_at}
use Rattle.bus_memory.proofs.first.first_words.Given as goal

abbrev pub invariant-loop-place : goal.invariant-loop-place
invariant-loop-place l = record {
  len : vec_len l.words ≡ l.place;
  words : (k : ℕ) → k < l.place → get_or l.words.items k 0 ≡ first_at l.image (4096 * l.number + 4 * k);
}
