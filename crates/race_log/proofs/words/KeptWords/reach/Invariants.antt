use Rattle.race_log.proofs.Common.{◌≡◌, ◌≤◌, ℕ, max, length, slice_get, vec_len, slots_of}
use Rattle.race_log.proofs.words.KeptWords.reach.Given as goal

abbrev pub invariant-loop : goal.invariant-loop
invariant-loop l = record {
  harts : l.self.harts ≡ l.initial.self.harts;
  epochs : l.self.epochs ≡ l.initial.self.epochs;
  same : (n : ℕ) → slots_of (slice_get l.self.pages.items n) ≡ slots_of (slice_get l.initial.self.pages.items n);
  most : length l.self.pages.items ≤ max (length l.initial.self.pages.items) l.count;
  count : vec_len l.self.pages ≡ l.counter;
  limit : l.self.limit ≡ l.initial.self.limit;
}
