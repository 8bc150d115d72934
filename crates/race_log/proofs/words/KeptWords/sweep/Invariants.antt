use Rattle.race_log.proofs.Common.{◌≡◌, ◌<◌, ◌≤◌, ◌+◌, ◌*◌, ◌/◌, ℕ, length, kept_in, has_room, IsAsLarge, uncovered, held_below}
use Rattle.race_log.proofs.words.KeptWords.sweep.Given as goal

abbrev pub invariant-loop-number : goal.invariant-loop-number
invariant-loop-number l = record {
  harts : l.self.harts ≡ l.fn.self.harts;
  epochs : l.self.epochs ≡ l.fn.self.epochs;
  pages : length l.self.pages.items ≡ length l.fn.self.pages.items;
  few : l.gone ≤ 64 * 17 * l.number;
  done : (w : ℕ) → w / 256 < l.number → kept_in l.self w ≡ uncovered l.known (kept_in l.fn.self w);
  left : (w : ℕ) → l.number ≤ w / 256 → kept_in l.self w ≡ kept_in l.fn.self w;
  gone : l.gone + held_below (kept_in l.self) (64 * l.number) ≡ held_below (kept_in l.fn.self) (64 * l.number);
  size : IsAsLarge l.fn.self l.self;
  room : (w : ℕ) → has_room l.self w ≡ has_room l.fn.self w;
}
