use Rattle.race_log.proofs.Common.{◌≡◌, ℕ, kept_in, has_room, IsAsLarge, kept_of_slot, KeepsAccess}
use Rattle.race_log.proofs.words.KeptWords.keep_each.Given as goal

abbrev pub invariant-loop-i : goal.invariant-loop-i
invariant-loop-i l = record {
  harts : l.self.harts ≡ l.initial.self.harts;
  epochs : l.self.epochs ≡ l.initial.self.epochs;
  kept : KeepsAccess (kept_of_slot l.initial.self.epochs l.mode l.slot) l.first l.i (kept_in l.initial.self) (kept_in l.self);
  size : IsAsLarge l.initial.self l.self;
  room : (w : ℕ) → has_room l.self w ≡ has_room l.initial.self w;
}
