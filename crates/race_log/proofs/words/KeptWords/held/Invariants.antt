use Rattle.race_log.proofs.Common.{◌≡◌, ◌≤◌, ◌*◌, kept_in, held_below}
use Rattle.race_log.proofs.words.KeptWords.held.Given as goal

abbrev pub invariant-loop-number : goal.invariant-loop-number
invariant-loop-number l = record {
  held : l.held ≡ held_below (kept_in l.self) (64 * l.number);
  few : l.held ≤ 64 * 17 * l.number;
}
