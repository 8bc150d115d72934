use Rattle.race_report.proofs.Common.{◌≡◌, ℕ, length, None, head_at}
use Rattle.race_report.proofs.track.Track.new.Given as goal

abbrev pub invariant-loop : goal.invariant-loop
invariant-loop l = record {
  count : length l.heads.items ≡ l.counter;
  none : (h w : ℕ) → head_at l.heads.items h w ≡ None;
}
