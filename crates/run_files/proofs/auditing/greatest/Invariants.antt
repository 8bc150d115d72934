use Rattle.std.proofs.Common.{◌<◌, ◌≤◌, ℕ, get_or}
use Rattle.run_files.proofs.auditing.greatest.Given as goal

abbrev pub invariant-loop-hart : goal.invariant-loop-hart
invariant-loop-hart l = (k : ℕ) (d : ℕ) → k < l.hart-index → get_or l.list k d ≤ l.most
