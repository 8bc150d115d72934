use Rattle.std.proofs.Common.{◌≡◌, ◌+◌, length}
use Rattle.log_tests.proofs.ring.append_all.Given as goal

abbrev pub invariant-entries : goal.invariant-entries
invariant-entries l = l.ring.dropped + length l.ring.records ≡ l.fn.ring.dropped + length l.fn.ring.records + l._turn
