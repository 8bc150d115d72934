use Rattle.hart_worker.proofs.Common.{ℕ, ◌<◌, rows_by, began_of, IsHartsOwn}
use Rattle.hart_worker.proofs.comparing.agree_all.Given as goal

abbrev pub invariant-loop-hart : goal.invariant-loop-hart
invariant-loop-hart l = (k : ℕ) → k < l.hart → IsHartsOwn (began_of l.from) k (rows_by k l.rows)
