use Rattle.hart_worker.proofs.Common.{◌≡◌, drop, rows_by}
use Rattle.hart_worker.proofs.comparing.agrees.Given as goal

abbrev pub invariant-loop-row : goal.invariant-loop-row
invariant-loop-row l =
    (rows_by l.hart (drop l.row-index l.rows) ≡ l.rest → rows_by l.hart l.rows ≡ l.mine) × (rows_by l.hart l.rows ≡ l.mine → rows_by l.hart (drop l.row-index l.rows) ≡ l.rest)
