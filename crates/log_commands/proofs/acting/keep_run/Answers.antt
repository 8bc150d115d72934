use Rattle.log_commands.proofs.Common.{ActsTo}
use Rattle.log_commands.proofs.Answering.{passed-on}
use Rattle.log_commands.proofs.Kept.{run-unsaved, run-stopped, run-half, run-kept}
use Rattle.log_commands.proofs.acting.keep_run.Goals as goal

pub returns-in_err-save_run : goal.returns-in_err-save_run
returns-in_err-save_run g c = passed-on (ActsTo _ _ _ _ _) _ _ c.from_residual.ensures.1 (run-unsaved _ _ _ _ _ _ _ _ c.in_err-save_run.ensures)

pub returns-in_err-send_bytes : goal.returns-in_err-send_bytes
returns-in_err-send_bytes g c = passed-on (ActsTo _ _ _ _ _) _ _ c.from_residual-in_err-send_bytes.ensures.1 (run-stopped _ _ _ _ _ _ _ _ _ c.in_ok-save_run.ensures (rw c.deref.ensures.value at c.in_err-send_bytes.ensures))

pub returns-in_err-send_bytes-2 : goal.returns-in_err-send_bytes-2
returns-in_err-send_bytes-2 g c = passed-on (ActsTo _ _ _ _ _) _ _ c.from_residual-in_err-send_bytes-2.ensures.1 (
    run-half _ _ _ _ _ _ _ _ _ _ c.in_ok-save_run.ensures (rw c.deref.ensures.value at c.in_ok-send_bytes.ensures) (rw c.deref-2.ensures.value at c.in_err-send_bytes-2.ensures))

pub returns : goal.returns
returns g c =
    run-kept _ _ _ _ _ _ _ _ _ _ c.status.ensures c.in_ok-save_run.ensures (rw c.deref.ensures.value at c.in_ok-send_bytes.ensures) (rw c.deref-2.ensures.value at c.in_ok-send_bytes-2.ensures)
