use Rattle.row_laws.proofs.Sending.{send_rows_send}
use Rattle.row_laws.proofs.send_rows_send.Goals as goal

pub returns : goal.returns
returns c = send_rows_send
