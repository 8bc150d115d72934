use Rattle.std.proofs.Common.{sym, ◌∙◌}
use Rattle.log_blocks.proofs.Salvaged.{no_memory}
use Rattle.log_blocks.proofs.Tallied.{counts_second}
use Rattle.log_blocks.proofs.counting.count_file.Goals as goal

pub returns-in-Ok-clause-counted : goal.returns-in-Ok-clause-counted
returns-in-Ok-clause-counted c = counts_second c.args.bytes.now c.in-Ok.tested (sym c.is_second.ensures ∙ c.if-is_second.true) c.in-Ok.ensures.tested

pub returns-in-Err-count_file-clause-memory : goal.returns-in-Err-count_file-clause-memory
returns-in-Err-count_file-clause-memory c = λ e. absurd (no_memory c.in-Err-count_file.fault c.in-Err-count_file.ensures.memory e)
