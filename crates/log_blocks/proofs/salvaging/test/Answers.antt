use Rattle.std.proofs.Common.{inl}
use Rattle.log_blocks.proofs.Tested.{head-named}
use Rattle.log_blocks.proofs.Salvaged.{no_memory}
use Rattle.log_blocks.proofs.salvaging.test.Goals as goal

pub returns-in-Err-clause-refused : goal.returns-in-Err-clause-refused
returns-in-Err-clause-refused c = (inl c.in-Err.ensures.err, no_memory c.in-Err.fault (head-named c.args.bytes.now c.in-Err.fault c.in-Err.ensures.err))
