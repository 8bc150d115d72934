use Rattle.std.proofs.Common.{Ok, Err}
use Rattle.log_file.proofs.Tests.{counts_file, counts_only}
use Rattle.log_file.proofs.reading.count_file.Goals as goal

pub returns-in-Ok-clause-counted : goal.returns-in-Ok-clause-counted
returns-in-Ok-clause-counted c = counts_file c.args.bytes.now c.in-Ok.tested c.in-Ok.ensures.tested

pub returns-in-Ok-clause-only : goal.returns-in-Ok-clause-only
returns-in-Ok-clause-only c = counts_only c.files_say_one_thing.ensures c.logs_are_not_refused.ensures c.args.bytes.now (Ok c.in-Ok.tested.counts) (counts_file c.args.bytes.now c.in-Ok.tested c.in-Ok.ensures.tested) tt tt

pub returns-in-Err-clause-only : goal.returns-in-Err-clause-only
returns-in-Err-clause-only c = counts_only c.files_say_one_thing.ensures c.logs_are_not_refused.ensures c.args.bytes.now (Err c.in-Err.fault) tt c.in-Err.ensures.refused c.in-Err.ensures.memory
