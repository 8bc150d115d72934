use Rattle.log_file.proofs.Again.{read_only}
use Rattle.log_file.proofs.reading.read_file.Goals as goal

pub returns-clause-only : goal.returns-clause-only
returns-clause-only c = read_only c.files_say_one_thing.ensures c.logs_are_not_refused.ensures c.args.bytes.now c.read.result c.read.ensures.content c.read.ensures.found c.read.ensures.refused
