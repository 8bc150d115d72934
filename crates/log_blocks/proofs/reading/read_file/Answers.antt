use Rattle.log_blocks.proofs.Versions.{read_first_only, read_second_only}
use Rattle.log_blocks.proofs.reading.read_file.Goals as goal

pub returns-clause-first : goal.returns-clause-first
returns-clause-first c = read_first_only c.files_name_their_version.ensures c.files_say_one_thing.ensures c.logs_are_not_refused.ensures c.args.bytes.now c.read_either.result c.read_either.ensures.content c.read_either.ensures.found c.read_either.ensures.refused

pub returns-clause-second : goal.returns-clause-second
returns-clause-second c = read_second_only c.files_name_their_version.ensures c.files_say_one_thing-2.ensures c.logs_are_not_refused-2.ensures c.args.bytes.now c.read_either.result c.read_either.ensures.content c.read_either.ensures.found c.read_either.ensures.refused
