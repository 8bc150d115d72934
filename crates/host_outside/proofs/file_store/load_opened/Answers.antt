use Rattle.host_outside.proofs.Tries.{a_file, is_spared, no_file}
use Rattle.host_outside.proofs.file_store.load_opened.Goals as goal

pub returns-in-Ok-clause-told : goal.returns-in-Ok-clause-told
returns-in-Ok-clause-told g c = a_file g.F.Read.remaining c.args.limit c.open_to_load.new.spared c.args.tried c.in-Ok.opened c.read_file.result c.in-Ok.ensures.told c.read_file.ensures.told

pub returns-in-Err-clause-told : goal.returns-in-Err-clause-told
returns-in-Err-clause-told g c = no_file _ g.F.Read.remaining c.args.limit c.open_to_load.new.spared c.args.tried c.in-Err.error c.in-Err.ensures.told

pub read_file-requires : goal.read_file-requires
read_file-requires g c = is_spared c.open_to_load.new.spared c.args.tried c.in-Ok.opened c.in-Ok.ensures.told
