use Rattle.file_laws.proofs.Salvaged.{salvaged_suffice}
use Rattle.file_laws.proofs.salvaged_files_suffice.Goals as goal

pub returns : goal.returns
returns c = salvaged_suffice c.logs_are_contents.ensures c.salvaged_blocks_are_an_end.ensures c.kept_records_are_an_end.ensures c.ends_suffice.ensures
