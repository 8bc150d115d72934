use Rattle.run_laws.proofs.kept_records_are_an_end.Goals as goal

pub returns : goal.returns
returns c s run = let part = c.a_suffix_is_kept.ensures s.log_size run.stream in record { front = part.0; parts = part.1 }
