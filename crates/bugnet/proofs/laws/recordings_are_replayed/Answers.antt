use Rattle.bugnet.proofs.Suffices.{replayed_so}
use Rattle.bugnet.proofs.laws.recordings_are_replayed.Goals as goal

pub returns : goal.returns
returns c = replayed_so c.logs_are_contents.ensures c.saved_files_keep_to_the_limit.ensures c.files_are_read.ensures c.kept_records_are_an_end.ensures c.headline.ensures
