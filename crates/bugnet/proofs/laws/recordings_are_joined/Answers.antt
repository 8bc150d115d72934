use Rattle.bugnet.proofs.Jointly.{joined_so}
use Rattle.bugnet.proofs.laws.recordings_are_joined.Goals as goal

pub returns : goal.returns
returns c = joined_so c.logs_are_contents.ensures c.saved_files_keep_to_the_limit.ensures c.files_are_read.ensures c.kept_records_are_an_end.ensures c.joint_headline.ensures
