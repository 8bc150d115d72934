use Rattle.file_laws.specs.Recorded.{ring_content}
use Rattle.file_laws.proofs.files_of_rows_are_read.Goals as goal

pub returns : goal.returns
returns c s i input digest rows ring h size = c.files_are_read.ensures.saved (ring_content s digest ring) (c.logs_of_rows_are_contents.ensures s i input digest rows ring h size)
