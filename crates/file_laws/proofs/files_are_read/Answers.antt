use Rattle.file_laws.proofs.Common.{sha256, content_of, run_of}
use Rattle.file_laws.proofs.files_are_read.Goals as goal

pub returns : goal.returns
returns c s i elf input b r = c.files_are_read.ensures.saved (content_of s (sha256 elf) (run_of s i input b)) (c.logs_are_contents.ensures s i elf input b r)
