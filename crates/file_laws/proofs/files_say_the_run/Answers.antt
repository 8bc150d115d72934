use Rattle.file_laws.proofs.Common.{Ok, sha256, content_of, run_of}
use Rattle.run_files.specs.Files.{file_of}
use Rattle.file_laws.proofs.Salvaged.{same_log}
use Rattle.file_laws.proofs.files_say_the_run.Goals as goal

pub returns : goal.returns
returns c s i elf input b r d known e =
    same_log d (content_of s (sha256 elf) (run_of s i input b)) (
    c.readings_are_unique.ensures (file_of s i (sha256 elf) input b) (Ok d) (Ok (content_of s (sha256 elf) (run_of s i input b))) (known, e) (c.files_are_read.ensures s i elf input b r))
