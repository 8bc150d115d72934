use Rattle.bugnet.proofs.Common.{◌≡◌, ◌+◌, ◌*◌, ◌==◌, ℕ, Bool, true, false, List, length, arith, file_bytes, file_bytes2, Content, total, sha256, content_of, run_of, LogsAreContents, FilesKeepToTheirSize}
use Rattle.log_file.specs.Blocks.{blocks_of}
use Rattle.log_file.specs.Laws as of_first
use Rattle.log_blocks.specs.Laws as of_second
use Rattle.bugnet.proofs.laws.files_keep_to_their_size.Goals as goal

-- The file of what a recording keeps has its size, in the version of its settings' format.
in-all : (whole records blocks : ℕ) → whole ≡ records + 136 + 48 * blocks → whole ≡ records + (136 + 48 * blocks)
in-all whole records blocks e = omega (arith, e)

by-version : (second : Bool) (d : Content) → length (file_bytes d) ≡ total d.records + 124 → length (file_bytes2 d) ≡ total d.records + 136 + 48 * length (blocks_of d.dropped d.records)
    → length (elim second as (λ t. List ℕ) [ true ↦ file_bytes2 d | false ↦ file_bytes d ])
    ≡ total d.records + (elim second as (λ t. ℕ) [ true ↦ 136 + 48 * length (blocks_of d.dropped d.records) | false ↦ 124 ])
by-version true d first second = in-all (length (file_bytes2 d)) (total d.records) (length (blocks_of d.dropped d.records)) second
by-version false d first second = first

files_keep : LogsAreContents → of_first.HaveTheirSize → of_second.HaveTheirSize → FilesKeepToTheirSize
files_keep contents first second s i elf input b is =
    let d = content_of s (sha256 elf) (run_of s i input b) in
    let whole = contents s i elf input b is in
    record { kept = whole.bound; file = by-version (d.head.settings.format == 2) d (first d whole) (second d whole) }

pub returns : goal.returns
returns c = files_keep c.logs_are_contents.ensures c.files_have_their_size.ensures c.files_have_their_size-2.ensures
