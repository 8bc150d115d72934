-- With format 1 a log file is of version 1.
use Rattle.run_files.proofs.Common.{ℕ, true, false, List, ◌==◌, ap, file_bytes, file_bytes2, content_of, run_of}
use Rattle.run_files.specs.Files.{FormatOneIsVersionOne}

pub version_one : FormatOneIsVersionOne
version_one c i digest input b e =
    let kept = content_of c digest (run_of c i input b) in
    ap (λ (format : ℕ). elim (format == 2) as (λ t. List ℕ) [ true ↦ file_bytes2 kept | false ↦ file_bytes kept ]) e
