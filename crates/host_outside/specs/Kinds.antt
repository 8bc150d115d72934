-- The kind of a file, and whether it is there.
use Rattle.std.specs.Prelude.{◌≡◌, ◌⊎◌, bit_and, Result, IsErrAnd}
use Rattle.std.specs.Fs.{metadata_mode, file_type, IsFile}
use Rattle.std.specs.IoError.{error_kind}
use Rattle.std.specs.declared.fs.attrs.Metadata.{Metadata}
use Rattle.std.specs.declared.io.Error.{Error}
use Rattle.std.specs.declared.io.ErrorKind.TheVariants.{NotFound, OutOfMemory}

-- a device of characters or a pipe, as a terminal: it keeps nothing that a save could destroy
abbrev pub IsStream : Metadata → Type 0
IsStream metadata = (bit_and (metadata_mode metadata) 0o170000 ≡ 0o020000) ⊎ (bit_and (metadata_mode metadata) 0o170000 ≡ 0o010000)

-- a regular file
abbrev pub IsRegular : Metadata → Type 0
IsRegular metadata = IsFile (file_type metadata)

-- a look for a file found none
abbrev pub IsMissing : {T : Type 0} → Result T Error → Type 0
IsMissing found = IsErrAnd found (λ e. error_kind e ≡ NotFound)

-- a try to open a file ran out of memory
abbrev pub RanOutOfMemory : {T : Type 0} → Result T Error → Type 0
RanOutOfMemory found = IsErrAnd found (λ e. error_kind e ≡ OutOfMemory)
