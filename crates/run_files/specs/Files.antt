-- The log file of a run.
use Rattle.std.specs.Prelude.{ℕ, ◌≡◌, List}
use Rattle.bn_base.specs.Programs.{Program}
use Rattle.bn_base.specs.declared.settings.RawSettings.{RawSettings}
use Rattle.log_file.specs.Layout.{file_bytes, saved_bytes}
use Rattle.run_model.specs.KeptRecords.{content_of}
use Rattle.run_model.specs.Runs.{run_of}

-- the bytes of the log file of the run of a list of turns, in the version of its settings' format
abbrev pub file_of : RawSettings → Program → (digest input : List ℕ) → List ℕ → List ℕ
file_of c i digest input b = saved_bytes (content_of c digest (run_of c i input b))

-- with format 1 this is version 1
abbrev pub FormatOneIsVersionOne : Type 0
FormatOneIsVersionOne = (c : RawSettings) (i : Program) (digest input b : List ℕ) → c.format ≡ 1 → file_of c i digest input b ≡ file_bytes (content_of c digest (run_of c i input b))
