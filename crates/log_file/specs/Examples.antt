-- Heads of small logs.
use Rattle.std.specs.Prelude.{ℕ, replicate, [], List, ◌++◌}
use Rattle.log_file.specs.Common.{default_settings, RawSettings, number_bytes, Head}
use Rattle.log_file.specs.Layout.{settings_bytes, signed_bytes}

-- 32 bytes in the place of a digest
abbrev pub no_digest : List ℕ
no_digest = replicate 32 0

-- a head with these settings
abbrev pub head_of : RawSettings → Head
head_of s = record { settings = s; digest = no_digest }

-- the bytes up to the last digest, with no record, of a log with so many harts
abbrev pub signed : ℕ → List ℕ
signed harts = signed_bytes (head_of (record default_settings { harts = harts })) 0 []

-- the bytes up to the last digest of a log that names another version
abbrev pub signed_as : ℕ → List ℕ
signed_as version = settings_bytes version default_settings ++ no_digest ++ number_bytes 8 0 ++ number_bytes 4 0
