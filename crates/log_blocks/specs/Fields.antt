-- The fields of a head of version 2, at their places.
use Rattle.std.specs.Prelude.{ℕ, List, take, drop}
use Rattle.log_blocks.specs.Common.{sha256, number_at, Head}
use Rattle.bn_base.specs.declared.settings.RawSettings.{RawSettings}
use Rattle.log_file.specs.declared.offsets.TheConstants.{HARTS, INTERVAL, LIMIT, LOG_SIZE, MEMORY, SETS, WAYS, LINE, FORMAT, SETS2, WAYS2, PROGRAM2, DROPPED2, N2, DIGEST2}

-- the settings: at the places that version 1 gives them, and after them the format and the second level
abbrev pub settings_in : List ℕ → RawSettings
settings_in bytes = record {
  harts = number_at 4 HARTS bytes;
  interval = number_at 4 INTERVAL bytes;
  limit = number_at 8 LIMIT bytes;
  log_size = number_at 4 LOG_SIZE bytes;
  memory = number_at 4 MEMORY bytes;
  sets = number_at 4 SETS bytes;
  ways = number_at 4 WAYS bytes;
  line = number_at 4 LINE bytes;
  format = number_at 4 FORMAT bytes;
  sets2 = number_at 4 SETS2 bytes;
  ways2 = number_at 4 WAYS2 bytes;
}

-- the program's digest
abbrev pub program_in : List ℕ → List ℕ
program_in bytes = take 32 (drop PROGRAM2 bytes)

-- the head's settings and the program's digest
abbrev pub head_in : List ℕ → Head
head_in bytes = record { settings = settings_in bytes; digest = program_in bytes }

-- how many records were given up
abbrev pub dropped_in : List ℕ → ℕ
dropped_in bytes = number_at 8 DROPPED2 bytes

-- how many bytes the blocks' records have together
abbrev pub size_in : List ℕ → ℕ
size_in bytes = number_at 4 N2 bytes

-- the head's digest, as it stands in the file, and as it should be
abbrev pub kept_digest : List ℕ → List ℕ
kept_digest bytes = take 32 (drop DIGEST2 bytes)

-- the digest that the head should have: that of the bytes before it
abbrev pub head_digest : List ℕ → List ℕ
head_digest bytes = sha256 (take DIGEST2 bytes)

-- the blocks
abbrev pub blocks_in : List ℕ → List ℕ
blocks_in bytes = drop 136 bytes
