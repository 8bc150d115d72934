-- The bytes of a log file: its fields one after another.
use Rattle.std.specs.Prelude.{◌≡◌, ℕ, ◌==◌, true, false, List, ◌++◌, codes, take, drop, length}
use Rattle.log_file.specs.Common.{flat_map, sha256, RawSettings, number_at, number_bytes, Head, bytes_of, total, Content, IsContent}
use Rattle.log_file.specs.Blocks.{blocks_of, all_sealed}
use Rattle.log_file.specs.declared.offsets.TheConstants.{HARTS, INTERVAL, LIMIT, LOG_SIZE, MEMORY, SETS, WAYS, LINE, PROGRAM, DROPPED, N}

-- the bytes that begin each file
unfoldable pub magic : List ℕ
magic = codes "BUGNETLG"

-- magic, the version, and the settings that both versions have
unfoldable pub settings_bytes : ℕ → RawSettings → List ℕ
settings_bytes version s =
    magic ++ number_bytes 4 version ++ number_bytes 4 s.harts ++ number_bytes 4 s.interval ++ number_bytes 8 s.limit ++ number_bytes 4 s.log_size
    ++ number_bytes 4 s.memory ++ number_bytes 4 s.sets ++ number_bytes 4 s.ways ++ number_bytes 4 s.line

-- all bytes before the last digest: the settings, the program's digest, the number of records given up, the number of bytes of the kept ones, and these
unfoldable pub signed_bytes : Head → ℕ → List ℕ → List ℕ
signed_bytes head dropped records = settings_bytes 1 head.settings ++ head.digest ++ number_bytes 8 dropped ++ number_bytes 4 (length records) ++ records

-- the bytes of a file of version 1 with these records' bytes; they end with the digest of all bytes before
abbrev pub spelling : Head → ℕ → List ℕ → List ℕ
spelling head dropped records = signed_bytes head dropped records ++ sha256 (signed_bytes head dropped records)

-- the one spelling in version 1 of what a log says
abbrev pub file_bytes : Content → List ℕ
file_bytes c = spelling c.head c.dropped (flat_map bytes_of c.records)

-- what version 1 can say: its settings are those of format 1, which has no other fields
abbrev pub IsVersion1 : Content → Type 0
IsVersion1 c = IsContent c × (c.head.settings.format ≡ 1)

-- ---- version 2

-- the head's bytes before its digest: as in version 1, then the format and the second level, the program's digest, the
-- number of records given up, and the number of bytes of the kept ones
unfoldable pub head_bytes2 : Head → (dropped size : ℕ) → List ℕ
head_bytes2 head dropped size =
    settings_bytes 2 head.settings ++ number_bytes 4 head.settings.format ++ number_bytes 4 head.settings.sets2 ++ number_bytes 4 head.settings.ways2
    ++ head.digest ++ number_bytes 8 dropped ++ number_bytes 4 size

-- the one spelling in version 2 of what a log says: the head, its digest, and the blocks
abbrev pub file_bytes2 : Content → List ℕ
file_bytes2 c =
    let head = head_bytes2 c.head c.dropped (total c.records) in
    let digest = sha256 head in
    head ++ digest ++ all_sealed digest (blocks_of c.dropped c.records)

-- the bytes of what a recording keeps, in the version of its settings' format: format 2 in version 2, any other in version 1
abbrev pub saved_bytes : Content → List ℕ
saved_bytes c = elim (c.head.settings.format == 2) [ true ↦ file_bytes2 c | false ↦ file_bytes c ]

-- ---- fields at their places

-- the settings at their places; a file of version 1 has no others
abbrev pub settings_in : List ℕ → RawSettings
settings_in bytes = record {
  harts = number_at 4 HARTS bytes;
  interval = number_at 4 INTERVAL bytes;
  limit = number_at 8 LIMIT bytes;
  log_size = number_at 4 LOG_SIZE bytes;
  memory = number_at 4 MEMORY bytes;
  sets = number_at 4 SETS bytes;
  ways = number_at 4 WAYS bytes;
  line = number_at 4 LINE bytes;
  format = 1;
  sets2 = 0;
  ways2 = 0;
}

-- the program's digest at its place
abbrev pub digest_in : List ℕ → List ℕ
digest_in bytes = take 32 (drop PROGRAM bytes)

-- the head's settings and digest
abbrev pub head_in : List ℕ → Head
head_in bytes = record { settings = settings_in bytes; digest = digest_in bytes }

-- how many records were given up, by the field at its place
abbrev pub dropped_in : List ℕ → ℕ
dropped_in bytes = number_at 8 DROPPED bytes

-- how many bytes the records have, by the field at its place
abbrev pub size_in : List ℕ → ℕ
size_in bytes = number_at 4 N bytes
