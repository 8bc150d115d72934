-- What a recording keeps, as a log has it.
use Rattle.std.specs.Prelude.{◌≡◌, ℕ, true, List, ◌∷◌, ◌++◌, length, Some, None, Ok}
use Rattle.sha2.specs.Sha256.{sha256}
use Rattle.file_laws.specs.Common.{Program, IsSetting, RawSettings, TurnRow, Held, HoldsLog, broken_by, Content, IsContent, Interval, interval_of, replayed, Done, rows_in, start, run_of, has_finished, kept_of, dropped_of, content_of, IsEndOf, after_rows, are_orderly, IsLawful}
use Rattle.log_record.specs.declared.head.Head.{Head}
use Rattle.log_file.specs.Blocks.{Block, blocks_of}
use Rattle.log_file.specs.Layout.{saved_bytes}
use Rattle.log_blocks.specs.File.{IsSpelled, HasBlocks, dropped_before}
use Rattle.log_blocks.specs.Laws.{pieces_of}
use Rattle.log_blocks.specs.Readings.{Reads}
use Rattle.run_files.specs.Files.{file_of}
use Rattle.file_laws.specs.Given.{IsRecording}
use Rattle.file_laws.specs.Recorded.{counts_of, KeepsRules, HoldsLogOfRows, ring_content}

-- After lawful rows, whoever made their asks, the kept records keep the rules of single records
abbrev pub KeptRecordsKeepTheRules : Type 0
KeptRecordsKeepTheRules = (c : RawSettings) (i : Program) (input : List ℕ) (rows : List TurnRow) → IsSetting c → IsLawful c i (start c i input) rows
    → let run = after_rows c i (start c i input) rows in KeepsRules c (counts_of run) (dropped_of c run) (kept_of c run)

-- So do the records of a ring of the log's size that holds the log of lawful rows
abbrev pub RingsKeepTheRules : Type 0
RingsKeepTheRules = (c : RawSettings) (i : Program) (input : List ℕ) (rows : List TurnRow) (ring : Held) → IsSetting c → IsLawful c i (start c i input) rows
    → let run = after_rows c i (start c i input) rows in HoldsLog ring run.stream → ring.size ≡ c.log_size → KeepsRules c (counts_of run) ring.dropped ring.records

-- After lawful rows of orderly asks that leave no hart live, they keep all rules
abbrev pub FinishedLogsAreInOrder : Type 0
FinishedLogsAreInOrder = (c : RawSettings) (i : Program) (input : List ℕ) (rows : List TurnRow) → IsSetting c → IsLawful c i (start c i input) rows
    → are_orderly c i (start c i input) rows ≡ true → let run = after_rows c i (start c i input) rows in has_finished c run ≡ true
    → broken_by c (dropped_of c run) (kept_of c run) ≡ None

-- What is kept of a recording is what a log can say
abbrev pub LogsAreContents : Type 0
LogsAreContents = (c : RawSettings) (i : Program) (elf input b : List ℕ) → IsRecording c i elf input b → IsContent (content_of c (sha256 elf) (run_of c i input b))

-- All records of a recording are in order, whatever of them is kept
abbrev pub StreamsAreInOrder : Type 0
StreamsAreInOrder = (c : RawSettings) (i : Program) (elf input b : List ℕ) → IsRecording c i elf input b → broken_by c 0 (run_of c i input b).stream ≡ None

-- The file of a recording, in either version, says just what was kept: it is read, and has no cause for a refusal
abbrev pub FilesAreRead : Type 0
FilesAreRead = (c : RawSettings) (i : Program) (elf input b : List ℕ) → IsRecording c i elf input b
    → Reads (file_of c i (sha256 elf) input b) (Ok (content_of c (sha256 elf) (run_of c i input b)))

-- A log of which that file is the spelling is what was kept
abbrev pub FilesSayTheRun : Type 0
FilesSayTheRun = (c : RawSettings) (i : Program) (elf input b : List ℕ) → IsRecording c i elf input b
    → (d : Content) → IsContent d → IsSpelled (file_of c i (sha256 elf) input b) d → d ≡ content_of c (sha256 elf) (run_of c i input b)

-- Each interval of a hart whose Header such a log has is replayed from it as it was recorded
abbrev pub FilesSuffice : Type 0
FilesSuffice = (c : RawSettings) (i : Program) (elf input b : List ℕ) → IsRecording c i elf input b
    → (d : Content) → IsContent d → IsSpelled (file_of c i (sha256 elf) input b) d
    → (h n : ℕ) (v : Interval) → interval_of h n d.records ≡ Some v → replayed i d.records h n ≡ record { rows = rows_in c i (start c i input) b h n; outcome = Done }

-- What is salvaged of a file suffices too, if the blocks that are kept are the last of a recording's. The log of these has
-- the run's last records, and each interval of a hart whose Header it has is replayed from it as it was recorded
abbrev pub SalvagedFilesSuffice : Type 0
SalvagedFilesSuffice = (c : RawSettings) (i : Program) (elf input b : List ℕ) → IsRecording c i elf input b
    → (front : List Block) (p : Block) (back : List Block) → blocks_of (dropped_of c (run_of c i input b)) (kept_of c (run_of c i input b)) ≡ front ++ p ∷ back
    → (head : Head) (dropped place : ℕ) (d : Content) → HasBlocks head (dropped_before dropped (pieces_of (p ∷ back))) place (pieces_of (p ∷ back)) d
    → IsEndOf (run_of c i input b).stream d.records
    × ((h n : ℕ) (v : Interval) → interval_of h n d.records ≡ Some v → replayed i d.records h n ≡ record { rows = rows_in c i (start c i input) b h n; outcome = Done })

-- What a ring holds after lawful rows of orderly asks that leave no hart live, whoever made these, is what a log can say
abbrev pub LogsOfRowsAreContents : Type 0
LogsOfRowsAreContents = (c : RawSettings) (i : Program) (input digest : List ℕ) (rows : List TurnRow) (ring : Held) → HoldsLogOfRows c i input rows ring → length digest ≡ 32
    → IsContent (ring_content c digest ring)

-- The file of such a ring says what the ring holds, and has no cause for a refusal
abbrev pub FilesOfRowsAreRead : Type 0
FilesOfRowsAreRead = (c : RawSettings) (i : Program) (input digest : List ℕ) (rows : List TurnRow) (ring : Held) → HoldsLogOfRows c i input rows ring → length digest ≡ 32
    → Reads (saved_bytes (ring_content c digest ring)) (Ok (ring_content c digest ring))
