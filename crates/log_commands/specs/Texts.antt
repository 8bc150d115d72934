-- The texts of intervals, logs and recordings.
use Rattle.std.specs.Prelude.{ℕ, List, [], ◌∷◌, ◌++◌, codes, decimal}
use Rattle.log_commands.specs.Common.{flat_map, EndMark, Content, mark_text}
use Rattle.bn_base.specs.declared.row.Row.{Row}
use Rattle.rv_text.specs.Rows.{row_text}
use Rattle.log_record.specs.declared.record.Record.{Record}
use Rattle.log_record.specs.declared.record.Record.TheVariants.{Header}
use Rattle.hart_replay.specs.Scans.{mark_in}
use Rattle.log_commands.specs.Marks.{counted}
use Rattle.log_file.specs.declared.counting.LogCounts.{LogCounts}
use Rattle.log_file.specs.Counts.{counts_of}

-- ---- the replay of an interval

-- the line before its rows
unfoldable pub begin_text : ℕ → ℕ → ℕ → List ℕ
begin_text hart interval ic = codes "interval " ++ decimal hart ++ codes " " ++ decimal interval ++ (codes " from " ++ decimal ic ++ codes "\n")

-- the lines of rows
unfoldable pub rows_text : List Row → List ℕ
rows_text rows = flat_map row_text rows

-- ---- a log

-- the line of an interval: its hart and number, the counts of its Header and of its End, and how it ended
unfoldable pub interval_text : ℕ → ℕ → ℕ → EndMark → List ℕ
interval_text hart interval ic mark = decimal hart ++ codes " " ++ decimal interval ++ (codes " " ++ decimal ic ++ codes " ") ++ (mark_text mark ++ codes "\n")

-- the line of a record before others: only a Header has one
abbrev pub record_text : Record → List Record → List ℕ
record_text (Header hart interval ic pc x) rs = interval_text hart interval ic (mark_in hart rs)
record_text other rs = []

-- the lines of all intervals that have their Header there, in the order of these
unfoldable pub list_text : List Record → List ℕ
list_text [] = []
list_text (r ∷ rs) = record_text r rs ++ list_text rs

-- the line of these counts of a log
unfoldable pub check_line : LogCounts → List ℕ
check_line n = counted (codes "ok records ") n.records ++ counted (codes " intervals ") n.intervals ++ (counted (codes " dropped ") n.dropped ++ counted (codes " bytes ") n.bytes ++ codes "\n")

-- the line of a log: its records, its intervals, how many records were dropped, and the bytes of those that are kept
abbrev pub check_text : Content → List ℕ
check_text d = check_line (counts_of d)

-- ---- an audit

-- the line of a log that is the file of a run
unfoldable pub agree_text : List ℕ
agree_text = codes "agree\n"

-- ---- a recording

-- its line: turns, instructions, records dropped, bytes kept, and how it ended
unfoldable pub summary_text : (turns instructions dropped kept : ℕ) → (ending : List ℕ) → List ℕ
summary_text turns instructions dropped kept ending = counted (codes "bugnet: turns ") turns ++ counted (codes " instructions ") instructions
    ++ (counted (codes " dropped ") dropped ++ counted (codes " kept ") kept ++ (codes " end " ++ ending ++ codes "\n"))
