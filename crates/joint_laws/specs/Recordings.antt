-- Recordings, the records that logs have of them, and the orders that these allow.
use Rattle.std.specs.Prelude.{ℕ, ◌+◌, List, take}
use Rattle.joint_laws.specs.Common.{flat_map, Row, HartState, Record, Point, IsToDo, Joining, Walk, fresh, IsBegun, IsAllowed}
use Rattle.bn_base.specs.Programs.{Program}
use Rattle.bn_base.specs.declared.settings.RawSettings.{RawSettings}
use Rattle.run_model.specs.KeptRecords.{IsEndOf, kept_of}
use Rattle.run_model.specs.Rows.{rows_of, rows_in}
use Rattle.run_model.specs.Runs.{start, run_of}
use Rattle.run_model.specs.Turn.{Run}
use Rattle.file_laws.specs.Given.{IsRecording}
use Rattle.joint_replay.specs.Points.{intervals_in}

-- what is recorded: settings, program, the bytes of its file, input, list of turns
pub record Recording : Type 0 where
  pub settings : RawSettings
  pub program : Program
  pub elf : List ℕ
  pub input : List ℕ
  pub turns : List ℕ

-- what is recorded is a recording, as `file_laws` has it
abbrev pub IsRecorded : Recording → Type 0
IsRecorded r = IsRecording r.settings r.program r.elf r.input r.turns

-- its run
abbrev pub recorded : Recording → Run
recorded r = run_of r.settings r.program r.input r.turns

-- the accesses of its run, in order
abbrev pub points_of : Recording → List Point
points_of r = (recorded r).points

-- the rows of hart h, and its state before the first
abbrev pub rows_of_hart : Recording → (h : ℕ) → List Row
rows_of_hart r h = rows_of r.settings r.program (start r.settings r.program r.input) r.turns h

-- the state of hart h before its first row
abbrev pub first_state : Recording → (h : ℕ) → HartState
first_state r h = ((start r.settings r.program r.input).harts h).state

-- the rows of hart h in its interval n
abbrev pub interval_rows : Recording → (h n : ℕ) → List Row
interval_rows r h n = rows_in r.settings r.program (start r.settings r.program r.input) r.turns h n

-- the rows of its intervals of which the Headers are among the records, one interval after another
abbrev pub retained_rows : Recording → List Record → (h : ℕ) → List Row
retained_rows r records h = flat_map (interval_rows r h) (intervals_in h records)

-- memory right after the turn of a point
abbrev pub memory_right_after : Recording → Point → ℕ → ℕ
memory_right_after r p = (run_of r.settings r.program r.input (take (p.turn + 1) r.turns)).machine.memory

-- what its own log keeps
abbrev pub kept : Recording → List Record
kept r = kept_of r.settings (recorded r)

-- a log of the recording may have these records: they are the last ones of its stream, wherever they begin
pub record IsLogOf (r : Recording) (records : List Record) : Type 0 where
  pub recording : IsRecorded r
  pub end : IsEndOf (recorded r).stream records

-- ---- orders

-- the joint replay of the records before its first step
abbrev pub begin : Recording → List Record → Joining
begin r records = fresh r.program r.settings.harts records

-- the beginning of an order that the records allow, and its walk
abbrev pub Begun : Recording → List Record → List ℕ → Walk → Type 0
Begun r records order w = IsBegun r.program r.settings.harts records order w

-- a whole one
abbrev pub Allowed : Recording → List Record → List ℕ → Walk → Type 0
Allowed r records order w = IsAllowed r.program r.settings.harts records order w

-- it holds of each beginning of each order that any log of any recording allows
abbrev pub OfBeginnings : (Recording → List Record → Walk → Type 0) → Type 0
OfBeginnings Holds = (r : Recording) (records : List Record) (order : List ℕ) (w : Walk) → IsLogOf r records → Begun r records order w → Holds r records w

-- it holds of each whole order that any log of any recording allows
abbrev pub OfWholeOrders : (Recording → List Record → Walk → Type 0) → Type 0
OfWholeOrders Holds = (r : Recording) (records : List Record) (order : List ℕ) (w : Walk) → IsLogOf r records → Allowed r records order w → Holds r records w

-- an instruction of a retained interval
abbrev pub IsRetained : Recording → List Record → Point → Type 0
IsRetained r records p = IsToDo (begin r records) p.hart p.count
