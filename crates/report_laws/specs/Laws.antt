-- What a race report of a recording's log says of the run.
use Rattle.std.specs.Prelude.{◌≡◌, ℕ, ◌<◌, ◌↔◌, List, slice_get, Some, Ok}
use Rattle.log_record.specs.declared.record.Record.{Record}
use Rattle.log_order.specs.Content.{Content}
use Rattle.joint_replay.specs.Joining.{run_all}
use Rattle.race_report.specs.declared.race.Race.{Race}
use Rattle.race_log.specs.Kept.{In}
use Rattle.race_report.specs.Points.{Accessing}
use Rattle.race_report.specs.Races.{races_of}
use Rattle.race_report.specs.Laws.{IsRaceOf, Ascend, AreAlike}
use Rattle.race_report.specs.Reports.{IsReport, joint_of, points_in}
use Rattle.joint_laws.specs.Laws.{IsFileOf}
use Rattle.joint_laws.specs.Recordings.{Recording, IsRecorded, IsLogOf, begin}
use Rattle.report_laws.specs.Recorded.{IsPointOf, recorded_points}

-- the points that the joint replay of a log does, in its order
abbrev pub replayed_points : Recording → List Record → List Accessing
replayed_points r records = points_in (run_all (begin r records))

-- Each point of the joint replay is one of the run, with the same accesses
abbrev pub PointsAreRecorded : Type 0
PointsAreRecorded = (r : Recording) (records : List Record) → IsLogOf r records → (m : ℕ) (p : Accessing) → slice_get (replayed_points r records) m ≡ Some p → (place : ℕ) × IsPointOf r p place

-- The recorded points stand in the order of the run
abbrev pub StandAsRecorded : Type 0
StandAsRecorded = (r : Recording) (records : List Record) → IsLogOf r records → (m n : ℕ) (p q : Accessing) → slice_get (recorded_points r records) m ≡ Some p
    → slice_get (recorded_points r records) n ≡ Some q → m < n → (i : ℕ) × (j : ℕ) × IsPointOf r p i × IsPointOf r q j × (i < j)

-- The joint replay has the recorded points, and those that conflict in the recorded order
abbrev pub ConflictsStandAsRecorded : Type 0
ConflictsStandAsRecorded = (r : Recording) (records : List Record) → IsLogOf r records → AreAlike (replayed_points r records) (recorded_points r records)

-- Races are those of the recorded points, as they stand in the run, each once: pairs that conflict, if no chain of program
-- order and of synchronisation leads from the one to the other
pub record SayTheRun (r : Recording) (records : List Record) (races : List Race) : Type 0 where
  pub are : races ≡ races_of r.settings.harts (recorded_points r records)
  pub each : (x : Race) → In races x ↔ IsRaceOf (recorded_points r records) x
  pub ascend : Ascend races

-- The races of the joint replay of each log of a recording say the run
abbrev pub RacesSayTheRun : Type 0
RacesSayTheRun = (r : Recording) (records : List Record) → IsLogOf r records → SayTheRun r records (races_of r.settings.harts (replayed_points r records))

-- The races of a report say the run, if the bytes of its log are those of the recording's file
abbrev pub ReportsSayTheRun : Type 0
ReportsSayTheRun = (r : Recording) (d : Content) → IsRecorded r → IsFileOf r d → (most : ℕ) (races : List Race)
    → IsReport d.head.settings.harts most (joint_of r.program d) (Ok races) → SayTheRun r d.records races
