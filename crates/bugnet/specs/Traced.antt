-- What the commands `races` and `slice` answer of a log that says an end of a recording.
use Rattle.std.specs.Prelude.{◌≡◌, ℕ, nat_lt, List, length, Option, Some, None}
use Rattle.bugnet.specs.Common.{Files, RacesLine, SliceLine, Record, Interval, interval_of, Recording, interval_rows, FileNames, Told, refused, printed, Either, races_listed, slice_told, TooLong, ReplayStopped, code}
use Rattle.hart_replay.specs.declared.error.ReplayError.TheVariants.{NoInterval}
use Rattle.race_report.specs.Races.{race_count, races_of}
use Rattle.race_report.specs.Reports.{points_in}
use Rattle.race_report.specs.Texts.{races_text}
use Rattle.race_report.specs.declared.race.Race.{Race}
use Rattle.report_laws.specs.Laws.{SayTheRun}
use Rattle.slice_back.specs.Slices.{noted, up_to, slice_or}
use Rattle.slice_back.specs.Texts.{text_of}
use Rattle.bugnet.specs.Answers.{names_in, IsAnswer}
use Rattle.bugnet.specs.Jointly.{joint_run, HasRun}
use Rattle.log_commands.specs.declared.names.Role.TheVariants as role
use Rattle.log_commands.specs.declared.status.Status.TheVariants as exit

-- a program file of more than 2 ^ 26 bytes is too long for any command, also for the one that records
abbrev pub UnlessLong : FileNames → Recording → Told → Type 0 → Type 0
UnlessLong names r what Is = Either (nat_lt 67108864 (length r.elf)) (what ≡ refused names (TooLong role.Elf)) Is

-- the races of the joint replay of a recording's records, or that there are too many. It isn't stopped
abbrev pub races_kept : FileNames → Recording → List Record → (most : ℕ) → Told
races_kept names r records most =
    let run = joint_run r records in
    races_listed (nat_lt most (race_count (points_in run))) names most (races_of r.settings.harts (points_in run))

-- the only answer to `races` of a recording's log with its program is the races of their joint replay, or that there are too
-- many
abbrev pub RacesAreTold : Type 0
RacesAreTold = (log elf : List ℕ) (most : ℕ) (files : Files) (r : Recording) (h : HasRun log elf files r)
    → (what : Told) → IsAnswer None (Some (RacesLine log elf most)) files what
    → UnlessLong (names_in (RacesLine log elf most)) r what (what ≡ races_kept (names_in (RacesLine log elf most)) r h.says.log.records most)

-- A text of races is printed: exactly the races of the run's own points of which these records retain the rows, each once. A
-- race is two points that access a word, one of them writing it, if no chain of program order and of synchronisation leads
-- from the one to the other
pub record ListsRaces (r : Recording) (records : List Record) (what : Told) : Type 0 where
  pub races : List Race
  pub text : what ≡ printed (races_text races)
  pub run : SayTheRun r records races

-- what `races` prints of a recording's log are the races of the run's own points
abbrev pub PrintedRacesSayTheRun : Type 0
PrintedRacesSayTheRun = (log elf : List ℕ) (most : ℕ) (files : Files) (r : Recording) (h : HasRun log elf files r)
    → (what : Told) → IsAnswer None (Some (RacesLine log elf most)) files what → what.status ≡ code exit.Done → ListsRaces r h.says.log.records what

-- the slice of the row of a count among the recorded run's own rows of the interval, or that there is no such row; or that the
-- log doesn't keep the interval
abbrev pub slice_kept : FileNames → Recording → (hart interval ic : ℕ) → Option Interval → Told
slice_kept names r hart interval ic None = refused names (ReplayStopped (NoInterval hart interval))
slice_kept names r hart interval ic (Some v) = slice_told names (text_of hart ic (slice_or ic v.start.x (up_to ic (noted v.loads (interval_rows r hart interval)))))

-- The only answer to `slice` of a recording's log with its program is the slice of the run's own row, or why there is none.
-- No replay is stopped
abbrev pub SlicesAreTold : Type 0
SlicesAreTold = (log elf : List ℕ) (hart interval ic : ℕ) (files : Files) (r : Recording) (h : HasRun log elf files r)
    → (what : Told) → IsAnswer None (Some (SliceLine log elf hart interval ic)) files what
    → let names = names_in (SliceLine log elf hart interval ic) in
    UnlessLong names r what (what ≡ slice_kept names r hart interval ic (interval_of hart interval h.says.log.records))
