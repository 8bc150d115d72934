-- What the command `races` answers: the races of what a log keeps, or that there are more than asked for.
use Rattle.std.specs.Prelude.{◌≡◌, ◌≤◌, ℕ, nat_lt, Bool, true, false, List, Option, Some, None}
use Rattle.log_commands.specs.Common.{Program, Files, Content, JointError, Ran, run_all}
use Rattle.race_report.specs.Races.{race_count, races_of}
use Rattle.race_report.specs.Reports.{points_in}
use Rattle.race_report.specs.Texts.{races_text}
use Rattle.race_report.specs.declared.race.Race.{Race}
use Rattle.log_commands.specs.Names.{FileNames}
use Rattle.log_commands.specs.Told.{Told, refused, printed}
use Rattle.log_commands.specs.Pairs.{ArePair}
use Rattle.log_commands.specs.Joined.{joined}
use Rattle.log_commands.specs.Refusals.{joint_refusal}
use Rattle.log_commands.specs.declared.refusal.Refusal.TheVariants.{TooManyRaces}

-- ---- what is told

-- the races, unless there are too many
abbrev pub races_listed : (too_many : Bool) → FileNames → (most : ℕ) → List Race → Told
races_listed true names most races = refused names (TooManyRaces most)
races_listed false names most races = printed (races_text races)

-- those of a joint replay of so many harts, unless it stopped
abbrev pub races_unless : Option JointError → FileNames → (most harts : ℕ) → Ran → Told
races_unless (Some e) names most harts r = refused names (joint_refusal e)
races_unless None names most harts r = races_listed (nat_lt most (race_count (points_in r))) names most (races_of harts (points_in r))

-- those of a joint replay of so many harts, by what it ran
abbrev pub races_in : FileNames → (most harts : ℕ) → Ran → Told
races_in names most harts r = races_unless r.stopped names most harts r

-- those of a log with a program
abbrev pub races_with : FileNames → (most : ℕ) → Content → Program → Told
races_with names most d i = races_in names most d.head.settings.harts (run_all (joined d i))

-- ---- the command

-- what it needs: a log and its program are there, their joint replay isn't stopped, and there are at most so many races
pub record CanRace (log elf : List ℕ) (most : ℕ) (files : Files) : Type 0 where
  pub content : Content
  pub program : Program
  pub pair : ArePair log elf files content program
  pub goes_on : (run_all (joined content program)).stopped ≡ None
  pub few : race_count (points_in (run_all (joined content program))) ≤ most
