-- What the command `joint` answers: the joint replay of all intervals that a log keeps.
use Rattle.std.specs.Prelude.{◌≡◌, ℕ, List, Option, None, option_map}
use Rattle.log_commands.specs.Common.{Program, Files, Content, Joining, Ran, fresh, run_all, joint_text}
use Rattle.log_commands.specs.Names.{FileNames}
use Rattle.log_commands.specs.Refusals.{joint_refusal}
use Rattle.log_commands.specs.Told.{Told, printed_until}
use Rattle.log_commands.specs.Pairs.{ArePair}
use Rattle.log_commands.specs.declared.refusal.Refusal.{Refusal}

-- ---- what is told

-- why it stopped, if it did
abbrev pub stop_of : Ran → Option Refusal
stop_of r = option_map joint_refusal r.stopped

-- the steps, and then the known words, unless it stopped
unfoldable pub ran_told : FileNames → Ran → Told
ran_told names r = printed_until names (joint_text r) (stop_of r)

-- the joint replay of a log with a program, before its first step
abbrev pub joined : Content → Program → Joining
joined d i = fresh i d.head.settings.harts d.records

-- the answer of `joint` by a log and its program
abbrev pub joint_with : FileNames → Content → Program → Told
joint_with names d i = ran_told names (run_all (joined d i))

-- ---- the command

-- what it needs: a log and its program are there, and their joint replay isn't stopped
pub record CanJoin (log elf : List ℕ) (files : Files) : Type 0 where
  pub content : Content
  pub program : Program
  pub pair : ArePair log elf files content program
  pub goes_on : (run_all (joined content program)).stopped ≡ None
