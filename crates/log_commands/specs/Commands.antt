-- What a command answers, by its line and the files that are there. An answer is given by what it has to be: a log file is
-- read by the grammar of its bytes, which is a relation, in the version that they name. But for a recording without a seed no command has two answers
-- (`one_answer`).
use Rattle.std.specs.Prelude.{◌≡◌, ℕ, nat_lt, Bool, true, false, List, [], ◌++◌, length, Option, Some, None, Result, Ok, Err}
use Rattle.log_commands.specs.Common.{Program, EndMark, Files, Content, Reads, Damage, Outcome, Done, Refused, Replayed, Interval, interval_of, replayed, NoInterval, end_text}
use Rattle.log_commands.specs.Names.{FileNames, name_of}
use Rattle.log_commands.specs.Refusals.{status_of, line_of}
use Rattle.log_commands.specs.Texts.{begin_text, rows_text, list_text, check_text}
use Rattle.log_commands.specs.Told.{Told, refused, printed}
use Rattle.log_commands.specs.declared.names.Role.{Role}
use Rattle.log_commands.specs.declared.names.Role.TheVariants as role
use Rattle.log_commands.specs.declared.refusal.Refusal.TheVariants.{Missing, TooLong, LogRefused, ReplayStopped}

-- ---- files

-- the first if a test holds, else the second
abbrev pub Either : Bool → Type 0 → Type 0 → Type 0
Either true A B = A
Either false A B = B

-- an answer by what a store has under a name: nothing is missing, more bytes than the limit are too long, and else it
-- continues with the bytes
abbrev pub IsByFile : Option (List ℕ) → FileNames → Role → ℕ → (List ℕ → Told → Type 0) → Told → Type 0
IsByFile None names r limit Go what = what ≡ refused names (Missing r)
IsByFile (Some bytes) names r limit Go what = Either (nat_lt limit (length bytes)) (what ≡ refused names (TooLong r)) (Go bytes what)

-- an answer that continues with the bytes of a file, if it is there and within the limit
unfoldable pub WithFile : Files → FileNames → Role → ℕ → (List ℕ → Told → Type 0) → Told → Type 0
WithFile files names r limit Go what = IsByFile (files (name_of names r)) names r limit Go what

-- ---- logs

-- the answer by a log that was read, or the refusal of its damage
abbrev pub by_log : FileNames → (Content → Told) → Result Content Damage → Told
by_log names go (Ok d) = go d
by_log names go (Err e) = refused names (LogRefused e)

-- an answer by what a log says
pub record IsByLog (names : FileNames) (bytes : List ℕ) (go : Content → Told) (what : Told) : Type 0 where
  pub says : Result Content Damage
  pub reads : Reads bytes says
  pub is : what ≡ by_log names go says

-- the answer of `list`: a line for each record
abbrev pub list_of : Content → Told
list_of d = printed (list_text d.records)

-- the answer of `check`: the line of the log's counts
abbrev pub check_of : Content → Told
check_of d = printed (check_text d)

-- ---- the replay of an interval

-- the end of a replay with this text so far
unfoldable pub ended : FileNames → (hart interval : ℕ) → EndMark → List ℕ → Outcome → Told
ended names hart interval mark text Done = printed (text ++ end_text hart interval mark)
ended names hart interval mark text (Refused e) = record { status = status_of (ReplayStopped e); out = text; err = line_of names (ReplayStopped e); saved = None }

-- the answer by an interval and its replay: the line of its begin, its rows, and the line of its end
abbrev pub interval_told : FileNames → (hart interval : ℕ) → Interval → Replayed → Told
interval_told names hart interval v r = ended names hart interval v.mark (begin_text hart interval v.start.ic ++ rows_text r.rows) r.outcome

-- the same of an interval that the log keeps; another is refused
abbrev pub replay_found : FileNames → (hart interval : ℕ) → Content → Program → Option Interval → Told
replay_found names hart interval d i None = refused names (ReplayStopped (NoInterval hart interval))
replay_found names hart interval d i (Some v) = interval_told names hart interval v (replayed i d.records hart interval)

-- the replay of an interval of a log with a program
abbrev pub replay_with : FileNames → (hart interval : ℕ) → Content → Program → Told
replay_with names hart interval d i = replay_found names hart interval d i (interval_of hart interval d.records)

-- ---- an input

-- a recording's input is that of a file, or empty
abbrev pub IsByInput : Bool → Files → FileNames → (List ℕ → Told → Type 0) → Told → Type 0
IsByInput true files names Go what = WithFile files names role.Input 16777216 Go what
IsByInput false files names Go what = Go [] what
