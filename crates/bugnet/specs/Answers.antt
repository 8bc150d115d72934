-- What the program answers to its words.
use Rattle.std.specs.Prelude.{◌≡◌, List, [], Bool, Option, Some, None, is_some, unwrap_or}
use Rattle.bugnet.specs.Common.{bytes_eq, first_bad, BadSetting, Files, Schedule, Line, RecordingLine, RecordLine, ReplayLine, JointLine, DebugLine, ListLine, CheckLine, AuditLine, RacesLine, SliceLine, ConvertLine, SalvageLine, DemoLine, FileNames, no_names, demo_text, Told, refused, printed, IsByFiles, IsByLog, list_of, check_of, replay_with, log_roles, origin_roles, record_roles, joint_with, races_with, slice_with, IsAuditOf, roles_of, Bytes, no_bytes, IsPrinted, pair_of, pair_roles, IsMade, IsRenewed, Answer, Role, Refusal, WordsRefused, OutOfRange, OutOfMemory, name_refusal}
use Rattle.command_words.specs.declared.error.WordsError.{WordsError}
use Rattle.command_words.specs.declared.error.WordsError.TheVariants as words_error
use Rattle.bugnet.specs.Command.Record.{is_clash, IsRecord}
use Rattle.bugnet.specs.Recordings.{Scheduling, taken_by}
use Rattle.bugnet.specs.Sessions.{IsDebug}
use Rattle.log_commands.specs.NewLogs.{renewed, IsBySalvage}

-- the names of the files of a line
abbrev pub names_in : Line → FileNames
names_in (RecordLine r) = record { elf = r.elf; log = r.log; book = r.book; input = unwrap_or r.input []; origin = [] }
names_in (ReplayLine log elf hart interval) = record { elf = elf; log = log; book = []; input = []; origin = [] }
names_in (JointLine log elf) = record { elf = elf; log = log; book = []; input = []; origin = [] }
names_in (DebugLine log elf) = record { elf = elf; log = log; book = []; input = []; origin = [] }
names_in (ListLine log) = record { elf = []; log = log; book = []; input = []; origin = [] }
names_in (CheckLine log) = record { elf = []; log = log; book = []; input = []; origin = [] }
names_in (AuditLine log elf book input) = record { elf = elf; log = log; book = book; input = unwrap_or input []; origin = [] }
names_in (RacesLine log elf most) = record { elf = elf; log = log; book = []; input = []; origin = [] }
names_in (SliceLine log elf hart interval ic) = record { elf = elf; log = log; book = []; input = []; origin = [] }
names_in (ConvertLine log copy) = record { elf = []; log = copy; book = []; input = []; origin = log }
names_in (SalvageLine log copy) = record { elf = []; log = copy; book = []; input = []; origin = log }
names_in (DemoLine seed) = no_names

-- the names in a line; words that say no line have none
abbrev pub names_by : Option Line → FileNames
names_by None = no_names
names_by (Some line) = names_in line

-- how a line records that is given a schedule, or none
abbrev pub scheduling_by : RecordingLine → Option Schedule → Scheduling
scheduling_by r schedule = record { seed = r.seed; lean = r.lean; schedule = taken_by r.seed schedule }

-- a setting out of range comes before two files of one name
abbrev pub setting_refusal : Option BadSetting → Bool → Option Refusal
setting_refusal (Some bad) same = Some (OutOfRange bad)
setting_refusal None same = name_refusal same

-- why a line is refused before a file is looked at
abbrev pub refusal_in : Line → Option Refusal
refusal_in (RecordLine r) = setting_refusal (first_bad r.settings) (is_clash r.lean r.log r.book)
refusal_in (ConvertLine log copy) = name_refusal (bytes_eq log copy)
refusal_in (SalvageLine log copy) = name_refusal (bytes_eq log copy)
refusal_in line = None

-- why words give no command
abbrev pub words_refusal : WordsError → Refusal
words_refusal words_error.Refused = WordsRefused
words_refusal words_error.OutOfMemory = OutOfMemory

-- what the words alone refuse, if they do
abbrev pub refusal_by : Option Line → Option Refusal
refusal_by None = Some WordsRefused
refusal_by (Some line) = refusal_in line

-- what a line loads, in this order
abbrev pub line_roles : Line → List Role
line_roles (RecordLine r) = record_roles (is_some r.input)
line_roles (ListLine log) = log_roles
line_roles (CheckLine log) = log_roles
line_roles (AuditLine log elf book input) = roles_of (is_some input)
line_roles (ConvertLine log copy) = origin_roles
line_roles (SalvageLine log copy) = origin_roles
line_roles (DemoLine seed) = []
line_roles other = pair_roles

-- what a line has to answer by the bytes that are loaded for it
abbrev pub IsOn : Line → FileNames → Bytes → Told → Type 0
IsOn (ReplayLine log elf hart interval) names b what = IsByLog names b.log (pair_of (replay_with names hart interval) names b.elf) what
IsOn (JointLine log elf) names b what = IsByLog names b.log (pair_of (joint_with names) names b.elf) what
IsOn (ListLine log) names b what = IsByLog names b.log list_of what
IsOn (CheckLine log) names b what = IsByLog names b.log check_of what
IsOn (AuditLine log elf book input) names b what = IsAuditOf names b.log b.elf b.book b.input what
IsOn (RacesLine log elf most) names b what = IsByLog names b.log (pair_of (races_with names most) names b.elf) what
IsOn (SliceLine log elf hart interval ic) names b what = IsByLog names b.log (pair_of (slice_with names hart interval ic) names b.elf) what
IsOn (ConvertLine log copy) names b what = IsByLog names b.origin renewed what
IsOn (SalvageLine log copy) names b what = IsBySalvage names b.origin what
IsOn (DemoLine seed) names b what = what ≡ printed (demo_text seed)
IsOn other names b what = ⊥

-- a refusal if there is one, else this
abbrev pub UnlessRefused : Option Refusal → FileNames → (Told → Type 0) → Told → Type 0
UnlessRefused (Some refusal) names Is what = what ≡ refused names refusal
UnlessRefused None names Is what = Is what

-- what a line that records nothing and reads no commands has to answer by the files that are there
abbrev pub IsByLine : Line → Files → Told → Type 0
IsByLine line files what = UnlessRefused (refusal_in line) (names_in line) (λ what. IsByFiles files (names_in line) (line_roles line) no_bytes (IsOn line (names_in line)) what) what

-- what words have to answer, by the line that they say; words that say none are refused. A recording without a seed has its
-- schedule too, if it is given one: then no other turns are an answer's
abbrev pub IsAnswer : Option Schedule → Option Line → Files → Told → Type 0
IsAnswer schedule None files what = what ≡ refused no_names WordsRefused
IsAnswer schedule (Some (RecordLine r)) files what = IsRecord files (names_in (RecordLine r)) r.settings (scheduling_by r schedule) (is_some r.input) what
IsAnswer schedule (Some (DebugLine log elf)) files what = IsDebug files (names_in (DebugLine log elf)) what
IsAnswer schedule (Some line) files what = IsByLine line files what

-- what kind of answer that is
abbrev pub KindOf : Line → Answer → Type 0
KindOf (RecordLine r) answer = ⊥
KindOf (ReplayLine log elf hart interval) answer = IsPrinted answer
KindOf (JointLine log elf) answer = IsPrinted answer
KindOf (DebugLine log elf) answer = ⊥
KindOf (ConvertLine log copy) answer = IsRenewed answer
KindOf (SalvageLine log copy) answer = IsRenewed answer
KindOf line answer = IsMade answer
