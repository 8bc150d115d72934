-- Laws of answers, by their names.
use Rattle.std.specs.Prelude.{◌≡◌, ℕ, List, Bool, true, false, Option, Some, None, option_and_then}
use Rattle.bugnet.specs.Common.{sha256, Program, first_bad, RawSettings, Files, Schedule, Line, RecordLine, DebugLine, ConvertLine, SalvageLine, content_of, run_of, seeded, IsWhole, IsRecording, FileNames, Told, Saved}
use Rattle.bugnet.specs.Sessions.{Commands, IsSession}
use Rattle.bugnet.specs.Answers.{IsAnswer}
use Rattle.bugnet.specs.Recordings.{began_by, taken_by}
use Rattle.whole_runs.specs.Scheduled.{scheduled}
use Rattle.bugnet.specs.Saves.{IsWithin}

-- the list of turns that an answer saves
abbrev pub book_of : Told → Option (List ℕ)
book_of what = option_and_then (λ (s : Saved). s.book) what.saved

-- of recordings with neither a seed nor a schedule, two that save one list of turns; of lean ones none is said to be alike
abbrev pub AreOfOneList : (seed : Option ℕ) → Option Schedule → (lean : Bool) → (a b : Told) → Type 0
AreOfOneList (Some seed) schedule lean a b = Unit {0}
AreOfOneList None (Some schedule) lean a b = Unit {0}
AreOfOneList None None false a b = book_of a ≡ book_of b
AreOfOneList None None true a b = ⊥

-- when two answers of a line are said to be one: always, but of recordings with neither a seed nor a schedule only if they save
-- the same list of turns, and never of `debug`
abbrev pub AreAlike : Option Schedule → Option Line → (a b : Told) → Type 0
AreAlike schedule (Some (RecordLine r)) a b = AreOfOneList r.seed schedule r.lean a b
AreAlike schedule (Some (DebugLine log elf)) a b = ⊥
AreAlike schedule line a b = Unit {0}

-- No words have two answers, whatever schedule is given. With neither a seed nor a schedule a recording may take any turns that
-- are legal and finished; it has one answer for each such list, if it saves it. A session of the debugger has one for all
-- commands that are read
abbrev pub OneAnswer : Type 0
OneAnswer = (schedule : Option Schedule) (line : Option Line) (files : Files) (a b : Told) → IsAnswer schedule line files a → IsAnswer schedule line files b
    → AreAlike schedule line a b → a ≡ b

-- a session has one answer for all commands that are read
abbrev pub OneSession : Type 0
OneSession = (c : Commands) (files : Files) (names : FileNames) (a b : Told) → IsSession c files names a → IsSession c files names b → a ≡ b

-- words that save nothing
abbrev pub IsReadOnly : Option Line → Type 0
IsReadOnly (Some (RecordLine r)) = ⊥
IsReadOnly (Some (ConvertLine log copy)) = ⊥
IsReadOnly (Some (SalvageLine log copy)) = ⊥
IsReadOnly line = Unit {0}

-- words that are no session of the debugger
abbrev pub IsNoSession : Option Line → Type 0
IsNoSession (Some (DebugLine log elf)) = ⊥
IsNoSession line = Unit {0}

-- words that record nothing
abbrev pub IsNoRecording : Option Line → Type 0
IsNoRecording (Some (RecordLine r)) = ⊥
IsNoRecording line = Unit {0}

-- a recording needs no threads if a seed or a schedule chooses its turns, or it has one hart
abbrev pub HasOneOrder : (seed : Option ℕ) → Option Schedule → (harts : ℕ) → Type 0
HasOneOrder (Some seed) schedule harts = Unit {0}
HasOneOrder None (Some schedule) harts = Unit {0}
HasOneOrder None None harts = harts ≡ 1

-- words that need no threads, with the schedule that is given: all but those of other recordings
abbrev pub NeedsNoThreads : Option Schedule → Option Line → Type 0
NeedsNoThreads schedule (Some (RecordLine r)) = HasOneOrder r.seed schedule r.settings.harts
NeedsNoThreads schedule line = Unit {0}

-- words take two schedules alike: only a recording without a seed takes one
abbrev pub TakesAlike : Option Line → (a b : Option Schedule) → Type 0
TakesAlike (Some (RecordLine r)) a b = taken_by r.seed a ≡ taken_by r.seed b
TakesAlike line a b = Unit {0}

-- the list of turns that a seed chooses is legal and finished, if the settings were tested
abbrev pub SeedsAreWhole : Type 0
SeedsAreWhole = (c : RawSettings) (i : Program) (input : List ℕ) (seed : ℕ) → first_bad c ≡ None → IsWhole c i input (seeded c i input seed)

-- the list of a schedule is legal and finished, if the settings were tested
abbrev pub SchedulesAreWhole : Type 0
SchedulesAreWhole = (c : RawSettings) (i : Program) (digest input : List ℕ) (schedule : Schedule) → first_bad c ≡ None → IsWhole c i input (scheduled schedule (began_by c i digest input))

-- the log of each recording, whatever its turns and its format, keeps to its size. Its records have at most log-size bytes; its
-- file has 124 more in version 1, and in version 2 136 and 48 a block
abbrev pub FilesKeepToTheirSize : Type 0
FilesKeepToTheirSize = (c : RawSettings) (i : Program) (elf input b : List ℕ) → IsRecording c i elf input b
    → IsWithin (content_of c (sha256 elf) (run_of c i input b))
