-- Which calls a line makes of its store, in which order, and what it tells if one of them or what it loaded ends it.
use Rattle.std.specs.Prelude.{◌≡◌, ◌⊎◌, ℕ, ◌==◌, ◌||◌, Bool, true, false, List, [], ◌++◌, Option, Some, None, Result, Ok, Err, is_some, not, IsSomeAnd}
use Rattle.bugnet.specs.Common.{Appends, demo_text, Schedule, Line, RecordLine, ReplayLine, JointLine, DebugLine, ConvertLine, SalvageLine, DemoLine, FileNames, no_names, WithFiles, Wrote, ToldRefusal, told_of, status_of, line_of, Call, SomeTold, Tells, Saved, printed, Answer, Role, Refusal, FileCall, Note, StopsAt, elf_roles, has_save, loads_of, noted_after, saves_of, code}
use Rattle.bugnet.specs.Answers.{names_by, refusal_by, line_roles, IsAnswer}
use Rattle.bugnet.specs.Sessions.{is_begun}
use Rattle.log_commands.specs.declared.refusal.Refusal.TheVariants as why
use Rattle.log_commands.specs.declared.status.Status.TheVariants as exit

-- ---- the calls of a line

-- what it loads before it reads what it loaded: all, but a recording reads its program before it loads the input
abbrev pub needed_roles : Line → List Role
needed_roles (RecordLine r) = elf_roles
needed_roles line = line_roles line

-- a log, and a list of turns unless it is lean
abbrev pub IsSaved : (lean : Bool) → Option Saved → Type 0
IsSaved lean saved = IsSomeAnd saved (λ s. is_some s.book ≡ not lean)

-- what it saves after that: a recording its log, and the list of its turns; a log made of another is saved alone
abbrev pub MaySave : Option Line → Option Saved → Type 0
MaySave (Some (RecordLine r)) saved = IsSaved r.lean saved
MaySave (Some (ConvertLine log copy)) saved = IsSaved true saved
MaySave (Some (SalvageLine log copy)) saved = IsSaved true saved
MaySave line saved = saved ≡ None

-- all its calls, in their order, if this is what it saves; words that say no line have none
abbrev pub calls_of : Option Line → Option Saved → List FileCall
calls_of None saved = []
calls_of (Some line) saved = loads_of (line_roles line) ++ saves_of saved

-- these loads of a line, in their order; words that say no line have none
abbrev pub needed_of : Option Line → List FileCall
needed_of None = []
needed_of (Some line) = loads_of (needed_roles line)

-- ---- a command

-- it is done, or memory ran out or a write failed
abbrev pub is_printed : ℕ → Bool
is_printed status = (status == code exit.Done) || (status == code exit.OutOfMemory) || (status == code exit.WriteFailed)

-- the same of a replay, which may also stop once it is begun
abbrev pub is_replayed : ℕ → Bool
is_replayed status = is_printed status || (status == code exit.ReplayStopped)

-- the same of a recording, which is also done if its run ended in a fault, or by the limit
abbrev pub is_recorded : ℕ → Bool
is_recorded status = is_printed status || (status == code exit.Fault) || (status == code exit.Limit)

-- what a command may end with once all its calls are made, if it isn't refused by what the files hold: a replay may stop too,
-- and the reading of commands
abbrev pub line_past : Line → ℕ → Bool
line_past (RecordLine r) = is_recorded
line_past (ReplayLine log elf hart interval) = is_replayed
line_past (JointLine log elf) = is_replayed
line_past (DebugLine log elf) = is_begun
line_past line = is_printed

-- no status at all
abbrev pub no_status : ℕ → Bool
no_status status = false

-- the same of words, which may be no line
abbrev pub past_of : Option Line → ℕ → Bool
past_of None = no_status
past_of (Some line) = line_past line

-- it is refused: by its words, and then it makes no call, or after these. Nothing is printed, and err has the line
pub record RefusedAfter (names : FileNames) (needed : List FileCall) (words : Option Refusal) (made : List FileCall)
    (status : ℕ) (k : Call) : Type 0 where
  pub refusal : Refusal
  pub at : ((words ≡ Some refusal) × (made ≡ [])) ⊎ StopsAt needed refusal made
  pub out : Appends k.old.out.text k.new.out.text []
  pub told : ToldRefusal names refusal status k.old.err.text k.new.err.text k.old.err.faults k.new.err.faults

-- of these calls the first ones are made, in this order, and no other: all of them, unless it is refused
pub record CallsSo (names : FileNames) (calls needed : List FileCall) (words : Option Refusal) (past : ℕ → Bool)
    (status : ℕ) (note : Note) (k : Call) : Type 0 where
  pub made : List FileCall
  pub left : List FileCall
  pub parts : calls ≡ made ++ left
  pub noted : k.new.store.noted ≡ noted_after note names k.old.store.noted made
  pub ends : ((left ≡ []) × (past status ≡ true)) ⊎ RefusedAfter names needed words made status k

-- so it is with the calls of a line. Whatever its status, what it saves is what an answer to the files that are there saves
pub record CallsOnly (schedule : Option Schedule) (line : Option Line) (status : ℕ) (note : Note) (k : Call) : Type 0 where
  pub saved : Option Saved
  pub fits : MaySave line saved
  pub so : CallsSo (names_by line) (calls_of line saved) (needed_of line) (refusal_by line) (past_of line) status note k
  pub own : has_save so.made ≡ true → WithFiles k.old.store.files (λ files. SomeTold (IsAnswer schedule line files) (λ what. what.saved ≡ saved))

-- ---- what it tells, by any store

-- a refusal with this status is told, and nothing is printed
pub record TellsRefusal (names : FileNames) (status : ℕ) (k : Call) : Type 0 where
  pub refusal : Refusal
  pub status_is : status ≡ status_of refusal
  pub out : Appends k.old.out.text k.new.out.text []
  pub err : Wrote k.old.err.text k.new.err.text k.old.err.faults k.new.err.faults (line_of names refusal)

-- so it is unless the command is done, or memory ran out, a write failed, or a replay that was begun or a reading of commands
-- stopped
abbrev pub HasShape : Option Line → (status : ℕ) → Call → Type 0
HasShape line status k = past_of line status ≡ false → TellsRefusal (names_by line) status k

-- an answer that is this text, or memory ran out
abbrev pub ShowsText : FileNames → List ℕ → Result Answer Refusal → Type 0
ShowsText names text (Ok answer) = told_of names answer ≡ printed text
ShowsText names text (Err refusal) = refusal ≡ why.OutOfMemory

-- that of `demo` is the text of its number
abbrev pub AnswersDemo : Line → FileNames → Result Answer Refusal → Type 0
AnswersDemo (DemoLine seed) names result = ShowsText names (demo_text seed) result
AnswersDemo line names result = Unit {0}

-- `demo` tells the text of its number
abbrev pub TellsDemo : Option Line → (status : ℕ) → Call → Type 0
TellsDemo (Some (DemoLine seed)) status k = Tells no_names (printed (demo_text seed)) status k
TellsDemo line status k = Unit {0}
