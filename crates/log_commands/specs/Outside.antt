-- What the parts of a command do to the outside.
use Rattle.std.specs.Prelude.{◌≡◌, ◌≢◌, ◌≤◌, ◌<◌, ◌⊎◌, ◌++◌, ℕ, List, [], length, Option, Some, None, Result, Ok, Err, IfErr, OnErr, IsSomeAnd, option_map, Bool, true, false}
use Rattle.log_commands.specs.Common.{Appends, bytes_eq, Global, Counts, Rose, Files, SameElsewhere, WhereTold, AppendsPart, AppendsShort, Stream, Program, RawSettings, image_of, ElfError, Content, Reads, Damage}
use Rattle.std.specs.declared.vec.Vec.{Vec}
use Rattle.log_blocks.specs.File.{IsRefusal}
use Rattle.log_commands.specs.Names.{FileNames, name_of}
use Rattle.log_commands.specs.Refusals.{status_of, line_of, log_refusal}
use Rattle.log_commands.specs.Told.{Told, Saved, refused, printed}
use Rattle.log_commands.specs.Texts.{check_line, agree_text}
use Rattle.log_commands.specs.RunEnds.{end_status}
use Rattle.log_commands.specs.Commands.{list_of, replay_with}
use Rattle.log_commands.specs.Joined.{joint_with}
use Rattle.log_commands.specs.declared.names.Role.{Role}
use Rattle.log_commands.specs.declared.names.Role.TheVariants as role
use Rattle.log_commands.specs.declared.refusal.Refusal.{Refusal}
use Rattle.log_commands.specs.declared.refusal.Refusal.TheVariants as why
use Rattle.log_commands.specs.declared.answer.Answer.{Answer}
use Rattle.log_commands.specs.declared.answer.IntervalToReplay.{IntervalToReplay}
use Rattle.log_commands.specs.declared.answer.RunToTell.{RunToTell}
use Rattle.log_commands.specs.declared.answer.NewLog.{NewLog}
use Rattle.log_commands.specs.declared.answer.Answer.TheVariants.{Recorded, Interval, Joined, Listed, Checked, Agreed, Renewed, Shown}
use Rattle.log_commands.specs.Statuses.{code}
use Rattle.log_commands.specs.declared.status.Status.TheVariants as exit

-- ---- what is loaded

-- if the files of a store are known
abbrev pub WithFiles : Option Files → (Files → Type 0) → Type 0
WithFiles None P = Unit {0}
WithFiles (Some files) P = P files

-- a load of a file: its bytes, or why there are none
abbrev pub FetchTells : Role → ℕ → Option (List ℕ) → Result (Vec ℕ Global) Refusal → Type 0
FetchTells role limit there (Ok bytes) = (there ≡ Some bytes.items) × (length bytes.items ≤ limit)
FetchTells role limit there (Err refusal) =
    ((refusal ≡ why.OutOfMemory) ⊎ (refusal ≡ why.StoreFailed role))
    ⊎ (((there ≡ None) × (refusal ≡ why.Missing role)) ⊎ (IsSomeAnd there (λ bytes. limit < length bytes) × (refusal ≡ why.TooLong role)))

-- a log that was read, or why it is refused. A damage is never told as out of memory: that comes only if the records alone were
-- still to be looked at
abbrev pub LogTells : List ℕ → Result Content Refusal → Type 0
LogTells bytes (Ok d) = Reads bytes (Ok d)
LogTells bytes (Err refusal) = (e : Damage) × (refusal ≡ log_refusal e) × IsRefusal bytes e

-- a program that was loaded, or why it is refused
abbrev pub ProgramTells : List ℕ → RawSettings → Result Program Refusal → Type 0
ProgramTells bytes c (Ok i) = image_of bytes c ≡ Ok i
ProgramTells bytes c (Err refusal) = (refusal ≡ why.OutOfMemory) ⊎ ((e : ElfError) × (refusal ≡ why.ElfRefused e) × (image_of bytes c ≡ Err e))

-- ---- what is answered

-- the list of turns that a recording has
abbrev pub book_in : RunToTell → Option (List ℕ)
book_in r = option_map (λ (list : Vec ℕ Global). list.items) r.book

-- the log and the list of turns that a recording saves
abbrev pub saved_of : RunToTell → Saved
saved_of r = record { log = r.log.items; book = book_in r }

-- a recording is told by its end's status and its outputs, and is saved
abbrev pub told_of_recording : RunToTell → Told
told_of_recording r = record { status = end_status r.end; out = r.out.items; err = r.err.items; saved = Some (saved_of r) }

-- the replay of an interval, of a log and its program that were loaded
abbrev pub told_of_reading : FileNames → IntervalToReplay → Told
told_of_reading names r = replay_with names r.hart r.interval r.log r.image

-- a log file alone is saved
abbrev pub saved_new : List ℕ → Saved
saved_new file = record { log = file; book = None }

-- a log that was made of another is saved, and then the line of its log is told
abbrev pub told_of_new : NewLog → Told
told_of_new n = record { status = code exit.Done; out = check_line n.counts; err = []; saved = Some (saved_new n.file.items) }

-- what an answer tells
abbrev pub told_of : FileNames → Answer → Told
told_of names (Recorded r) = told_of_recording r
told_of names (Interval r) = told_of_reading names r
told_of names (Joined r) = joint_with names r.log r.image
told_of names (Listed d) = list_of d
told_of names (Checked n) = printed (check_line n)
told_of names Agreed = printed agree_text
told_of names (Renewed n) = told_of_new n
told_of names (Shown text) = printed text

-- an answer that saves nothing
abbrev pub IsPrinted : Answer → Type 0
IsPrinted (Recorded r) = ⊥
IsPrinted (Renewed n) = ⊥
IsPrinted other = Unit {0}

-- what was made of loaded bytes, by what it tells, is what the command has to answer, or memory ran out
abbrev pub GivesTo : {A : Type 0} → (A → Told) → FileNames → (Told → Type 0) → Result A Refusal → Type 0
GivesTo tells names Is (Ok made) = Is (tells made)
GivesTo tells names Is (Err refusal) = (refusal ≡ why.OutOfMemory) ⊎ Is (refused names refusal)

-- the same of an answer
abbrev pub Gives : FileNames → (Told → Type 0) → Result Answer Refusal → Type 0
Gives names Is result = GivesTo (told_of names) names Is result

-- nothing if the test holds, else what is there
abbrev pub none_if : Bool → Option (List ℕ) → Option (List ℕ)
none_if true there = None
none_if false there = there

-- the files without the one under a name
abbrev pub without : List ℕ → Files → Files
without name files other = none_if (bytes_eq other name) (files other)

-- Out of memory; or the store failed at a file that the command comes to: if that one weren't there, the answer would be
-- that it is missing
abbrev pub IsEarly : FileNames → (Files → Told → Type 0) → Files → Refusal → Type 0
IsEarly names Is files refusal =
    (refusal ≡ why.OutOfMemory) ⊎ ((role : Role) × (refusal ≡ why.StoreFailed role) × Is (without (name_of names role) files) (refused names (why.Missing role)))

-- what was made of the files that are there, by what it tells, is what the command has to answer by them, or it was stopped
-- before it had an answer
abbrev pub GivesOf : {A : Type 0} → (A → Told) → FileNames → (Files → Told → Type 0) → Files → Result A Refusal → Type 0
GivesOf tells names Is files (Ok made) = Is files (tells made)
GivesOf tells names Is files (Err refusal) = IsEarly names Is files refusal ⊎ Is files (refused names refusal)

-- the same of an answer
abbrev pub GivesBy : FileNames → (Files → Told → Type 0) → Files → Result Answer Refusal → Type 0
GivesBy names Is files result = GivesOf (told_of names) names Is files result

-- each refusal by the store has a count that rose, and none is of words, of a write, or of the commands of a session
abbrev pub RefusalCause : Counts → Counts → Refusal → Type 0
RefusalCause before now (why.StoreFailed role) = Rose before.faults now.faults
RefusalCause before now (why.Missing role) = Rose before.misses now.misses
RefusalCause before now (why.TooLong role) = Rose before.longs now.longs
RefusalCause before now why.WordsRefused = ⊥
RefusalCause before now (why.OutOfRange bad) = ⊥
RefusalCause before now why.SameName = ⊥
RefusalCause before now why.WriteFailed = ⊥
RefusalCause before now why.ReadFailed = ⊥
RefusalCause before now why.LineTooLong = ⊥
RefusalCause before now why.CommandsTooLong = ⊥
RefusalCause before now refusal = Unit {0}

-- a refusal has its cause; what was made needs none
abbrev pub ResultCause : {A : Type 0} → Counts → Counts → Result A Refusal → Type 0
ResultCause before now (Ok value) = Unit {0}
ResultCause before now (Err refusal) = RefusalCause before now refusal

-- the words alone decide that a command is refused, and else nothing like it comes
abbrev pub CauseBy : {A : Type 0} → Option Refusal → Counts → Counts → Result A Refusal → Type 0
CauseBy (Some refusal) before now result = (result ≡ Err refusal) × (status_of refusal ≡ code exit.WordsRefused)
CauseBy None before now result = ResultCause before now result

-- no refusal by a store, of words, of a write, or of the commands of a session
abbrev pub IsOwn : {A : Type 0} → Result A Refusal → Type 0
IsOwn result = (before now : Counts) → ResultCause before now result

-- ---- what is printed

-- a text was written, or a prefix of it and a write failed
abbrev pub Wrote : Option (List ℕ) → Option (List ℕ) → ℕ → ℕ → List ℕ → Type 0
Wrote old new before now text = Appends old new text ⊎ (AppendsPart old new text × Rose before now)

-- why sending stopped: memory ran out, or a write failed
abbrev pub SendStops : ℕ → ℕ → Refusal → Type 0
SendStops before now why.OutOfMemory = Unit {0}
SendStops before now why.WriteFailed = Rose before now
SendStops before now refusal = ⊥

-- a text was sent, or a prefix of it
abbrev pub Sent : {A : Type 0} → Option (List ℕ) → Option (List ℕ) → ℕ → ℕ → List ℕ → (A → Type 0) → Result A Refusal → Type 0
Sent old new before now text P (Ok value) = Appends old new text × P value
Sent old new before now text P (Err refusal) = AppendsPart old new text × SendStops before now refusal

-- a text was sent, and then all was done, or was refused as it had to be; or a prefix of it was sent, and sending stopped
abbrev pub SentUntil : {A : Type 0} → Option (List ℕ) → Option (List ℕ) → ℕ → ℕ → List ℕ → Option Refusal → Result A Refusal → Type 0
SentUntil old new before now text stop (Ok value) = Appends old new text × (stop ≡ None)
SentUntil old new before now text stop (Err refusal) =
    (Appends old new text × (stop ≡ Some refusal)) ⊎ (AppendsPart old new text × SendStops before now refusal)

-- of a text some was sent and the rest waits, or a prefix of it was sent and sending stopped
abbrev pub Gathered : {A : Type 0} → Option (List ℕ) → Option (List ℕ) → ℕ → ℕ → List ℕ → List ℕ → Result A Refusal → Type 0
Gathered old new before now text waiting (Ok value) = (sent : List ℕ) × Appends old new sent × (text ≡ sent ++ waiting)
Gathered old new before now text waiting (Err refusal) = AppendsPart old new text × SendStops before now refusal

-- a refusal was told, or its line found no memory
abbrev pub ToldRefusal : FileNames → Refusal → ℕ → Option (List ℕ) → Option (List ℕ) → ℕ → ℕ → Type 0
ToldRefusal names refusal status old new before now =
    ((status ≡ status_of refusal) × Wrote old new before now (line_of names refusal))
    ⊎ ((status ≡ code exit.OutOfMemory) × Wrote old new before now (line_of names why.OutOfMemory))

-- ---- what is saved

-- all names have what they had
abbrev pub SameFiles : Files → Files → Type 0
SameFiles old new = (name : List ℕ) → new name ≡ old name

-- all names but these two have what they had
abbrev pub SameBut : List ℕ → List ℕ → Files → Files → Type 0
SameBut log book old new = (name : List ℕ) → name ≢ log → name ≢ book → new name ≡ old name

-- the log under its name, and the turn list under the book's
pub record KeptBoth (bytes list : List ℕ) (log book : List ℕ) (old new : Files) : Type 0 where
  pub log_there : log ≢ book → new log ≡ Some bytes
  pub book_there : new book ≡ Some list
  pub others : SameBut log book old new

-- the log under its name, and all other names have what they had
pub record KeptLog (bytes : List ℕ) (log : List ℕ) (old new : Files) : Type 0 where
  pub there : new log ≡ Some bytes
  pub others : SameElsewhere log old new

-- a log is saved alone, or with a list of turns
abbrev pub KeptSaved : (bytes : List ℕ) → Option (List ℕ) → (log book : List ℕ) → Files → Files → Type 0
KeptSaved bytes None log book old new = KeptLog bytes log old new
KeptSaved bytes (Some list) log book old new = KeptBoth bytes list log book old new

-- what was to be saved is saved, and nothing else
abbrev pub KeptFiles : Option Saved → List ℕ → List ℕ → Files → Files → Type 0
KeptFiles None log book old new = SameFiles old new
KeptFiles (Some saved) log book old new = KeptSaved saved.log saved.book log book old new

-- the log is under its name, and nothing is known of what the book's has
pub record LogAlone (bytes : List ℕ) (log book : List ℕ) (old new : Files) : Type 0 where
  pub log_there : log ≢ book → new log ≡ Some bytes
  pub others : SameBut log book old new

-- the save under one name was refused, of which nothing is known then. The log's comes first: after it was refused the book's
-- name has what it had, and after the book's was refused the log is under its name
abbrev pub SaveBroke : Role → Saved → (log book : List ℕ) → Files → Files → Type 0
SaveBroke role.Log saved log book old new = SameElsewhere log old new
SaveBroke role.Book saved log book old new = IsSomeAnd saved.book (λ list. LogAlone saved.log log book old new)
SaveBroke other saved log book old new = ⊥

-- What a command may have done to the files, whatever happened. Nothing, if nothing was to be saved; else the save of the
-- log may have been refused, or that of the book, if there is one, or none
abbrev pub MayChange : Option Saved → (log book : List ℕ) → Files → Files → Type 0
MayChange None log book old new = SameFiles old new
MayChange (Some saved) log book old new = SameElsewhere log old new ⊎ IsSomeAnd saved.book (λ list. LogAlone saved.log log book old new)

-- why saving stopped, and what it left: the store failed, or memory ran out
abbrev pub Unsaved : Option Saved → FileNames → (old new : Option Files) → (before now : Counts) → Refusal → Type 0
Unsaved None names old new before now refusal = ⊥
Unsaved (Some saved) names old new before now refusal =
    ((role : Role) × (refusal ≡ why.StoreFailed role) × WhereTold old new (SaveBroke role saved names.log names.book) × Rose before.faults now.faults)
    ⊎ ((refusal ≡ why.OutOfMemory) × ((role : Role) × WhereTold old new (SaveBroke role saved names.log names.book)))

-- all was saved, or not
abbrev pub SaveTells : {A : Type 0} → Saved → FileNames → (old new : Option Files) → (before now : Counts) → Result A Refusal → Type 0
SaveTells saved names old new before now (Ok value) = WhereTold old new (KeptFiles (Some saved) names.log names.book)
SaveTells saved names old new before now (Err refusal) = Unsaved (Some saved) names old new before now refusal

-- ---- an output

-- nothing is asked of a value
abbrev pub Always : {A : Type 0} → A → Type 0
Always value = Unit {0}

-- a text was sent, and this holds of the value, or a prefix of it was sent; the count of failed writes didn't fall
pub record Sends {A : Type 0} (text : List ℕ) (P : A → Type 0) (old new : Stream) (result : Result A Refusal) : Type 0 where
  pub sent : Sent old.text new.text old.faults new.faults text P result
  pub later : old.faults ≤ new.faults

-- a text was sent, and then all was done, or was refused so; or a prefix of it was sent
pub record SendsUntil {A : Type 0} (text : List ℕ) (stop : Option Refusal) (old new : Stream) (result : Result A Refusal) : Type 0 where
  pub sent : SentUntil old.text new.text old.faults new.faults text stop result
  pub later : old.faults ≤ new.faults

-- bytes were sent, or not all of them, since a write failed
pub record SendsBytes (bytes : List ℕ) (old new : Stream) (result : Result (Unit {0}) Refusal) : Type 0 where
  pub sends : Sends bytes Always old new result
  pub short : OnErr result (AppendsShort old.text new.text bytes × Rose old.faults new.faults)
  pub write : IfErr result (λ refusal. refusal ≡ why.WriteFailed)

-- of a text some was sent and the rest waits, or a prefix of it was sent
pub record Gathers {A : Type 0} (text waiting : List ℕ) (old new : Stream) (result : Result A Refusal) : Type 0 where
  pub sent : Gathered old.text new.text old.faults new.faults text waiting result
  pub later : old.faults ≤ new.faults

-- a refusal was told
abbrev pub Refuses : FileNames → Refusal → (status : ℕ) → (old new : Stream) → Type 0
Refuses names refusal status old new = ToldRefusal names refusal status old.text new.text old.faults new.faults × (old.faults ≤ new.faults)
