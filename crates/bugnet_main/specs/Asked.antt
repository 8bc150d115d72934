-- Which words have turns that the environment may name.
use Rattle.std.specs.Prelude.{◌≡◌, ◌≤◌, ◌<◌, ◌⊎◌, ◌++◌, ℕ, false, List, [], length, codes, Option, Some, None, option_map, Result, Ok, Err, IsSomeAnd}
use Rattle.bn_base.specs.Ranges.{first_bad}
use Rattle.bn_outside.specs.Counts.{Counts, NoneFell, Rose}
use Rattle.bn_outside.specs.Files.{Stored}
use Rattle.bn_outside.specs.StoreCalls.{LoadCall}
use Rattle.bn_outside.specs.Streams.{Stream}
use Rattle.bn_outside.specs.declared.schedule.Schedule.{Schedule}
use Rattle.bn_outside.specs.declared.schedule.Schedule.TheVariants as schedules
use Rattle.bn_outside.specs.declared.schedule.Manner.{Manner}
use Rattle.bn_outside.specs.declared.schedule.Manner.TheVariants.{Bursts, Sleeper}
use Rattle.bugnet.specs.Command.Record.{is_clash}
use Rattle.command_words.specs.Words.{Line, RecordLine, RecordingLine, number_of}
use Rattle.log_commands.specs.FileCalls.{Note}
use Rattle.log_commands.specs.Names.{FileNames}
use Rattle.log_commands.specs.Outside.{ToldRefusal, WithFiles, Wrote}
use Rattle.log_commands.specs.declared.refusal.Refusal.{Refusal}
use Rattle.log_commands.specs.declared.status.Status.{Status}
use Rattle.log_commands.specs.declared.status.Status.TheVariants.{OutOfMemory, WordsRefused}
use Rattle.log_commands.specs.declared.status.Status.TheVariants as exit
use Rattle.log_commands.specs.Statuses.{code}
use Rattle.bugnet_main.specs.declared.schedule.Said.{Said}
use Rattle.bugnet_main.specs.declared.schedule.Said.TheVariants as said
use Rattle.bugnet_main.specs.declared.schedule.Turns.{Turns}
use Rattle.bugnet_main.specs.declared.schedule.Turns.TheVariants.{OfThreads}
use Rattle.bugnet_main.specs.declared.schedule.Turns.TheVariants as turns

-- a recording has no seed, and neither its settings nor its names are refused
pub record TakesTurns (r : RecordingLine) : Type 0 where
  pub seed : r.seed ≡ None
  pub settings : first_bad r.settings ≡ None
  pub names : is_clash r.lean r.log r.book ≡ false

-- words ask for such a recording
abbrev pub AskForTurns : Option Line → Type 0
AskForTurns (Some (RecordLine r)) = TakesTurns r
AskForTurns line = ⊥

-- how many harts the recording of words has
abbrev pub harts_by : Option Line → Option ℕ
harts_by (Some (RecordLine r)) = Some r.settings.harts
harts_by line = None

-- the schedule that such turns are, with the bytes of their list; none for threads
abbrev pub IsFor : Turns → Option Schedule → Type 0
IsFor OfThreads schedule = schedule ≡ None
IsFor (turns.Drawn manner number) schedule = schedule ≡ Some (schedules.Drawn manner number)
IsFor (turns.Listed list) (Some (schedules.Listed bytes)) = bytes.now ≡ list.items
IsFor (turns.Listed list) schedule = ⊥

-- the turns are those of threads, unless memory ran out
abbrev pub IsUnasked : Result Turns Status → Type 0
IsUnasked (Ok turns) = turns ≡ OfThreads
IsUnasked (Err status) = status ≡ OutOfMemory

-- ---- what a text names

-- turns that a number draws in a manner, if there is a number
abbrev pub drawn_by : Manner → Option ℕ → Option Said
drawn_by manner number = option_map (λ n. said.Drawn manner n) number

-- the word of a manner
abbrev pub word_of : Manner → List ℕ
word_of Bursts = codes "bursts:"
word_of Sleeper = codes "sleeper:"

-- a text says a manner and a number, which is one as `--seed` takes it, or the name of a list
abbrev pub IsSaid : List ℕ → Said → Type 0
IsSaid text (said.Drawn manner number) = (digits : List ℕ) × (text ≡ word_of manner ++ digits) × (number_of digits ≡ Some number)
IsSaid text (said.Book name) = text ≡ codes "book:" ++ name.now

-- ---- what is loaded for them

-- turns that no list gives, or why there are none: they weren't understood, or memory ran out
abbrev pub NeedNoList : Result Turns Status → Type 0
NeedNoList (Ok (turns.Listed list)) = ⊥
NeedNoList (Ok turns) = Unit {0}
NeedNoList (Err status) = (status ≡ WordsRefused) ⊎ (status ≡ OutOfMemory)

-- the turns are those of the list under a name, or it can't be loaded: the store failed or memory ran out; else it isn't there, or
-- has more than 2 ^ 30 bytes
abbrev pub AreUnder : Option (List ℕ) → Result Turns Status → Type 0
AreUnder there (Ok (turns.Listed list)) = (there ≡ Some list.items) × (length list.items ≤ 1073741824)
AreUnder there (Ok turns) = ⊥
AreUnder there (Err status) =
    ((code status ≡ code exit.OutOfMemory) ⊎ (code status ≡ code exit.StoreFailed))
    ⊎ (((there ≡ None) × (code status ≡ code exit.Missing)) ⊎ (IsSomeAnd there (λ bytes. 1073741824 < length bytes) × (code status ≡ code exit.TooLong)))

-- they are those of a list, or memory ran out, or a load was refused, whose count rose
abbrev pub AreOfLoad : Counts → Counts → Result Turns Status → Type 0
AreOfLoad before now (Ok (turns.Listed list)) = Unit {0}
AreOfLoad before now (Ok turns) = ⊥
AreOfLoad before now (Err status) =
    (code status ≡ code exit.OutOfMemory)
    ⊎ (((code status ≡ code exit.StoreFailed) × Rose before.faults now.faults)
    ⊎ (((code status ≡ code exit.Missing) × Rose before.misses now.misses) ⊎ ((code status ≡ code exit.TooLong) × Rose before.longs now.longs)))

-- the store got one call, the load of a list with at most 2 ^ 30 bytes
pub record LoadsList (name : List ℕ) (note : Note) (old new : Stored) (result : Result Turns Status) : Type 0 where
  pub noted : new.noted ≡ note old.noted (LoadCall name 1073741824)
  pub later : NoneFell old.counts new.counts
  pub known : WithFiles old.files (λ files. AreUnder (files name) result)
  pub cause : AreOfLoad old.counts new.counts result

-- the store got no call, or that one
abbrev pub LoadsFew : Note → (old new : Stored) → Result Turns Status → Type 0
LoadsFew note old new result = ((new ≡ old) × NeedNoList result) ⊎ ((name : List ℕ) × LoadsList name note old new result)

-- ---- what is told

-- the file of a list
abbrev pub list_names : List ℕ → FileNames
list_names name = record { elf = []; log = []; book = name; input = []; origin = [] }

-- a line was written to err, or a prefix of it and a write failed
abbrev pub TellsLine : List ℕ → (old new : Stream) → Type 0
TellsLine line old new = Wrote old.text new.text old.faults new.faults line

-- If there are turns, err is as it was. Else it has the line of why: the variable is refused, memory ran out, or the load of a list was refused
abbrev pub SaysWhy : (old new : Stream) → Result Turns Status → Type 0
SaysWhy old new (Ok turns) = new ≡ old
SaysWhy old new (Err status) =
    ((status ≡ WordsRefused) × TellsLine (codes "bugnet: ZELKUMA_SCHEDULE refused\n") old new)
    ⊎ (((status ≡ OutOfMemory) × TellsLine (codes "bugnet: out of memory\n") old new)
    ⊎ ((name : List ℕ) × (refusal : Refusal) × ToldRefusal (list_names name) refusal (code status) old.text new.text old.faults new.faults))

-- ---- both

-- no file was saved or changed, at most a list was loaded, and err says why there are no turns
pub record FindsTurns (note : Note) (old new : Stored) (was now : Stream) (result : Result Turns Status) : Type 0 where
  pub still : new.files ≡ old.files
  pub saves : new.saves ≡ old.saves
  pub loads : LoadsFew note old new result
  pub told : SaysWhy was now result
