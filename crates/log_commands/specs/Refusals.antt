-- Why a command is refused: its status, and the line on err.
use Rattle.std.specs.Prelude.{ℕ, ◌-◌, ◌^◌, false, List, ◌++◌, [], codes, decimal, Bool, true, Option, Some, None}
use Rattle.log_commands.specs.Common.{flat_map, setting_name, hex8, mark_text, ElfError, Damage, ReplayError, JointError, TurnError}
use Rattle.std.specs.Fmt.{digits, padded_integral, format_spec}
use Rattle.elf_loader.specs.declared.error.ElfError.TheVariants as elf
use Rattle.log_file.specs.declared.error.FileError.{FileError}
use Rattle.log_file.specs.declared.error.FileError.TheVariants as file
use Rattle.log_blocks.specs.declared.damage.Damage.TheVariants.{File, BadBlock}
use Rattle.hart_replay.specs.declared.error.ReplayError.TheVariants as replay
use Rattle.joint_replay.specs.declared.error.JointError.TheVariants as joint
use Rattle.run_model.specs.declared.error.TurnError.TheVariants as turns
use Rattle.log_commands.specs.Names.{FileNames, name_of}
use Rattle.log_commands.specs.Marks.{counted}
use Rattle.log_commands.specs.declared.refusal.Refusal.{Refusal}
use Rattle.log_commands.specs.declared.refusal.Refusal.TheVariants.{WordsRefused, OutOfRange, SameName, StoreFailed, Missing, TooLong, ElfRefused, LogRefused, ProgramDiffers, OutOfMemory, WriteFailed, ReplayStopped, JointStuck, ReadFailed, LineTooLong, CommandsTooLong, BookRefused, FileDiffers, NothingLeft, TooManyRaces, NoRow}
use Rattle.log_commands.specs.Statuses.{code}
use Rattle.log_commands.specs.declared.status.Status.TheVariants as exit

-- ---- the status

-- the status of a replay's error: no such interval, out of memory, or a replay that stopped
abbrev pub replay_status : ReplayError → ℕ
replay_status (replay.NoInterval hart interval) = code exit.NoInterval
replay_status replay.OutOfMemory = code exit.OutOfMemory
replay_status error = code exit.ReplayStopped

-- the status that the program ends with
abbrev pub status_of : Refusal → ℕ
status_of (StoreFailed role) = code exit.StoreFailed
status_of (Missing role) = code exit.Missing
status_of (TooLong role) = code exit.TooLong
status_of (ElfRefused error) = code exit.ElfRefused
status_of (LogRefused error) = code exit.LogRefused
status_of (ProgramDiffers kept found) = code exit.ProgramDiffers
status_of OutOfMemory = code exit.OutOfMemory
status_of WriteFailed = code exit.WriteFailed
status_of (ReplayStopped error) = replay_status error
status_of (JointStuck positions) = code exit.ReplayStopped
status_of ReadFailed = code exit.ReadFailed
status_of LineTooLong = code exit.CommandsTooLong
status_of CommandsTooLong = code exit.CommandsTooLong
status_of (BookRefused error) = code exit.BookRefused
status_of (FileDiffers place) = code exit.FileDiffers
status_of NothingLeft = code exit.NothingLeft
status_of (TooManyRaces most) = code exit.TooManyRaces
status_of (NoRow ic) = code exit.NoRow
status_of other = code exit.WordsRefused

-- the refusal of a log file by its damage; out of memory is its own
abbrev pub log_refusal : Damage → Refusal
log_refusal (BadBlock at) = LogRefused (BadBlock at)
log_refusal (File (file.Short length)) = LogRefused (File (file.Short length))
log_refusal (File file.BadMagic) = LogRefused (File file.BadMagic)
log_refusal (File (file.BadVersion found)) = LogRefused (File (file.BadVersion found))
log_refusal (File (file.BadHead field value)) = LogRefused (File (file.BadHead field value))
log_refusal (File (file.LengthDiffers said found)) = LogRefused (File (file.LengthDiffers said found))
log_refusal (File (file.DigestDiffers kept found)) = LogRefused (File (file.DigestDiffers kept found))
log_refusal (File (file.BadRecord at)) = LogRefused (File (file.BadRecord at))
log_refusal (File (file.BadOrder at rule)) = LogRefused (File (file.BadOrder at rule))
log_refusal (File file.OutOfMemory) = OutOfMemory

-- the refusal of a joint replay that stopped
abbrev pub joint_refusal : JointError → Refusal
joint_refusal (joint.Replay error) = ReplayStopped error
joint_refusal (joint.Stuck positions) = JointStuck positions
joint_refusal joint.OutOfMemory = OutOfMemory

-- ---- the line

-- a digest in hexadecimal
unfoldable pub digest_text : List ℕ → List ℕ
digest_text digest = flat_map (λ b. padded_integral (format_spec 32 0 4 2 (2 ^ 64 - 1)) false [] (digits 16 false b)) digest

-- two numbers after a word
unfoldable pub pair_text : List ℕ → ℕ → ℕ → List ℕ
pair_text word a b = word ++ decimal a ++ codes " " ++ decimal b

-- two digests after a word
unfoldable pub digests_text : List ℕ → List ℕ → List ℕ → List ℕ
digests_text word a b = word ++ digest_text a ++ codes " " ++ digest_text b

-- why a program file is refused
unfoldable pub elf_said : ElfError → List ℕ
elf_said elf.NotElf = codes "elf: NotElf"
elf_said (elf.Truncated at length) = pair_text (codes "elf: Truncated ") at length
elf_said elf.NotRv32 = codes "elf: NotRv32"
elf_said elf.NotStatic = codes "elf: NotStatic"
elf_said elf.NeedsCompressed = codes "elf: NeedsCompressed"
elf_said elf.NeedsE = codes "elf: NeedsE"
elf_said (elf.TooMany count) = counted (codes "elf: TooMany ") count
elf_said (elf.Outside segment) = counted (codes "elf: Outside ") segment
elf_said (elf.SegmentsTouch first second) = pair_text (codes "elf: SegmentsTouch ") first second
elf_said elf.NoSegment = codes "elf: NoSegment"
elf_said (elf.EntryOutside entry) = codes "elf: EntryOutside " ++ hex8 entry
elf_said elf.OutOfMemory = codes "out of memory"

-- why a log is refused, for what a file of either version can be, or for a block
unfoldable pub file_said : FileError → List ℕ
file_said (file.Short length) = counted (codes "log: Short ") length
file_said file.BadMagic = codes "log: BadMagic"
file_said (file.BadVersion found) = counted (codes "log: BadVersion ") found
file_said (file.BadHead field value) = pair_text (codes "log: BadHead ") field value
file_said (file.LengthDiffers said found) = pair_text (codes "log: LengthDiffers ") said found
file_said (file.DigestDiffers kept found) = digests_text (codes "log: DigestDiffers ") kept found
file_said (file.BadRecord at) = counted (codes "log: BadRecord ") at
file_said (file.BadOrder at rule) = pair_text (codes "log: BadOrder ") at rule
file_said file.OutOfMemory = codes "out of memory"

-- why a log file is refused, for either version
unfoldable pub log_said : Damage → List ℕ
log_said (File error) = file_said error
log_said (BadBlock at) = counted (codes "log: BadBlock ") at

-- why a replay stopped
unfoldable pub replay_said : ReplayError → List ℕ
replay_said (replay.NoInterval hart interval) = pair_text (codes "no interval ") hart interval
replay_said (replay.LoadMissing hart ic addr) = pair_text (codes "replay: LoadMissing ") hart ic ++ (codes " " ++ hex8 addr)
replay_said (replay.ScMissing hart ic) = pair_text (codes "replay: ScMissing ") hart ic
replay_said (replay.RecordsLeft hart left) = pair_text (codes "replay: RecordsLeft ") hart left
replay_said (replay.EndDiffers hart said found) = codes "replay: EndDiffers " ++ (decimal hart ++ codes " " ++ mark_text said ++ codes " " ++ mark_text found)
replay_said replay.OutOfMemory = codes "out of memory"

-- a hart that isn't done, with its next count
unfoldable pub position_text : ℕ × ℕ → List ℕ
position_text p = codes " " ++ decimal p.0 ++ codes ":" ++ decimal p.1

-- the harts of a stuck replay, one after another
unfoldable pub positions_text : List (ℕ × ℕ) → List ℕ
positions_text ps = flat_map position_text ps

-- why a list of turns is refused
unfoldable pub book_said : TurnError → List ℕ
book_said (turns.IllegalTurn at hart) = counted (codes "book: turn ") at ++ counted (codes " hart ") hart
book_said (turns.NotFinished live) = counted (codes "book: unfinished ") live
book_said turns.OutOfMemory = codes "out of memory"

-- what the line says
unfoldable pub said_of : FileNames → Refusal → List ℕ
said_of names WordsRefused = codes "words refused"
said_of names (OutOfRange bad) = codes "setting " ++ setting_name bad.field ++ codes " " ++ decimal bad.value
said_of names SameName = codes "same name " ++ names.log
said_of names (StoreFailed role) = codes "store failed: " ++ name_of names role
said_of names (Missing role) = codes "missing: " ++ name_of names role
said_of names (TooLong role) = codes "too long: " ++ name_of names role
said_of names (ElfRefused error) = elf_said error
said_of names (LogRefused error) = log_said error
said_of names (ProgramDiffers kept found) = digests_text (codes "program differs: ") kept found
said_of names OutOfMemory = codes "out of memory"
said_of names WriteFailed = codes "write failed"
said_of names (ReplayStopped error) = replay_said error
said_of names (JointStuck positions) = codes "replay: Stuck" ++ positions_text positions
said_of names ReadFailed = codes "read failed"
said_of names LineTooLong = codes "line too long"
said_of names CommandsTooLong = codes "commands too long"
said_of names (BookRefused error) = book_said error
said_of names (FileDiffers place) = counted (codes "differs at ") place
said_of names NothingLeft = codes "nothing left"
said_of names (TooManyRaces most) = counted (codes "races: more than ") most
said_of names (NoRow ic) = counted (codes "no row ") ic

-- the whole line
unfoldable pub line_of : FileNames → Refusal → List ℕ
line_of names refusal = codes "bugnet: " ++ said_of names refusal ++ codes "\n"

-- what the words alone refuse, in the order of the tests: a setting, and then LOG and BOOK under one name, if both are saved; or
-- LOG and NEW under one name
abbrev pub name_refusal : Bool → Option Refusal
name_refusal true = Some SameName
name_refusal false = None
