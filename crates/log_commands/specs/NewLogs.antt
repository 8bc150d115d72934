-- What the commands `convert` and `salvage` answer: a log is saved that is made of another.
use Rattle.std.specs.Prelude.{◌≡◌, ℕ, List, [], Some, None, Result, Ok, Err}
use Rattle.log_commands.specs.Common.{Content, file_bytes2, Salvages}
use Rattle.log_blocks.specs.declared.damage.SalvageError.{SalvageError}
use Rattle.log_blocks.specs.declared.damage.SalvageError.TheVariants as salvage
use Rattle.log_commands.specs.Names.{FileNames}
use Rattle.log_commands.specs.Texts.{check_text}
use Rattle.log_commands.specs.Told.{Told, refused}
use Rattle.log_commands.specs.declared.refusal.Refusal.{Refusal}
use Rattle.log_commands.specs.declared.refusal.Refusal.TheVariants.{LogRefused, NothingLeft, OutOfMemory}
use Rattle.log_commands.specs.Statuses.{code}
use Rattle.log_commands.specs.declared.status.Status.TheVariants as exit

-- the file of version 2 of a log is saved, and what `check` says of it is told
abbrev pub renewed : Content → Told
renewed d = record { status = code exit.Done; out = check_text d; err = []; saved = Some (record { log = file_bytes2 d; book = None }) }

-- ---- what is salvaged

-- the refusal by why nothing is salvaged
abbrev pub salvage_refusal : SalvageError → Refusal
salvage_refusal (salvage.File e) = LogRefused e
salvage_refusal salvage.NothingLeft = NothingLeft
salvage_refusal salvage.OutOfMemory = OutOfMemory

-- the answer by what is salvaged: a new log is saved, or nothing is and it is refused
abbrev pub by_salvage : FileNames → Result Content SalvageError → Told
by_salvage names (Ok d) = renewed d
by_salvage names (Err e) = refused names (salvage_refusal e)

-- an answer by what is salvaged of a log
pub record IsBySalvage (names : FileNames) (bytes : List ℕ) (what : Told) : Type 0 where
  pub says : Result Content SalvageError
  pub salvages : Salvages bytes says
  pub is : what ≡ by_salvage names says
