-- What it means that an audit is done.
use Rattle.std.specs.Prelude.{◌≡◌, ℕ, List, Option, Some, None}
use Rattle.bugnet.specs.Common.{Files, Line, AuditLine, Told, Agrees, code}
use Rattle.bugnet.specs.Answers.{IsAnswer}
use Rattle.log_commands.specs.declared.status.Status.TheVariants as exit

-- if what `audit` has to answer is done, the log is the file of the run of the book's turns, in its own version or in version 2
abbrev pub AuditsAgree : Type 0
AuditsAgree = (log elf book : List ℕ) (input : Option (List ℕ)) (files : Files) (what : Told) → IsAnswer None (Some (AuditLine log elf book input)) files what → what.status ≡ code exit.Done → Agrees log elf book input files

-- if a call of `audit` is done, the log is the file of the run of the book's turns
abbrev pub AuditsRun : Option Line → Files → ℕ → Type 0
AuditsRun (Some (AuditLine log elf book input)) files status = status ≡ code exit.Done → Agrees log elf book input files
AuditsRun line files status = Unit {0}
