-- What a command tells.
use Rattle.std.specs.Prelude.{ℕ, List, [], Option, Some, None}
use Rattle.log_commands.specs.Names.{FileNames}
use Rattle.log_commands.specs.Refusals.{status_of, line_of}
use Rattle.log_commands.specs.declared.refusal.Refusal.{Refusal}
use Rattle.log_commands.specs.Statuses.{code}
use Rattle.log_commands.specs.declared.status.Status.TheVariants as exit

-- a log file that is saved, and a recording's turn list if that is saved too
pub record Saved : Type 0 where
  pub log : List ℕ
  pub book : Option (List ℕ)

-- a status, what out and err gain, and what is saved
pub record Told : Type 0 where
  pub status : ℕ
  pub out : List ℕ
  pub err : List ℕ
  pub saved : Option Saved

-- a refusal
unfoldable pub refused : FileNames → Refusal → Told
refused names refusal = record { status = status_of refusal; out = []; err = line_of names refusal; saved = None }

-- a text on out
abbrev pub printed : List ℕ → Told
printed text = record { status = code exit.Done; out = text; err = []; saved = None }

-- a text on out, and then a refusal, if there is one
abbrev pub printed_until : FileNames → List ℕ → Option Refusal → Told
printed_until names text None = printed text
printed_until names text (Some refusal) = record { status = status_of refusal; out = text; err = line_of names refusal; saved = None }
