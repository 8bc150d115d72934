-- What a recording has of a closed run, and of the list of its turns if that is saved.
use Rattle.bugnet.specs.Common.{Bor, saved_bytes, content, total, Start, summary_text, end_word, is_lean, book_in, told_of_recording}
use Rattle.std.specs.Prelude.{◌≡◌, ◌++◌, ℕ, List, Option, Result, Ok}
use Rattle.std.specs.Fn.{Once, FnOnceReturnsAt}
use Rattle.bus_core.specs.declared.closed.Closed.{Closed}
use Rattle.bugnet.specs.Recordings.{instructions_of, end_by, Scheduling, IsRun}
use Rattle.log_commands.specs.declared.answer.RunToTell.{RunToTell}

-- the log of the ring, the list, and the texts
pub record IsRecordingOf {B : _} (start : Start) (closed : Closed B) (book : Option (List ℕ)) (r : RunToTell) : Type 0 where
  pub end : r.end ≡ end_by closed.ends.items
  pub out : r.out.items ≡ closed.out.items
  pub err : r.err.items ≡ closed.err.items ++ summary_text closed.turns (instructions_of closed.ends.items) closed.ring.dropped (total closed.ring.records) (end_word (end_by closed.ends.items))
  pub log : r.log.items ≡ saved_bytes (content (record { settings = start.settings; digest = start.digest }) closed.ring.dropped closed.ring.records)
  pub list : book_in r ≡ book

-- a recording made in this manner from what a run begins with
pub record IsRecordingBy (start : Start) (how : Scheduling) (r : RunToTell) : Type 0 where
  pub told : IsRun start.settings start.image start.digest how start.input.items (told_of_recording r)
  pub lean : is_lean r ≡ how.lean

-- each recording that f makes from what a run begins with is one in this manner
abbrev pub MakesRecordings : {F E : Type 0} → Once F (Bor Start × Unit {0}) (Result RunToTell E) → F → Scheduling → Type 0
MakesRecordings make f how = (start : Start) (r : RunToTell) → FnOnceReturnsAt make f start (Ok r) → IsRecordingBy start how r
