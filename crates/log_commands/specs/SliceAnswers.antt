-- What the command `slice` answers: the backward slice of the row of a count in an interval that a log keeps.
use Rattle.std.specs.Prelude.{◌≡◌, ℕ, List, Result, Ok, Err}
use Rattle.log_commands.specs.Common.{Program, Files, Content}
use Rattle.slice_back.specs.Slices.{sliced}
use Rattle.slice_back.specs.Texts.{text_of}
use Rattle.slice_back.specs.declared.error.SliceError.{SliceError}
use Rattle.slice_back.specs.declared.error.SliceError.TheVariants as back
use Rattle.slice_back.specs.declared.lists.Slice.{Slice}
use Rattle.log_commands.specs.Names.{FileNames}
use Rattle.log_commands.specs.Told.{Told, refused, printed}
use Rattle.log_commands.specs.Pairs.{ArePair}
use Rattle.log_commands.specs.declared.refusal.Refusal.TheVariants.{OutOfMemory, ReplayStopped, NoRow}

-- ---- what is told

-- the text of a slice, or why there is none
abbrev pub slice_told : FileNames → Result (List ℕ) SliceError → Told
slice_told names (Ok text) = printed text
slice_told names (Err (back.Replay e)) = refused names (ReplayStopped e)
slice_told names (Err (back.NoRow ic)) = refused names (NoRow ic)
slice_told names (Err back.OutOfMemory) = refused names OutOfMemory

-- that of the row of a count in an interval of a log with a program
abbrev pub slice_with : FileNames → (hart interval ic : ℕ) → Content → Program → Told
slice_with names hart interval ic d i = slice_told names (text_of hart ic (sliced i d.records hart interval ic))

-- ---- the command

-- what it needs: a log and its program are there, and the row has a slice
pub record CanSlice (log elf : List ℕ) (hart interval ic : ℕ) (files : Files) : Type 0 where
  pub content : Content
  pub program : Program
  pub pair : ArePair log elf files content program
  pub slice : Slice
  pub is : sliced program content.records hart interval ic ≡ Ok slice
