-- The lines of the commands.
use Rattle.std.specs.Prelude.{◌≡◌, ℕ, ◌+◌, ◌^◌, ◌<◌, ◌≤◌, ◌==◌, nat_lt, Bool, true, false, not, ◌&&◌, List, [], ◌∷◌, ◌++◌, length, map, Option, Some, None, Result, Ok, Err}
use Rattle.step_debugger.specs.Common.{AllByRecursion, Consumes, Rose, ConsumesAll, ReadNote, Stream, Supply, noted_after}
use Rattle.bn_outside.specs.declared.Failed.{Failed}
use Rattle.step_debugger.specs.declared.error.DebugError.{DebugError}
use Rattle.step_debugger.specs.declared.error.DebugError.TheVariants.{ReadFault, LineTooLong, TooMuch, OutOfMemory}

-- the most bytes of a line, its LF not counted, and of all commands
abbrev pub line_limit : ℕ
line_limit = 256

-- the most bytes of all commands
abbrev pub input_limit : ℕ
input_limit = 2 ^ 24

-- lines that end with LF, given without it; the bytes after the last LF; and why no more is read, if it is so
pub record Input : Type 0 where
  pub lines : List (List ℕ)
  pub last : List ℕ
  pub refused : Option DebugError

-- no line, and this is left
abbrev pub ends_in : List ℕ → Option DebugError → Input
ends_in last refused = record { lines = []; last = last; refused = refused }

-- one line more, at the front
abbrev pub with_line : List ℕ → Input → Input
with_line line input = record input { lines = line ∷ input.lines }

-- an LF
abbrev pub is_line_feed : ℕ → Bool
is_line_feed byte = byte == 10

-- a line is full, and another byte than LF comes
abbrev pub is_too_long : List ℕ → ℕ → Bool
is_too_long line byte = not (is_line_feed byte) && not (nat_lt (length line) line_limit)

-- what further bytes hold, if so many came before them and the line begins with these of those
abbrev pub input_from : ℕ → List ℕ → List ℕ → Input
input_from count line [] = ends_in line None
input_from count line (byte ∷ bytes) = elim (is_too_long line byte) [
  | true ↦ ends_in line (Some (LineTooLong (length line + 1)))
  | false ↦ elim (nat_lt count input_limit) [
    | false ↦ ends_in line (Some (TooMuch (count + 1)))
    | true ↦ elim (is_line_feed byte) [ true ↦ with_line line (input_from (count + 1) [] bytes) | false ↦ input_from (count + 1) (line ++ byte ∷ []) bytes ]
  ]
]

-- what the bytes of all commands hold
abbrev pub input_of : List ℕ → Input
input_of bytes = input_from 0 [] bytes

-- if no more is refused of some bytes, it isn't of those that came first
abbrev pub RefusalsStay : Type 0
RefusalsStay = (bytes more : List ℕ) → (input_of (bytes ++ more)).refused ≡ None → (input_of bytes).refused ≡ None

-- ---- one line after another

-- the bytes that came, and those of the line so far
pub record Reading : Type 0 where
  pub count : ℕ
  pub line : List ℕ

-- one byte more: the line ends with it (`true`), or it belongs to the line, or it is one too many; or there is no memory for it
abbrev pub TakesByte : Reading → ℕ → Result Bool DebugError → Reading → Type 0
TakesByte old byte (Ok true) new = (new.count ≡ old.count + 1) × (new.count ≤ input_limit) × ((more : List ℕ) → input_from old.count old.line (byte ∷ more) ≡ with_line new.line (input_from new.count [] more))
TakesByte old byte (Ok false) new = (new.count ≡ old.count + 1) × (new.line ≡ old.line ++ byte ∷ []) × (length new.line ≤ line_limit) × ((more : List ℕ) → input_from old.count old.line (byte ∷ more) ≡ input_from new.count new.line more) × (is_line_feed byte ≡ false)
TakesByte old byte (Err (LineTooLong n)) new = (more : List ℕ) → input_from old.count old.line (byte ∷ more) ≡ ends_in new.line (Some (LineTooLong n))
TakesByte old byte (Err (TooMuch n)) new = (more : List ℕ) → input_from old.count old.line (byte ∷ more) ≡ ends_in new.line (Some (TooMuch n))
TakesByte old byte (Err OutOfMemory) new = (more : List ℕ) → input_from old.count old.line (byte ∷ more) ≡ input_from new.count (new.line ++ byte ∷ []) more
TakesByte old byte (Err e) new = ⊥

-- a source gives its next byte, or is at its end, or fails
abbrev pub GivesByte : (old new : Supply) → Result (Option ℕ) Failed → Type 0
GivesByte old new (Ok (Some byte)) = Consumes old.left new.left (byte ∷ [])
GivesByte old new (Ok None) = ConsumesAll old.left new.left []
GivesByte old new (Err e) = Consumes old.left new.left [] × Rose old.faults new.faults

-- what is read next, of a source of which these bytes are gone then. It is a line that ends with LF (`true`), the end of the
-- source and the bytes before it, or why there is none, if memory runs out for the last byte that is gone
abbrev pub ReadsLine : Reading → (gone : List ℕ) → (input now_input : Supply) → Result Bool DebugError → Reading → Type 0
ReadsLine old gone input now_input (Ok true) new = (old.count < new.count) × (new.count ≤ input_limit) × ((more : List ℕ) → input_from old.count [] (gone ++ more) ≡ with_line new.line (input_from new.count [] more))
ReadsLine old gone input now_input (Ok false) new = (input_from old.count [] gone ≡ ends_in new.line None) × ConsumesAll input.left now_input.left gone
ReadsLine old gone input now_input (Err ReadFault) new = (input_from old.count [] gone ≡ ends_in new.line None) × Rose input.faults now_input.faults
ReadsLine old gone input now_input (Err (LineTooLong n)) new = (more : List ℕ) → input_from old.count [] (gone ++ more) ≡ ends_in new.line (Some (LineTooLong n))
ReadsLine old gone input now_input (Err (TooMuch n)) new = (more : List ℕ) → input_from old.count [] (gone ++ more) ≡ ends_in new.line (Some (TooMuch n))
ReadsLine old gone input now_input (Err OutOfMemory) new = (byte : ℕ) × ((more : List ℕ) → input_from old.count [] (gone ++ more) ≡ input_from new.count (new.line ++ byte ∷ []) more)
ReadsLine old gone input now_input (Err e) new = ⊥

-- bytes end with the first one that is too many
pub record EndsTooMany (count : ℕ) (bytes : List ℕ) : Type 0 where
  pub front : List ℕ
  pub byte : ℕ
  pub parts : bytes ≡ front ++ byte ∷ []
  pub none : (input_from count [] front).refused ≡ None

-- after the first byte that is too many none is read
abbrev pub StopsAt : ℕ → List ℕ → Result Bool DebugError → Type 0
StopsAt count gone (Err (LineTooLong n)) = EndsTooMany count gone
StopsAt count gone (Err (TooMuch n)) = EndsTooMany count gone
StopsAt count gone result = Unit {0}

-- how often a source is read for a line: once for each byte, and once more if its end is found or a read fails
abbrev pub reads_for : List ℕ → Result Bool DebugError → ℕ
reads_for gone (Ok true) = length gone
reads_for gone (Ok false) = length gone + 1
reads_for gone (Err ReadFault) = length gone + 1
reads_for gone (Err e) = length gone

-- no line ends within bytes
abbrev pub NoLine : List ℕ → Type 0
NoLine bytes = AllByRecursion (λ byte. is_line_feed byte ≡ false) bytes

-- bytes of the source are gone, and they are what is read. At each of its reads out had been given the same, and before the
-- last of them no line ended
pub record NextLine (old : Reading) (input now_input : Supply) (note : ReadNote) (out : Stream) (result : Result Bool DebugError) (new : Reading) : Type 0 where
  pub gone : List ℕ
  pub taken : Consumes input.left now_input.left gone
  pub read : ReadsLine old gone input now_input result new
  pub stops : StopsAt old.count gone result
  pub front : List ℕ
  pub last : List ℕ
  pub parts : gone ≡ front ++ last
  pub unended : NoLine front
  pub count : length front + 1 ≡ reads_for gone result
  pub notes : now_input.noted ≡ noted_after note input.noted (map (λ byte. out.text) front ++ out.text ∷ [])
