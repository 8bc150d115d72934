-- The text of a slice.
use Rattle.std.specs.Prelude.{◌≡◌, ◌⊎◌, ℕ, List, ◌++◌, IsSome, Result, Ok, Err, codes, decimal}
use Rattle.slice_back.specs.Common.{flat_map, Program, Row, Record, interval_of, row_text}
use Rattle.rv_text.specs.Names.{register_name}
use Rattle.rv_text.specs.Instructions.{hex8}
use Rattle.slice_back.specs.declared.error.SliceError.{SliceError}
use Rattle.slice_back.specs.declared.error.SliceError.TheVariants.{OutOfMemory}
use Rattle.slice_back.specs.declared.lists.Slice.{Slice}
use Rattle.slice_back.specs.Slices.{sliced}

-- the first line: the hart, and the count of the row
unfoldable pub head_text : ℕ → ℕ → List ℕ
head_text hart ic = codes "slice " ++ decimal hart ++ codes " " ++ decimal ic ++ codes "\n"

-- the line of a register from before the interval
unfoldable pub register_line : ℕ × ℕ → List ℕ
register_line r = codes "in " ++ register_name r.0 ++ codes "=" ++ hex8 r.1 ++ codes "\n"

-- the line of a word that the log told
unfoldable pub word_line : ℕ × ℕ × ℕ → List ℕ
word_line w = codes "in " ++ decimal w.0 ++ codes " " ++ hex8 w.1 ++ codes "=" ++ hex8 w.2 ++ codes "\n"

-- the line of a branch
unfoldable pub branch_line : Row → List ℕ
branch_line r = codes "branch " ++ row_text r

-- all lines
abbrev pub slice_text : ℕ → ℕ → Slice → List ℕ
slice_text hart ic s = head_text hart ic ++ flat_map row_text s.rows ++ flat_map register_line s.regs ++ flat_map word_line s.words ++ flat_map branch_line s.branches

-- those of a slice, or why there is none
abbrev pub text_of : ℕ → ℕ → Result Slice SliceError → Result (List ℕ) SliceError
text_of hart ic (Ok s) = Ok (slice_text hart ic s)
text_of hart ic (Err e) = Err e

-- the answer is that text; it may run out of memory instead, but not if the log doesn't keep the interval
abbrev pub IsTextAnswer : Program → List Record → ℕ → ℕ → ℕ → Result (List ℕ) SliceError → Type 0
IsTextAnswer i records h c ic answer = (answer ≡ text_of h ic (sliced i records h c ic)) ⊎ ((answer ≡ Err OutOfMemory) × IsSome (interval_of h c records))
