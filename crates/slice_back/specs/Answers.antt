-- What a slice answers.
use Rattle.std.specs.Prelude.{◌≡◌, ℕ, ◌⊎◌, List, IsSome, Result, Err}
use Rattle.slice_back.specs.Common.{Program, Record, interval_of}
use Rattle.slice_back.specs.declared.lists.Slice.{Slice}
use Rattle.slice_back.specs.declared.error.SliceError.{SliceError}
use Rattle.slice_back.specs.declared.error.SliceError.TheVariants.{OutOfMemory}
use Rattle.slice_back.specs.Slices.{sliced}

-- the answer is the definition's; it may run out of memory instead, but not if the log doesn't keep the interval
abbrev pub IsAnswer : Program → List Record → ℕ → ℕ → ℕ → Result Slice SliceError → Type 0
IsAnswer i records h c ic answer = (answer ≡ sliced i records h c ic) ⊎ ((answer ≡ Err OutOfMemory) × IsSome (interval_of h c records))
