-- The lists of a slice as they grow from the last row back.
use Rattle.std.specs.Prelude.{◌≡◌, List, reverse}
use Rattle.slice_back.specs.declared.noted.Noted.{Noted}
use Rattle.slice_back.specs.Slices.{live, slice_rows, slice_words, slice_branches}
use Rattle.slice_back.specs.declared.slicing.Slicing.{Slicing}
use Rattle.slice_back.specs.Sets.{Holds}

-- what is told, latest row first, is the slice of the last of these rows, as far as they go
pub record TellsLive (t : Slicing) (later : List Noted) : Type 0 where
  pub set : Holds t.set (live later)
  pub rows : reverse t.rows.items ≡ slice_rows later
  pub words : reverse t.words.items ≡ slice_words later
  pub branches : reverse t.branches.items ≡ slice_branches later
