-- Which harts a list of turns lets pass.
use Rattle.std.specs.Prelude.{◌≡◌, ◌⊎◌, ◌≤◌, ℕ, List, Some, slice_get, length}

-- the list has the hart at this place
abbrev pub IsNext : List ℕ → ℕ → ℕ → Type 0
IsNext list place hart = slice_get list place ≡ Some hart

-- the hart is the list's next, or the list is at its end
abbrev pub MayPass : List ℕ → ℕ → ℕ → Type 0
MayPass list place hart = IsNext list place hart ⊎ (length list ≤ place)
