-- Netzer's rule (1993): which conflicts of a run have to be recorded, so that the others follow. A run is the list of
-- its points in the order in which they were done, and a point is determined by its place in that list.
use Rattle.std.specs.Prelude.{◌≡◌, ℕ, ◌<◌, Bool, ◌⊎◌, List, slice_get, Some, IsTrue}
use Rattle.race_log.specs.Points.{Point, IsConflict, IsSameHart}

-- place m is before place n, and the points that stand there are related
pub record AtPlaces (Related : Point → Point → Type 0) (run : List Point) (m n : ℕ) : Type 0 where
  pub earlier : m < n
  pub first : Point
  pub second : Point
  pub first_at : slice_get run m ≡ Some first
  pub second_at : slice_get run n ≡ Some second
  pub related : Related first second

-- from a point to a later one of its hart
abbrev pub ProgramOrder : List Point → ℕ → ℕ → Type 0
ProgramOrder run = AtPlaces IsSameHart run

-- from a point to a later one that conflicts with it
abbrev pub Conflict : List Point → ℕ → ℕ → Type 0
Conflict run = AtPlaces IsConflict run

-- a step of the one kind or of the other
abbrev pub Either : (ℕ → ℕ → Type 0) → (ℕ → ℕ → Type 0) → ℕ → ℕ → Type 0
Either First Second m n = First m n ⊎ Second m n

-- a chain of steps leads from m to n
pub data Chain (Step : ℕ → ℕ → Type 0) : ℕ → ℕ → Type 0 where
  one : {m n : ℕ} → Step m n → Chain Step m n
  more : {m k n : ℕ} → Chain Step m k → Step k n → Chain Step m n

-- a chain of program order and conflicts leads from m to n
abbrev pub Before : List Point → ℕ → ℕ → Type 0
Before run = Chain (Either (ProgramOrder run) (Conflict run))

-- m and n conflict, and no third point is after m and before n
pub record IsEdge (run : List Point) (m n : ℕ) : Type 0 where
  pub conflicts : Conflict run m n
  pub no_third : (k : ℕ) → Before run m k → Before run k n → ⊥

-- the pairs that pass a test
abbrev pub Chosen : (ℕ → ℕ → Bool) → ℕ → ℕ → Type 0
Chosen pairs m n = IsTrue (pairs m n)

-- the pairs but for m and n
abbrev pub OtherThan : ℕ → ℕ → (ℕ → ℕ → Type 0) → ℕ → ℕ → Type 0
OtherThan m n Pair a b = Pair a b × ((a ≡ m) × (b ≡ n) → ⊥)

-- the pairs that end after this place
abbrev pub EndingAfter : ℕ → (ℕ → ℕ → Type 0) → ℕ → ℕ → Type 0
EndingAfter place Pair a b = Pair a b × (place < b)
