-- Orders of points that respect the kept Edges.
use Rattle.std.specs.Prelude.{ℕ, Bool, IsTrue, ◌⊎◌, List, [], ◌∷◌, ◌++◌}
use Rattle.race_laws.specs.Common.{Record, Point, StandsIn, IsMerge, IsMergeBegun, IsNext, Respects}
use Rattle.race_laws.specs.Since.{KeptEdge}

-- among the places are both ends of each kept Edge
abbrev pub HasEnds : (ℕ → Bool) → List Record → List Point → Type 0
HasEnds places records points = (m n : ℕ) → KeptEdge records points m n → IsTrue (places m) × IsTrue (places n)

-- the order merges the harts' lists of these places, and each stands after the sources of all kept Edges into it
pub record IsAllowed (places : ℕ → Bool) (records : List Record) (points : List Point) (order : List ℕ) : Type 0 where
  pub merge : IsMerge places points order
  pub respects : Respects (KeptEdge records points) order

-- the order is the beginning of such a one
pub record IsBegun (places : ℕ → Bool) (records : List Record) (points : List Point) (order : List ℕ) : Type 0 where
  pub merge : IsMergeBegun places points order
  pub respects : Respects (KeptEdge records points) order

-- m comes next in the hart's list, and the order has the sources of all kept Edges into it
pub record IsReady (places : ℕ → Bool) (records : List Record) (points : List Point) (order : List ℕ) (hart m : ℕ) : Type 0 where
  pub next : IsNext places points order hart m
  pub passed : (k : ℕ) → KeptEdge records points k m → StandsIn order k

-- each beginning is whole, or some hart is ready; with what is ready it is a longer beginning
pub record BeginningsGoOn : Type 0 where
  pub some : (places : ℕ → Bool) (records : List Record) (points : List Point) (order : List ℕ) → HasEnds places records points → IsBegun places records points order
      → IsMerge places points order ⊎ ((hart m : ℕ) × IsReady places records points order hart m)
  pub longer : (places : ℕ → Bool) (records : List Record) (points : List Point) (order : List ℕ) (hart m : ℕ) → IsBegun places records points order
      → IsReady places records points order hart m → IsBegun places records points (order ++ m ∷ [])
