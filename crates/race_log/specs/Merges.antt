-- Merges of the harts' lists of points, and what it means that they respect recorded pairs.
use Rattle.std.specs.Prelude.{◌≡◌, ℕ, zero, suc, ◌<◌, Bool, true, false, ◌&&◌, List, [], ◌∷◌, ◌++◌, ◌==◌, slice_get, Option, Some, None, length, cond, filter, IsTrue}
use Rattle.race_log.specs.Points.{Point}
use Rattle.race_log.specs.Netzer.{IsEdge}

-- whether there is a point, and it is the hart's
abbrev pub is_of_hart : ℕ → Option Point → Bool
is_of_hart hart None = false
is_of_hart hart (Some p) = p.hart == hart

-- the numbers from m on, n of them
abbrev pub count_up : ℕ → ℕ → List ℕ
count_up m zero = []
count_up m (suc n) = m ∷ count_up (suc m) n

-- the place where m first stands in the list, or the list's length
abbrev pub place : List ℕ → ℕ → ℕ
place [] m = 0
place (x ∷ xs) m = cond (x == m) 0 (suc (place xs m))

-- m stands in the order
abbrev pub StandsIn : List ℕ → ℕ → Type 0
StandsIn order m = place order m < length order

-- m stands in the order, and does so before n
abbrev pub Precedes : List ℕ → ℕ → ℕ → Type 0
Precedes order m n = place order m < place order n

-- all places are kept
abbrev pub all_kept : ℕ → Bool
all_kept m = true

-- the hart's list: the kept places of the run that hold its points, as they follow each other
abbrev pub own_list : (ℕ → Bool) → List Point → ℕ → List ℕ
own_list kept run hart = filter (λ m. is_of_hart hart (slice_get run m) && kept m) (count_up 0 (length run))

-- the places of the order that hold points of the hart
abbrev pub own_part : List Point → List ℕ → ℕ → List ℕ
own_part run order hart = filter (λ m. is_of_hart hart (slice_get run m)) order

-- the order is a merge of the harts' lists
-- (numbers that are no places of the run count for nothing)
abbrev pub IsMerge : (ℕ → Bool) → List Point → List ℕ → Type 0
IsMerge kept run order = (hart : ℕ) → own_part run order hart ≡ own_list kept run hart

-- the order is a merge of beginnings of the harts' lists
abbrev pub IsMergeBegun : (ℕ → Bool) → List Point → List ℕ → Type 0
IsMergeBegun kept run order = (hart : ℕ) → (rest : List ℕ) × (own_part run order hart ++ rest ≡ own_list kept run hart)

-- m comes next in the hart's list after what the order has of it
abbrev pub IsNext : (ℕ → Bool) → List Point → List ℕ → ℕ → ℕ → Type 0
IsNext kept run order hart m = (rest : List ℕ) × (own_part run order hart ++ m ∷ rest ≡ own_list kept run hart)

-- the order respects the pairs: what stands in it and is the second of a pair stands after the first
abbrev pub Respects : (ℕ → ℕ → Type 0) → List ℕ → Type 0
Respects Pair order = (m n : ℕ) → Pair m n → StandsIn order n → Precedes order m n

-- the pairs are edges between kept places
abbrev pub AreKeptEdges : (ℕ → Bool) → List Point → (ℕ → ℕ → Bool) → Type 0
AreKeptEdges kept run pairs = (m n : ℕ) → IsTrue (pairs m n) → IsEdge run m n × IsTrue (kept m) × IsTrue (kept n)
