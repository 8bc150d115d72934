-- The kept Edges into a hart.
use Rattle.std.specs.Prelude.{ℕ, ◌+◌, ◌≤◌, ◌==◌, true, false, List, [], ◌∷◌, Option, Some, None}
use Rattle.joint_replay.specs.Common.{Record, Header, FirstLoad, ScOk, ScFailed, Edge, End, Content}
use Rattle.joint_replay.specs.declared.incoming_edges.IncomingEdge.{IncomingEdge}

-- the Edge into hart h that a record is, if it is one
abbrev pub source_in : ℕ → Record → Option IncomingEdge
source_in h (Header k n ic pc x) = None
source_in h (FirstLoad k skip value) = None
source_in h (ScOk k) = None
source_in h (ScFailed k) = None
source_in h (Edge k n s j) = elim (k == h) [ true ↦ Some (record { target = n; hart = s; ic = j }) | false ↦ None ]
source_in h (End k mark) = None

-- an Edge before the others, if there is one
abbrev pub source_before : Option IncomingEdge → List IncomingEdge → List IncomingEdge
source_before None sources = sources
source_before (Some source) sources = source ∷ sources

-- the Edges into hart h, in log order
abbrev pub edges_into : ℕ → List Record → List IncomingEdge
edges_into h [] = []
edges_into h (r ∷ rs) = source_before (source_in h r) (edges_into h rs)

-- the targets of Edges ascend, and none is more than one below the first number
abbrev pub AscendFrom : ℕ → List IncomingEdge → Type 0
AscendFrom low [] = Unit {0}
AscendFrom low (s ∷ ss) = (low ≤ s.target + 1) × AscendFrom (s.target + 1) ss

-- a hart of a log
pub record HartOf : Type 0 where
  pub log : Content
  pub hart : ℕ

-- hart h of the log
abbrev pub hart_of : Content → ℕ → HartOf
hart_of log h = record { log = log; hart = h }
