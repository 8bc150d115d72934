-- Chains over places of a run are chains over instructions by hart and count.
use Rattle.std.specs.Prelude.{◌≡◌, ℕ, List, slice_get, Some}
use Rattle.joint_laws.specs.Common.{Record, Point, ProgramOrder, Either, Chain, Leads}
use Rattle.race_log.specs.ByCount.{IsInOrder}
use Rattle.race_laws.specs.Since.{KeptEdge}

-- a chain of program order and kept Edges over places
abbrev pub KeptChain : List Record → List Point → ℕ → ℕ → Type 0
KeptChain records points = Chain (Either (ProgramOrder points) (KeptEdge records points))

-- it leads over instructions too, by hart and count
abbrev pub ChainsLead : Type 0
ChainsLead = (records : List Record) (points : List Point) (m n : ℕ) (p q : Point) → IsInOrder points → KeptChain records points m n
    → slice_get points m ≡ Some p → slice_get points n ≡ Some q → Leads records p.hart p.count q.hart q.count
