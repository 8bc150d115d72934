-- The targets of the Edges into a hart of a log in order.
use Rattle.std.specs.Prelude.{◌⊎◌, ℕ, ◌<◌, ◌≤◌, List, [], ◌∷◌}
use Rattle.joint_replay.specs.Common.{EndMark, Phase}
use Rattle.log_order.specs.declared.view.Phase.TheVariants.{Unknown, Awaiting, Open, Done}
use Rattle.joint_replay.specs.Shape.{Span}

-- the count at which the last interval ends
abbrev pub last_of : EndMark → List Span → ℕ
last_of m [] = m.ic
last_of m (s ∷ ss) = last_of s.mark ss

-- a target is below the first Header's count, or in the intervals from there on; without a Header it may be anywhere
abbrev pub IsInside : Phase → EndMark → List Span → ℕ → Type 0
IsInside Unknown m [] ic = Unit {0}
IsInside Unknown m (s ∷ ss) ic = (ic < s.begin) ⊎ ((s.begin ≤ ic) × (ic < last_of s.mark ss))
IsInside (Awaiting next begin) m [] ic = ⊥
IsInside (Awaiting next begin) m (s ∷ ss) ic = (begin ≤ ic) × (ic < last_of s.mark ss)
IsInside (Open next since) m ss ic = (since ≤ ic) × (ic < last_of m ss)
IsInside Done m ss ic = ⊥
