-- Rows that continue from a state.
use Rattle.std.specs.Prelude.{true, is_some, ◌≡◌, ℕ, ◌+◌, ◌<◌, ◌≤◌, List, [], ◌∷◌, None}
use Rattle.joint_replay.specs.Common.{Program, Row, HartState, Outcome, Done, after_row}

-- rows from a state on, up to a count: each has the count of the state before it and counts one more; after the last
-- instruction there may be the row of a fault
abbrev pub RowsFrom : Program → ℕ → Outcome → HartState → List Row → Type 0
RowsFrom i last o s [] = o ≡ Done → last ≤ s.ic
RowsFrom i last o s (r ∷ rs) = (r.ic ≡ s.ic) × (s.ic < last → (r.fault ≡ None) × ((after_row i s r).ic ≡ s.ic + 1))
    × (last ≤ s.ic → (is_some r.fault ≡ true) × (after_row i s r ≡ s)) × RowsFrom i last o (after_row i s r) rs
