-- How many records a ring took.
use Rattle.std.specs.Prelude.{ℕ, ◌+◌, length}
use Rattle.log_ring.specs.Kept.{Held}

-- those that it dropped, and those that it holds
abbrev pub taken : Held → ℕ
taken ring = ring.dropped + length ring.records
