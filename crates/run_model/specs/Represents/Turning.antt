-- The parts of a plain machine.
use Rattle.std.specs.Prelude.{ℕ, Bool, slice_get}
use Rattle.run_model.specs.Represents.Harts.{is_live_hart}
use Rattle.run_model.specs.declared.plain.Plain.{Plain}
use Rattle.run_model.specs.Represents.Plain.{PlainParts}

-- the parts that a plain machine has
abbrev pub parts : Plain → PlainParts
parts p = record { start = p.start; machine = p.machine; trace = p.trace; turns = p.turns }

-- whether a hart is there and live
abbrev pub is_live : PlainParts → ℕ → Bool
is_live p k = is_live_hart (slice_get p.trace.harts.items k)
