use Rattle.std.proofs.Common.{◌≡◌, ◌++◌, ◌-◌, map}
use Rattle.guest_gen.specs.Code.{draws, slot}
use Rattle.guest_gen.specs.File.{code_bytes}
use Rattle.guest_gen.proofs.building.push_slots.Given as goal

-- what is written and what is left to draw are the whole
abbrev pub invariant-loop : goal.invariant-loop
invariant-loop l = l.out.items ++ code_bytes (map slot (draws (256 - l.counter) l.state)) ≡ l.initial.out.items ++ code_bytes (map slot (draws 256 l.fn.seed))
