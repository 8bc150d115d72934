-- Laws of the table of system calls, by their names: a proof elsewhere takes them under these.
use Rattle.std.specs.Prelude.{ℕ, ◌≡◌, ◌==◌, Bool, true, false, ◌||◌}
use Rattle.bn_base.specs.Programs.{Program}
use Rattle.system_calls.specs.declared.kernel.Kernel.{Kernel}
use Rattle.system_calls.specs.declared.effect.Plan.{Plan}
use Rattle.system_calls.specs.declared.effect.Plan.TheVariants.{EndHart, EndRun}
use Rattle.system_calls.specs.Calls.{plan_of}

-- whether a plan ends its hart or the run
abbrev pub is_end : Plan → Bool
is_end (EndHart code) = true
is_end (EndRun code) = true
is_end plan = false

-- exit (93) and exit_group (94) end the hart or the run, whatever their arguments, and no other call does
abbrev pub ExitsAloneEnd : Type 0
ExitsAloneEnd = (number a0 a1 a2 : ℕ) (k : Kernel) (i : Program) → is_end (plan_of number a0 a1 a2 k i) ≡ ((number == 93) || (number == 94))
