use Rattle.rv_meaning.proofs.Common.{◌≡◌, ◌-◌, IfSome, ask_of, IsCode}
use Rattle.rv_meaning.proofs.interpreter.quiet_run_in_place.Given as goal

-- what is left to do gives what all of it gives, and the segment that is held is code
abbrev pub invariant-loop : goal.invariant-loop
invariant-loop l =
    (ask_of l.image (l.fn.budget - l.counter) l.state ≡ ask_of l.image l.fn.budget l.fn.state)
    × IfSome l.segment (λ s. IsCode l.image s.now)
