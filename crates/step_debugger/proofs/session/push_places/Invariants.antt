use Rattle.step_debugger.proofs.Common.{◌≡◌, ◌++◌, ◌-◌, length, places_from}
use Rattle.step_debugger.proofs.session.push_places.Given as goal

-- those of the harts before are told
abbrev pub invariant-loop-hart : goal.invariant-loop-hart
invariant-loop-hart l = l.text ++ places_from l.joint l.hart (length l.joint.lanes - l.hart) ≡ l.fn.text ++ places_from l.joint 0 (length l.joint.lanes)
