use Rattle.step_debugger.proofs.Common.{◌≡◌, ◌<◌, length, None, sym, subst, Joining, stop_unless}
use Rattle.step_debugger.proofs.Stepping.{lowest_is_ready, lowest_is_there, went}
use Rattle.step_debugger.proofs.moves.go_past.Goals as goal

pub stop_unless-requires : goal.stop_unless-requires
stop_unless-requires c = subst (λ (j : Joining). c.args.hart < length j.lanes) (sym c.joint.ensures) (lowest_is_there c.args.trail.now.trace.now c.args.hart c.requires)

pub step-requires-clause-there : goal.step-requires-clause-there
step-requires-clause-there c = lowest_is_there c.args.trail.now.trace.now c.args.hart c.requires

pub step-requires-clause-ready : goal.step-requires-clause-ready
step-requires-clause-ready c = lowest_is_ready c.args.trail.now.trace.now c.args.hart c.requires

pub returns-in-Ok-step-clause-told : goal.returns-in-Ok-step-clause-told
returns-in-Ok-step-clause-told c =
    went c.args.first c.args.breaks.now c.args.trail.now c.step.new.self c.args.hart c.in-Ok-step.field-0 c.args.text.now c.requires
    (subst (λ (j : Joining). None ≡ stop_unless c.args.first c.args.breaks.now j c.args.hart) c.joint.ensures c.in-None.ensures) c.in-Ok-step.ensures
