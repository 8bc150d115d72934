use Rattle.bus_core.proofs.Common.{◌≡◌, true, false, subst, parts, Seen, is_live}
use Rattle.bus_core.proofs.History.{live_runs}
use Rattle.bus_core.proofs.bus.Bus.live.Goals as goal

pub returns-clause-running : goal.returns-clause-running
returns-clause-running g c =
    let b = c.self.inside in
    let some = c.self.invariant.some in
    subst (λ (s : Seen). is_live s c.args.hart ≡ true → s.halted ≡ false) c.self.view_is (λ live. live_runs (parts b.plain) b.halted b.disordered some.0 c.args.hart some.1 live)
