use Rattle.bus_core.proofs.Common.{subst, parts, Seen, IsTold, began_of, run_after}
use Rattle.bus_core.proofs.History.{state_is}
use Rattle.bus_core.proofs.bus.Bus.rows.Goals as goal

pub returns-clause-told : goal.returns-clause-told
returns-clause-told g c tells =
    let b = c.self.inside in
    let p = parts b.plain in let told = g.B.Book.told b.book in
    let h = c.self.invariant.told tells in
    subst (λ (s : Seen). IsTold s s.rows) c.self.view_is (record { told = h.told; state = state_is p b.halted b.disordered told (run_after (began_of p.start) b.halted told) h.run })

pub returns-clause-some : goal.returns-clause-some
returns-clause-some g c =
    let b = c.self.inside in
    let p = parts b.plain in let told = g.B.Book.told b.book in
    let some = c.self.invariant.some in
    (some.0, subst (λ (s : Seen). IsTold s some.0) c.self.view_is (record { told = some.1.told; state = state_is p b.halted b.disordered told (run_after (began_of p.start) b.halted some.0) some.1.run }))
