use Rattle.bus_core.proofs.Common.{true, halted, parts}
use Rattle.bus_core.proofs.History.{history_halted, run_seen, state_is}
use Rattle.bus_core.proofs.bus.Bus.halt.Goals as goal

pub invariant_of-self : goal.invariant_of-self
invariant_of-self g c =
    let b = c.self.inside in
    let p = parts b.plain in let q = parts c.halt.new.self in
    let s = c.self.invariant.some in
    record {
      told = λ t. history_halted p q b.halted b.disordered (g.B.Book.told b.book) c.halt.ensures.start c.halt.ensures.run (c.self.invariant.told t);
      some = (s.0, history_halted p q b.halted b.disordered s.0 c.halt.ensures.start c.halt.ensures.run s.1);
    }

pub returns-clause-state : goal.returns-clause-state
returns-clause-state g c run is =
    let b = c.self.inside in
    let p = parts b.plain in let q = parts c.halt.new.self in let told = g.B.Book.told b.book in
    state_is q true b.disordered told (halted run) (c.halt.ensures.run run (run_seen c.notes_decide.ensures p b.halted b.disordered told _ run c.self.view_is is))
