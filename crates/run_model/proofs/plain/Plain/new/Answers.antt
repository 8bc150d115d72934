use Rattle.run_model.proofs.Common.{ℕ, List, refl, sym, subst, RawSettings, IsMachine, IsTrace, start, start_machine}
use Rattle.run_model.proofs.plain.Plain.new.Goals as goal

pub returns-clause-run : goal.returns-clause-run
returns-clause-run c =
    let f = c.args.from.now in
    record {
      machine = subst (λ (xs : List ℕ). IsMachine xs c.in_ok-machine.machine (start_machine f.image f.input.items)) (sym c.in_ok-start.ensures.input) (c.in_ok-machine.ensures.stands f.input.items);
      trace = subst (λ (s : RawSettings). IsTrace s c.in_ok-trace.trace (start f.settings f.image f.input.items)) (sym c.in_ok-start.ensures.settings) (c.in_ok-trace.ensures.run f.input.items);
      turns = refl;
    }
