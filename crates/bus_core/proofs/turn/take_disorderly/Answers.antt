use Rattle.bus_core.proofs.Common.{ap, subst, IsRun, Served, parts}
use Rattle.bus_core.proofs.Serves.{served_disorderly}
use Rattle.bus_core.proofs.turn.take_disorderly.Goals as goal

pub returns-clause-answers : goal.returns-clause-answers
returns-clause-answers g c =
    let s = (parts c.args.plain.now).start in
    record {
      start = c.end_all.ensures.start;
      served = λ run is.
          let served = served_disorderly s.settings s.image run c.args.hart c.args.ask.now (c.requires.meant run is) in
          (ap (λ (x : Served). x.reply) served, ap (λ (x : Served). x.guarded) served, subst (λ (x : Served). IsRun (parts c.end_all.new.self) x.run) served (c.end_all.ensures.run run is));
    }
