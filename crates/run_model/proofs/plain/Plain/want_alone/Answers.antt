use Rattle.run_model.proofs.Common.{refl, subst, AsksThere, Want, Load, hart_in}
use Rattle.run_model.proofs.plain.Plain.want_alone.Goals.{In-Load}
use Rattle.run_model.proofs.plain.Plain.want_alone.Goals as goal

there : (c : In-Load) → AsksThere c.args.walk.now (hart_in c.args.self.now.trace.harts.items 0).state.x (Load c.in-Load.addr c.in-Load.width c.in-Load.signed c.in-Load.rd)
there c = subst (λ (w : Want). AsksThere c.args.walk.now (hart_in c.args.self.now.trace.harts.items 0).state.x w) c.in-Load.is c.requires.there

pub load_alone-requires : goal.load_alone-requires
load_alone-requires c = let can = c.requires.can in record { asks = can.asks _ (there (goal.at.load_alone-requires c).In-Load) refl; alone = can.alone; on = can.on }

pub returns-in-Load : goal.returns-in-Load
returns-in-Load c = record {
  want = Load c.in-Load.addr c.in-Load.width c.in-Load.signed c.in-Load.rd;
  there = there (goal.at.returns-in-Load c).In-Load;
  no_call = record { cut = refl; call = λ i m. refl };
  taken = record { start = c.load_alone.ensures.start; unguarded = c.requires.can.unguarded; run = c.load_alone.ensures.run };
  on = c.load_alone.ensures.one;
  turns = c.load_alone.ensures.turns;
}

pub put_alone-requires-clause-there : goal.put_alone-requires-clause-there
put_alone-requires-clause-there c = subst (λ (w : Want). AsksThere c.args.walk.now (hart_in c.args.self.now.trace.harts.items 0).state.x w) c.in-Store.is c.requires.there
