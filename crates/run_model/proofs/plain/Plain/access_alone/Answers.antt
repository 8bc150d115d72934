use Rattle.run_model.proofs.Common.{false, refl, subst, arith, AsksThere, Load, Hart, hart_in}
use Rattle.run_model.proofs.Owns.{hart_at}
use Rattle.run_model.proofs.plain.Plain.access_alone.Goals.{In-Some}
use Rattle.run_model.proofs.plain.Plain.access_alone.Goals as goal

there : (c : In-Some) → AsksThere c.args.walk.now (hart_in c.args.self.now.trace.harts.items 0).state.x (Load c.in-Some.addr 4 false c.args.op.now.rd)
there c =
    let hs = c.args.self.now.trace.harts.items in
    subst (λ (h : Hart). AsksThere c.args.walk.now h.state.x (Load c.in-Some.addr 4 false c.args.op.now.rd)) (hart_at hs 0 c.index.result.now (omega (arith, c.requires.can.alone, c.args.self.now.fits.harts)) c.index.ensures) c.in-Some.ensures

pub load_alone-requires : goal.load_alone-requires
load_alone-requires c = let can = c.requires.can in record { asks = can.asks _ (there (goal.at.load_alone-requires c).In-Some) refl; alone = can.alone; on = can.on }

pub returns-in-Some : goal.returns-in-Some
returns-in-Some c = record {
  want = Load c.in-Some.addr 4 false c.args.op.now.rd;
  there = there (goal.at.returns-in-Some c).In-Some;
  no_call = record { cut = refl; call = λ i m. refl };
  taken = record { start = c.load_alone.ensures.start; unguarded = c.requires.can.unguarded; run = c.load_alone.ensures.run };
  on = c.load_alone.ensures.one;
  turns = c.load_alone.ensures.turns;
}
