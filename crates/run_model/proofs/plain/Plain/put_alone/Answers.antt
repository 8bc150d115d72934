use Rattle.run_model.proofs.Common.{refl, is_aligned, Want, Store, Hart, hart_in, ask_here, and_parts}
use Rattle.run_model.proofs.OneTurn.{passes_of}
use Rattle.std.proofs.Common.{ne_eqb}
use Rattle.run_model.proofs.plain.Plain.put_alone.Goals as goal

pub store_alone-requires : goal.store_alone-requires
store_alone-requires c =
    let p = c.args.self.now in let h : Hart = hart_in p.trace.harts.items 0 in let can = c.requires.can in
    let want : Want = Store c.args.addr c.args.width c.args.value in
    let asks = can.asks want c.requires.there refl in
    let width = and_parts (is_aligned c.args.addr c.args.width) _ (passes_of p.start.settings p.start.image h (ask_here h want) asks.orderly) in
    record { asks = asks; width = width.0; alone = can.alone; on = can.on; page = c.if-not-is_made.ensures refl }

pub store_part_alone-requires : goal.store_part_alone-requires
store_part_alone-requires c =
    let p = c.args.self.now in let h : Hart = hart_in p.trace.harts.items 0 in let can = c.requires.can in
    let want : Want = Store c.args.addr c.args.width c.args.value in
    let asks = can.asks want c.requires.there refl in
    let width = and_parts (is_aligned c.args.addr c.args.width) _ (passes_of p.start.settings p.start.image h (ask_here h want) asks.orderly) in
    record { asks = asks; width = width.0; part = ne_eqb c.args.width 4 c.if-width-eq4.false; alone = can.alone; on = can.on; page = c.if-not-is_made.ensures refl }

pub returns-then-width-eq4 : goal.returns-then-width-eq4
returns-then-width-eq4 c = record {
  want = Store c.args.addr c.args.width c.args.value;
  there = c.requires.there;
  no_call = record { cut = refl; call = λ i m. refl };
  taken = record { start = c.store_alone.ensures.start; unguarded = c.requires.can.unguarded; run = c.store_alone.ensures.run };
  on = c.store_alone.ensures.one;
  turns = c.store_alone.ensures.turns;
}

pub returns-else-width-eq4 : goal.returns-else-width-eq4
returns-else-width-eq4 c = record {
  want = Store c.args.addr c.args.width c.args.value;
  there = c.requires.there;
  no_call = record { cut = refl; call = λ i m. refl };
  taken = record { start = c.store_part_alone.ensures.start; unguarded = c.requires.can.unguarded; run = c.store_part_alone.ensures.run };
  on = c.store_part_alone.ensures.one;
  turns = c.store_part_alone.ensures.turns;
}
