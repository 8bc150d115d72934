use Rattle.run_model.proofs.Common.{Load, ask_here, hart_in, is_aligned, parts, refl, ◌∙◌, and_parts}
use Rattle.run_model.proofs.InPlace.{asks_swept, turned_swept}
use Rattle.run_model.proofs.OneTurn.{passes_of}
use Rattle.run_model.proofs.plain.Plain.load_here.Goals as goal

pub ready_load-requires-clause-loads : goal.ready_load-requires-clause-loads
ready_load-requires-clause-loads c =
    let p = c.args.self.now in let h = hart_in p.trace.harts.items c.args.hart in
    (and_parts (is_aligned c.args.addr c.args.width) _ (passes_of p.start.settings p.start.image h (ask_here h (Load c.args.addr c.args.width c.args.signed c.args.rd)) c.requires.orderly)).1

pub apply_load-requires : goal.apply_load-requires
apply_load-requires c =
    let asks = asks_swept (parts c.args.self.now) (parts c.ready_load.new.self) c.args.hart (Load c.args.addr c.args.width c.args.signed c.args.rd) c.ready_load.ensures.swept c.requires in
    record { hart = asks.hart; live = asks.live; orderly = asks.orderly; race = c.if-not-ready_load.ensures.ready refl }

pub returns : goal.returns
returns c =
    record {
      start = c.apply_load.ensures.start ∙ c.ready_load.ensures.swept.start;
      unguarded = c.if-not-ready_load.ensures.unguarded refl;
      run = turned_swept (parts c.args.self.now) (parts c.ready_load.new.self) (parts c.apply_load.new.self) c.args.hart (Load c.args.addr c.args.width c.args.signed c.args.rd) c.ready_load.ensures.swept c.apply_load.ensures.run;
    }
