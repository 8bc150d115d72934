use Rattle.run_model.proofs.Common.{Store, ask_here, hart_in, is_aligned, parts, refl, ◌∙◌, and_parts}
use Rattle.run_model.proofs.InPlace.{asks_swept, turned_swept}
use Rattle.run_model.proofs.OneTurn.{passes_of}
use Rattle.run_model.proofs.plain.Plain.store_here.Goals as goal

pub ready_store-requires-clause-stores : goal.ready_store-requires-clause-stores
ready_store-requires-clause-stores c =
    let p = c.args.self.now in let h = hart_in p.trace.harts.items c.args.hart in
    (and_parts _ _ (and_parts (is_aligned c.args.addr c.args.width) _ (passes_of p.start.settings p.start.image h (ask_here h (Store c.args.addr c.args.width c.args.value)) c.requires.orderly)).1).0

pub apply_store-requires : goal.apply_store-requires
apply_store-requires c =
    let p = c.args.self.now in let h = hart_in p.trace.harts.items c.args.hart in
    let asks = asks_swept (parts p) (parts c.ready_store.new.self) c.args.hart (Store c.args.addr c.args.width c.args.value) c.ready_store.ensures.swept c.requires in
    record {
      hart = asks.hart;
      live = asks.live;
      orderly = asks.orderly;
      width = (and_parts (is_aligned c.args.addr c.args.width) _ (passes_of p.start.settings p.start.image h (ask_here h (Store c.args.addr c.args.width c.args.value)) c.requires.orderly)).0;
      race = c.if-not-ready_store.ensures.ready refl;
      page = c.if-not-ready_store.ensures.page refl;
    }

pub returns : goal.returns
returns c =
    record {
      start = c.apply_store.ensures.start ∙ c.ready_store.ensures.swept.start;
      unguarded = c.if-not-ready_store.ensures.unguarded refl;
      run = turned_swept (parts c.args.self.now) (parts c.ready_store.new.self) (parts c.apply_store.new.self) c.args.hart (Store c.args.addr c.args.width c.args.value) c.ready_store.ensures.swept c.apply_store.ensures.run;
    }
