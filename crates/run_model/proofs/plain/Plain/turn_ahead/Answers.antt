use Rattle.run_model.proofs.Common.{◌≡◌, ℕ, false, is_cut, Global, Vec, List, length, sym, subst, ap, ◌∙◌, arith, refl, slice_get, HartState, Start, IsRun, IsTraceFit, size_of, on_ok_weaker, on_err_weaker, length-set, parts, Hart, Program, Want, hart_in, is_live_hart, IsMoved, in_state, turn, ask_at}
use Rattle.run_model.proofs.OneTurn.{live_within}
use Rattle.run_model.proofs.InPlace.{IsAside, IsAtAsk, access_taken, at_ask, back, like_itself, own_moved, stands_on, swept_aside}
use Rattle.run_model.proofs.PlainFits.{IsLike, like_fit, like_trace}
use Rattle.run_model.proofs.plain.Plain.turn_ahead.Goals.{After-move_on-want, After-put_back, in-Load+else-take_load, in-Store+else-take_store, in_default}
use Rattle.run_model.proofs.plain.Plain.turn_ahead.Goals as goal

asks : (c : After-move_on-want) {want : Want} → c.move_on-want.result ≡ want → is_cut want ≡ false → IsAtAsk (parts c.args.self.now) c.args.hart c.move_on-want.new.self want
asks c is cut =
    let m = c.move_on-want in
    at_ask (parts c.args.self.now) c.args.hart _ m.new.self m.result _ c.each_ask_is_orderly.ensures.orderly c.args.self.now.fits c.requires.live c.requires.code m.ensures.want m.ensures.moved is cut

moved : (c : After-move_on-want) → IsMoved c.args.hart (ask_at c.args.self.now.start.settings c.args.self.now.start.image (hart_in c.args.self.now.trace.harts.items c.args.hart)).state c.args.self.now.trace c.move_on-want.new.self
moved c =
    let p = c.args.self.now in let k = c.args.hart in
    subst (λ (i : Program). IsMoved k (ask_at p.start.settings i (hart_in p.trace.harts.items k)).state p.trace c.move_on-want.new.self) c.requires.code c.move_on-want.ensures.moved

aside : (c : After-put_back)
    → IsAside c.move_on-want.new.self c.args.self.now.start c.args.self.now.machine c.args.self.now.turns c.move_on-want.result c.match-want.self.1.0 c.match-want.self.1.1.0 c.match-want.self.1.1.1.0 c.match-want.self.1.1.1.1.0 c.match-want.want
aside c =
    let p = c.args.self.now in let on = c.move_on-want.new.self in
    elim c.match-want.branch [
      | in-Load+else-take_load w ↦ rw (w.self-is, w.want-is) (swept_aside (parts p) (parts w.take_load.new.self) on c.move_on-want.result _ w.if-take_load.ensures (sym w.in-Load.is))
      | in-Store+else-take_store w ↦ rw (w.self-is, w.want-is) (swept_aside (parts p) (parts w.take_store.new.self) on c.move_on-want.result _ w.if-take_store.ensures (sym w.in-Store.is))
      | in_default w ↦ rw (w.self-is, w.want-is) (record { start_is = refl; machine_is = refl; turns_is = refl; want_is = refl; like = like_itself on })
    ]

like : (c : After-put_back) → IsLike c.args.self.now.trace c.put_back.new.self
like c =
    let p = c.args.self.now in let k = c.args.hart in
    let at = goal.at.invariant_of-self-2 c in
    let live = live_within p.trace.harts.items k c.requires.live in
    back p.trace c.move_on-want.new.self c.match-want.self.1.1.1.0 c.put_back.new.self k _ c.state-before.result.now live.0 c.state-before.ensures (moved at.After-move_on-want) (aside c).like c.put_back.ensures.moved

pub invariant_of-self : goal.invariant_of-self
invariant_of-self c = record { memory = c.args.self.now.memory; fits = (asks (goal.at.invariant_of-self c).After-move_on-want c.in-Load.is refl).fits }

pub take_load-requires : goal.take_load-requires
take_load-requires c = (asks (goal.at.take_load-requires c).After-move_on-want c.in-Load.is refl).asks

pub returns-then-take_load-clause-run : goal.returns-then-take_load-clause-run
returns-then-take_load-clause-run c = access_taken (parts c.args.self.now) (parts c.take_load.new.self) _ _ _ (λ y reply ic. refl) (record { cut = refl; call = λ i m. refl }) (asks (goal.at.returns-then-take_load-clause-run c).After-move_on-want c.in-Load.is refl) c.if-take_load.ensures

pub invariant_of-self-in-Store-1 : goal.invariant_of-self-in-Store-1
invariant_of-self-in-Store-1 c = record { memory = c.args.self.now.memory; fits = (asks (goal.at.invariant_of-self-in-Store-1 c).After-move_on-want c.in-Store.is refl).fits }

pub take_store-requires : goal.take_store-requires
take_store-requires c = (asks (goal.at.take_store-requires c).After-move_on-want c.in-Store.is refl).asks

pub returns-then-take_store-clause-run : goal.returns-then-take_store-clause-run
returns-then-take_store-clause-run c = access_taken (parts c.args.self.now) (parts c.take_store.new.self) _ _ _ (λ y reply ic. refl) (record { cut = refl; call = λ i m. refl }) (asks (goal.at.returns-then-take_store-clause-run c).After-move_on-want c.in-Store.is refl) c.if-take_store.ensures

pub put_back-requires : goal.put_back-requires
put_back-requires c =
    let p = c.args.self.now in let k = c.args.hart in
    let m = moved (goal.at.put_back-requires c).After-move_on-want in
    let live = live_within p.trace.harts.items k c.requires.live in
    let len : length c.match-want.self.1.1.1.0.harts.items ≡ length c.move_on-want.new.self.harts.items = elim c.match-want.branch [
      | in-Load+else-take_load w ↦ rw (w.self-is) (ap (λ (v : Vec Hart Global). length v.items) w.if-take_load.ensures.harts)
      | in-Store+else-take_store w ↦ rw (w.self-is) (ap (λ (v : Vec Hart Global). length v.items) w.if-take_store.ensures.harts)
      | in_default w ↦ rw (w.self-is) refl
    ] in
    omega (arith, live.0, len, ap (λ (xs : List Hart). length xs) m.harts, length-set p.trace.harts.items k (in_state (ask_at p.start.settings p.start.image (hart_in p.trace.harts.items k)).state (hart_in p.trace.harts.items k)))

pub invariant_of-self-2 : goal.invariant_of-self-2
invariant_of-self-2 c =
    let p = c.args.self.now in
    let a = aside c in
    record {
      memory = ap size_of a.machine_is ∙ p.memory ∙ sym (ap (λ (x : Start). x.image.memory) a.start_is);
      fits = subst (λ (x : Start). IsTraceFit x.settings c.put_back.new.self c.match-want.self.1.1.1.1.0) (sym a.start_is)
          (subst (λ (n : ℕ). IsTraceFit p.start.settings c.put_back.new.self n) (sym a.turns_is) (like_fit p.start.settings p.trace c.put_back.new.self p.turns p.fits (like c)));
    }

pub take_in_parts-requires-clause-live : goal.take_in_parts-requires-clause-live
take_in_parts-requires-clause-live c =
    ap (λ (xs : List Hart). is_live_hart (slice_get xs c.args.hart)) (like (goal.at.take_in_parts-requires-clause-live c).After-put_back).harts ∙ c.requires.live

pub take_in_parts-requires-clause-asked : goal.take_in_parts-requires-clause-asked
take_in_parts-requires-clause-asked c =
    let p = c.args.self.now in let k = c.args.hart in let h : Hart = hart_in p.trace.harts.items k in
    let at = goal.at.take_in_parts-requires-clause-asked c in
    let live = live_within p.trace.harts.items k c.requires.live in
    let s : HartState = (ask_at p.start.settings p.start.image h).state in
    let a = aside at.After-put_back in let l = like at.After-put_back in
    let was : ◌≡◌ {A = HartState} (record { pc = c.put_back.new.pc; x = c.put_back.new.x; ic = c.put_back.new.ic }) s = c.put_back.ensures.state ∙ ap (λ (xs : List Hart). (hart_in xs k).state) a.like.harts ∙ ap (λ (y : Hart). y.state) (own_moved p.trace c.move_on-want.new.self k s (moved at.After-move_on-want) live.0) in
    let want : c.match-want.want ≡ (ask_at p.start.settings p.start.image h).want = a.want_is ∙ c.move_on-want.ensures.want ∙ ap (λ (i : Program). (ask_at p.start.settings i h).want) c.requires.code in
    ap (λ (x : HartState). record { state = x; want = c.match-want.want }) was
    ∙ ap (λ (w : Want). record { state = s; want = w }) want
    ∙ ap (λ (xs : List Hart). ask_at p.start.settings p.start.image (hart_in xs k)) (sym l.harts)
    ∙ ap (λ (x : Start). ask_at x.settings x.image (hart_in c.put_back.new.self.harts.items k)) (sym a.start_is)

pub returns-clause-run : goal.returns-clause-run
returns-clause-run c =
    let p = c.args.self.now in
    let at = goal.at.returns-clause-run c in
    let a = aside at.After-put_back in let l = like at.After-put_back in
    on_ok_weaker c.take_in_parts.result (λ each run is. subst (λ (x : Start). IsRun (parts c.take_in_parts.new.self) (turn x.settings x.image run c.args.hart)) a.start_is (each run (stands_on (parts p) _ run a.start_is a.machine_is a.turns_is is.machine (like_trace p.start.settings p.trace c.put_back.new.self run is.trace l) is.turns))) c.take_in_parts.ensures.run

pub returns-clause-refused : goal.returns-clause-refused
returns-clause-refused c =
    let p = c.args.self.now in
    let at = goal.at.returns-clause-refused c in
    let a = aside at.After-put_back in let l = like at.After-put_back in
    on_err_weaker c.take_in_parts.result (λ each run is. each run (stands_on (parts p) _ run a.start_is a.machine_is a.turns_is is.machine (like_trace p.start.settings p.trace c.put_back.new.self run is.trace l) is.turns)) c.take_in_parts.ensures.refused

pub state-before-requires : goal.state-before-requires
state-before-requires c =
    let p = c.args.self.now in
    let live = live_within p.trace.harts.items c.args.hart c.requires.live in
    omega (arith, live.0, p.fits.harts)

pub move_on-want-requires : goal.move_on-want-requires
move_on-want-requires c = (live_within c.args.self.now.trace.harts.items c.args.hart c.requires.live).0

pub returns-clause-start : goal.returns-clause-start
returns-clause-start c = c.take_in_parts.ensures.start ∙ (aside (goal.at.returns-clause-start c).After-put_back).start_is
