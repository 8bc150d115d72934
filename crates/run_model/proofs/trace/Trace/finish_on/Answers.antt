use Rattle.run_model.proofs.Common.{◌≡◌, ◌++◌, ◌∙◌, List, length, refl, sym, subst, length-set, None, [], slice_set, append-nil, absorbed, Record, Hart, TurnEnd, GoesOn, AreCaches, AreHarts, hart_in, ask_here, IsLog, events_after, harts_after, hart_after, skipped_after, next_records, run_over_records}
use Rattle.run_model.proofs.LoneTurns.{own_on, finished_on}
use Rattle.run_model.proofs.Owns.{hart_at}
use Rattle.run_model.proofs.Stopping.{own_set}
use Rattle.run_model.proofs.trace.Trace.finish_on.Goals as goal

pub returns-clause-harts : goal.returns-clause-harts
returns-clause-harts c f are =
    let hs = c.args.self.now.harts.items in
    let h = hart_in hs 0 in
    let x = c.index_mut-own.result.now in
    let s = absorbed (ask_here h c.args.want.now) c.args.reply in
    let there : x ≡ h = hart_at hs 0 x c.requires.can.hart c.index_mut-own.ensures.value in
    let sk = skipped_after c.args.load h.skipped in
    let own : c.absorb_here.new.self ≡ record h { state = s; skipped = sk } = own_on c.args.load x h c.absorb_here.new.self c.args.want.now c.args.reply c.skipped_after-own.result there c.skipped_after-own.ensures c.absorb_here.ensures in
    subst (λ (n : TurnEnd). AreHarts (slice_set hs 0 c.absorb_here.new.self) (harts_after n 0 (hart_after n s sk c.args.self.now.log.bytes h) f)) (sym c.requires.on)
    (subst (λ (y : Hart). AreHarts (slice_set hs 0 y) (harts_after GoesOn 0 (record h { state = s; skipped = sk }) f)) (sym own)
    (own_set hs 0 (record h { state = s; skipped = sk }) f are c.requires.can.hart))

pub returns-clause-holds : goal.returns-clause-holds
returns-clause-holds c f rs are held =
    let hs = c.args.self.now.harts.items in
    let h = hart_in hs 0 in
    let s = absorbed (ask_here h c.args.want.now) c.args.reply in
    subst (λ (n : TurnEnd). IsLog c.args.self.now.log (rs ++ next_records n 0 h.number s ++ run_over_records n 0 (length hs) f)) (sym c.requires.on)
    (subst (λ (ys : List Record). IsLog c.args.self.now.log ys) (sym (append-nil (rs ++ []) ∙ append-nil rs)) held)

pub returns-clause-caches : goal.returns-clause-caches
returns-clause-caches c s span events are =
    subst (λ (n : TurnEnd). AreCaches s c.args.self.now.caches (events_after n 0 None span events)) (sym c.requires.on) are

pub returns-clause-finished : goal.returns-clause-finished
returns-clause-finished c =
    finished_on c.args.self.now _ _ c.requires.on refl refl refl (length-set c.args.self.now.harts.items 0 c.absorb_here.new.self)
