use Rattle.bus_core.proofs.Common.{◌≡◌, ◌<◌, true, ◌∙◌, sym, ap, subst, Vec, Bool, Result, Ok, Global, Hart, Start, hart_in, parts, Served, serve, is_orderly, is_guarded, passes, Reply, IsServed}
use Rattle.std.specs.declared.alloc.AllocError.{AllocError}
use Rattle.bus_core.proofs.Rows.{second_of, live_within, live_there}
use Rattle.bus_core.proofs.Serves.{served_orderly, kept_on_err}
use Rattle.bus_core.proofs.turn.answer_orderly.Goals as goal

pub is_guarded-guarded-requires : goal.is_guarded-guarded-requires
is_guarded-guarded-requires g c =
    let p = c.args.plain.now in
    subst (λ n. c.args.hart < n) p.fits.harts (live_within p.trace.harts.items c.args.hart c.requires.live)

pub prepare-requires : goal.prepare-requires
prepare-requires g c = second_of _ (passes c.args.plain.now.start.image c.args.ask.now.want) c.requires.orderly

pub returns-in_err-call-clause-answers : goal.returns-in_err-call-clause-answers
returns-in_err-call-clause-answers g c = kept_on_err _ c.from_residual.result c.from_residual.ensures.1 c.prepare.ensures.start c.prepare.ensures.run

pub returns-in_err-room-clause-answers : goal.returns-in_err-room-clause-answers
returns-in_err-room-clause-answers g c = kept_on_err _ c.from_residual-in_err-room.result c.from_residual-in_err-room.ensures.1 c.prepare.ensures.start c.prepare.ensures.run

pub apply-reply-requires-clause-hart : goal.apply-reply-requires-clause-hart
apply-reply-requires-clause-hart g c =
    let p = c.args.plain.now in
    let within = subst (λ n. c.args.hart < n) p.fits.harts (live_within p.trace.harts.items c.args.hart c.requires.live) in
    subst (λ (s : Start). c.args.hart < s.settings.harts) (sym c.prepare.ensures.start) within

pub apply-reply-requires-clause-live : goal.apply-reply-requires-clause-live
apply-reply-requires-clause-live g c =
    subst (λ (v : Vec Hart Global). (hart_in v.items c.args.hart).live ≡ true) (sym c.prepare.ensures.harts) (live_there c.args.plain.now.trace.harts.items c.args.hart c.requires.live)

pub returns-clause-answers : goal.returns-clause-answers
returns-clause-answers g c =
    let k = c.args.hart in
    let ask = c.args.ask.now in
    let s = c.prepare.new.self.start in
    let q = parts c.apply-reply.new.self in
    let answer : Result (Reply × Bool) AllocError = Ok (c.apply-reply.result, c.is_guarded-guarded.result) in
    record {
      start = c.apply-reply.ensures.start ∙ c.prepare.ensures.start;
      served = λ run is.
          let here = c.prepare.ensures.run run is in
          let meant = subst (λ (x : Start). is_orderly x.settings x.image (run.harts k) ask ≡ true) (sym c.prepare.ensures.start) (c.requires.meant run is) in
          let served = served_orderly s.settings s.image run k ask c.in_ok-call.call (c.in_ok-call.ensures.call run.machine here.machine) meant in
          let guarded = c.is_guarded-guarded.ensures.run run is ∙ ap (λ (x : Start). is_guarded x.settings run k ask.want) (sym c.prepare.ensures.start) in
          subst (λ (x : Start). IsServed q run (serve x.settings x.image run k ask) answer) c.prepare.ensures.start
          (subst (λ (x : Served). IsServed q run x answer) served (c.apply-reply.ensures.reply run here, guarded, c.apply-reply.ensures.run run here));
    }
