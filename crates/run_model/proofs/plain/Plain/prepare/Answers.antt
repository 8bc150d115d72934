use Rattle.run_model.proofs.Common.{ℕ, List, sym, subst, ◌∙◌, IsMachine, IsPlanned, Machine, parts}
use Rattle.run_model.proofs.Meant.{is_before}
use Rattle.run_model.proofs.PlainFits.{IsLike, like_fit, like_trace, only_reserved, swept_like}
use Rattle.run_model.proofs.plain.Plain.prepare.Goals.{After-pages, After-reserve, After-stream_room}
use Rattle.run_model.proofs.plain.Plain.prepare.Goals as goal

paged : (c : After-pages) (m : Machine) → IsMachine c.args.self.now.start.input.items c.args.self.now.machine m → IsMachine c.args.self.now.start.input.items c.pages.new.self m
paged c m is = subst (λ (xs : List ℕ). IsMachine xs c.pages.new.self m) c.deref-2.ensures.value (c.pages.ensures.stands m (subst (λ (xs : List ℕ). IsMachine xs c.args.self.now.machine m) (sym c.deref-2.ensures.value) is))

like : (c : After-reserve) → IsLike c.args.self.now.trace c.reserve.new.self
like c = let r = c.reserve.ensures in swept_like (only_reserved (parts c.args.self.now) c.reserve.new.self r.shadow r.same r.harts r.caches r.log)

roomed : (c : After-stream_room) (m : Machine) → IsMachine c.args.self.now.start.input.items c.pages.new.self m → IsMachine c.args.self.now.start.input.items c.stream_room.new.self m
roomed c m is = subst (λ (xs : List ℕ). IsMachine xs c.stream_room.new.self m) c.deref-3.ensures.value (c.stream_room.ensures.stands m (subst (λ (xs : List ℕ). IsMachine xs c.pages.new.self m) (sym c.deref-3.ensures.value) is))

pub returns-in_err-pages-clause-run : goal.returns-in_err-pages-clause-run
returns-in_err-pages-clause-run c run is = record { machine = paged (goal.at.returns-in_err-pages-clause-run c).After-pages run.machine is.machine; trace = is.trace; turns = is.turns }

pub returns-in_err-reserve-clause-run : goal.returns-in_err-reserve-clause-run
returns-in_err-reserve-clause-run c run is =
    let at = goal.at.returns-in_err-reserve-clause-run c in
    record { machine = paged at.After-pages run.machine is.machine; trace = like_trace _ _ _ run is.trace (like at.After-reserve); turns = is.turns }

pub returns-in_err-stream_room-clause-run : goal.returns-in_err-stream_room-clause-run
returns-in_err-stream_room-clause-run c run is =
    let at = goal.at.returns-in_err-stream_room-clause-run c in
    record { machine = roomed at.After-stream_room run.machine (paged at.After-pages run.machine is.machine); trace = like_trace _ _ _ run is.trace (like at.After-reserve); turns = is.turns }

pub returns-clause-run : goal.returns-clause-run
returns-clause-run c run is =
    let at = goal.at.returns-clause-run c in
    record { machine = roomed at.After-stream_room run.machine (paged at.After-pages run.machine is.machine); trace = like_trace _ _ _ run is.trace (like at.After-reserve); turns = is.turns }

pub returns-clause-call : goal.returns-clause-call
returns-clause-call c m is =
    let now : IsMachine c.args.self.now.start.input.items c.pages.new.self m = is_before c.args.self.now.start.input.items c.pages.new.self c.stream_room.new.self m c.stream_room.ensures.same is in
    let before : IsMachine c.args.self.now.start.input.items c.args.self.now.machine m = is_before c.args.self.now.start.input.items c.args.self.now.machine c.pages.new.self m c.pages.ensures.same now in
    c.call-call.ensures.value m (subst (λ (xs : List ℕ). IsMachine xs c.args.self.now.machine m) (sym c.deref.ensures.value) before)

pub pages-requires-clause-planned : goal.pages-requires-clause-planned
pages-requires-clause-planned c =
    let p = c.args.self.now in
    subst (λ (xs : List ℕ). IsPlanned p.start.image xs p.machine c.call-call.result c.args.ask.now.want) (c.deref.ensures.value ∙ sym c.deref-2.ensures.value) c.call-call.ensures.planned

pub invariant_of-self : goal.invariant_of-self
invariant_of-self c = record { memory = c.pages.ensures.size ∙ c.args.self.now.memory; fits = c.args.self.now.fits }

pub stream_room-requires : goal.stream_room-requires
stream_room-requires c =
    let p = c.args.self.now in
    record { planned = subst (λ (xs : List ℕ). IsPlanned p.start.image xs c.pages.new.self c.call-call.result c.args.ask.now.want) (c.deref-2.ensures.value ∙ sym c.deref-3.ensures.value) c.pages.ensures.planned }

pub invariant_of-self-2 : goal.invariant_of-self-2
invariant_of-self-2 c =
    let p = c.args.self.now in
    record { memory = c.stream_room.ensures.size ∙ c.pages.ensures.size ∙ p.memory; fits = like_fit p.start.settings p.trace c.reserve.new.self p.turns p.fits (like (goal.at.invariant_of-self-2 c).After-reserve) }
