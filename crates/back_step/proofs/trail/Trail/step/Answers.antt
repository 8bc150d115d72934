use Rattle.back_step.proofs.Common.{◌≡◌, ◌∷◌, ◌++◌, [], List, length, ap, refl, sym, inl, inr, ◌∙◌, arith, fresh, readiness, Entry, Trailed}
use Rattle.back_step.proofs.Trailing.{on_ok, trail_longer}
use Rattle.back_step.proofs.trail.Trail.step.Goals as goal

pub invariant_of-self-in-Ok : goal.invariant_of-self-in-Ok
invariant_of-self-in-Ok c =
    let e = c.self.inside in
    let start = fresh e.image.now e.log.now.head.settings.harts e.log.now.records in
    let position : c.len-position.result ≡ length e.entries.items = omega (arith, c.len-position.ensures, e.entries.ok) in
    let kept = on_ok c.keep_copy.result (sym c.is_err.ensures.value ∙ c.if-is_err.false) c.keep_copy.ensures.ok in
    trail_longer e.every start e.entries.items e.joint e.copies.items c.self.invariant c.len-position.result c.len.result c.is_due-due.result c.is_due-due.ensures position (omega (arith, c.len.ensures, e.copies.ok)) c.keep_copy.new.copies.items kept
    c.args.hart c.step.new.self c.in-Ok.stepped c.put.new.entries.items c.of.result (ap (λ (t : Trailed). readiness t.trace.now c.args.hart) c.self.view_is ∙ c.requires.ready) c.in-Ok.ensures c.of.ensures
    (c.put.ensures ∙ ap (λ (es : List Entry). es ++ c.of.result ∷ []) c.reserve.ensures.items)

pub step-requires-clause-there : goal.step-requires-clause-there
step-requires-clause-there c =
    let lanes = ap (λ (t : Trailed). length t.trace.now.lanes) c.self.view_is in
    omega (arith, lanes, c.requires.there)

pub step-requires-clause-ready : goal.step-requires-clause-ready
step-requires-clause-ready c = ap (λ (t : Trailed). readiness t.trace.now c.args.hart) c.self.view_is ∙ c.requires.ready

pub returns-then-is_err-2 : goal.returns-then-is_err-2
returns-then-is_err-2 c =
    let e = c.self.inside in
    let same = ap (λ (es : List Entry). record { every = e.every; trace = record { start = fresh e.image.now e.log.now.head.settings.harts e.log.now.records; entries = es; now = e.joint } }) c.reserve.ensures.items in
    inr (refl, inl (same ∙ c.self.view_is))
