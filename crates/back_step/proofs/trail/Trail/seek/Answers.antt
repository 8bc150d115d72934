use Rattle.back_step.proofs.Common.{◌≡◌, ◌/◌, ◌<◌, ◌≤◌, List, length, take, slice_get, Some, refl, sym, ap, ◌∙◌, subst, arith, false≢true, Joining, fresh, Entry, Trailed, LeadsBy, CanTake, trailed, IsTrail}
use Rattle.std.proofs.lemmas.Option.{slice_get_read}
use Rattle.back_step.proofs.Leading.{calm_after}
use Rattle.back_step.proofs.Copying.{latest_there, steps_from, steps_lent, can_take, led_there, trail_there}
use Rattle.back_step.proofs.Trailing.{due_is, stays_there, goes_there}
use Rattle.back_step.proofs.trail.Trail.seek.Goals as goal
use Rattle.back_step.proofs.trail.Trail.seek.Goals.{After-index, In_ok-self-inside, else-to-position-via-then-to-position+else-is_due, else-to-position-via-else-to-position}

-- the trail has the position, which isn't past its end
low : (c : After-index) → c.args.to ≤ length c.self.inside.entries.items
low c =
    let size : length c.self.inside.entries.items ≡ length c.args.self.now.trace.entries = ap (λ (t : Trailed). length t.trace.entries) c.self.view_is in
    omega (arith, c.requires, size)

-- the copy from which it is replayed
copied : (c : After-index) → slice_get c.self.inside.copies.items (c.args.to / c.self.inside.every) ≡ Some c.index.result.now
copied c =
    let e = c.self.inside in
    let position : c.len-position.result ≡ length e.entries.items = omega (arith, c.len-position.ensures, e.entries.ok) in
    let latest : c.args.to / e.every < length e.copies.items =
    latest_there e.every (length e.entries.items) (length e.copies.items) c.args.to c.self.invariant.some (low c) c.self.invariant.many (elim c.else-to-position.branch [
      | else-to-position-via-then-to-position+else-is_due w ↦ λ same due.
          false≢true (sym w.if-is_due.false ∙ due_is e.every c.len-position.result (length e.entries.items) w.len.result (length e.copies.items) w.is_due.result w.is_due.ensures position (omega (arith, w.len.ensures, e.copies.ok)) ∙ due)
      | else-to-position-via-else-to-position w ↦ λ same due. absurd (omega (arith, w.if-to-position.false, same, position))
    ]) in
    slice_get_read e.copies.items (length e.copies.items) (c.args.to / e.every) c.index.result.now refl latest c.index.ensures

-- the steps from it lead to what is replayed
led : (c : In_ok-self-inside) → LeadsBy c.index.result.now (steps_from c.self.inside.every c.self.inside.entries.items c.args.to) c.in_ok-self-inside.field-0
led c =
    let e = c.self.inside in
    subst (λ (es : List Entry). LeadsBy c.index.result.now es c.in_ok-self-inside.field-0) (steps_lent e.every e.entries.items c.deref.result.now c.args.to c.deref.ensures.value) c.in_ok-self-inside.ensures

pub returns-then-is_due-clause-there : goal.returns-then-is_due-clause-there
returns-then-is_due-clause-there c =
    let e = c.self.inside in
    let start = fresh e.image.now e.log.now.head.settings.harts e.log.now.records in
    let position : c.len-position.result ≡ length e.entries.items = omega (arith, c.len-position.ensures, e.entries.ok) in
    let due = sym (due_is e.every c.len-position.result (length e.entries.items) c.len.result (length e.copies.items) c.is_due.result c.is_due.ensures position (omega (arith, c.len.ensures, e.copies.ok))) ∙ c.if-is_due.true in
    sym c.self.view_is ∙ (stays_there e.every start e.entries.items e.joint e.copies.items c.args.self.now c.self.view_is c.self.invariant c.args.to (omega (arith, c.if-to-position.true, position)) due).1

pub replay-requires : goal.replay-requires
replay-requires c =
    let e = c.self.inside in
    let a = (goal.at.replay-requires c).After-index in
    subst (CanTake c.index.result.now) (sym (steps_lent e.every e.entries.items c.deref.result.now c.args.to c.deref.ensures.value))
    (can_take e.every _ e.entries.items e.joint e.copies.items c.self.invariant c.args.to (low a) c.index.result.now (copied a))

pub invariant_of-self : goal.invariant_of-self
invariant_of-self c =
    let e = c.self.inside in
    let start = fresh e.image.now e.log.now.head.settings.harts e.log.now.records in
    let a = (goal.at.invariant_of-self c).After-index in
    subst (λ (es : List Entry). IsTrail e.every start es c.in_ok-self-inside.field-0 c.truncate-2.new.self.items) (sym c.truncate.ensures.items)
    (subst (λ (cs : List Joining). IsTrail e.every start (take c.args.to e.entries.items) c.in_ok-self-inside.field-0 cs) (sym c.truncate-2.ensures.items)
    (trail_there e.every start e.entries.items e.joint e.copies.items c.self.invariant c.args.to (low a) c.index.result.now (copied a) c.in_ok-self-inside.field-0 (led (goal.at.invariant_of-self c).In_ok-self-inside)))

pub returns-clause-there : goal.returns-clause-there
returns-clause-there c =
    let e = c.self.inside in
    let start = fresh e.image.now e.log.now.head.settings.harts e.log.now.records in
    let a = (goal.at.returns-clause-there c).After-index in
    ap (λ (es : List Entry). trailed e.every start es c.in_ok-self-inside.field-0) c.truncate.ensures.items
    ∙ goes_there e.every start e.entries.items e.joint c.in_ok-self-inside.field-0 c.args.self.now c.self.view_is c.args.to (led_there e.every start e.entries.items e.joint e.copies.items c.self.invariant c.args.to (low a) c.index.result.now (copied a) c.in_ok-self-inside.field-0 (led (goal.at.returns-clause-there c).In_ok-self-inside))

pub returns-clause-forgotten : goal.returns-clause-forgotten
returns-clause-forgotten c =
    let e = c.self.inside in
    let a = (goal.at.returns-clause-forgotten c).After-index in
    calm_after _ c.in_ok-self-inside.field-0 (take c.args.to e.entries.items) c.self.invariant.calm (led_there e.every _ e.entries.items e.joint e.copies.items c.self.invariant c.args.to (low a) c.index.result.now (copied a) c.in_ok-self-inside.field-0 (led (goal.at.returns-clause-forgotten c).In_ok-self-inside))
