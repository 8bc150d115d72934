use Rattle.hart_replay.proofs.Common.{ℕ, Bool, true, false, Option, Some, None, ap, sym, ◌∙◌, eq-eqb, ne_eqb, call_row}
use Rattle.hart_replay.proofs.interval_cursor.IntervalCursor.call_done.Goals as goal

pub returns-then-reason-eq-CALL-clause-row : goal.returns-then-reason-eq-CALL-clause-row
returns-then-reason-eq-CALL-clause-row c =
    let old = c.args.self.now in
    c.call_row.ensures.looked_up old.hart old.image.now old.state c.requires.here
    ∙ ap (λ (n : ℕ). call_row old.hart old.image.now old.state (Some (n, old.mark.value))) c.new.ensures
    ∙ sym (ap (λ (b : Bool). call_row old.hart old.image.now old.state (elim b as (λ x. Option (ℕ × ℕ)) [ true ↦ Some (10, old.mark.value) | false ↦ None ])) (eq-eqb c.args.reason 2 c.if-reason-eq-CALL.true))

pub returns-else-reason-eq-CALL-clause-row : goal.returns-else-reason-eq-CALL-clause-row
returns-else-reason-eq-CALL-clause-row c =
    let old = c.args.self.now in
    c.call_row-else-reason-eq-CALL.ensures.looked_up old.hart old.image.now old.state c.requires.here
    ∙ sym (ap (λ (b : Bool). call_row old.hart old.image.now old.state (elim b as (λ x. Option (ℕ × ℕ)) [ true ↦ Some (10, old.mark.value) | false ↦ None ])) (ne_eqb c.args.reason 2 c.if-reason-eq-CALL.false))
