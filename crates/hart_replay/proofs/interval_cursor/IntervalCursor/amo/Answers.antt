use Rattle.hart_replay.proofs.Common.{ℕ, Some, refl, subst, arith, Amo, Word, amo_result}
use Rattle.hart_replay.proofs.Going.{loading_does, missing_does, twice, Kept}
use Rattle.hart_replay.proofs.interval_cursor.IntervalCursor.amo.Goals as goal

pub returns-in-Ok-clause-answer : goal.returns-in-Ok-clause-answer
returns-in-Ok-clause-answer c =
    let w = c.args.addr in
    (loading_does c.args.self.now c.load_word.new.self c.keep.new.self (Amo w c.args.op c.args.rd c.args.value) w c.in-Ok.word Word (λ x. Some (w, x)) (λ x. Some (w, amo_result c.args.op x c.args.value)) (amo_result c.args.op c.in-Ok.word c.args.value) c.keep.result c.keep.new.row
    (omega (arith, c.ranges.addr.fits)) c.in-Ok.ensures.waits c.in-Ok.ensures.ok c.in-Ok.ensures.rest (λ s. refl) (λ v o. twice w c.in-Ok.word (amo_result c.args.op c.in-Ok.word c.args.value) v o) refl (subst (λ (z : ℕ). Kept c.load_word.new.self c.keep.new.self (Amo w c.args.op c.args.rd c.args.value) (Word c.in-Ok.word) (Some (w, c.in-Ok.word)) (Some (w, z)) (w, z) c.keep.result c.keep.new.row) c.result-stored.ensures (c.keep.ensures.ok, c.keep.ensures.err)))

pub returns-in-Err-clause-answer : goal.returns-in-Err-clause-answer
returns-in-Err-clause-answer c =
    let w = c.args.addr in
    (missing_does c.args.self.now c.load_word.new.self (Amo w c.args.op c.args.rd c.args.value) w Word (λ x. Some (w, x)) (λ x. Some (w, amo_result c.args.op x c.args.value)) c.in-Err.error c.args.row.now
    (omega (arith, c.ranges.addr.fits)) c.in-Err.ensures.waits c.in-Err.ensures.err.1 c.in-Err.ensures.rest c.in-Err.ensures.err.0)
