use Rattle.hart_replay.proofs.Common.{Some, None, refl, arith, Load, Word}
use Rattle.hart_replay.proofs.Going.{loading_does, missing_does}
use Rattle.hart_replay.proofs.interval_cursor.IntervalCursor.load.Goals as goal

pub returns-in-Ok-clause-answer : goal.returns-in-Ok-clause-answer
returns-in-Ok-clause-answer c =
    let w = c.args.addr in
    loading_does c.args.self.now c.load_word.new.self c.keep.new.self (Load w c.args.width c.args.signed c.args.rd) w c.in-Ok.word Word (λ x. Some (w, x)) (λ x. None) c.in-Ok.word c.keep.result c.keep.new.row
    (omega (arith, c.ranges.addr.fits)) c.in-Ok.ensures.waits c.in-Ok.ensures.ok c.in-Ok.ensures.rest (λ s. refl) (λ v o. refl) refl (c.keep.ensures.ok, c.keep.ensures.err)

pub returns-in-Err-clause-answer : goal.returns-in-Err-clause-answer
returns-in-Err-clause-answer c =
    let w = c.args.addr in
    missing_does c.args.self.now c.load_word.new.self (Load w c.args.width c.args.signed c.args.rd) w Word (λ x. Some (w, x)) (λ x. None) c.in-Err.error c.args.row.now
    (omega (arith, c.ranges.addr.fits)) c.in-Err.ensures.waits c.in-Err.ensures.err.1 c.in-Err.ensures.rest c.in-Err.ensures.err.0
