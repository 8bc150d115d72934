use Rattle.hart_replay.proofs.Common.{ℕ, Some, None, Err, refl, subst, arith, Store, Stored, stored_word, side_of}
use Rattle.hart_replay.proofs.Going.{loading_does, missing_does, part_does, Kept}
use Rattle.hart_replay.proofs.interval_cursor.IntervalCursor.store_part.Goals as goal

pub returns-in-Ok-clause-answer : goal.returns-in-Ok-clause-answer
returns-in-Ok-clause-answer c =
    let w = c.args.addr in
    part_does c.args.self.now w c.args.width c.args.value c.args.self.now.state c.keep.result c.keep.new.row c.keep.new.self.state c.keep.new.self.called (side_of c.keep.new.self) c.requires.part (loading_does c.args.self.now c.load_word.new.self c.keep.new.self (Store w c.args.width c.args.value) w c.in-Ok.word (λ x. Stored) (λ x. None) (λ x. Some (w, stored_word w c.args.width c.args.value x)) (stored_word w c.args.width c.args.value c.in-Ok.word) c.keep.result c.keep.new.row
    (omega (arith, c.ranges.addr.fits)) c.in-Ok.ensures.waits c.in-Ok.ensures.ok c.in-Ok.ensures.rest (λ s. refl) (λ v o. refl) refl (subst (λ (z : ℕ). Kept c.load_word.new.self c.keep.new.self (Store w c.args.width c.args.value) Stored None (Some (w, z)) (w, z) c.keep.result c.keep.new.row) c.stored_word.ensures (c.keep.ensures.ok, c.keep.ensures.err)))

pub returns-in-Err-clause-answer : goal.returns-in-Err-clause-answer
returns-in-Err-clause-answer c =
    let w = c.args.addr in
    part_does c.args.self.now w c.args.width c.args.value c.args.self.now.state (Err c.in-Err.error) c.args.row.now c.load_word.new.self.state c.load_word.new.self.called (side_of c.load_word.new.self) c.requires.part (missing_does c.args.self.now c.load_word.new.self (Store w c.args.width c.args.value) w (λ x. Stored) (λ x. None) (λ x. Some (w, stored_word w c.args.width c.args.value x)) c.in-Err.error c.args.row.now
    (omega (arith, c.ranges.addr.fits)) c.in-Err.ensures.waits c.in-Err.ensures.err.1 c.in-Err.ensures.rest c.in-Err.ensures.err.0)
