use Rattle.hart_replay.proofs.Common.{arith, eq-eqb}
use Rattle.hart_replay.proofs.Going.{storing_does}
use Rattle.hart_replay.proofs.interval_cursor.IntervalCursor.store.Goals as goal

pub returns-then-width-eq4-clause-answer : goal.returns-then-width-eq4-clause-answer
returns-then-width-eq4-clause-answer c =
    storing_does c.args.self.now c.keep.new.self c.args.addr c.args.width c.args.value c.keep.result c.keep.new.row (omega (arith, c.ranges.addr.fits)) (eq-eqb c.args.width 4 (omega arith)) (c.keep.ensures.ok, c.keep.ensures.err)
