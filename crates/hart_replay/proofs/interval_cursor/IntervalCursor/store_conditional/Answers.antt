use Rattle.hart_replay.proofs.Common.{List, Bool, Some, ap, sym, ◌∙◌, arith, IntervalCursor}
use Rattle.hart_replay.proofs.Going.{trying_does}
use Rattle.hart_replay.proofs.interval_cursor.IntervalCursor.store_conditional.Goals as goal

pub returns-then-good-clause-answer : goal.returns-then-good-clause-answer
returns-then-good-clause-answer c =
    let old : IntervalCursor = c.args.self.now in
    let with : List Bool → IntervalCursor = λ cs. record old { conditionals = cs } in
    trying_does old (with c.take.new.self) c.keep.new.self c.args.addr c.args.rd c.args.value c.keep.result c.keep.new.row (omega (arith, c.ranges.addr.fits)) (sym c.in-Some.ensures.value ∙ ap (λ (b : Bool). Some b) c.if-good.true) (ap with c.in-Some.ensures.left) (c.keep.ensures.ok, c.keep.ensures.err)
