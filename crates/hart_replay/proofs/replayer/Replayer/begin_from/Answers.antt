use Rattle.hart_replay.proofs.Common.{false, sym, subst, Program, Begins, side, side_to_come}
use Rattle.hart_replay.proofs.Stepping.{begins}
use Rattle.hart_replay.proofs.replayer.Replayer.begin_from.Goals as goal

pub returns-in-Some-clause-begins : goal.returns-in-Some-clause-begins
returns-in-Some-clause-begins c =
    let start = c.in-Some.start in
    let known = side c.new-in-Some.result c.new-in-Some-2.result c.new-in-Some-3.result.pages in
    subst (λ (p : Program). Begins c.args.image.now c.args.hart c.args.interval c.args.log.now.records
    (record { program = p; mark = c.next_mark.result; state = start.state; left = side_to_come p start.hart c.next_mark.result start.state false known })) (sym c.new.ensures)
    (begins c.args.image.now c.args.hart c.args.interval c.args.log.now.records c.records-records.result.now start c.next_mark.result c.new-in-Some.result c.new-in-Some-2.result c.new-in-Some-3.result.pages
    c.records-records.ensures.value c.in-Some.ensures.start c.in-Some.ensures.hart c.next_mark.ensures c.new-in-Some.ensures c.new-in-Some-2.ensures c.new-in-Some-3.ensures)
