use Rattle.std.proofs.Common.{arith}
use Rattle.demo_run.proofs.Counts.{begun-ends, begun-few}
use Rattle.demo_run.proofs.counting.count_interval.Goals as goal

pub count_left-requires-clause-done : goal.count_left-requires-clause-done
count_left-requires-clause-done c = (begun-ends c.args.image.now c.args.log.now c.args.hart c.args.interval c.in-Ok.replayer c.requires.ends c.in-Ok.ensures.begins).done

pub count_left-requires-clause-few : goal.count_left-requires-clause-few
count_left-requires-clause-few c = begun-few c.args.image.now c.args.log.now c.args.hart c.args.interval c.in-Ok.replayer c.requires.ends c.in-Ok.ensures.begins (omega (arith, c.end_of-end.ensures, c.end_of-end.type_inv))
