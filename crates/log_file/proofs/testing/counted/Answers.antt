use Rattle.log_file.proofs.Walks.{is_counted, breaks_order}
use Rattle.log_file.proofs.testing.counted.Goals as goal

pub returns-in-None-clause-counted : goal.returns-in-None-clause-counted
returns-in-None-clause-counted c = is_counted c.args.head.now c.args.dropped c.args.bytes.now c.in-Ok.tally c.in-Ok.ensures.tallied c.in-None.is

pub returns-in-Some-clause-refused : goal.returns-in-Some-clause-refused
returns-in-Some-clause-refused c = breaks_order c.args.head.now c.args.dropped c.args.bytes.now c.in-Some.found.at c.in-Some.found.rule c.in-Ok.tally c.in-Ok.ensures.tallied c.in-Some.is
