use Rattle.std.proofs.Common.{sym, ◌∙◌}
use Rattle.demo_run.proofs.Counts.{has-interval}
use Rattle.demo_run.proofs.counting.count_at.Goals as goal

pub count_interval-requires-clause-there : goal.count_interval-requires-clause-there
count_interval-requires-clause-there c none =
    has-interval c.from.result c.in-Header.hart c.in-Header.interval c.in-Header.ic c.in-Header.pc c.in-Header.x c.records.result.now c.args.log.now.records c.args.place c.get.result
    c.from.ensures c.records.ensures.value c.requires.there (sym c.get.ensures ∙ c.in-Header.is) none
