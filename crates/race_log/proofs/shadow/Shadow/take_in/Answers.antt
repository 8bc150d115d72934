use Rattle.race_log.proofs.shadow.Shadow.take_in.Goals as goal

pub returns-then-self-eq1 : goal.returns-then-self-eq1
returns-then-self-eq1 c = c.take_in_alone.ensures c.args.first c.args.count c.args.mode
