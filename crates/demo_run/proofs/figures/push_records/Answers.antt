use Rattle.std.proofs.Common.{rules, arith}
use Rattle.std.proofs.lemmas.Grind.{common_steps}
use Rattle.demo_run.specs.Texts.{records_line}
use Rattle.demo_run.proofs.figures.push_records.Goals as goal

pub returns-in_err-push_counted : goal.returns-in_err-push_counted
unfolding records_line
returns-in_err-push_counted c = search rules

pub returns : goal.returns
unfolding records_line
returns c = grind (arith, common_steps)
