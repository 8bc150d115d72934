use Rattle.log_commands.proofs.Common.{codes}
use Rattle.log_commands.proofs.Prints.{joined}
use Rattle.log_commands.proofs.lines.push_stuck.Goals as goal

pub returns : goal.returns
returns c = joined c.push_positions.result c.args.text.now c.push_str.new.self c.push_positions.new.text (codes "replay: Stuck") _ c.in_ok-push_str.ensures.ok c.push_positions.ensures
