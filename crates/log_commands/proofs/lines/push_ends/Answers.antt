use Rattle.log_commands.proofs.Common.{codes}
use Rattle.log_commands.proofs.Prints.{joined}
use Rattle.log_commands.proofs.lines.push_ends.Goals as goal

pub returns : goal.returns
returns c = joined c.push_marks.result c.args.text.now c.push_str.new.self c.push_marks.new.text (codes "replay: EndDiffers ") _ c.in_ok-push_str.ensures.ok c.push_marks.ensures
