use Rattle.command_words.proofs.Common.{codes, new_app, word}
use Rattle.command_words.proofs.definition.log_command.Goals as goal

pub returns : goal.returns
returns c = c.add_argument.ensures (new_app c.args.name.now) (word (codes "log")) c.named_command.ensures c.word.ensures
