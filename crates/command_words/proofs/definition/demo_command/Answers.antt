use Rattle.command_words.proofs.Common.{codes, new_app, number_word}
use Rattle.command_words.proofs.definition.demo_command.Goals as goal

pub returns : goal.returns
returns c = c.add_argument.ensures (new_app (codes "demo")) (number_word (codes "seed")) c.named_command.ensures c.number_word.ensures
