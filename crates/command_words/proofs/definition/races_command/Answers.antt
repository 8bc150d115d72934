use Rattle.command_words.proofs.Common.{codes, most_word, pair_app}
use Rattle.command_words.proofs.definition.races_command.Goals as goal

pub returns : goal.returns
returns c = c.add_argument.ensures (pair_app (codes "races")) (most_word (codes "max")) c.pair_command.ensures c.most_word.ensures
