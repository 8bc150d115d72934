use Rattle.command_words.proofs.Common.{codes, log_app, word}
use Rattle.command_words.proofs.definition.pair_command.Goals as goal

pub returns : goal.returns
returns c = c.add_argument.ensures (log_app c.args.name.now) (word (codes "elf")) c.log_command.ensures c.word.ensures
