use Rattle.command_words.proofs.Common.{codes, number_word, pair_app}
use Rattle.command_words.proofs.definition.replay_command.Goals as goal

pub returns : goal.returns
returns c =
    let s1 = c.add_argument-command.ensures (pair_app (codes "replay")) (number_word (codes "hart")) c.pair_command-command.ensures c.number_word.ensures in
    c.add_argument.ensures _ (number_word (codes "interval")) s1 c.number_word-2.ensures
