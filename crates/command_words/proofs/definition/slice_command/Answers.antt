use Rattle.command_words.proofs.Common.{codes, number_word, pair_app}
use Rattle.command_words.proofs.definition.slice_command.Goals as goal

pub returns : goal.returns
returns c =
    let s1 = c.add_argument-command.ensures (pair_app (codes "slice")) (number_word (codes "hart")) c.pair_command-command.ensures c.number_word.ensures in
    let s2 = c.add_argument-command-2.ensures _ (number_word (codes "interval")) s1 c.number_word-2.ensures in
    c.add_argument.ensures _ (number_word (codes "ic")) s2 c.number_word-3.ensures
