use Rattle.command_words.proofs.Common.{codes, number_option, flag, settings_app, text_option, word}
use Rattle.command_words.proofs.definition.record_command.Goals as goal

pub returns : goal.returns
returns c =
    let s1 = c.add_argument-command.ensures settings_app (number_option (codes "seed")) c.settings_command-command.ensures c.number_option.ensures in
    let s2 = c.add_argument-command-2.ensures _ (flag (codes "lean")) s1 c.flag.ensures in
    let s3 = c.add_argument-command-3.ensures _ (text_option (codes "input")) s2 c.text_option.ensures in
    let s4 = c.add_argument-command-4.ensures _ (word (codes "elf")) s3 c.word.ensures in
    let s5 = c.add_argument-command-5.ensures _ (word (codes "log")) s4 c.word-2.ensures in
    c.add_argument.ensures _ (word (codes "book")) s5 c.word-3.ensures
