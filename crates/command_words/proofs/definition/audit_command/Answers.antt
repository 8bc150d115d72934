use Rattle.command_words.proofs.Common.{codes, new_app, text_option, word}
use Rattle.command_words.proofs.definition.audit_command.Goals as goal

pub returns : goal.returns
returns c =
    let s1 = c.add_argument-command.ensures (new_app (codes "audit")) (text_option (codes "input")) c.named_command-command.ensures c.text_option.ensures in
    let s2 = c.add_argument-command-2.ensures _ (word (codes "log")) s1 c.word.ensures in
    let s3 = c.add_argument-command-3.ensures _ (word (codes "elf")) s2 c.word-2.ensures in
    c.add_argument.ensures _ (word (codes "book")) s3 c.word-3.ensures
