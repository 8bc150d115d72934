use Rattle.command_words.proofs.Common.{codes, new_app, number_option}
use Rattle.command_words.proofs.definition.settings_command.Goals as goal

pub returns : goal.returns
returns c =
    let s1 = c.add_argument-command.ensures (new_app (codes "record")) (number_option (codes "harts")) c.named_command-command.ensures c.number_option.ensures in
    let s2 = c.add_argument-command-2.ensures _ (number_option (codes "interval")) s1 c.number_option-2.ensures in
    let s3 = c.add_argument-command-3.ensures _ (number_option (codes "limit")) s2 c.number_option-3.ensures in
    let s4 = c.add_argument-command-4.ensures _ (number_option (codes "log-size")) s3 c.number_option-4.ensures in
    let s5 = c.add_argument-command-5.ensures _ (number_option (codes "memory")) s4 c.number_option-5.ensures in
    let s6 = c.add_argument-command-6.ensures _ (number_option (codes "sets")) s5 c.number_option-6.ensures in
    let s7 = c.add_argument-command-7.ensures _ (number_option (codes "ways")) s6 c.number_option-7.ensures in
    let s8 = c.add_argument-command-8.ensures _ (number_option (codes "line")) s7 c.number_option-8.ensures in
    let s9 = c.add_argument-command-9.ensures _ (number_option (codes "format")) s8 c.number_option-9.ensures in
    let s10 = c.add_argument-command-10.ensures _ (number_option (codes "sets2")) s9 c.number_option-10.ensures in
    c.add_argument.ensures _ (number_option (codes "ways2")) s10 c.number_option-11.ensures
