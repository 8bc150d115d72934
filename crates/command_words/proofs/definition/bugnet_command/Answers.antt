use Rattle.command_words.proofs.Common.{codes, audit_app, demo_app, log_app, new_log_app, pair_app, races_app, record_app, replay_app, slice_app, top_app}
use Rattle.command_words.proofs.definition.bugnet_command.Goals as goal

pub returns : goal.returns
returns c =
    let s1 = c.add_subcommand-command.ensures top_app record_app c.top_command-command.ensures c.record_command.ensures in
    let s2 = c.add_subcommand-command-2.ensures _ replay_app s1 c.replay_command.ensures in
    let s3 = c.add_subcommand-command-3.ensures _ (pair_app (codes "joint")) s2 c.pair_command.ensures in
    let s4 = c.add_subcommand-command-4.ensures _ (pair_app (codes "debug")) s3 c.pair_command-2.ensures in
    let s5 = c.add_subcommand-command-5.ensures _ (log_app (codes "list")) s4 c.log_command.ensures in
    let s6 = c.add_subcommand-command-6.ensures _ (log_app (codes "check")) s5 c.log_command-2.ensures in
    let s7 = c.add_subcommand-command-7.ensures _ audit_app s6 c.audit_command.ensures in
    let s8 = c.add_subcommand-command-8.ensures _ races_app s7 c.races_command.ensures in
    let s9 = c.add_subcommand-command-9.ensures _ slice_app s8 c.slice_command.ensures in
    let s10 = c.add_subcommand-command-10.ensures _ (new_log_app (codes "convert")) s9 c.new_log_command.ensures in
    let s11 = c.add_subcommand-command-11.ensures _ (new_log_app (codes "salvage")) s10 c.new_log_command-2.ensures in
    c.add_subcommand.ensures _ demo_app s11 c.demo_command.ensures
