-- What several files of proofs/ cite of other crates and of specs/. They import it from here, by one line.
pub use Rattle.std.proofs.Common.{Bool, Err, IfErr, List, None, Ok, Option, Result, Some, [], ap, ap₂, arith, codes, false, inl, inr, map, refl, subst, sym, true, ℕ, ◌∙◌, ◌∷◌, ◌≡◌, ◌⊎◌}
pub use Rattle.clap.specs.Words.{App, Row, Rule, Text, app_of, fault_of, found_of, is_simple, is_simple_and_free, kind_of, new_app, rule_of, subcommand_of, subcommand_rows_of}
pub use Rattle.command_words.specs.App.{IsRule, audit_app, bugnet_app, demo_app, flag, log_app, most_word, new_log_app, number_option, number_word, pair_app, races_app, record_app, replay_app, settings_app, slice_app, text_option, top_app, word}
pub use Rattle.command_words.specs.Words.{Line, line_in, number_of, without_fault}
unfoldable pub use Rattle.command_words.specs.Words.{command_in, line_of}
