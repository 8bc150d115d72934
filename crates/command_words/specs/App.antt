-- The command that the words are read with, as clap sees it.
use Rattle.std.specs.Prelude.{◌≡◌, true, false, List, [], ◌∷◌, Some, codes}
use Rattle.clap.specs.Words.{App, Rule, Shape, Text, app_of, new_app, new_rule, rule_of, with_rule, with_subcommand}
use Rattle.clap.specs.declared.builder.arg.Arg.{Arg}
use Rattle.clap.specs.declared.builder.command.Command.{Command}
use Rattle.clap.specs.declared.builder.command.Command.TheViews.{out-Command}
use Rattle.clap.specs.declared.builder.action.ArgAction.TheVariants.{Set, SetTrue}
use Rattle.clap.specs.declared.builder.value_parser.ValueParser.TheVariants as value_parser

-- `--ID N`, with N below 2 ^ 64
abbrev pub number_option : Text → Rule
number_option id = record (new_rule id) {
  long = Some id;
  action = Some Set;
  parser = Some (value_parser.Unsigned 0 18446744073709551615);
}

-- `--ID TEXT`
abbrev pub text_option : Text → Rule
text_option id = record (new_rule id) { long = Some id; action = Some Set }

-- `--ID`
abbrev pub flag : Text → Rule
flag id = record (new_rule id) { long = Some id; action = Some SetTrue }

-- a word that has to be there
abbrev pub word : Text → Rule
word id = record (new_rule id) { action = Some Set; required = true }

-- a number below 2 ^ 64 that has to be there
abbrev pub number_word : Text → Rule
number_word id = record (word id) { parser = Some (value_parser.Unsigned 0 18446744073709551615) }

-- the most races that are listed, which has to be there
abbrev pub most_word : Text → Rule
most_word id = record (word id) { parser = Some (value_parser.Unsigned 1 1000000) }

-- a command with these arguments
abbrev pub with_rules : App → List Rule → App
with_rules a [] = a
with_rules a (r ∷ rs) = with_rules (with_rule a r) rs

-- the options of `record` that are settings
abbrev pub settings_app : App
settings_app = with_rules (new_app (codes "record"))
    (number_option (codes "harts") ∷ number_option (codes "interval") ∷ number_option (codes "limit")
    ∷ number_option (codes "log-size") ∷ number_option (codes "memory") ∷ number_option (codes "sets")
    ∷ number_option (codes "ways") ∷ number_option (codes "line")
    ∷ number_option (codes "format") ∷ number_option (codes "sets2") ∷ number_option (codes "ways2") ∷ [])

-- `record [SETTINGS] [--seed N] [--lean] [--input FILE] ELF LOG BOOK`
abbrev pub record_app : App
record_app = with_rules settings_app
    (number_option (codes "seed") ∷ flag (codes "lean") ∷ text_option (codes "input")
    ∷ word (codes "elf") ∷ word (codes "log") ∷ word (codes "book") ∷ [])

-- `replay LOG ELF HART INTERVAL`
abbrev pub replay_app : App
replay_app = with_rules (new_app (codes "replay"))
    (word (codes "log") ∷ word (codes "elf") ∷ number_word (codes "hart") ∷ number_word (codes "interval") ∷ [])

-- `NAME LOG ELF`
abbrev pub pair_app : Text → App
pair_app name = with_rules (new_app name) (word (codes "log") ∷ word (codes "elf") ∷ [])

-- `NAME LOG`
abbrev pub log_app : Text → App
log_app name = with_rules (new_app name) (word (codes "log") ∷ [])

-- `audit LOG ELF BOOK [--input FILE]`
abbrev pub audit_app : App
audit_app = with_rules (new_app (codes "audit"))
    (text_option (codes "input") ∷ word (codes "log") ∷ word (codes "elf") ∷ word (codes "book") ∷ [])

-- `races LOG ELF MAX`
abbrev pub races_app : App
races_app = with_rule (pair_app (codes "races")) (most_word (codes "max"))

-- `slice LOG ELF HART INTERVAL IC`
abbrev pub slice_app : App
slice_app = with_rules (pair_app (codes "slice")) (number_word (codes "hart") ∷ number_word (codes "interval") ∷ number_word (codes "ic") ∷ [])

-- `NAME LOG NEW`
abbrev pub new_log_app : Text → App
new_log_app name = with_rule (log_app name) (word (codes "new"))

-- `demo SEED`
abbrev pub demo_app : App
demo_app = with_rules (new_app (codes "demo")) (number_word (codes "seed") ∷ [])

-- a line names one of the subcommands
abbrev pub top_app : App
top_app = record (new_app (codes "bugnet")) {
  top = record (new_app (codes "bugnet")).top { subcommand_required = true };
}

-- a command with these subcommands
abbrev pub with_subcommands : App → List Shape → App
with_subcommands a [] = a
with_subcommands a (s ∷ ss) = with_subcommands (with_subcommand a s) ss

-- the whole command
abbrev pub bugnet_app : App
bugnet_app = with_subcommands top_app
    (record_app.top ∷ replay_app.top ∷ (pair_app (codes "joint")).top ∷ (pair_app (codes "debug")).top
    ∷ (log_app (codes "list")).top ∷ (log_app (codes "check")).top ∷ audit_app.top
    ∷ races_app.top ∷ slice_app.top ∷ (new_log_app (codes "convert")).top ∷ (new_log_app (codes "salvage")).top ∷ demo_app.top ∷ [])

-- the command is seen as this, and has nothing global
abbrev pub IsSeenAs : App → Command → Type 0
IsSeenAs a c = (app_of c ≡ a) × ((out-Command c).has_globals ≡ false)

-- the argument is read by this rule, and is not global
abbrev pub IsRule : Rule → Arg → Type 0
IsRule r a = (rule_of a ≡ r) × (a.global ≡ false)
