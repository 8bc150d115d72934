-- What the command `audit` answers: whether a log is the file of the run of a book's turns.
use Rattle.std.specs.Prelude.{◌≡◌, ◌≤◌, ◌⊎◌, ℕ, Bool, List, ◌∷◌, length, Option, Some, None, Result, Ok, Err}
use Rattle.log_commands.specs.Common.{sha256, Program, RawSettings, IsSetting, Files, image_of, Content, TurnError}
use Rattle.run_files.specs.Files.{file_of}
use Rattle.run_model.specs.Lists.{list_error}
use Rattle.run_files.specs.Audits.{is_version2, version2_of, audited_file, verdict_of}
use Rattle.run_files.specs.declared.verdict.Verdict.{Verdict}
use Rattle.run_files.specs.declared.verdict.Verdict.TheVariants.{Agree, Differ}
use Rattle.replay_laws.specs.Law.{IsWhole}
use Rattle.log_commands.specs.Names.{FileNames}
use Rattle.log_commands.specs.Texts.{agree_text}
use Rattle.log_commands.specs.Told.{Told, printed}
use Rattle.log_commands.specs.Commands.{IsByLog}
use Rattle.log_commands.specs.Evaluated.{told_by}
use Rattle.log_commands.specs.FileCalls.{input_roles}
use Rattle.log_commands.specs.Pairs.{pair_of}
use Rattle.log_commands.specs.Inputs.{input_by}
use Rattle.log_commands.specs.declared.names.Role.{Role}
use Rattle.log_commands.specs.declared.names.Role.TheVariants as role
use Rattle.log_commands.specs.declared.refusal.Refusal.{Refusal}
use Rattle.log_commands.specs.declared.refusal.Refusal.TheVariants.{BookRefused, FileDiffers}

-- what is loaded, in this order
abbrev pub roles_of : (has_input : Bool) → List Role
roles_of has_input = role.Log ∷ role.Elf ∷ role.Book ∷ input_roles has_input

-- the log agrees, or is refused by the first byte that differs
abbrev pub by_verdict : Verdict → Result (Unit {0}) Refusal
by_verdict Agree = Ok tt
by_verdict (Differ place) = Err (FileDiffers place)

-- the book's turns come first: they have to be a whole run
abbrev pub by_turns : Option TurnError → Verdict → Result (Unit {0}) Refusal
by_turns (Some e) verdict = Err (BookRefused e)
by_turns None verdict = by_verdict verdict

-- the bytes of a log are compared with the file of the run of a book's turns
abbrev pub audit_by : RawSettings → Program → (digest input book log : List ℕ) → Result (Unit {0}) Refusal
audit_by c i digest input book log = by_turns (list_error c i input book) (verdict_of (audited_file (is_version2 log) c i digest input book) log)

-- what is told if the log agrees
abbrev pub shown : Unit {0} → Told
shown agreed = printed agree_text

-- the run has the settings and the digest that the log says, its program and this input
abbrev pub audited : FileNames → (log book input : List ℕ) → Content → Program → Told
audited names log book input d i = told_by shown names (audit_by d.head.settings i d.head.digest input book log)

-- the answer of `audit` by the bytes of its files
abbrev pub IsAuditOf : FileNames → (log elf book input : List ℕ) → Told → Type 0
IsAuditOf names log elf book input what = IsByLog names log (pair_of (audited names log book input) names elf) what

-- ---- what agrees

-- the log is the file of the run of the book's turns, or that file in version 2; they are legal and finished for the program and
-- the input, with settings in range
pub record Agrees (log elf book : List ℕ) (input : Option (List ℕ)) (files : Files) : Type 0 where
  pub settings : RawSettings
  pub bytes : List ℕ
  pub program : Program
  pub given : List ℕ
  pub turns : List ℕ
  -- what is there
  pub elf_there : files elf ≡ Some bytes
  pub elf_small : length bytes ≤ 67108864
  pub book_there : files book ≡ Some turns
  pub book_small : length turns ≤ 1073741824
  pub input_there : input_by input files ≡ Some given
  pub input_small : length given ≤ 16777216
  -- the run
  pub setting : IsSetting settings
  pub loaded : image_of bytes settings ≡ Ok program
  pub whole : IsWhole settings program given turns
  pub log_there : (files log ≡ Some (file_of settings program (sha256 bytes) given turns)) ⊎ (files log ≡ Some (version2_of settings program (sha256 bytes) given turns))
