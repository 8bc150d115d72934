-- What the words of a command line say.
use Rattle.std.specs.Prelude.{ℕ, Bool, false, List, [], ◌∷◌, Option, Some, None, codes, map, option_and_then, option_map, if◌then◌else◌}
use Rattle.std.specs.String.{string_bytes}
use Rattle.std.specs.Str.{bytes_eq}
use Rattle.std.specs.Str.Parse.{digits_value, without_leading_plus}
use Rattle.std.specs.declared.string.String.{String}
use Rattle.std.specs.declared.alloc.Global.{Global}
use Rattle.clap.specs.ValueTests.{is_unsigned_in}
use Rattle.clap.specs.Words.{Row, Text, fault_of, first_of, subcommand_of}
use Rattle.clap.specs.Kinds.{Kinds}
use Rattle.bn_base.specs.declared.settings.RawSettings.{RawSettings}
use Rattle.bn_base.specs.Ranges.{default_settings}
use Rattle.command_words.specs.App.{bugnet_app}
use Rattle.command_words.specs.declared.commands.RecordOptions.{RecordOptions}
use Rattle.command_words.specs.declared.commands.Command.{Command}
use Rattle.command_words.specs.declared.commands.Command.TheVariants as command

-- ---- what a line asks for, with its names as lists of bytes

-- a recording
pub record RecordingLine : Type 0 where
  pub settings : RawSettings
  pub seed : Option ℕ
  pub lean : Bool
  pub input : Option (List ℕ)
  pub elf : List ℕ
  pub log : List ℕ
  pub book : List ℕ

-- what a contract sees of a command: its names are bytes
pub data Line : Type 0 where
  RecordLine : RecordingLine → Line
  -- log, elf, hart, interval
  ReplayLine : List ℕ → List ℕ → ℕ → ℕ → Line
  -- log, elf
  JointLine : List ℕ → List ℕ → Line
  -- log, elf
  DebugLine : List ℕ → List ℕ → Line
  ListLine : List ℕ → Line
  CheckLine : List ℕ → Line
  -- log, elf, book, input
  AuditLine : List ℕ → List ℕ → List ℕ → Option (List ℕ) → Line
  -- log, elf, most
  RacesLine : List ℕ → List ℕ → ℕ → Line
  -- log, elf, hart, interval, count
  SliceLine : List ℕ → List ℕ → ℕ → ℕ → ℕ → Line
  -- log, new
  ConvertLine : List ℕ → List ℕ → Line
  -- log, new
  SalvageLine : List ℕ → List ℕ → Line
  -- seed
  DemoLine : ℕ → Line

-- what a contract sees of a recording: the texts that its references point to
abbrev pub seen_recording : RecordOptions → RecordingLine
seen_recording r = record {
  settings = r.settings;
  seed = r.seed;
  lean = r.lean;
  input = option_map (λ s. s.now) r.input;
  elf = r.elf.now;
  log = r.log.now;
  book = r.book.now;
}

-- what a contract sees of a command
abbrev pub seen : Command → Line
seen (command.Record recording) = RecordLine (seen_recording recording)
seen (command.Replay log elf hart interval) = ReplayLine log.now elf.now hart interval
seen (command.Joint log elf) = JointLine log.now elf.now
seen (command.Debug log elf) = DebugLine log.now elf.now
seen (command.List log) = ListLine log.now
seen (command.Check log) = CheckLine log.now
seen (command.Audit log elf book input) = AuditLine log.now elf.now book.now (option_map (λ s. s.now) input)
seen (command.Races log elf max) = RacesLine log.now elf.now max
seen (command.Slice log elf hart interval ic) = SliceLine log.now elf.now hart interval ic
seen (command.Convert log new) = ConvertLine log.now new.now
seen (command.Salvage log new) = SalvageLine log.now new.now
seen (command.Demo seed) = DemoLine seed

-- ---- what was found for the arguments of a subcommand

-- a number below 2 ^ 64 in decimal digits, maybe with a plus sign in front
abbrev pub number_of : Text → Option ℕ
number_of t = if is_unsigned_in 0 18446744073709551615 t
    then Some (digits_value 10 (without_leading_plus t)) else None

-- the number of an argument
abbrev pub number_at : Text → List Row → Option ℕ
number_at id rows = option_and_then number_of (first_of id rows)

-- the number that a value says, or the default if there is no value
abbrev pub number_or_default : ℕ → Option Text → Option ℕ
number_or_default default None = Some default
number_or_default default (Some t) = number_of t

-- the number of an option, or its default if it isn't given
abbrev pub number_or : ℕ → Text → List Row → Option ℕ
number_or default id rows = number_or_default default (first_of id rows)

-- the number that a value says, if there is a value
abbrev pub number_if_given : Option Text → Option (Option ℕ)
number_if_given None = Some None
number_if_given (Some t) = option_map Some (number_of t)

-- the number of an option that has no default, if it is given
abbrev pub number_if : Text → List Row → Option (Option ℕ)
number_if id rows = number_if_given (first_of id rows)

-- continues with what was found, if it was
abbrev pub and_then : {X Y : Type 0} → Option X → (X → Option Y) → Option Y
and_then None f = None
and_then (Some x) f = f x

-- the value of a flag is that it is given
abbrev pub is_set : Option Text → Bool
is_set None = false
is_set (Some t) = bytes_eq t (codes "true")

-- whether a flag is given
abbrev pub flag_in : Text → List Row → Bool
flag_in id rows = is_set (first_of id rows)

-- harts, interval, limit and format
abbrev pub run_at : List Row → Option (ℕ × ℕ × ℕ × ℕ)
run_at rows =
    and_then (number_or default_settings.harts (codes "harts") rows) (λ harts.
    and_then (number_or default_settings.interval (codes "interval") rows) (λ interval.
    and_then (number_or default_settings.limit (codes "limit") rows) (λ limit.
    and_then (number_or default_settings.format (codes "format") rows) (λ format.
    Some (harts, interval, limit, format)))))

-- the sizes of the log and of memory
abbrev pub sizes_at : List Row → Option (ℕ × ℕ)
sizes_at rows =
    and_then (number_or default_settings.log_size (codes "log-size") rows) (λ log_size.
    and_then (number_or default_settings.memory (codes "memory") rows) (λ memory.
    Some (log_size, memory)))

-- the sets, ways and words a line of a cache
abbrev pub cache_at : List Row → Option (ℕ × ℕ × ℕ)
cache_at rows =
    and_then (number_or default_settings.sets (codes "sets") rows) (λ sets.
    and_then (number_or default_settings.ways (codes "ways") rows) (λ ways.
    and_then (number_or default_settings.line (codes "line") rows) (λ line.
    Some (sets, ways, line))))

-- the sets and ways of its second level
abbrev pub second_at : List Row → Option (ℕ × ℕ)
second_at rows =
    and_then (number_or default_settings.sets2 (codes "sets2") rows) (λ sets2.
    and_then (number_or default_settings.ways2 (codes "ways2") rows) (λ ways2.
    Some (sets2, ways2)))

-- the settings
abbrev pub settings_in : List Row → Option RawSettings
settings_in rows =
    and_then (run_at rows) (λ run.
    and_then (sizes_at rows) (λ sizes.
    and_then (cache_at rows) (λ cache.
    and_then (second_at rows) (λ second.
    Some (record {
      harts = run.0;
      interval = run.1;
      limit = run.2;
      log_size = sizes.0;
      memory = sizes.1;
      sets = cache.0;
      ways = cache.1;
      line = cache.2;
      format = run.3;
      sets2 = second.0;
      ways2 = second.1;
    })))))

-- the arguments of `record`
abbrev pub recording_in : List Row → Option RecordingLine
recording_in rows =
    and_then (settings_in rows) (λ settings.
    and_then (number_if (codes "seed") rows) (λ seed.
    and_then (first_of (codes "elf") rows) (λ elf.
    and_then (first_of (codes "log") rows) (λ log.
    and_then (first_of (codes "book") rows) (λ book.
    Some (record { settings = settings; seed = seed; lean = flag_in (codes "lean") rows; input = first_of (codes "input") rows; elf = elf; log = log; book = book }))))))

-- the line of `record`
abbrev pub record_in : List Row → Option Line
record_in rows = option_map RecordLine (recording_in rows)

-- the name of a log, and that of another file
abbrev pub pair_at : Text → List Row → Option (Text × Text)
pair_at id rows =
    and_then (first_of (codes "log") rows) (λ log.
    and_then (first_of id rows) (λ other.
    Some (log, other)))

-- a hart and an interval
abbrev pub place_at : List Row → Option (ℕ × ℕ)
place_at rows =
    and_then (number_at (codes "hart") rows) (λ hart.
    and_then (number_at (codes "interval") rows) (λ interval.
    Some (hart, interval)))

-- the line of `replay`
abbrev pub replay_in : List Row → Option Line
replay_in rows =
    and_then (pair_at (codes "elf") rows) (λ files.
    and_then (place_at rows) (λ place.
    Some (ReplayLine files.0 files.1 place.0 place.1)))

-- the line of `joint`
abbrev pub joint_in : List Row → Option Line
joint_in rows = option_map (λ files. JointLine files.0 files.1) (pair_at (codes "elf") rows)

-- the line of `debug`
abbrev pub debug_in : List Row → Option Line
debug_in rows = option_map (λ files. DebugLine files.0 files.1) (pair_at (codes "elf") rows)

-- the line of `list`
abbrev pub list_in : List Row → Option Line
list_in rows = option_map ListLine (first_of (codes "log") rows)

-- the line of `check`
abbrev pub check_in : List Row → Option Line
check_in rows = option_map CheckLine (first_of (codes "log") rows)

-- the line of `audit`
abbrev pub audit_in : List Row → Option Line
audit_in rows =
    and_then (pair_at (codes "elf") rows) (λ files.
    and_then (first_of (codes "book") rows) (λ book.
    Some (AuditLine files.0 files.1 book (first_of (codes "input") rows))))

-- the line of `races`
abbrev pub races_in : List Row → Option Line
races_in rows =
    and_then (pair_at (codes "elf") rows) (λ files.
    and_then (number_at (codes "max") rows) (λ max.
    Some (RacesLine files.0 files.1 max)))

-- the line of `slice`
abbrev pub slice_in : List Row → Option Line
slice_in rows =
    and_then (pair_at (codes "elf") rows) (λ files.
    and_then (place_at rows) (λ place.
    and_then (number_at (codes "ic") rows) (λ ic.
    Some (SliceLine files.0 files.1 place.0 place.1 ic))))

-- the line of `convert`
abbrev pub convert_in : List Row → Option Line
convert_in rows = option_map (λ files. ConvertLine files.0 files.1) (pair_at (codes "new") rows)

-- the line of `salvage`
abbrev pub salvage_in : List Row → Option Line
salvage_in rows = option_map (λ files. SalvageLine files.0 files.1) (pair_at (codes "new") rows)

-- the line of `demo`
abbrev pub demo_in : List Row → Option Line
demo_in rows = option_map DemoLine (number_at (codes "seed") rows)

-- the line of the subcommand of this name, by what was found for its arguments: one of the last four
abbrev pub named_last : Text → List Row → Option Line
named_last name rows = if bytes_eq name (codes "slice") then slice_in rows
    else (if bytes_eq name (codes "convert") then convert_in rows
    else (if bytes_eq name (codes "salvage") then salvage_in rows
    else (if bytes_eq name (codes "demo") then demo_in rows
    else None)))

-- one of the last eight
abbrev pub named_later : Text → List Row → Option Line
named_later name rows = if bytes_eq name (codes "list") then list_in rows
    else (if bytes_eq name (codes "check") then check_in rows
    else (if bytes_eq name (codes "audit") then audit_in rows
    else (if bytes_eq name (codes "races") then races_in rows
    else named_last name rows)))

-- the line of the subcommand of this name, one of the twelve
abbrev pub named : Text → List Row → Option Line
named name rows = if bytes_eq name (codes "record") then record_in rows
    else (if bytes_eq name (codes "replay") then replay_in rows
    else (if bytes_eq name (codes "joint") then joint_in rows
    else (if bytes_eq name (codes "debug") then debug_in rows
    else named_later name rows)))

-- the line of the subcommand that clap found, if it found one
abbrev pub line_in : Option (Text × List Row) → Option Line
line_in None = None
line_in (Some p) = named p.0 p.1

-- ---- the words

-- the line, if clap finds no fault
abbrev pub without_fault : Kinds → Option Line → Option Line
without_fault [] line = line
without_fault (k ∷ ks) line = None

-- what texts say, the program's name first
unfoldable pub line_of : List Text → Option Line
line_of texts = without_fault (fault_of bugnet_app texts) (line_in (subcommand_of bugnet_app texts))

-- what words say, the program's name first; `None` if they are refused: clap finds a fault in
-- them, or they name no command
unfoldable pub command_in : List (String Global) → Option Line
command_in words = line_of (map string_bytes words)
