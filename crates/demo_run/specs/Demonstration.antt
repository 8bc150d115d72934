-- What is shown of a number: the run of a generated program, its log, and the replays of what that keeps.
use Rattle.std.specs.Prelude.{ℕ, ◌+◌, List, [], ◌∷◌, ◌++◌, length, Option, Some, None}
use Rattle.std.specs.List.{flat_map}
use Rattle.sha2.specs.Sha256.{sha256}
use Rattle.bn_base.specs.Programs.{Program}
use Rattle.bn_base.specs.declared.end_mark.EndMark.{EndMark}
use Rattle.bn_base.specs.declared.settings.RawSettings.{RawSettings}
use Rattle.le_numbers.specs.Numbers.{number_bytes}
use Rattle.elf_loader.specs.Loaded.{program_of}
use Rattle.log_record.specs.declared.record.Record.{Record}
use Rattle.log_record.specs.declared.record.Record.TheVariants.{Header, FirstLoad, ScOk, ScFailed, Edge, End}
use Rattle.log_record.specs.Spelling.{total}
use Rattle.log_file.specs.Counts.{header_count}
use Rattle.hart_replay.specs.Replay.{replayed}
use Rattle.joint_replay.specs.Joining.{run_all}
use Rattle.log_order.specs.Content.{Content}
use Rattle.run_model.specs.KeptRecords.{dropped_of, content_of}
use Rattle.run_model.specs.Runs.{seeded}
use Rattle.bus_core.specs.Bus.{marks}
use Rattle.joint_laws.specs.Recordings.{Recording, recorded, kept, begin}
use Rattle.guest_gen.specs.declared.kind.Kind.TheVariants.{Loop}
use Rattle.guest_gen.specs.File.{guest_bytes}
use Rattle.demo_run.specs.declared.figures.Figures.{Figures}
use Rattle.demo_run.specs.Texts.{figures_text}

-- ---- the recording

-- four harts of 200,000 instructions in intervals of 10,000, a mebibyte of log and of memory, and caches of 16 sets of 2 lines of 4 words
unfoldable pub demo_settings : RawSettings
demo_settings = record {
  harts = 4;
  interval = 10000;
  limit = 200000;
  log_size = 1048576;
  memory = 1048576;
  sets = 16;
  ways = 2;
  line = 4;
  format = 1;
  sets2 = 0;
  ways2 = 0;
}

-- the program file that the number makes, and its program
abbrev pub demo_elf : ℕ → List ℕ
demo_elf seed = guest_bytes seed Loop

-- the program that the loader makes of that file
abbrev pub demo_program : ℕ → Program
demo_program seed = program_of (demo_elf seed) demo_settings

-- the turns that the same number chooses, if the program reads no input
unfoldable pub demo_turns : ℕ → List ℕ
demo_turns seed = seeded demo_settings (demo_program seed) [] seed

-- what is recorded
abbrev pub demo : ℕ → Recording
demo seed = record { settings = demo_settings; program = demo_program seed; elf = demo_elf seed; input = []; turns = demo_turns seed }

-- what its log says
abbrev pub demo_log : ℕ → Content
demo_log seed = content_of demo_settings (sha256 (demo_elf seed)) (recorded (demo seed))

-- ---- what is counted

-- the count of a mark, 0 if there is none
abbrev pub count_of : Option EndMark → ℕ
count_of None = 0
count_of (Some mark) = mark.ic

-- the sum of the counts of harts' last marks
abbrev pub counts_in : List (Option EndMark) → ℕ
counts_in [] = 0
counts_in (mark ∷ marks) = count_of mark + counts_in marks

-- the instructions that all harts did
abbrev pub instructions_of : Recording → ℕ
instructions_of r = counts_in (marks 0 r.settings.harts (recorded r).harts)

-- the rows of the replay, from a log, of the interval that a record begins: only a Header begins one
abbrev pub rows_at : Program → (log : List Record) → Record → ℕ
rows_at i log (Header hart interval ic pc x) = length (replayed i log hart interval).rows
rows_at i log (FirstLoad hart skip value) = 0
rows_at i log (ScOk hart) = 0
rows_at i log (ScFailed hart) = 0
rows_at i log (Edge hart ic from from_ic) = 0
rows_at i log (End hart mark) = 0

-- the rows of all intervals that some records of a log begin, each replayed by itself
abbrev pub rows_in : Program → (log : List Record) → List Record → ℕ
rows_in i log [] = 0
rows_in i log (r ∷ rs) = rows_at i log r + rows_in i log rs

-- the words that are known after the joint replay of what is kept, by ascending address
abbrev pub known_words : Recording → List (ℕ × ℕ)
known_words r = (run_all (begin r (kept r))).walk.now.memory

-- a word after its address
abbrev pub word_bytes : ℕ × ℕ → List ℕ
word_bytes m = number_bytes 4 m.0 ++ number_bytes 4 m.1

-- what is counted of a recording, whose turns a number chose
abbrev pub figures_of : (seed : ℕ) → Recording → Figures
figures_of seed r = record {
  seed = seed;
  turns = length r.turns;
  instructions = instructions_of r;
  records = length (kept r);
  dropped = dropped_of r.settings (recorded r);
  bytes = total (kept r);
  intervals = header_count (kept r);
  rows = rows_in r.program (kept r) (kept r);
  words = length (known_words r);
  digest = sha256 (flat_map word_bytes (known_words r));
}

-- the five lines
abbrev pub demo_text : ℕ → List ℕ
demo_text seed = figures_text (figures_of seed (demo seed))
