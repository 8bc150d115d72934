-- A crash that was recorded with format 2: the log keeps its interval, which `list` shows and whose replay ends with the fault.
use Rattle.std.specs.Prelude.{◌≡◌, ◌+◌, ℕ, List, [], ◌∷◌, ◌++◌, Some, None}
use Rattle.bn_base.specs.Faults.{fault_number}
use Rattle.bugnet.specs.Common.{Program, EndMark, RawSettings, Files, RecordingLine, ListLine, ReplayLine, Interval, interval_of, kept_of, run_of, ask_at, mark, interval_text, Told, printed, code}
use Rattle.bn_base.specs.declared.fault.Fault.{Fault}
use Rattle.rv_meaning.specs.declared.asks.Want.TheVariants.{Faulted}
use Rattle.bugnet.specs.Answers.{IsAnswer}
use Rattle.bugnet.specs.Headline.{run_text, part_of}
use Rattle.bugnet.specs.Saves.{Leaves, TellsEnd}
use Rattle.log_commands.specs.declared.status.Status.TheVariants as exit

-- the last turn of a run is a fault: of this hart, of this kind and with this value
pub record IsCrash (c : RawSettings) (i : Program) (input turns : List ℕ) : Type 0 where
  pub before : List ℕ
  pub hart : ℕ
  pub kind : Fault
  pub value : ℕ
  pub turns_are : turns ≡ before ++ hart ∷ []
  pub want : (ask_at c i ((run_of c i input before).harts hart)).want ≡ Faulted kind value

-- the mark with which it ends its hart's interval: the hart's count, the fault's reason, and the value
abbrev pub mark_of_crash : {c : RawSettings} {i : Program} {input turns : List ℕ} → IsCrash c i input turns → EndMark
mark_of_crash {c} {i} {input} {turns} k = mark ((run_of c i input turns).harts k.hart).state.ic (16 + fault_number k.kind) k.value

-- a text has this line
pub record HasLine (line text : List ℕ) : Type 0 where
  pub front : List ℕ
  pub back : List ℕ
  pub parts : text ≡ front ++ (line ++ back)

-- what is printed has it
pub record PrintsLine (line : List ℕ) (what : Told) : Type 0 where
  pub text : List ℕ
  pub told : what ≡ printed text
  pub has : HasLine line text

-- Of what a recording leaves that ended in a crash, the log has an interval of the crash's hart that ends with the fault,
-- wherever the log and the program file are by then. Its line is one of those that `list` prints. `replay` prints the run's own
-- rows of it, up to the fault's, and then that end
pub record ShowsCrash {r : RecordingLine} {old new : Files} (l : Leaves r old new) (k : IsCrash r.settings l.program l.input l.turns) : Type 0 where
  pub number : ℕ
  pub interval : Interval
  pub kept : interval_of k.hart number (kept_of r.settings (run_of r.settings l.program l.input l.turns)) ≡ Some interval
  pub mark_is : interval.mark ≡ mark_of_crash k
  pub listed : (files : Files) (log : List ℕ) → files log ≡ new r.log → (what : Told) → IsAnswer None (Some (ListLine log)) files what
      → PrintsLine (interval_text k.hart number interval.start.ic (mark_of_crash k)) what
  pub replayed : (files : Files) (log elf : List ℕ) → files log ≡ new r.log → files elf ≡ old r.elf → (what : Told) → IsAnswer None (Some (ReplayLine log elf k.hart number)) files what
      → what ≡ printed (run_text (part_of l k.hart number) interval)

-- With format 2, if the recording's status is 10, the run's last turn is a crash, and it is shown so. This is so whatever the
-- program, the input, the number of harts, and what the other harts logged
abbrev pub CrashesAreShown : Type 0
CrashesAreShown = (r : RecordingLine) (old new : Files) (l : Leaves r old new) → r.settings.format ≡ 2 → TellsEnd l (code exit.Fault)
    → (k : IsCrash r.settings l.program l.input l.turns) × ShowsCrash l k
