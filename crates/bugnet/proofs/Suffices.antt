-- The answer to the replay of a recorded interval is the text of the run's own rows.
use Rattle.bugnet.proofs.Common.{◌≡◌, ℕ, ◌<◌, ◌≤◌, ◌^◌, Bool, true, false, List, length, nat_lt, Option, Some, ◌∙◌, ap, subst, sym, refl, arith, inl, inr, ◌⊎◌, Result, Ok, Appends, bytes_eq, bytes_eq-Decides, sha256, Program, Row, RawSettings, Files, Line, ReplayLine, image_of, ElfError, Head, Content, IsContent, file_bytes, file_bytes2, is_second, SavedHaveTheirLimit, Reads, FilesAreRead, Damage, Done, Replayed, Interval, replayed, file_of, content_of, start, run_of, KeptIsAnEnd, EndsSuffice, RowsStandTogether, IsRecording, LogsAreContents, FileNames, Told, refused, printed, Either, IsByFile, WithFile, by_log, IsByLog, replay_with, replay_found, interval_told, ended, pair_loaded, pair_same, pair_of, IsPairOf, IsPair, names_in, names_by, IsAnswer, Part, interval_rows, run_text, SaysEnd, ReplaysRun, IsReplayed, Headline, part_of, RecordingsAreReplayed, RecordingsSayEnds, PrintsRun, WithFiles, Call, IsFree, SomeTold, Tells, StoppedEarly, TellsAnswer, Role, TooLong, fits, of_false, with-files, stopped-free, ReadingsAreUnique, None}
use Rattle.log_file.specs.Laws as of_first
use Rattle.log_blocks.specs.Laws as of_second
use Rattle.run_model.specs.Rows.{rows_in}
use Rattle.log_commands.specs.declared.names.Role.TheVariants as role
use Rattle.bugnet.proofs.Single.{Grammar}
use Rattle.bugnet.proofs.LineTells.{early-free}

-- ---- the log file

-- the laws of log files
pub record FileLaws : Type 0 where
  pub contents : LogsAreContents
  pub limit : SavedHaveTheirLimit
  pub read : FilesAreRead

-- how many bytes files of both versions have
pub record Sizes : Type 0 where
  pub first : of_first.HaveTheirSize
  pub second : of_second.HaveTheirSize
  pub few : of_second.AreFew

spelled-size : Sizes → (second : Bool) (bytes : List ℕ) (d : Content) → IsContent d → elim second as (λ b. Type 0) [ true ↦ bytes ≡ file_bytes2 d | false ↦ (d.head.settings.format ≡ 1) × (bytes ≡ file_bytes d) ]
    → length bytes ≤ 272629760
spelled-size sizes true bytes d is e = omega (arith, ap length e, sizes.second d is, sizes.few d is, is.bound, is.settings.log_size_high)
spelled-size sizes false bytes d is e = omega (arith, ap length e.1, sizes.first d is, is.bound, is.settings.log_size_high)

-- what is read is what a command loads
pub read-size : Sizes → (bytes : List ℕ) (d : Content) → Reads bytes (Ok d) → length bytes ≤ 272629760
read-size sizes bytes d reads = spelled-size sizes (is_second bytes) bytes d reads.0 reads.1

-- ---- the answer

-- the answer by a file that is there
pub by-size : (there : Option (List ℕ)) (names : FileNames) (r : Role) (limit : ℕ) (bytes : List ℕ) (Go : List ℕ → Told → Type 0) (what : Told)
    → there ≡ Some bytes → IsByFile there names r limit Go what → Either (nat_lt limit (length bytes)) (what ≡ refused names (TooLong r)) (Go bytes what)
by-size there names r limit bytes Go what e is = subst (λ (t : Option (List ℕ)). IsByFile t names r limit Go what) e is

pub by-file : (there : Option (List ℕ)) (names : FileNames) (r : Role) (limit : ℕ) (bytes : List ℕ) (Go : List ℕ → Told → Type 0) (what : Told)
    → there ≡ Some bytes → length bytes ≤ limit → IsByFile there names r limit Go what → Go bytes what
by-file there names r limit bytes Go what e h is =
    of_false (nat_lt limit (length bytes)) _ (Go bytes what) (fits limit (length bytes) h) (by-size there names r limit bytes Go what e is)

pub then-so : (b : Bool) (A B C : Type 0) → (B → C) → Either b A B → Either b A C
then-so true A B C f x = x
then-so false A B C f x = f x

pub same : (bs : List ℕ) → bytes_eq bs bs ≡ true
same bs = (bytes_eq-Decides bs bs).1 refl

-- every end of a run's records suffices, and the rows of an interval stand together
abbrev pub Together : Type 0
Together = EndsSuffice × RowsStandTogether

-- the replay of what a log says
pub answer : Together → (names : FileNames) (p : Part) (v : Interval) (line : Option Line) (files : Files) (r : ReplaysRun line files p v)
    → pair_of (replay_with names p.hart p.number) names p.elf r.says.log ≡ printed (run_text p v)
unfolding ended
answer laws names p v line files r =
    let d = r.says.log in
    let small : p.settings.limit < 2 ^ 63 = omega (arith, r.recording.setting.limit_high) in
    let digest : bytes_eq (sha256 p.elf) d.head.digest ≡ true = ap (λ (h : Head). bytes_eq (sha256 p.elf) h.digest) r.says.head ∙ same (sha256 p.elf) in
    let loaded : image_of p.elf d.head.settings ≡ Ok p.program = ap (λ (h : Head). image_of p.elf h.settings) r.says.head ∙ r.recording.loaded in
    let rows : replayed p.program d.records p.hart p.number ≡ record { rows = rows_in p.settings p.program (start p.settings p.program p.input) p.turns p.hart p.number; outcome = Done } =
    laws.0 p.settings p.program p.input p.turns p.hart p.number small (record { legal = r.recording.legal; over = r.recording.over }) d.records r.says.end v r.kept in
    let together : rows_in p.settings p.program (start p.settings p.program p.input) p.turns p.hart p.number ≡ interval_rows p v =
    laws.1 p.settings p.program p.input p.turns p.hart p.number small (record { legal = r.recording.legal; over = r.recording.over }) d.records r.says.end v r.kept in
    ap (λ (b : Bool). pair_same b (replay_with names p.hart p.number) names p.elf d) digest
    ∙ ap (λ (i : Result Program ElfError). pair_loaded (replay_with names p.hart p.number) names d i) loaded
    ∙ ap (λ (o : Option Interval). replay_found names p.hart p.number d p.program o) r.kept
    ∙ ap (λ (x : Replayed). interval_told names p.hart p.number v x) rows
    ∙ ap (λ (rs : List Row). interval_told names p.hart p.number v (record { rows = rs; outcome = Done })) together

-- an answer by a log that says this
pub by-content : Grammar → (names : FileNames) (bytes : List ℕ) (d : Content) (go : Content → Told) (what : Told) → Reads bytes (Ok d) → IsByLog names bytes go what → what ≡ go d
by-content g names bytes d go what reads by = by.is ∙ ap (λ (r : Result Content Damage). by_log names go r) (g.one_reading bytes by.says (Ok d) by.reads reads)

replays : Grammar → Together → Sizes → (files : Files) (p : Part) (v : Interval) (line : Option Line) (r : ReplaysRun line files p v) (what : Told)
    → IsPair (replay_with (names_in (ReplayLine r.log_name r.elf_name p.hart p.number)) p.hart p.number) files (names_in (ReplayLine r.log_name r.elf_name p.hart p.number)) what → IsReplayed (Some (ReplayLine r.log_name r.elf_name p.hart p.number)) p v what
unfolding WithFile
replays g laws sizes files p v line r what is =
    let names = names_in (ReplayLine r.log_name r.elf_name p.hart p.number) in
    let log = r.bytes in
    let d = r.says.log in
    let first : IsPairOf (replay_with names p.hart p.number) files names log what =
    by-file (files r.log_name) names role.Log 272629760 log (λ log what. IsPairOf (replay_with names p.hart p.number) files names log what) what r.log (read-size sizes log d r.says.reads) is in
    let second = by-size (files r.elf_name) names role.Elf 67108864 p.elf (λ elf what. IsByLog names log (pair_of (replay_with names p.hart p.number) names elf) what) what r.program first in
    then-so (nat_lt 67108864 (length p.elf)) _ _ _ (λ (by : IsByLog names log (pair_of (replay_with names p.hart p.number) names p.elf) what).
    by-content g names log d (pair_of (replay_with names p.hart p.number) names p.elf) what r.says.reads by ∙ answer laws names p v line files r) second

pub headline : ReadingsAreUnique → EndsSuffice → RowsStandTogether → of_first.HaveTheirSize → of_second.HaveTheirSize → of_second.AreFew → Headline
headline readings ends rows first second few line files p v r what is =
    subst (λ (l : Option Line). IsReplayed l p v what) (sym r.command)
    (replays (record { one_reading = readings }) (ends, rows) (record { first = first; second = second; few = few }) files p v line r what (subst (λ (l : Option Line). IsAnswer None l files what) r.command is))

-- ---- which files say an end

-- what a recording saves, and the same in version 2
abbrev pub saved-end : FileLaws → KeptIsAnEnd → (c : RawSettings) (i : Program) (elf input b : List ℕ) → IsRecording c i elf input b → SaysEnd c i elf input b (file_of c i (sha256 elf) input b)
saved-end laws kept c i elf input b is = record {
  log = content_of c (sha256 elf) (run_of c i input b);
  reads = laws.read.saved (content_of c (sha256 elf) (run_of c i input b)) (laws.contents c i elf input b is);
  head = refl;
  end = kept c (run_of c i input b);
}

pub say_ends : LogsAreContents → SavedHaveTheirLimit → FilesAreRead → KeptIsAnEnd → RecordingsSayEnds
say_ends contents limit read kept = record {
  saved = saved-end (record { contents = contents; limit = limit; read = read }) kept;
  converted = λ c i elf input b is. record {
    log = content_of c (sha256 elf) (run_of c i input b);
    reads = read.second (content_of c (sha256 elf) (run_of c i input b)) (contents c i elf input b is);
    head = refl;
    end = kept c (run_of c i input b);
  };
}

-- what a recording left
pub replayed_so : LogsAreContents → SavedHaveTheirLimit → FilesAreRead → KeptIsAnEnd → Headline → RecordingsAreReplayed
replayed_so contents limit read ends law r old new l hart number v kept files log elf log_is elf_is what is =
    of_false (nat_lt 67108864 (length l.elf)) _ _ (fits 67108864 (length l.elf) l.small)
    (law (Some (ReplayLine log elf hart number)) files (part_of l hart number) v (record {
      log_name = log;
      elf_name = elf;
      command = refl;
      program = elf_is ∙ l.elf_there;
      recording = l.recording;
      bytes = file_of r.settings l.program (sha256 l.elf) l.input l.turns;
      log = log_is ∙ l.log;
      says = saved-end (record { contents = contents; limit = limit; read = read }) ends r.settings l.program l.elf l.input l.turns l.recording;
      kept = kept;
    }) what is)

-- ---- what is printed

-- by its status, and what out gains
abbrev Prints : ℕ → Call → Part → Interval → Type 0
Prints status k p v = IsFree status ⊎ Either (nat_lt 67108864 (length p.elf)) (status ≡ 5) ((status ≡ 0) × Appends k.old.out.text k.new.out.text (run_text p v))

told-so : (long : Bool) (names : FileNames) (text : List ℕ) (what : Told) (status : ℕ) (k : Call) → Either long (what ≡ refused names (TooLong role.Elf)) (what ≡ printed text) → Tells names what status k
    → IsFree status ⊎ Either long (status ≡ 5) ((status ≡ 0) × Appends k.old.out.text k.new.out.text text)
unfolding refused
told-so true names text what status k e (inl done) = inr (done.status_is ∙ ap (λ (t : Told). t.status) e)
told-so true names text what status k e (inr stopped) = inl (stopped-free names what status k stopped)
told-so false names text what status k e (inl done) =
    inr (done.status_is ∙ ap (λ (t : Told). t.status) e, subst (λ (t : List ℕ). Appends k.old.out.text k.new.out.text t) (ap (λ (t : Told). t.out) e) done.out)
told-so false names text what status k e (inr stopped) = inl (stopped-free names what status k stopped)

printed-so : Headline → (line : Option Line) (files : Files) (p : Part) (v : Interval) (r : ReplaysRun line files p v) (status : ℕ) (k : Call)
    → SomeTold (IsAnswer None line files) (λ what. Tells (names_by line) what status k) ⊎ StoppedEarly None line files status k → Prints status k p v
printed-so law line files p v r status k (inr early) = inl (early-free None line files status k early)
printed-so law line files p v r status k (inl found) =
    told-so (nat_lt 67108864 (length p.elf)) (names_by line) (run_text p v) found.0 status k (law line files p v r found.0 found.1) found.2

pub prints-run : Headline → (line : Option Line) (status : ℕ) (k : Call) → TellsAnswer None line status k → WithFiles k.old.store.files (λ files. PrintsRun line files status k.old.out.text k.new.out.text)
prints-run law line status k h =
    with-files k.old.store.files (λ files. SomeTold (IsAnswer None line files) (λ what. Tells (names_by line) what status k) ⊎ StoppedEarly None line files status k)
    (λ files. PrintsRun line files status k.old.out.text k.new.out.text) (λ files found p v r. printed-so law line files p v r status k found) h
