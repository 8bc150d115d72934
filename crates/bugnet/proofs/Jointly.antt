-- The answer to the joint replay of a recording's log is the text of one that says the run.
use Rattle.bugnet.proofs.Common.{◌≡◌, ◌≤◌, ℕ, Bool, true, false, List, length, nat_lt, Option, Some, None, ◌∙◌, ap, subst, sym, refl, inl, inr, ◌⊎◌, arith, Result, Ok, option_map, Appends, sha256, Program, Files, Line, JointLine, ElfError, bytes_eq, image_of, Head, Record, Content, IsContent, saved_bytes, file_bytes, file_bytes2, is_second, SavedHaveTheirLimit, AreFew, Reads, JointError, Ran, fresh, run_all, joint_text, file_of, Recording, IsLogOf, begin, SaysTheRun, JointReplaysSayTheRun, FileNames, Told, refused, printed, printed_until, Either, WithFile, IsByLog, ran_told, joint_with, joint_refusal, ByPair, pair_loaded, pair_same, pair_of, IsPairOf, IsPair, HoldsLog, ArePair, names_in, names_by, IsAnswer, HasRun, JoinsRun, TellsRun, IsJoined, JointHeadline, RecordingsCanBeJoined, recording_of, RecordingsAreJoined, DoneJointly, PrintsJointly, ConvertedHaveTheirLimit, WithFiles, Call, IsFree, SomeTold, Tells, StoppedEarly, TellsAnswer, TooLong, fits, of_false, KeptIsAnEnd, with-files, stopped-free, ◌==◌, ReadingsAreUnique, LogsAreContents, FilesAreRead}
use Rattle.log_file.specs.Laws as of_first
use Rattle.log_blocks.specs.Laws as of_second
use Rattle.joint_laws.specs.Recordings.{IsRecorded}
use Rattle.log_commands.specs.declared.names.Role.TheVariants as role
use Rattle.bugnet.proofs.Single.{Grammar}
use Rattle.bugnet.proofs.Suffices.{Sizes, read-size, by-file, by-size, then-so, same, by-content, saved-end}
use Rattle.bugnet.proofs.LineTells.{early-free}

-- ---- the log

-- the records that a log says which says an end of a recording are some of its log's
pub is-log : (log elf : List ℕ) (files : Files) (r : Recording) (h : HasRun log elf files r) → IsLogOf r h.says.log.records
is-log log elf files r h = record { recording = h.recording; end = h.says.end }

-- bytes that are read as a log are those of its file in either version
in-version : (second : Bool) (bytes : List ℕ) (d : Content) → elim second as (λ b. Type 0) [ true ↦ bytes ≡ file_bytes2 d | false ↦ (d.head.settings.format ≡ 1) × (bytes ≡ file_bytes d) ]
    → (bytes ≡ saved_bytes d) ⊎ (bytes ≡ file_bytes2 d)
in-version true bytes d e = inr e
in-version false bytes d e = inl (e.1 ∙ sym (ap (λ (n : ℕ). elim (n == 2) [ true ↦ file_bytes2 d | false ↦ file_bytes d ]) e.0))

holds-so : (there : Option (List ℕ)) (bytes : List ℕ) (d : Content) → there ≡ Some bytes → (bytes ≡ saved_bytes d) ⊎ (bytes ≡ file_bytes2 d) → HoldsLog there d
holds-so there bytes d e (inl saved) = inl (e ∙ ap (λ (log : List ℕ). Some log) saved)
holds-so there bytes d e (inr second) = inr (e ∙ ap (λ (log : List ℕ). Some log) second)

holds-log : (there : Option (List ℕ)) (bytes : List ℕ) (d : Content) → there ≡ Some bytes → Reads bytes (Ok d) → HoldsLog there d
holds-log there bytes d e reads = holds-so there bytes d e (in-version (is_second bytes) bytes d reads.1)

-- each block but the last is full, so that a file of version 2 is one that a command loads
pub converted_size : of_second.HaveTheirSize → AreFew → ConvertedHaveTheirLimit
converted_size sizes few d is = omega (arith, sizes d is, few d is, is.bound, is.settings.log_size_high)

pub record Limits : Type 0 where
  pub saved : SavedHaveTheirLimit
  pub converted : ConvertedHaveTheirLimit

within : Limits → (bytes : List ℕ) (d : Content) → IsContent d → (bytes ≡ saved_bytes d) ⊎ (bytes ≡ file_bytes2 d) → length bytes ≤ 272629760
within limits bytes d is (inl e) = subst (λ (log : List ℕ). length log ≤ 272629760) (sym e) (limits.saved d is)
within limits bytes d is (inr e) = subst (λ (log : List ℕ). length log ≤ 272629760) (sym e) (limits.converted d is)

read-within : Limits → (bytes : List ℕ) (d : Content) → Reads bytes (Ok d) → length bytes ≤ 272629760
read-within limits bytes d reads = within limits bytes d reads.0 (in-version (is_second bytes) bytes d reads.1)

-- ---- the answer

abbrev told_at : FileNames → List ℕ → Option JointError → Told
told_at names text stopped = printed_until names text (option_map joint_refusal stopped)

-- a joint replay that isn't stopped is printed
told-joint : (names : FileNames) (x : Ran) → x.stopped ≡ None → ran_told names x ≡ printed (joint_text x)
unfolding ran_told
told-joint names x e = ap (λ (o : Option JointError). told_at names (joint_text x) o) e

-- what is told by a log with a recording's settings and digest, and its program
pair-told : (go : ByPair) (names : FileNames) (r : Recording) (d : Content) → IsRecorded r → d.head ≡ record { settings = r.settings; digest = sha256 r.elf } → pair_of go names r.elf d ≡ go d r.program
pair-told go names r d is head =
    let digest : bytes_eq (sha256 r.elf) d.head.digest ≡ true = ap (λ (h : Head). bytes_eq (sha256 r.elf) h.digest) head ∙ same (sha256 r.elf) in
    let loaded : image_of r.elf d.head.settings ≡ Ok r.program = ap (λ (h : Head). image_of r.elf h.settings) head ∙ is.loaded in
    ap (λ (b : Bool). pair_same b go names r.elf d) digest ∙ ap (λ (i : Result Program ElfError). pair_loaded go names d i) loaded

-- so is what is answered by bytes that are read as such a log
answer-so : Grammar → (go : ByPair) (names : FileNames) (files : Files) (r : Recording) (bytes : List ℕ) (d : Content) (what : Told) → IsRecorded r → Reads bytes (Ok d) → length bytes ≤ 272629760
    → d.head ≡ record { settings = r.settings; digest = sha256 r.elf } → files names.log ≡ Some bytes
    → files names.elf ≡ Some r.elf → IsPair go files names what → Either (nat_lt 67108864 (length r.elf)) (what ≡ refused names (TooLong role.Elf)) (what ≡ go d r.program)
unfolding WithFile
answer-so g go names files r bytes d what recorded reads small head log_is elf_is is =
    let first : IsPairOf go files names bytes what =
    by-file (files names.log) names role.Log 272629760 bytes (λ log what. IsPairOf go files names log what) what log_is small is in
    let second = by-size (files names.elf) names role.Elf 67108864 r.elf (λ elf what. IsByLog names bytes (pair_of go names elf) what) what elf_is first in
    then-so (nat_lt 67108864 (length r.elf)) _ _ _ (λ (by : IsByLog names bytes (pair_of go names r.elf) what).
    by-content g names bytes d (pair_of go names r.elf) what reads by ∙ pair-told go names r d recorded head) second

-- and by a file that says an end of the recording
pub pair-so : Grammar → Limits → (go : ByPair) (names : FileNames) (files : Files) (r : Recording) (h : HasRun names.log names.elf files r) (what : Told) → IsPair go files names what
    → Either (nat_lt 67108864 (length r.elf)) (what ≡ refused names (TooLong role.Elf)) (what ≡ go h.says.log r.program)
pair-so g limits go names files r h what is =
    answer-so g go names files r h.bytes h.says.log what h.recording h.says.reads (read-within limits h.bytes h.says.log h.says.reads) h.says.head h.log_there h.program is

-- such a log and the recording's program are there
pub are-pair : (log elf : List ℕ) (files : Files) (r : Recording) (h : HasRun log elf files r) → length r.elf ≤ 67108864 → ArePair log elf files h.says.log r.program
are-pair log elf files r h small = record {
  bytes = r.elf;
  is = h.says.reads.0;
  log_there = holds-log (files log) h.bytes h.says.log h.log_there h.says.reads;
  elf_there = h.program;
  elf_small = small;
  same = ap (λ (head : Head). bytes_eq (sha256 r.elf) head.digest) h.says.head ∙ same (sha256 r.elf);
  loaded = ap (λ (head : Head). image_of r.elf head.settings) h.says.head ∙ h.recording.loaded;
}

-- the joint replay of a log with a recording's settings is that of its records
as-begun : (r : Recording) (d : Content) → d.head ≡ record { settings = r.settings; digest = sha256 r.elf } → (names : FileNames) → joint_with names d r.program ≡ ran_told names (run_all (begin r d.records))
as-begun r d head names = ap (λ (h : Head). ran_told names (run_all (fresh r.program h.settings.harts d.records))) head

joins : Grammar → JointReplaysSayTheRun → Sizes → (files : Files) (r : Recording) (line : Option Line) (j : JoinsRun line files r) (what : Told)
    → IsPair (joint_with (names_in (JointLine j.log_name j.elf_name))) files (names_in (JointLine j.log_name j.elf_name)) what → IsJoined (Some (JointLine j.log_name j.elf_name)) r j.says.log.records what
joins g law sizes files r line j what is =
    let names = names_in (JointLine j.log_name j.elf_name) in
    let d = j.says.log in
    let says : SaysTheRun r d.records (run_all (begin r d.records)) = law r d.records (record { recording = j.recording; end = j.says.end }) in
    then-so (nat_lt 67108864 (length r.elf)) _ _ _ (λ (by : what ≡ joint_with names d r.program).
    record { text = by ∙ as-begun r d j.says.head names ∙ told-joint names (run_all (begin r d.records)) says.stopped; says = says })
    (answer-so g (joint_with names) names files r j.bytes d what j.recording j.says.reads (read-size sizes j.bytes d j.says.reads) j.says.head j.log j.program is)

pub joint_headline : ReadingsAreUnique → JointReplaysSayTheRun → of_first.HaveTheirSize → of_second.HaveTheirSize → AreFew → JointHeadline
joint_headline readings law first second few line files r j what is =
    subst (λ (l : Option Line). IsJoined l r j.says.log.records what) (sym j.command)
    (joins (record { one_reading = readings }) law (record { first = first; second = second; few = few }) files r line j what (subst (λ (l : Option Line). IsAnswer None l files what) j.command is))

-- what a recording left
pub joined_so : LogsAreContents → SavedHaveTheirLimit → FilesAreRead → KeptIsAnEnd → JointHeadline → RecordingsAreJoined
joined_so contents limit read ends law r old new l files log elf log_is elf_is what is =
    of_false (nat_lt 67108864 (length l.elf)) _ _ (fits 67108864 (length l.elf) l.small)
    (law (Some (JointLine log elf)) files (recording_of l) (record {
      log_name = log;
      elf_name = elf;
      command = refl;
      program = elf_is ∙ l.elf_there;
      recording = l.recording;
      bytes = file_of r.settings l.program (sha256 l.elf) l.input l.turns;
      log = log_is ∙ l.log;
      says = saved-end (record { contents = contents; limit = limit; read = read }) ends r.settings l.program l.elf l.input l.turns l.recording;
    }) what is)

-- a log file that says an end of a recording has all that the command needs
pub can_be_joined : JointReplaysSayTheRun → RecordingsCanBeJoined
can_be_joined law log elf files r h small =
    let d = h.says.log in
    record {
      content = d;
      program = r.program;
      pair = are-pair log elf files r h small;
      goes_on = ap (λ (head : Head). (run_all (fresh r.program head.settings.harts d.records)).stopped) h.says.head ∙ (law r d.records (is-log log elf files r h)).stopped;
    }

-- ---- what is printed

told-so : (long : Bool) (names : FileNames) (r : Recording) (records : List Record) (what : Told) (status : ℕ) (k : Call) → Either long (what ≡ refused names (TooLong role.Elf)) (TellsRun r records what)
    → Tells names what status k → IsFree status ⊎ Either long (status ≡ 5) (DoneJointly r records status k.old.out.text k.new.out.text)
unfolding refused
told-so true names r records what status k e (inl done) = inr (done.status_is ∙ ap (λ (t : Told). t.status) e)
told-so true names r records what status k e (inr stopped) = inl (stopped-free names what status k stopped)
told-so false names r records what status k e (inl done) =
    inr (record {
      done = done.status_is ∙ ap (λ (t : Told). t.status) e.text;
      text = subst (λ (t : List ℕ). Appends k.old.out.text k.new.out.text t) (ap (λ (t : Told). t.out) e.text) done.out;
      says = e.says;
    })
told-so false names r records what status k e (inr stopped) = inl (stopped-free names what status k stopped)

-- by its status, and what out gains
abbrev Prints : ℕ → Call → Recording → List Record → Type 0
Prints status k r records = IsFree status ⊎ Either (nat_lt 67108864 (length r.elf)) (status ≡ 5) (DoneJointly r records status k.old.out.text k.new.out.text)

printed-so : JointHeadline → (line : Option Line) (files : Files) (r : Recording) (j : JoinsRun line files r) (status : ℕ) (k : Call)
    → SomeTold (IsAnswer None line files) (λ what. Tells (names_by line) what status k) ⊎ StoppedEarly None line files status k → Prints status k r j.says.log.records
printed-so law line files r j status k (inr early) = inl (early-free None line files status k early)
printed-so law line files r j status k (inl found) =
    told-so (nat_lt 67108864 (length r.elf)) (names_by line) r j.says.log.records found.0 status k (law line files r j found.0 found.1) found.2

pub prints-jointly : JointHeadline → (line : Option Line) (status : ℕ) (k : Call) → TellsAnswer None line status k → WithFiles k.old.store.files (λ files. PrintsJointly line files status k.old.out.text k.new.out.text)
prints-jointly law line status k h =
    with-files k.old.store.files (λ files. SomeTold (IsAnswer None line files) (λ what. Tells (names_by line) what status k) ⊎ StoppedEarly None line files status k)
    (λ files. PrintsJointly line files status k.old.out.text k.new.out.text) (λ files found r j. printed-so law line files r j status k found) h
