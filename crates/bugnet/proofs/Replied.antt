-- What a command does by its answer, or by its refusal once that is told.
use Rattle.bugnet.proofs.Common.{◌≡◌, ◌≤◌, ◌∙◌, ℕ, Option, Some, None, subst, sym, refl, arith, inl, inr, Result, Ok, Err, Files, Stored, ReadNote, Stream, Supply, Line, RecordLine, WordsError, Call, IsByWords, World, world, between, Note, FileNames, no_names, told_of, Refuses, Answer, Refusal, WordsRefused, OutOfMemory, Status, none-fell, by-words, caused, memory-words, refusal-causes, refusal-words, answer-words, Causes, appends-nothing, none-saved, memory-saves, told-apart, tells-from, memory-names, with-any, from, names_in, names_by, refusal_in, refusal_by, words_refusal, IsNoSession, IsNoRecording, AnswersLine, RepliesTo, Does, TellsAnswer, ByWords, LeavesRun, CallsOnly, TellsDemo, LineSaves, reading, with_err, ActsTo, Bool, true, ConvertLine, SalvageLine, SavedAll, SavesEach, AnswerSaves, IsRenewed, is_lean, FitsLine, IsReadOnly, IsPrinted, Recorded, Renewed, no-saves, Schedule, DoesTo, DebugLine, Reading, with_end}
use Rattle.command_words.specs.declared.error.WordsError.TheVariants as words_error
use Rattle.bugnet.proofs.Leaves.{leaves-none}
use Rattle.bugnet.proofs.Debugs.{debugs-early}
use Rattle.bugnet.proofs.LineCalls.{words-calls, unread-calls, refusal-calls, answer-calls, demo-unread, demo-refused, demo-answers}
use Rattle.bugnet.proofs.LineTells.{refusal-answers, answer-answers, acted, is_counted}
use Rattle.bugnet.specs.DebugSessions.{Debugs}

-- How often a line asks its store to save.
-- a line that is refused before anything is saved
pub line-none : (line : Option Line) (status before after : ℕ) → (SavedAll status → ⊥) → after ≡ before → LineSaves line status before after
line-none (Some (RecordLine r)) status before after never same = record { few = no-saves r.lean before after same; all = λ is. absurd (never is) }
line-none (Some (ConvertLine log copy)) status before after never same = record { few = inl same; all = λ is. absurd (never is) }
line-none (Some (SalvageLine log copy)) status before after never same = record { few = inl same; all = λ is. absurd (never is) }
line-none line status before after never same = same

printed : (answer : Answer) (status before mid after : ℕ) → IsPrinted answer → mid ≡ before → AnswerSaves answer status mid after → after ≡ before
printed (Recorded r) status before mid after p same saves = absurd p
printed (Renewed n) status before mid after p same saves = absurd p
printed answer status before mid after p same saves = saves ∙ same

-- a log that was made of another
renewed : (answer : Answer) (status before mid after : ℕ) → IsRenewed answer → mid ≡ before → AnswerSaves answer status mid after → SavesEach true status before after
renewed (Renewed n) status before mid after is same saves = subst (λ (m : ℕ). SavesEach true status m after) same saves
renewed answer status before mid after is same saves = absurd is

-- a line whose answer was acted on
pub line-acts : (line : Line) (answer : Answer) (status before mid after : ℕ) → FitsLine line answer → (IsReadOnly (Some line) → IsPrinted answer) → mid ≡ before
    → AnswerSaves answer status mid after → LineSaves (Some line) status before after
line-acts (RecordLine r) (Recorded x) status before mid after records prints same saves = subst (λ (lean : Bool). SavesEach lean status before after) records (subst (λ (n : ℕ). SavesEach (is_lean x) status n after) same saves)
line-acts (RecordLine r) answer status before mid after records prints same saves = absurd records
line-acts (ConvertLine log copy) answer status before mid after records prints same saves = renewed answer status before mid after records same saves
line-acts (SalvageLine log copy) answer status before mid after records prints same saves = renewed answer status before mid after records same saves
line-acts line answer status before mid after records prints same saves = printed answer status before mid after (prints tt) same saves

-- a line that records nothing leaves no recording
pub leaves-other : (o : Option Schedule) (line : Line) (status : ℕ) (old new : Option Files) → IsNoRecording (Some line) → LeavesRun o (Some line) status old new
leaves-other o (RecordLine r) status old new other = absurd other
leaves-other o line status old new other = tt

-- it has no answer
pub line-refused : (o : Option Schedule) (line : Line) (names : FileNames) (note : Note) (old new : Stored) (out err : Stream) (r : Refusal) → names ≡ names_in line → AnswersLine o line names note old new (Err r)
    → RepliesTo o line names note (between (world old out err) (world new out err)) (Err r)
line-refused o line names note old new out err r named h = λ status end told.
    let k = between (world old out err) (world new out end) in
    let causes = refusal-causes Answer (refusal_in line) old.counts new.counts names r status err.text end.text err.faults end.faults h.cause told.0 in
    let apart = told-apart names r status err.text end.text err.faults end.faults told.0 in
    let out-same = appends-nothing out.text in (
      record {
        obeys = record {
          told = refusal-answers o (Some line) names r status k named out-same h.same h.told told.0;
          words = subst (λ (n : FileNames). IsByWords (refusal_in line) n status k) named (refusal-words Answer (refusal_in line) old.counts new.counts names r status k h.cause out-same told.0);
          counted = is_counted status k causes (record { out = omega arith; err = told.1 }) h.later;
        };
        still = λ p. h.same;
        saves = line-none (Some line) status old.saves new.saves (none-saved status apart causes.write) h.asks;
        calls = refusal-calls o Answer note line names r status k named h.calls h.cause out-same told.0;
        demo = demo-refused line names r status k named h.demo out-same h.same told.0;
        recorded = leaves-none o (Some line) status old.files new.files apart;
      },
      causes.read,
    )

-- it has one, which is acted on
pub line-acted : (o : Option Schedule) (line : Line) (names : FileNames) (note : Note) (old mid : Stored) (out err : Stream) (new : World) (answer : Answer) (result : Result Status Refusal) → names ≡ names_in line → IsNoSession (Some line)
    → ((status : ℕ) (k : Call) → k.old.store.files ≡ old.files → TellsAnswer o (Some line) status k → LeavesRun o (Some line) status k.old.store.files k.new.store.files)
    → AnswersLine o line names note old mid (Ok answer) → ActsTo names answer note (world mid out err) new result → RepliesTo o line names note (between (world old out err) new) result
line-acted o line names note old mid out err new answer result named session leaves h acts = λ status end closed.
    let a = acts status end closed in
    let l = between (world mid out err) (with_err new end) in
    let k = from old l in
    let tells = tells-from names (told_of names answer) status old l h.same h.later a.acts.told in
    let told : TellsAnswer o (Some line) status k = answer-answers o (Some line) names answer status k named h.told tells in (
      record {
        obeys = acted o (Some line) status old l names (told_of names answer) h.later a.acts told (answer-words Answer answer (refusal_in line) old.counts mid.counts (names_in line) status k h.cause a.acts.words);
        still = λ p. a.still (h.prints p) ∙ h.same;
        saves = line-acts line answer status old.saves mid.saves new.store.saves h.records h.prints h.asks a.saves;
        calls = answer-calls o note line names answer status old l named h.calls h.cause h.records h.prints session a.calls a.acts.told h.told;
        demo = demo-answers line names answer status k named h.demo tells;
        recorded = leaves status k refl told;
      },
      a.acts.read,
    )

-- ---- whatever could be read

no-session : (line : Line) {I : Type 0} (status : ℕ) (i : Reading I) (k : Call) → IsNoSession (Some line) → Debugs (Some line) status i k
no-session (DebugLine log elf) status i k none = absurd none
no-session line status i k none = tt

-- a command that reads no commands does what it replies
pub replied : {I : Type 0} (o : Option Schedule) (line : Line) (names : FileNames) (note : Note) (source : I → Supply) (gives : ReadNote) (input : I) (k : Call) (result : Result Status Refusal) → IsNoSession (Some line)
    → RepliesTo o line names note k result → DoesTo o line names note (reading source gives input input) k result
replied o line names note source gives input k result none replies = λ status end given.
    let done = replies status end given in
    record {
      replies = done.0;
      session = no-session line status (reading source gives input input) (with_end k end) none;
      first = inr refl;
      begins = inl refl;
      unread = λ p. refl;
      read = λ e. absurd (done.1 e);
      read_later = omega arith;
    }

-- ---- words that give no command

-- they are refused with this refusal, and nothing else is done
unanswered : {I : Type 0} (o : Option Schedule) (line : Option Line) (note : Note) (source : I → Supply) (gives : ReadNote) (input : I) (w : World) (status : ℕ) (end : Stream) (causes : Causes w.store.counts w.store.counts status)
    → TellsAnswer o line status (between w (with_err w end)) → ByWords line status (between w (with_err w end)) → LineSaves line status w.store.saves w.store.saves → CallsOnly o line status note (between w (with_err w end))
    → TellsDemo line status (between w (with_err w end)) → LeavesRun o line status w.store.files w.store.files → Debugs line status (reading source gives input input) (between w (with_err w end)) → w.err.faults ≤ end.faults
    → Does o line status note (reading source gives input input) (between w (with_err w end))
unanswered o line note source gives input w status end causes told words saves calls demo recorded session later = record {
  replies = record {
    obeys = record {
      told = told;
      words = words;
      counted = is_counted status (between w (with_err w end)) causes (record { out = omega arith; err = later }) (none-fell w.store.counts);
    };
    still = λ p. refl;
    saves = saves;
    calls = calls;
    demo = demo;
    recorded = recorded;
  };
  session = session;
  first = inr refl;
  begins = inl refl;
  unread = λ p. refl;
  read = λ e. absurd (causes.read e);
  read_later = omega arith;
}

pub words-answered : {I : Type 0} (o : Option Schedule) (line : Option Line) (e : WordsError) (note : Note) (source : I → Supply) (gives : ReadNote) (input : I) (w : World) (status : ℕ) (end : Stream) → (e ≡ words_error.Refused → line ≡ None)
    → Refuses no_names (words_refusal e) status w.err end → Does o line status note (reading source gives input input) (between w (with_err w end))
-- they say none
words-answered o line words_error.Refused note source gives input w status end none (told, later) =
    let k = between w (with_err w end) in
    let out = appends-nothing w.out.text in
    subst (λ (l : Option Line). Does o l status note (reading source gives input input) k) (sym (none refl))
    (unanswered o None note source gives input w status end (by-words w.store.counts w.store.counts no_names WordsRefused status w.err.text end.text w.err.faults end.faults refl told)
    (refusal-answers o None no_names WordsRefused status k refl out refl (with-any w.store.files _ (λ files. inr refl)) told)
    (out, told) refl (words-calls o note status k refl out told) tt tt tt later)
-- no memory to read them
words-answered o line words_error.OutOfMemory note source gives input w status end none (early, later) =
    let k = between w (with_err w end) in
    let out = appends-nothing w.out.text in
    let told = memory-names no_names (names_by line) status w.err.text end.text w.err.faults end.faults early in
    unanswered o line note source gives input w status end (caused no_names w.store.counts w.store.counts OutOfMemory status w.err.text end.text w.err.faults end.faults tt early).causes
    (refusal-answers o line (names_by line) OutOfMemory status k refl out refl (with-any w.store.files _ (λ files. inl (inl refl))) told)
    (memory-words (refusal_by line) (names_by line) status k out told)
    (line-none line status w.store.saves w.store.saves (memory-saves no_names status w.err.text end.text w.err.faults end.faults early) refl)
    (unread-calls o note line status k refl out told) (demo-unread line status k out refl told)
    (leaves-none o line status w.store.files w.store.files (told-apart no_names OutOfMemory status w.err.text end.text w.err.faults end.faults early))
    (debugs-early line status source gives input k out refl told) later
