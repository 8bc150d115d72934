-- What a session of the debugger tells, and what it shows.
use Rattle.bugnet.proofs.Common.{◌≡◌, ◌≢◌, ◌⊎◌, ℕ, ◌+◌, Bool, true, false, nat_lt, List, [], ◌∷◌, ◌++◌, length, Option, Some, None, ◌∙◌, ap, subst, sym, refl, arith, inl, inr, Result, Ok, Err, Appends, Consumes, sha256, Head, Record, Content, Counts, Rose, Files, WhereTold, AppendsPart, ReadNote, Supply, Stream, Line, DebugLine, JointError, Replay, Joining, fresh, Recording, IsLogOf, begin, Trace, at_start, begin_at, Input, input_limit, is_line_feed, is_too_long, ends_in, with_line, input_from, input_of, RefusalsStay, answers, lines_in, result_by, transcript, transcript_from, Debugs, Debugged, DebugError, Ending, FileNames, status_of, joint_refusal, Told, refused, Either, joined, LoadedPair, HasPair, names_in, names_by, IsAnswer, ShowsRun, SessionsShowTheRun, session_of, DoneSession, ShowsSession, RecordingsCanBeDebugged, PrefixesCanBeDebugged, SessionIs, DebugsFiles, IsNoSession, WithFiles, SendStops, ToldRefusal, Wrote, SameFiles, IsEarly, GivesOf, RefusalCause, Call, printing_on, IsFree, SomeTold, Tells, StoppedBy, StoppedEarly, TellsAnswer, Commands, CanDebug, whole_input, input_in, IsUnread, SessionReads, SessionOver, AreRead, stop_status, session_status, session_line, session_told, debug_with, IsSession, IsDebug, is_begun, Reading, reading, ToldStop, DebugsPair, DebugsNamed, DebugsEnds, JointReading, Refusal, TooLong, Causes, caused, told-apart, appends-nothing, part-none, part-whole, with-files, refused-told, stopped-told, stopped-free, same-files, untouched, with-any, Does, Note, EndsThere, EndsAll, IsReadOnce, StopsAtLine, StopsAtEnd, StopsInLine, EndsWithLine as LineEnds, ReadsUpTo as UpTo, NoQuit, EndsWithQuit, NoneEnds, ReadsAll, EndsBy, ReadsOnce, Schedule}
use Rattle.std.proofs.KnownBytes.{Consumes-nil}
use Rattle.hart_replay.specs.declared.error.ReplayError.TheVariants as replay
use Rattle.joint_replay.specs.declared.error.JointError.TheVariants as joint
use Rattle.step_debugger.specs.Answers.{begin as session_begin}
use Rattle.step_debugger.specs.Transcript.{Told as Transcript}
use Rattle.step_debugger.specs.declared.error.DebugError.TheVariants as stop
use Rattle.step_debugger.specs.declared.session.Ending.TheVariants as ending
use Rattle.bugnet.specs.DebugSessions.{Debugs as DebugsLine}
use Rattle.bugnet.specs.Sessions.{cut, EndsWithLine, ReadsUpTo}
use Rattle.log_commands.specs.declared.names.Role.TheVariants as role
use Rattle.log_commands.specs.declared.refusal.Refusal.TheVariants as why
use Rattle.bugnet.proofs.Complete.{session-done}
use Rattle.bugnet.proofs.Jointly.{Limits, is-log, pair-so, are-pair}
use Rattle.bugnet.proofs.Sessions.{no-quit, last-quit}
use Rattle.bugnet.proofs.Single.{Grammar, one_session}
use Rattle.bugnet.proofs.Suffices.{FileLaws, then-so}
use Rattle.bugnet.proofs.Whole.{whole-done}
use Rattle.bugnet.proofs.LineTells.{early-free}
use Rattle.bugnet.proofs.LineCalls.{session-calls}

-- How far a session of the debugger reads, and how often.
-- ---- how a session stops

-- an end that the input alone brought: no line ended the session
by-input : (x : Ending) (o : Option DebugError) (e : DebugError) → ((f : JointError) → e ≢ stop.Joint f) → result_by x o ≡ Err e → (x ≡ ending.GoesOn) × (o ≡ Some e)
by-input ending.GoesOn None e own is = absurd cc
by-input ending.GoesOn (Some f) e own is = (refl, cc)
by-input ending.Quits o e own is = absurd cc
by-input (ending.Refused f) o e own is = absurd (own f (cc))

-- of commands that are refused the whole lines alone are answered
refused-lines : (i : Input) (e : DebugError) → i.refused ≡ Some e → lines_in i ≡ i.lines
refused-lines i e is = ap (λ (o : Option DebugError). elim o as (λ y. List (List ℕ)) [ None ↦ i.lines ++ i.last ∷ [] | Some f ↦ i.lines ]) is

-- so none of them is `quit`
too-many : (t : Trace) (gone : List ℕ) (e : DebugError) → ((f : JointError) → e ≢ stop.Joint f) → (transcript_from t (input_of gone)).result ≡ Err e → NoQuit (input_of gone).lines
too-many t gone e own is =
    let i : Input = input_of gone in
    let x = by-input (answers (lines_in i) (begin_at t)).ends i.refused e own is in
    no-quit i.lines (begin_at t) (ap (λ (ls : List (List ℕ)). (answers ls (begin_at t)).ends) (sym (refused-lines i e x.1)) ∙ x.0)

module _ (t : Trace) (gone : List ℕ) (input now_input : Supply) where
  reads-all : EndsAll t input now_input gone → ReadsAll input now_input gone
  reads-all h = (h.all, (no-quit (input_of gone).lines (begin_at t) h.before, h.none))

  with-line : LineEnds t gone → EndsWithLine gone
  with-line h = record { front = h.front; line = h.line; lines = h.lines; last = h.last; none = h.none; before = no-quit h.front (begin_at t) h.before }

  line-or-all : (e : DebugError) (out now_out : Stream) → StopsAtLine t gone e out now_out ⊎ StopsAtEnd t gone input now_input e out now_out
      → EndsWithLine gone ⊎ ReadsAll input now_input gone
  line-or-all e out now_out (inl h) = inl (with-line h.line_is)
  line-or-all e out now_out (inr h) = inr (reads-all h.at_end)

  pub quits-or-all : EndsThere t gone ending.Quits ⊎ EndsAll t input now_input gone → EndsWithQuit gone ⊎ ReadsAll input now_input gone
  quits-or-all (inl h) = let l = h.line_is in inl (record { front = l.front; line = l.line; lines = l.lines; last = l.last; none = l.none; before = no-quit l.front (begin_at t) l.before; quit = last-quit l.front l.line (begin_at t) l.before h.there })
  quits-or-all (inr h) = inr (reads-all h)

  refused-or-all : (e : JointError) → EndsThere t gone (ending.Refused e) ⊎ EndsAll t input now_input gone → EndsWithLine gone ⊎ ReadsAll input now_input gone
  refused-or-all e (inl h) = inl (with-line h.line_is)
  refused-or-all e (inr h) = inr (reads-all h)

  line-or-none : (e : DebugError) (out now_out : Stream)
      → StopsAtLine t gone e out now_out ⊎ (StopsAtEnd t gone input now_input e out now_out ⊎ StopsInLine t gone out now_out) → EndsWithLine gone ⊎ NoneEnds (input_of gone)
  line-or-none e out now_out (inl h) = inl (with-line h.line_is)
  line-or-none e out now_out (inr (inl h)) = inr (no-quit (input_of gone).lines (begin_at t) h.at_end.before, h.at_end.none)
  line-or-none e out now_out (inr (inr h)) = inr (no-quit (input_of gone).lines (begin_at t) h.before, h.none)

  up-to : (out now_out : Stream) (result : Result (Unit {0}) DebugError) → Debugs t gone input now_input out now_out result
      → UpTo t gone input now_input out now_out result → ReadsUpTo gone input now_input result
  up-to out now_out (Ok u) d h = quits-or-all d.2
  up-to out now_out (Err stop.ReadFault) d h = (no-quit (input_of gone).lines (begin_at t) d.0, d.1)
  up-to out now_out (Err stop.WriteFault) d h = line-or-all stop.WriteFault out now_out h
  up-to out now_out (Err (stop.LineTooLong m)) d h = (too-many t gone (stop.LineTooLong m) (λ f e. absurd cc) d.0, h)
  up-to out now_out (Err (stop.TooMuch m)) d h = (too-many t gone (stop.TooMuch m) (λ f e. absurd cc) d.0, h)
  up-to out now_out (Err (stop.Joint e)) d h = refused-or-all e d.2
  up-to out now_out (Err stop.OutOfMemory) d h = line-or-none stop.OutOfMemory out now_out h

  -- ---- how often it reads

  more-or-all : (reads same one : ℕ) → (reads ≡ same) ⊎ (EndsAll t input now_input gone × (reads ≡ one)) → (reads ≡ same) ⊎ (ReadsAll input now_input gone × (reads ≡ one))
  more-or-all reads same one (inl h) = inl h
  more-or-all reads same one (inr h) = inr (reads-all h.0, h.1)

  once : (reads : ℕ) (result : Result (Unit {0}) DebugError) → IsReadOnce t gone input now_input reads result → ReadsOnce gone input now_input reads result
  once reads (Err stop.ReadFault) h = h
  once reads (Err (stop.LineTooLong m)) h = h
  once reads (Err (stop.TooMuch m)) h = h
  once reads result h = more-or-all reads _ _ h

-- ---- a session

module _ (t : Trace) (status : ℕ) (input now_input : Supply) (notes : ReadNote) (out now_out : Stream) (result : Result (Unit {0}) DebugError)
    (c : Debugged t input now_input notes out now_out result) (ends : EndsBy result status) where
  pub session-reads : SessionReads c.gone status input now_input notes
  session-reads = record {
    result = result;
    ends = ends;
    up_to = up-to t c.gone input now_input out now_out result c.done c.up_to;
    given = c.in_turn.given;
    noted_is = c.in_turn.noted_is;
    count = subst (λ (n : ℕ). ReadsOnce c.gone input now_input n result) (sym c.in_turn.reads_is) (once t c.gone input now_input c.reads result c.count);
  }

  -- one with a joint replay that begins there
  pub session-over : (first : Joining) → t ≡ at_start first → SessionOver first c.gone status input now_input notes out now_out
  session-over first same =
      let moved = subst (λ (x : Trace). (y : Debugged x input now_input notes out now_out result) × (y.gone ≡ c.gone)) same (c, refl) in
      record { result = result; ends = ends; session = moved.0; gone = moved.1 }

-- ---- the status by the end of a session

joint-is : (e : JointError) → (status_of (joint_refusal e) ≡ 9) ⊎ ((status_of (joint_refusal e) ≡ 14) ⊎ (status_of (joint_refusal e) ≡ 15))
joint-is (Replay (replay.NoInterval hart interval)) = inr (inl refl)
joint-is joint.OutOfMemory = inl refl
joint-is (Replay replay.OutOfMemory) = inl refl
joint-is other = inr (inr refl)

-- such a status is one of a session that was begun, or that an interval isn't there, and none of a read or a write that failed,
-- or of one that is done
record Ends (status : ℕ) : Type 0 where
  pub begun : (is_begun status ≡ true) ⊎ (status ≡ 14)
  pub read : status ≢ 12
  pub write : status ≢ 13
  pub zero : status ≢ 0

ends-at : (status n : ℕ) → status ≡ n → (is_begun n ≡ true) ⊎ (n ≡ 14) → n ≢ 12 → n ≢ 13 → n ≢ 0 → Ends status
ends-at status n e b r w z = record {
  begun = subst (λ (m : ℕ). (is_begun m ≡ true) ⊎ (m ≡ 14)) (sym e) b;
  read = λ f. r (sym e ∙ f);
  write = λ f. w (sym e ∙ f);
  zero = λ f. z (sym e ∙ f);
}

at-9 : (status : ℕ) → status ≡ 9 → Ends status
at-9 status e = ends-at status 9 e (inl refl) (λ f. omega (arith, f)) (λ f. omega (arith, f)) (λ f. omega (arith, f))

at-18 : (status : ℕ) → status ≡ 18 → Ends status
at-18 status e = ends-at status 18 e (inl refl) (λ f. omega (arith, f)) (λ f. omega (arith, f)) (λ f. omega (arith, f))

at-joint : (status n : ℕ) → status ≡ n → (n ≡ 9) ⊎ ((n ≡ 14) ⊎ (n ≡ 15)) → Ends status
at-joint status n e (inl h) = at-9 status (e ∙ h)
at-joint status n e (inr (inl h)) = ends-at status 14 (e ∙ h) (inr refl) (λ f. omega (arith, f)) (λ f. omega (arith, f)) (λ f. omega (arith, f))
at-joint status n e (inr (inr h)) = ends-at status 15 (e ∙ h) (inl refl) (λ f. omega (arith, f)) (λ f. omega (arith, f)) (λ f. omega (arith, f))

-- the status of an end, or of a line for it that found no memory
abbrev StatusOf : DebugError → ℕ → Type 0
StatusOf e status = (status ≡ stop_status e) ⊎ (status ≡ 9)

pub status-of : (names : FileNames) (e : DebugError) (status : ℕ) (old new : Option (List ℕ)) (before now : ℕ) → ToldStop names e status old new before now → StatusOf e status
status-of names e status old new before now (inl h) = inl h.0
status-of names e status old new before now (inr h) = inr h.0

-- an end that isn't of a read or a write
abbrev IsOther : DebugError → Type 0
IsOther stop.ReadFault = ⊥
IsOther stop.WriteFault = ⊥
IsOther e = Unit {0}

other-ends : (e : DebugError) (status : ℕ) → IsOther e → StatusOf e status → Ends status
other-ends stop.ReadFault status o h = absurd o
other-ends stop.WriteFault status o h = absurd o
other-ends e status o (inr h) = at-9 status h
other-ends stop.OutOfMemory status o (inl h) = at-9 status h
other-ends (stop.Joint e) status o (inl h) = at-joint status (status_of (joint_refusal e)) h (joint-is e)
other-ends e status o (inl h) = at-18 status h

pub stop-begun : (names : FileNames) (e : DebugError) (status : ℕ) (old new : Option (List ℕ)) (before now : ℕ) → ToldStop names e status old new before now → (is_begun status ≡ true) ⊎ (status ≡ 14)
stop-begun names e status old new before now told = by e (status-of names e status old new before now told)
  where
    by : (e : DebugError) → StatusOf e status → (is_begun status ≡ true) ⊎ (status ≡ 14)
    by e (inr h) = (at-9 status h).begun
    by stop.ReadFault (inl h) = inl (subst (λ (m : ℕ). is_begun m ≡ true) (sym h) refl)
    by stop.WriteFault (inl h) = inl (subst (λ (m : ℕ). is_begun m ≡ true) (sym h) refl)
    by e h = (other-ends e status tt h).begun

-- one that was begun isn't refused for its words or its files
pub begun-not : (status n : ℕ) → is_begun status ≡ true → is_begun n ≡ false → status ≢ n
begun-not status n b f e = let t : is_begun n ≡ true = subst (λ (m : ℕ). is_begun m ≡ true) e b in cc

-- ---- what was read

abbrev failed_by : DebugError → Bool
failed_by stop.ReadFault = true
failed_by e = false

abbrev pub commands_of : List ℕ → DebugError → Commands
commands_of bytes e = record { bytes = bytes; failed = failed_by e }

abbrev pub no_commands : Commands
no_commands = record { bytes = []; failed = false }

module _ (input now_input : Supply) (notes : ReadNote) where
  unfailed : (bytes : List ℕ) (status : ℕ) → Consumes input.left now_input.left bytes → status ≢ 12 → status ≢ 0 → IsUnread (record { bytes = bytes; failed = false }) input now_input ⊎ SessionReads bytes status input now_input notes
      → AreRead (record { bytes = bytes; failed = false }) status input now_input notes
  unfailed bytes status taken read zero up_to = record { taken = taken; failed = λ f. absurd cc; cause = λ e. absurd (read e); done = λ e. absurd (zero e); up_to = up_to }

-- nothing
pub none-read : (status : ℕ) (input : Supply) (notes : ReadNote) → status ≢ 12 → status ≢ 0 → AreRead no_commands status input input notes
none-read status input notes read zero = unfailed input input notes [] status (Consumes-nil input.left) read zero (inl (refl, refl, refl))

module _ (j : Trace) (input now_input : Supply) (notes : ReadNote) (out now_out : Stream) where
  -- a session that is done
  pub done-read : (u : Unit {0}) (c : Debugged j input now_input notes out now_out (Ok u)) → AreRead (record { bytes = c.gone; failed = false }) 0 input now_input notes
  done-read u c = record {
    taken = c.taken;
    failed = λ f. absurd cc;
    cause = λ e. absurd (omega (arith, e));
    done = λ e. quits-or-all j c.gone input now_input c.done.2;
    up_to = inr (session-reads j 0 input now_input notes out now_out (Ok u) c refl);
  }

  -- one that stopped
  pub stop-read : (e : DebugError) (status : ℕ) (c : Debugged j input now_input notes out now_out (Err e)) → StatusOf e status
      → AreRead (commands_of c.gone e) status input now_input notes
  stop-read e status c h = by e c.gone c.taken c.done h (session-reads j status input now_input notes out now_out (Err e) c h)
    where
      -- a read or a write that failed isn't a session that is done
      apart : (m : ℕ) → m ≢ 0 → (status ≡ m) ⊎ (status ≡ 9) → status ≢ 0
      apart m never (inl x) f = never (sym x ∙ f)
      apart m never (inr x) f = omega (arith, x, f)

      unread : (status ≡ 13) ⊎ (status ≡ 9) → status ≢ 12
      unread (inl x) f = omega (arith, x, f)
      unread (inr x) f = omega (arith, x, f)

      by : (e : DebugError) (gone : List ℕ) → Consumes input.left now_input.left gone → Debugs j gone input now_input out now_out (Err e) → StatusOf e status → SessionReads gone status input now_input notes
          → AreRead (commands_of gone e) status input now_input notes
      by stop.ReadFault gone taken d h r = record {
        taken = taken;
        failed = λ f. (d.3, no-quit (input_of gone).lines (begin_at j) d.0);
        cause = λ f. refl;
        done = λ f. absurd (apart 12 (λ z. omega (arith, z)) h f);
        up_to = inr r;
      }
      by stop.WriteFault gone taken d h r = unfailed input now_input notes gone status taken (unread h) (apart 13 (λ z. omega (arith, z)) h) (inr r)
      by e gone taken d h r =
          let o = other-ends e status tt h in
          unfailed input now_input notes gone status taken o.read o.zero (inr r)

-- ---- what is told

-- a session that is done
pub done-told : (names : FileNames) (t : Transcript) (k : Call) → t.result ≡ Ok (tt {0}) → Appends k.old.out.text k.new.out.text t.text → Appends k.old.err.text k.new.err.text [] → WhereTold k.old.store.files k.new.store.files SameFiles → Tells names (session_told names t) 0 k
unfolding session_told
done-told names t k e out err files = inl (record {
  status_is = sym (ap session_status e);
  out = out;
  err = inl (subst (λ (r : Result (Unit {0}) DebugError). Appends k.old.err.text k.new.err.text (session_line names r)) (sym e) err);
  files = files;
})

-- a part of its text was sent
part-told : (names : FileNames) (t : Transcript) (r : Refusal) (status : ℕ) (k : Call) → AppendsPart k.old.out.text k.new.out.text t.text × SendStops k.old.out.faults k.new.out.faults r → WhereTold k.old.store.files k.new.store.files SameFiles
    → ToldRefusal names r status k.old.err.text k.new.err.text k.old.err.faults k.new.err.faults → Tells names (session_told names t) status k
unfolding session_told
part-told names t r status k h files told = stopped-told names (session_told names t) r status k h files told

-- all of it was, and how it ended is told
whole-told : (names : FileNames) (t : Transcript) (e : DebugError) (status : ℕ) (k : Call) → t.result ≡ Err e → Appends k.old.out.text k.new.out.text t.text → WhereTold k.old.store.files k.new.store.files SameFiles
    → ToldStop names e status k.old.err.text k.new.err.text k.old.err.faults k.new.err.faults → Tells names (session_told names t) status k
unfolding session_told
whole-told names t e status k f out files (inl h) = inl (record {
  status_is = h.0 ∙ sym (ap session_status f);
  out = out;
  err = subst (λ (r : Result (Unit {0}) DebugError). Wrote k.old.err.text k.new.err.text k.old.err.faults k.new.err.faults (session_line names r)) (sym f) h.1;
  files = files;
})
whole-told names t e status k f out files (inr h) = part-told names t why.OutOfMemory status k (part-whole k.old.out.text k.new.out.text t.text out, tt) files (inl h)

-- by why it stopped
pub stop-told : (names : FileNames) (j : Trace) (e : DebugError) (status : ℕ) (gone : List ℕ) (input now_input : Supply) (k : Call)
    → Debugs j gone input now_input k.old.out k.new.out (Err e) → WhereTold k.old.store.files k.new.store.files SameFiles
    → ToldStop names e status k.old.err.text k.new.err.text k.old.err.faults k.new.err.faults → Tells names (session_told names (transcript_from j (input_in (commands_of gone e)))) status k
stop-told names j stop.ReadFault status gone input now_input k d files told =
    whole-told names (transcript_from j (cut true (input_of gone))) stop.ReadFault status k (ap (λ (x : Ending). result_by x (Some stop.ReadFault)) d.0) d.2 files told
stop-told names j stop.WriteFault status gone input now_input k d files told = part-told names (transcript_from j (input_of gone)) why.WriteFailed status k (d.0, d.1) files told
stop-told names j stop.OutOfMemory status gone input now_input k d files told = part-told names (transcript_from j (input_of gone)) why.OutOfMemory status k (d, tt) files told
stop-told names j e status gone input now_input k d files told = whole-told names (transcript_from j (input_of gone)) e status k d.0 d.1 files told

-- there was no memory to begin
pub unbegun-told : (names : FileNames) (j : Joining) (status : ℕ) (k : Call) → k.new.out.text ≡ k.old.out.text → WhereTold k.old.store.files k.new.store.files SameFiles
    → ToldRefusal names why.OutOfMemory status k.old.err.text k.new.err.text k.old.err.faults k.new.err.faults → Tells names (session_told names (transcript j (input_in no_commands))) status k
unbegun-told names j status k same files told =
    let t = transcript j (input_in no_commands) in
    part-told names t why.OutOfMemory status k (subst (λ (o : Option (List ℕ)). AppendsPart k.old.out.text o t.text) (sym same) (part-none k.old.out.text t.text), tt) files told

pub memory-status : (names : FileNames) (status : ℕ) (old new : Option (List ℕ)) (before now : ℕ) → ToldRefusal names why.OutOfMemory status old new before now → status ≡ 9
memory-status names status old new before now (inl h) = h.0
memory-status names status old new before now (inr h) = h.0

pub memory-begun : (status : ℕ) → status ≡ 9 → is_begun status ≡ true
memory-begun status e = subst (λ (m : ℕ). is_begun m ≡ true) (sym e) refl

-- a write is refused only if a count rose
pub stop-writes : (j : Trace) (names : FileNames) (e : DebugError) (status : ℕ) (gone : List ℕ) (input now_input : Supply) (out now_out : Stream) (old new : Option (List ℕ)) (eb en : ℕ)
    → Debugs j gone input now_input out now_out (Err e) → ToldStop names e status old new eb en → status ≡ 13 → Rose out.faults now_out.faults
stop-writes j names e status gone input now_input out now_out old new eb en d told is = by e d (status-of names e status old new eb en told)
  where
    by : (e : DebugError) → Debugs j gone input now_input out now_out (Err e) → StatusOf e status → Rose out.faults now_out.faults
    by e d (inr h) = absurd (omega (arith, h, is))
    by stop.ReadFault d (inl h) = absurd (omega (arith, h, is))
    by stop.WriteFault d h = d.1
    by e d h = absurd ((other-ends e status tt h).write is)

-- ---- a session over a joint replay

pub pair-done : (names : FileNames) (first : Joining) (j : Trace) (u : Unit {0}) (input now_input : Supply) (notes : ReadNote) (out printed err : Stream) → j ≡ at_start first → Debugged j input now_input notes out printed (Ok u)
    → DebugsPair names first 0 input now_input notes out printed err err
pair-done names first j u input now_input notes out printed err same c = (
  record { bytes = c.gone; failed = false },
  done-read j input now_input notes out printed u c,
  λ store.
      subst (λ (x : Trace). Tells names (session_told names (transcript_from x (input_of c.gone))) 0 (printing_on store out printed err err)) same
      (done-told names (transcript_from j (input_of c.gone)) (printing_on store out printed err err) c.done.0 c.done.1 (appends-nothing err.text) (untouched store.files)),
  inr (session-over j 0 input now_input notes out printed (Ok u) c refl first same),
)

pub pair-stopped : (names : FileNames) (first : Joining) (j : Trace) (why : DebugError) (status : ℕ) (input now_input : Supply) (notes : ReadNote) (out printed err end : Stream) → j ≡ at_start first → Debugged j input now_input notes out printed (Err why) → ToldStop names why status err.text end.text err.faults end.faults
    → DebugsPair names first status input now_input notes out printed err end
pair-stopped names first j why status input now_input notes out printed err end same c told =
    let ends = status-of names why status err.text end.text err.faults end.faults told in (
      commands_of c.gone why,
      stop-read j input now_input notes out printed why status c ends,
      λ store.
          subst (λ (x : Trace). Tells names (session_told names (transcript_from x (input_in (commands_of c.gone why)))) status (printing_on store out printed err end)) same
          (stop-told names j why status c.gone input now_input (printing_on store out printed err end) c.done (untouched store.files) told),
      inr (session-over j status input now_input notes out printed (Err why) c ends first same),
    )

pub pair-unbegun : (names : FileNames) (j : Joining) (status : ℕ) (input : Supply) (notes : ReadNote) (out err end : Stream) → ToldRefusal names why.OutOfMemory status err.text end.text err.faults end.faults → DebugsPair names j status input input notes out out err end
pair-unbegun names j status input notes out err end told =
    let nine = memory-status names status err.text end.text err.faults end.faults told in (
      no_commands,
      none-read status input notes (λ x. omega (arith, x, nine)) (λ x. omega (arith, x, nine)),
      λ store. unbegun-told names j status (printing_on store out out err end) refl (untouched store.files) told,
      inl (refl, refl, refl),
    )

-- ---- by names

-- a refusal by the files is none of a read, and nothing is done
pub record RefusedStatus (before now : Counts) (status : ℕ) : Type 0 where
  pub words : status ≢ 2
  pub causes : Causes before now status
  pub read : status ≢ 12
  pub zero : status ≢ 0

pub refused-status : (names : FileNames) (r : Refusal) (status : ℕ) (old new : Option (List ℕ)) (before now : ℕ) (first last : Counts) → RefusalCause first last r → ToldRefusal names r status old new before now → RefusedStatus first last status
refused-status names r status old new before now first last cause told =
    let c = caused names first last r status old new before now cause told in
    record { words = c.words; causes = c.causes; read = c.causes.read; zero = λ e. told-apart names r status old new before now told (inl e) }

early-some : (names : FileNames) (c : Commands) (files : Files) (r : Refusal) → IsEarly names (λ files. IsSession c files names) files r → IsEarly names (λ files. IsDebug files names) files r
early-some names c files r (inl memory) = inl memory
early-some names c files r (inr h) = inr (h.0, h.1, (c, h.2))

-- the log and the program are refused
pub named-refused : (names : FileNames) (r : Refusal) (status : ℕ) (k : Call) → Appends k.old.out.text k.new.out.text [] → k.new.store.files ≡ k.old.store.files
    → WithFiles k.old.store.files (λ files. GivesOf {A = JointReading} (λ p. debug_with names no_commands p.log p.image) names (λ files. IsSession no_commands files names) files (Err r))
    → ToldRefusal names r status k.old.err.text k.new.err.text k.old.err.faults k.new.err.faults
    → WithFiles k.old.store.files (λ files. SomeTold (IsSession no_commands files names) (λ what. Tells names what status k) ⊎ StoppedBy names (λ files. IsDebug files names) files status k)
named-refused names r status k out same g told =
    with-files k.old.store.files (λ files. IsEarly names (λ files. IsSession no_commands files names) files r ⊎ IsSession no_commands files names (refused names r))
    (λ files. SomeTold (IsSession no_commands files names) (λ what. Tells names what status k) ⊎ StoppedBy names (λ files. IsDebug files names) files status k) (λ files h. so files h) g
  where
    so : (files : Files) → IsEarly names (λ files. IsSession no_commands files names) files r ⊎ IsSession no_commands files names (refused names r)
        → SomeTold (IsSession no_commands files names) (λ what. Tells names what status k) ⊎ StoppedBy names (λ files. IsDebug files names) files status k
    so files (inl early) = inr (record { refusal = r; early = early-some names no_commands files r early; out = out; same = same; told = told })
    so files (inr is) = inl (refused names r, is, refused-told names r status k out (same-files k.old.store.files k.new.store.files same) told)

-- a session was made
pub named-made : (names : FileNames) (c : Commands) (reading : JointReading) (status : ℕ) (k : Call)
    → WithFiles k.old.store.files (λ files. IsSession c files names (debug_with names c reading.log reading.image)) → Tells names (debug_with names c reading.log reading.image) status k
    → WithFiles k.old.store.files (λ files. SomeTold (IsSession c files names) (λ what. Tells names what status k) ⊎ StoppedBy names (λ files. IsDebug files names) files status k)
named-made names c reading status k is told =
    let what = debug_with names c reading.log reading.image in
    with-files k.old.store.files (λ files. IsSession c files names what) (λ files. SomeTold (IsSession c files names) (λ what. Tells names what status k) ⊎ StoppedBy names (λ files. IsDebug files names) files status k)
    (λ files h. inl (what, h, told)) is

with-both : (known : Option Files) (P Q R : Files → Type 0) → ((files : Files) → P files → Q files → R files) → WithFiles known P → WithFiles known Q → WithFiles known R
with-both None P Q R f x y = tt
with-both (Some files) P Q R f x y = f files x y

-- it was one with the log and the program that are there
pub named-session : (c : Commands) (log elf : List ℕ) (reading : JointReading) (status : ℕ) (input now_input : Supply) (notes : ReadNote) (k : Call)
    → WithFiles k.old.store.files (λ files. LoadedPair log elf files reading.log reading.image)
    → IsUnread c input now_input ⊎ SessionOver (joined reading.log reading.image) c.bytes status input now_input notes k.old.out k.new.out
    → WithFiles k.old.store.files (λ files. SessionIs c log elf files status input now_input notes k)
named-session c log elf reading status input now_input notes k pair s =
    with-files k.old.store.files (λ files. LoadedPair log elf files reading.log reading.image) (λ files. SessionIs c log elf files status input now_input notes k) (λ files p. so files p s) pair
  where
    so : (files : Files) → LoadedPair log elf files reading.log reading.image
        → IsUnread c input now_input ⊎ SessionOver (joined reading.log reading.image) c.bytes status input now_input notes k.old.out k.new.out
        → SessionIs c log elf files status input now_input notes k
    so files p (inl none) = inl none
    so files p (inr over) = inr (record { content = reading.log; program = reading.image; pair = p; over = over })

-- the files are there, and loaded
pub named-begins : (log elf : List ℕ) (reading : JointReading) (known : Option Files) → WithFiles known (λ files. LoadedPair log elf files reading.log reading.image) → WithFiles known (λ files. HasPair log elf files)
named-begins log elf reading known pair =
    with-files known (λ files. LoadedPair log elf files reading.log reading.image) (λ files. HasPair log elf files) (λ files p. (reading.log, reading.image, p)) pair

-- ---- a recording

-- no bytes are refused as a joint replay is
fed : (b : Bool) (x y : Input) (e : JointError) → x.refused ≢ Some (stop.Joint e) → y.refused ≢ Some (stop.Joint e) → (elim b as (λ z. Input) [ true ↦ x | false ↦ y ]).refused ≢ Some (stop.Joint e)
fed true x y e p q = p
fed false x y e p q = q

pub own-refusal : (count : ℕ) (line bytes : List ℕ) (e : JointError) → (input_from count line bytes).refused ≢ Some (stop.Joint e)
own-refusal count line [] e f = absurd cc
own-refusal count line (byte ∷ bytes) e f =
    let next : Input = with_line line (input_from (count + 1) [] bytes) in
    let more : Input = input_from (count + 1) (line ++ byte ∷ []) bytes in
    let read : Input = elim (is_line_feed byte) as (λ z. Input) [ true ↦ next | false ↦ more ] in
    let kept : Input = elim (nat_lt count input_limit) as (λ z. Input) [ true ↦ read | false ↦ ends_in line (Some (stop.TooMuch (count + 1))) ] in
    fed (is_too_long line byte) (ends_in line (Some (stop.LineTooLong (length line + 1)))) kept e (λ g. absurd cc)
    (fed (nat_lt count input_limit) read (ends_in line (Some (stop.TooMuch (count + 1)))) e
    (fed (is_line_feed byte) next more e (own-refusal (count + 1) [] bytes e) (own-refusal (count + 1) (line ++ byte ∷ []) bytes e)) (λ g. absurd cc)) f

pub cut-refusal : (failed : Bool) (i : Input) (e : JointError) → i.refused ≢ Some (stop.Joint e) → (cut failed i).refused ≢ Some (stop.Joint e)
cut-refusal true i e h f = absurd cc
cut-refusal false i e h f = h f

-- so no session over a recording's log ends as one
pub by-end : (x : Ending) (o : Option DebugError) (e : JointError) → x ≢ ending.Refused e → o ≢ Some (stop.Joint e) → result_by x o ≢ Err (stop.Joint e)
by-end ending.GoesOn None e a b f = absurd cc
by-end ending.GoesOn (Some y) e a b f = b (cc)
by-end ending.Quits o e a b f = absurd cc
by-end (ending.Refused y) o e a b f = a (cc)

never-refused : SessionsShowTheRun → (r : Recording) (records : List Record) (c : Commands) → IsLogOf r records → (e : JointError) → (session_of r records c).result ≢ Err (stop.Joint e)
never-refused show r records c log e =
    by-end (answers (lines_in (input_in c)) (session_begin (begin r records))).ends (input_in c).refused e ((show r records log (lines_in (input_in c))).goes_on e)
    (cut-refusal c.failed (input_of c.bytes) e (own-refusal 0 [] c.bytes e))

-- where the commands are whole it isn't stopped
whole-ends : (x : Ending) (o : Option DebugError) → ((e : JointError) → x ≢ ending.Refused e) → o ≡ None → result_by x o ≡ Ok (tt {0})
whole-ends ending.GoesOn None a b = refl
whole-ends ending.GoesOn (Some y) a b = absurd cc
whole-ends ending.Quits o a b = refl
whole-ends (ending.Refused e) o a b = absurd (a e refl)

-- nor is it if they keep to their limits with what follows them
recorded-done : RefusalsStay → (r : Recording) (records : List Record) → ((lines : List (List ℕ)) → ShowsRun r records lines) → (c : Commands) (more : List ℕ) → c.failed ≡ false → (input_of (c.bytes ++ more)).refused ≡ None
    → (session_of r records c).result ≡ Ok (tt {0})
recorded-done stay r records show c more whole none =
    let i = input_in c in
    let same : i.refused ≡ None = ap (λ (b : Bool). (cut b (input_of c.bytes)).refused) whole ∙ stay c.bytes more none in
    whole-ends (answers (lines_in i) (session_begin (begin r records))).ends i.refused (show (lines_in i)).goes_on same

shown : RefusalsStay → (long : Bool) (names : FileNames) (r : Recording) (records : List Record) (c : Commands) (what : Told) (status : ℕ) (k : Call) → ((e : JointError) → (session_of r records c).result ≢ Err (stop.Joint e))
    → ((lines : List (List ℕ)) → ShowsRun r records lines) → Either long (what ≡ refused names (TooLong role.Elf)) (what ≡ session_told names (session_of r records c)) → Tells names what status k
    → IsFree status ⊎ Either long (status ≡ 5) (DoneSession r records c status k.old.out.text k.new.out.text)
unfolding refused session_told
shown stay true names r records c what status k never show e (inl done) = inr (done.status_is ∙ ap (λ (t : Told). t.status) e)
shown stay true names r records c what status k never show e (inr stopped) = inl (stopped-free names what status k stopped)
shown stay false names r records c what status k never show e (inl done) = inr (record {
  done = done.status_is ∙ ap (λ (t : Told). t.status) e;
  text = subst (λ (t : List ℕ). Appends k.old.out.text k.new.out.text t) (ap (λ (t : Told). t.out) e) done.out;
  goes_on = never;
  shows = show;
  whole = λ more whole none. done.status_is ∙ ap (λ (t : Told). t.status) e ∙ ap session_status (recorded-done stay r records show c more whole none);
})
shown stay false names r records c what status k never show e (inr stopped) = inl (stopped-free names what status k stopped)

-- a session with a log that says this is one over its records
session-so : (names : FileNames) (r : Recording) (c : Commands) (d : Content) → d.head ≡ record { settings = r.settings; digest = sha256 r.elf } → debug_with names c d r.program ≡ session_told names (session_of r d.records c)
session-so names r c d head = ap (λ (h : Head). session_told names (transcript (fresh r.program h.settings.harts d.records) (input_in c))) head

pub shows-session : Grammar → Limits → SessionsShowTheRun → RefusalsStay → (c : Commands) (log elf : List ℕ) (files : Files) (status : ℕ) (k : Call)
    → SomeTold (IsSession c files (names_in (DebugLine log elf))) (λ what. Tells (names_in (DebugLine log elf)) what status k) ⊎ StoppedEarly None (Some (DebugLine log elf)) files status k
    → ShowsSession c log elf files status k.old.out.text k.new.out.text
shows-session g limits show stay c log elf files status k (inr early) r h = inl (early-free None (Some (DebugLine log elf)) files status k early)
shows-session g limits show stay c log elf files status k (inl a) r h =
    let names = names_in (DebugLine log elf) in
    let d = h.says.log in
    let here = is-log log elf files r h in
    shown stay (nat_lt 67108864 (length r.elf)) names r d.records c a.0 status k (never-refused show r d.records c here) (show r d.records here)
    (then-so (nat_lt 67108864 (length r.elf)) _ _ _ (λ (by : a.0 ≡ debug_with names c d r.program). by ∙ session-so names r c d h.says.head) (pair-so g limits (debug_with names c) names files r h a.0 a.1)) a.2

pub can_be_debugged : SessionsShowTheRun → RecordingsCanBeDebugged
can_be_debugged show c log elf files r h small whole none =
    let d = h.says.log in
    let i = input_in c in
    let same : i.refused ≡ None = ap (λ (b : Bool). (cut b (input_of c.bytes)).refused) whole ∙ none in
    record {
      content = d;
      program = r.program;
      pair = are-pair log elf files r h small;
      goes_on = ap (λ (head : Head). (transcript (fresh r.program head.settings.harts d.records) i).result) h.says.head
          ∙ whole-ends (answers (lines_in i) (session_begin (begin r d.records))).ends i.refused (show r d.records (is-log log elf files r h) (lines_in i)).goes_on same;
    }

pub prefixes_can_be_debugged : RecordingsCanBeDebugged → RefusalsStay → PrefixesCanBeDebugged
prefixes_can_be_debugged can stay c more log elf files r h small whole none = can c log elf files r h small whole (stay c.bytes more none)

-- ---- the call

-- a session for which there was no memory has no commands
unread-done : Grammar → FileLaws → Limits → (c : Commands) (log elf : List ℕ) (files : Files) (status : ℕ) (k : Call)
    → SomeTold (IsSession c files (names_in (DebugLine log elf))) (λ what. Tells (names_in (DebugLine log elf)) what status k) ⊎ StoppedEarly None (Some (DebugLine log elf)) files status k
    → c.bytes ≡ [] → c.failed ≡ false → (all : Commands) → CanDebug all log elf files → IsFree status ⊎ (status ≡ 0)
unread-done g laws limits c log elf files status k x none whole all can =
    let j : Joining = joined can.content can.program in
    let goes_on : (transcript j (input_in c)).result ≡ Ok (tt {0}) =
    ap (λ (b : Bool). (transcript j (cut b (input_of c.bytes))).result) whole ∙ ap (λ (bytes : List ℕ). (transcript j (input_of bytes)).result) none in
    session-done (one_session g.one_reading) laws limits.converted c log elf files status k x (record { content = can.content; program = can.program; pair = can.pair; goes_on = goes_on })

-- where all that the source had left isn't stopped it is done, unless a read failed
all-done : Grammar → FileLaws → Limits → (c : Commands) (log elf : List ℕ) (files : Files) (status : ℕ) (input now_input : Supply) (notes : ReadNote) (k : Call)
    → SomeTold (IsSession c files (names_in (DebugLine log elf))) (λ what. Tells (names_in (DebugLine log elf)) what status k) ⊎ StoppedEarly None (Some (DebugLine log elf)) files status k
    → SessionIs c log elf files status input now_input notes k → (all : List ℕ) → input.left ≡ Some all → CanDebug (whole_input all) log elf files → IsFree status ⊎ ((status ≡ 12) ⊎ (status ≡ 0))
all-done g laws limits c log elf files status input now_input notes k x (inl none) all is can =
    elim (unread-done g laws limits c log elf files status k x none.0 none.1 (whole_input all) can) [ inl free ↦ inl free | inr zero ↦ inr (inr zero) ]
all-done g laws limits c log elf files status input now_input notes k x (inr s) all is can =
    whole-done g laws log elf files s.content s.program c.bytes status input now_input notes k.old.out k.new.out s.pair s.over all is can

-- all that a session does
pub debugs-so : {I : Type 0} → Grammar → FileLaws → Limits → SessionsShowTheRun → RefusalsStay → (names : FileNames) (log elf : List ℕ) (status : ℕ) (i : Reading I) (k : Call) → names ≡ names_in (DebugLine log elf)
    → DebugsNamed names status i.before i.after i.notes k → DebugsLine (Some (DebugLine log elf)) status i k
debugs-so g laws limits show stay names log elf status i k e h =
    let c = h.0 in
    let own = names_in (DebugLine log elf) in (
      c,
      h.1,
      with-both k.old.store.files (λ files. SomeTold (IsSession c files own) (λ what. Tells own what status k) ⊎ StoppedBy own (λ files. IsDebug files own) files status k)
          (λ files. SessionIs c log elf files status i.before i.after i.notes k) (λ files. DebugsFiles c log elf files status i.before i.after i.notes k)
          (λ files x y. record {
            tells = x;
            done = session-done (one_session g.one_reading) laws limits.converted c log elf files status k x;
            shows = shows-session g limits show stay c log elf files status k x;
            session = y;
            whole = all-done g laws limits c log elf files status i.before i.after i.notes k x y;
          })
          (subst (λ (n : FileNames). WithFiles k.old.store.files (λ files. SomeTold (IsSession c files n) (λ what. Tells n what status k) ⊎ StoppedBy n (λ files. IsDebug files n) files status k)) e h.2)
          (subst (λ (n : FileNames). WithFiles k.old.store.files (λ files. SessionIs c n.log n.elf files status i.before i.after i.notes k)) e h.3),
    )

pub answers-so : (o : Option Schedule) (names : FileNames) (log elf : List ℕ) (status : ℕ) (input now_input : Supply) (notes : ReadNote) (k : Call) → names ≡ names_in (DebugLine log elf)
    → DebugsNamed names status input now_input notes k → TellsAnswer o (Some (DebugLine log elf)) status k
answers-so o names log elf status input now_input notes k e h =
    let c = h.0 in
    let own = names_in (DebugLine log elf) in
    with-files k.old.store.files (λ files. SomeTold (IsSession c files own) (λ what. Tells own what status k) ⊎ StoppedBy own (λ files. IsDebug files own) files status k)
    (λ files. SomeTold (IsAnswer o (Some (DebugLine log elf)) files) (λ what. Tells own what status k) ⊎ StoppedEarly o (Some (DebugLine log elf)) files status k) (λ files x. so files x)
    (subst (λ (n : FileNames). WithFiles k.old.store.files (λ files. SomeTold (IsSession c files n) (λ what. Tells n what status k) ⊎ StoppedBy n (λ files. IsDebug files n) files status k)) e h.2)
  where
    so : (files : Files) → SomeTold (IsSession h.0 files (names_in (DebugLine log elf))) (λ what. Tells (names_in (DebugLine log elf)) what status k) ⊎ StoppedEarly o (Some (DebugLine log elf)) files status k
        → SomeTold (IsAnswer o (Some (DebugLine log elf)) files) (λ what. Tells (names_in (DebugLine log elf)) what status k) ⊎ StoppedEarly o (Some (DebugLine log elf)) files status k
    so files (inl a) = inl (a.0, (h.0, a.1), a.2)
    so files (inr early) = inr early

-- of a line that is a session
pub session-does : {I : Type 0} → (o : Option Schedule) → Grammar → FileLaws → Limits → SessionsShowTheRun → RefusalsStay → (line : Line) (names : FileNames) (status : ℕ) (note : Note) (i : Reading I) (k : Call) → (IsNoSession (Some line) → ⊥) → names ≡ names_in line
    → DebugsEnds names status note i k → Does o (Some line) status note i k
session-does o g laws limits show stay (DebugLine log elf) names status note i k is e d = record {
  replies = record {
    obeys = record {
      told = answers-so o names log elf status i.before i.after i.notes k e d.told;
      words = d.words;
      counted = d.counted;
    };
    still = λ p. d.same;
    saves = d.asks;
    calls = session-calls o log elf note names status k e d.calls;
    demo = tt;
    recorded = tt;
  };
  session = debugs-so g laws limits show stay names log elf status i k e d.told;
  first = d.first;
  begins = begins d.begins;
  unread = λ n. absurd (is n);
  read = λ f. (d.told.1.failed (d.told.1.cause f)).0;
  read_later = d.read_later;
}
  where
    -- its log and program are there
    begins : (i.new ≡ i.old) ⊎ WithFiles k.old.store.files (λ files. HasPair names.log names.elf files) → (i.new ≡ i.old) ⊎ WithFiles k.old.store.files (λ files. HasPair log elf files)
    begins (inl same) = inl same
    begins (inr has) = inr (subst (λ (n : FileNames). WithFiles k.old.store.files (λ files. HasPair n.log n.elf files)) e has)
session-does o g laws limits show stay line names status note i k is e d = absurd (is tt)

-- there was no memory for the words
pub debugs-early : {I : Type 0} (line : Option Line) (status : ℕ) (source : I → Supply) (gives : ReadNote) (input : I) (k : Call) → Appends k.old.out.text k.new.out.text [] → k.new.store.files ≡ k.old.store.files
    → ToldRefusal (names_by line) why.OutOfMemory status k.old.err.text k.new.err.text k.old.err.faults k.new.err.faults → DebugsLine line status (reading source gives input input) k
debugs-early (Some (DebugLine log elf)) status source gives input k out same told =
    let nine = memory-status (names_in (DebugLine log elf)) status k.old.err.text k.new.err.text k.old.err.faults k.new.err.faults told in
    let early : (files : Files) → StoppedEarly None (Some (DebugLine log elf)) files status k = λ files. record { refusal = why.OutOfMemory; early = inl refl; out = out; same = same; told = told } in
    let free : (files : Files) → IsFree status = λ files. early-free None (Some (DebugLine log elf)) files status k (early files) in (
      no_commands,
      none-read status (source input) gives (λ f. omega (arith, f, nine)) (λ f. omega (arith, f, nine)),
      with-any k.old.store.files (λ files. DebugsFiles no_commands log elf files status (source input) (source input) gives k) (λ files. record {
        tells = inr (early files);
        done = λ h. inl (free files);
        shows = λ r has. inl (free files);
        session = inl (refl, refl, refl);
        whole = λ all is can. inl (free files);
      }),
    )
debugs-early line status source gives input k out same told = tt
