-- What is done with an answer, from how its files were saved and its texts sent.
use Rattle.log_commands.proofs.Common.{◌≡◌, ◌≢◌, ◌≤◌, ◌<◌, ◌∙◌, ℕ, Bool, true, false, List, [], Option, Some, None, ap, refl, sym, subst, arith, inl, inr, ◌⊎◌, Result, Ok, Err, cases_lt, Counts, Rose, counted, Files, WhereTold, Stored, StopsSaving, SavesFile, SavesAll, with_err, ActsOn, ActsTo, Acts, PrintsTo, done_of, World, world, between, FileCall, Note, Saves, store_call, saves_in, saves_of, book_saves, SavesTold, FileNames, Stream, Sends, SendsBytes, Always, Unsaved, Refuses, SaveBroke, KeptLog, KeptSaved, KeptFiles, saved_of, saved_new, told_of, told_of_recording, status_of, end_status, saves_after, AtMostSaves, SavesEach, AnswerSaves, is_lean, check_line, Told, Saved, Answer, Recorded, Renewed, NewLog, RunToTell, Role, Refusal, StoreFailed, OutOfMemory}
use Rattle.log_commands.specs.declared.answer.RunEnd.{RunEnd}
use Rattle.log_commands.specs.declared.answer.RunEnd.TheVariants as run_end
use Rattle.log_commands.specs.declared.names.Role.TheVariants as role
use Rattle.log_commands.specs.Statuses.{code}
use Rattle.log_commands.specs.declared.status.Status.{Status}
use Rattle.log_commands.proofs.Acts.{closed-done, prints-so, acts-so, none-fell, sends-done}
use Rattle.log_commands.proofs.Causes.{Sends as Stops, sends-told, sends-high}
use Rattle.log_commands.proofs.Fetched.{fell-later}
use Rattle.log_commands.proofs.FileCalls.{saves-refused, saves-done, one-save-stops, next-save-stops, listed-saves}
use Rattle.log_commands.proofs.Prints.{appends-nothing, rose-later}
use Rattle.log_commands.proofs.SaveCounts.{unsaved-saves}
use Rattle.log_commands.proofs.Tells.{unsaved-told, stopped-told, half-told, recorded-told, kept-both, both-saved, kept-log, log-alone, log-saved}

-- ---- saves

stops-so : (r : Role) (old new : Stored) (x : Refusal) → StopsSaving r old new x → (x ≡ OutOfMemory) ⊎ (x ≡ StoreFailed r)
stops-so r old new x (inl memory) = inl memory
stops-so r old new x (inr failed) = inr failed.0

broken : (names : FileNames) (saved : Saved) (r : Role) (old mid new : Stored) (x : Refusal) → old.counts.faults ≤ mid.counts.faults → StopsSaving r mid new x → WhereTold old.files new.files (SaveBroke r saved names.log names.book)
    → Unsaved (Some saved) names old.files new.files old.counts new.counts x
broken names saved r old mid new x fell (inl memory) broke = inr (memory, (r, broke))
broken names saved r old mid new x fell (inr failed) broke = inl (r, failed.0, broke, rose-later old.counts.faults mid.counts.faults new.counts.faults fell failed.1)

one-few : (lean : Bool) (before after : ℕ) → after ≡ counted before → AtMostSaves lean before after
one-few true before after e = inr e
one-few false before after e = inr (inl e)

rose-on : (a b c : ℕ) → a ≤ b → Rose a b → b ≤ c → Rose a c
rose-on a b c low (inl less) fell = inl (omega (arith, less, fell))
rose-on a b c low (inr last) fell = by (cases_lt b c)
  where
    at : c ≤ b → c ≡ b
    at high = omega (arith, high, fell)

    by : (b < c) ⊎ (c ≤ b) → Rose a c
    by (inl more) = inl (omega (arith, low, more))
    by (inr high) = inr (at high ∙ last)

alone-saved : (first last : Option Files) (saved : Saved) (log book : List ℕ) → saved.book ≡ None → WhereTold first last (KeptLog saved.log log) → WhereTold first last (KeptFiles (Some saved) log book)
alone-saved first last saved log book e h = subst (λ (o : Option (List ℕ)). WhereTold first last (KeptSaved saved.log o log book)) (sym e) h

-- the log was refused
pub log-refused : (names : FileNames) (saved : Saved) (lean : Bool) (note : Note) (old new : Stored) (x : Refusal) → SavesFile names role.Log saved.log note old new (Err x) → SavesAll names saved lean note old new (Err x)
log-refused names saved lean note old new x s = record {
  told = broken names saved role.Log old old new x (omega arith) s.stops s.others;
  later = s.later;
  few = one-few lean old.saves new.saves s.asked;
  all = tt;
  calls = one-save-stops note names role.Log saved.log (book_saves saved.book) old.noted new.noted x s.called (stops-so role.Log old new x s.stops);
}

-- it was saved, and is alone
pub log-kept : (names : FileNames) (saved : Saved) (lean : Bool) (note : Note) (old new : Stored) → saved.book ≡ None → lean ≡ true → SavesFile names role.Log saved.log note old new (Ok tt) → SavesAll names saved lean note old new (Ok tt)
log-kept names saved lean note old new alone is s = record {
  told = alone-saved old.files new.files saved names.log names.book alone (kept-log old.files new.files saved.log names.log s.saved s.others);
  later = s.later;
  few = one-few lean old.saves new.saves s.asked;
  all = subst (λ (b : Bool). new.saves ≡ saves_after b old.saves) (sym is) s.asked;
  calls = listed-saves saved.log saved.book None note names (Unit {0}) old.noted new.noted (Ok tt) alone s.called;
}

-- then the list was saved, or refused
pub list-kept : (names : FileNames) (saved : Saved) (lean : Bool) (list : List ℕ) (note : Note) (old mid new : Stored) (result : Result (Unit {0}) Refusal) → saved.book ≡ Some list → lean ≡ false
    → SavesFile names role.Log saved.log note old mid (Ok tt) → SavesFile names role.Book list note mid new result → SavesAll names saved lean note old new result
list-kept names saved lean list note old mid new (Ok u) there is first last = record {
  told = both-saved old.files new.files saved list names.log names.book there (kept-both old.files mid.files new.files saved.log list names.log names.book first.saved first.others last.saved last.others);
  later = fell-later old.counts mid.counts new.counts first.later last.later;
  few = subst (λ (b : Bool). AtMostSaves b old.saves new.saves) (sym is) (inr (inr (last.asked ∙ ap counted first.asked)));
  all = subst (λ (b : Bool). new.saves ≡ saves_after b old.saves) (sym is) (last.asked ∙ ap counted first.asked);
  calls = listed-saves saved.log saved.book (Some list) note names (Unit {0}) old.noted new.noted (Ok tt) there (last.called ∙ ap (λ (n : ℕ). note n (store_call names (Saves role.Book list))) first.called);
}
list-kept names saved lean list note old mid new (Err x) there is first last = record {
  told = broken names saved role.Book old mid new x first.later.faults last.stops
      (log-saved old.files new.files saved list names.log names.book there (log-alone old.files mid.files new.files saved.log names.log names.book first.saved first.others last.others));
  later = fell-later old.counts mid.counts new.counts first.later last.later;
  few = subst (λ (b : Bool). AtMostSaves b old.saves new.saves) (sym is) (inr (inr (last.asked ∙ ap counted first.asked)));
  all = tt;
  calls = listed-saves saved.log saved.book (Some list) note names (Unit {0}) old.noted new.noted (Err x) there
      (next-save-stops note names (Saves role.Log saved.log) (Saves role.Book list) role.Book list old.noted mid.noted new.noted x refl first.called last.called (stops-so role.Book mid new x last.stops));
}

-- ---- what is saved is printed

-- what a saved answer tells
abbrev telling : (end : ℕ) → (out err : List ℕ) → Saved → Told
telling end out err saved = record { status = end; out = out; err = err; saved = Some saved }

-- it is done, or it was stopped; as ActsOn says of a recording, and of a log made of another
pub record Keeps (names : FileNames) (what : Told) (lean : Bool) (status : ℕ) (note : Note) (old new : World) : Type 0 where
  pub acts : Acts names what status (between old new)
  pub saves : SavesEach lean status old.store.saves new.store.saves
  pub calls : SavesTold names (saves_of what.saved) status note old.store.noted new.store.noted (between old new)

-- what a refused save can end with
record SaveEnds (before now : Counts) (status : ℕ) : Type 0 where
  pub words : status ≢ 2
  pub failed : status ≡ 3 → Rose before.faults now.faults
  pub missing : status ≢ 4
  pub long : status ≢ 5
  pub read : status ≢ 12
  pub write : status ≢ 13

ends-by : (before now : Counts) (status n : ℕ) → status ≡ n → (n ≡ 9) ⊎ ((n ≡ 3) × Rose before.faults now.faults) → SaveEnds before now status
ends-by before now status n h (inl nine) = record {
  words = λ e. omega (arith, e, h, nine);
  failed = λ e. absurd (omega (arith, e, h, nine));
  missing = λ e. omega (arith, e, h, nine);
  long = λ e. omega (arith, e, h, nine);
  read = λ e. omega (arith, e, h, nine);
  write = λ e. omega (arith, e, h, nine);
}
ends-by before now status n h (inr three) = record {
  words = λ e. omega (arith, e, h, three.0);
  failed = λ e. three.1;
  missing = λ e. omega (arith, e, h, three.0);
  long = λ e. omega (arith, e, h, three.0);
  read = λ e. omega (arith, e, h, three.0);
  write = λ e. omega (arith, e, h, three.0);
}

unsaved-ends : (saved : Saved) (names : FileNames) (old new : Stored) (r : Refusal) (status : ℕ) (err end : Stream) → Unsaved (Some saved) names old.files new.files old.counts new.counts r → Refuses names r status err end
    → SaveEnds old.counts new.counts status
unsaved-ends saved names old new r status err end (inl (role, is, broke, rose)) (inl h, fell) = ends-by old.counts new.counts status _ h.0 (inr (ap status_of is, rose))
unsaved-ends saved names old new r status err end (inr (is, broke)) (inl h, fell) = ends-by old.counts new.counts status _ h.0 (inl (ap status_of is))
unsaved-ends saved names old new r status err end u (inr h, fell) = ends-by old.counts new.counts status 9 h.0 (inl refl)

-- a save was refused
pub unsaved-kept : (names : FileNames) (end : ℕ) (text last : List ℕ) (saved : Saved) (lean : Bool) (note : Note) (old new : Stored) (out err told : Stream) (r : Refusal) (status : ℕ)
    → SavesAll names saved lean note old new (Err r) → Refuses names r status err told → Keeps names (telling end text last saved) lean status note (world old out err) (world new out told)
unsaved-kept names end text last saved lean note old new out err told r status s closed =
    let k = between (world old out err) (world new out told) in
    let x = unsaved-ends saved names old new r status err told s.told closed in
    record {
      acts = record {
        told = unsaved-told names (telling end text last saved) r status k (appends-nothing out.text) s.told closed.0;
        words = x.words;
        failed = x.failed;
        missing = x.missing;
        long = x.long;
        read = x.read;
        write = λ e. absurd (x.write e);
        later = record { out = omega arith; err = closed.1 };
        counts = s.later;
      };
      saves = unsaved-saves saved names old.files new.files old.counts new.counts r status err.text told.text err.faults told.faults old.saves new.saves lean s.told closed.0 s.few;
      calls = saves-refused note names (saves_of (Some saved)) r status old.noted new.noted k s.calls (appends-nothing out.text) closed.0;
    }

-- the files were saved, and then this was told
told-kept : (names : FileNames) (end : ℕ) (text last : List ℕ) (saved : Saved) (lean : Bool) (note : Note) (old : Stored) (w : World) (out err : Stream) (status : ℕ)
    → SavesAll names saved lean note old w.store (Ok tt) → Acts names (telling end text last saved) status (between (world old out err) w) → status ≢ 3
    → Keeps names (telling end text last saved) lean status note (world old out err) w
told-kept names end text last saved lean note old w out err status s acts other = record {
  acts = acts;
  saves = record { few = s.few; all = λ is. s.all };
  calls = saves-done note names (saves_of (Some saved)) status old.noted w.store.noted (between (world old out err) w) s.calls other;
}

-- sending to out stopped
pub stopped-kept : (names : FileNames) (end : ℕ) (text last : List ℕ) (saved : Saved) (lean : Bool) (note : Note) (old new : Stored) (out printed err told : Stream) (r : Refusal) (status : ℕ)
    → SavesAll names saved lean note old new (Ok tt) → Sends text (Always {A = Unit {0}}) out printed (Err r) → Refuses names r status err told
    → Keeps names (telling end text last saved) lean status note (world old out err) (world new printed told)
stopped-kept names end text last saved lean note old new out printed err told r status s h closed =
    let what = telling end text last saved in
    let k = between (world old out err) (world new printed told) in
    let x = sends-told names r status err.text told.text err.faults told.faults out.faults printed.faults h.sent.1 closed.0 in
    told-kept names end text last saved lean note old (world new printed told) out err status s
    (acts-so names what status k s.later (prints-so names what status k (stopped-told names what r status k h.sent s.told closed.0) (record { out = h.later; err = closed.1 }) x)) x.failed

-- ---- a log that was made of another

pub new-saved : (names : FileNames) (file : List ℕ) (note : Note) (old new : Stored) (r : Refusal) → SavesFile names role.Log file note old new (Err r) → SavesAll names (saved_new file) true note old new (Err r)
new-saved names file note old new r s = log-refused names (saved_new file) true note old new r s

pub new-unsaved : (names : FileNames) (n : NewLog) (note : Note) (old new : Stored) (out err : Stream) (r : Refusal) → SavesFile names role.Log n.file.items note old new (Err r)
    → ActsTo names (Renewed n) note (world old out err) (world new out err) (Err r)
new-unsaved names n note old new out err r s = λ status end closed.
    let k = unsaved-kept names 0 (check_line n.counts) [] (saved_new n.file.items) true note old new out err end r status (new-saved names n.file.items note old new r s) closed in
    record { acts = k.acts; still = λ p. absurd p; saves = k.saves; calls = k.calls }

pub new-kept : (names : FileNames) (n : NewLog) (note : Note) (old new : Stored) (out printed err : Stream) (result : Result (Unit {0}) Refusal) → SavesFile names role.Log n.file.items note old new (Ok tt)
    → Sends (check_line n.counts) Always out printed result → ActsTo names (Renewed n) note (world old out err) (world new printed err) (done_of result)
new-kept names n note old new out printed err (Ok u) s h = λ status end closed.
    let saved = log-kept names (saved_new n.file.items) true note old new refl refl s in
    let what = told_of names (Renewed n) in
    let w = world new printed err in
    let b = between (world old out err) w in
    let k = told-kept names 0 (check_line n.counts) [] (saved_new n.file.items) true note old w out err 0 saved
    (acts-so names what 0 b saved.later (prints-so names what 0 b (inl (record { status_is = refl; out = h.sent.0; err = appends-nothing err.text; files = saved.told })) (record { out = h.later; err = omega arith }) (sends-done out.faults printed.faults)))
    (λ e. omega (arith, e)) in
    closed-done (λ x e. ActsOn names (Renewed n) x note (world old out err) (with_err w e)) status err end closed
    (record { acts = k.acts; still = λ p. absurd p; saves = k.saves; calls = k.calls })
new-kept names n note old new out printed err (Err r) s h = λ status end closed.
    let k = stopped-kept names 0 (check_line n.counts) [] (saved_new n.file.items) true note old new out printed err end r status (log-kept names (saved_new n.file.items) true note old new refl refl s) h closed in
    record { acts = k.acts; still = λ p. absurd p; saves = k.saves; calls = k.calls }

-- ---- a recording

pub run-unsaved : (names : FileNames) (r : RunToTell) (note : Note) (old new : Stored) (out err : Stream) (x : Refusal) → SavesAll names (saved_of r) (is_lean r) note old new (Err x)
    → ActsTo names (Recorded r) note (world old out err) (world new out err) (Err x)
run-unsaved names r note old new out err x s = λ status end closed.
    let k = unsaved-kept names (end_status r.end) r.out.items r.err.items (saved_of r) (is_lean r) note old new out err end x status s closed in
    record { acts = k.acts; still = λ p. absurd p; saves = k.saves; calls = k.calls }

pub run-stopped : (names : FileNames) (r : RunToTell) (note : Note) (old new : Stored) (out printed err : Stream) (x : Refusal) → SavesAll names (saved_of r) (is_lean r) note old new (Ok tt) → SendsBytes r.out.items out printed (Err x)
    → ActsTo names (Recorded r) note (world old out err) (world new printed err) (Err x)
run-stopped names r note old new out printed err x s h = λ status end closed.
    let k = stopped-kept names (end_status r.end) r.out.items r.err.items (saved_of r) (is_lean r) note old new out printed err end x status s h.sends closed in
    record { acts = k.acts; still = λ p. absurd p; saves = k.saves; calls = k.calls }

-- a write of the guest's stream 2 and of the summary failed
pub run-half : (names : FileNames) (r : RunToTell) (note : Note) (old new : Stored) (out printed err mid : Stream) (x : Refusal) → SavesAll names (saved_of r) (is_lean r) note old new (Ok tt) → SendsBytes r.out.items out printed (Ok tt)
    → SendsBytes r.err.items err mid (Err x) → ActsTo names (Recorded r) note (world old out err) (world new printed mid) (Err x)
run-half names r note old new out printed err mid x s h last = λ status end closed.
    let k = between (world old out err) (world new printed end) in
    let what = told_of_recording r in
    let y = sends-told names x status mid.text end.text mid.faults end.faults err.faults mid.faults last.sends.sent.1 closed.0 in
    let kept = told-kept names (end_status r.end) r.out.items r.err.items (saved_of r) (is_lean r) note old (world new printed end) out err status s (record {
      told = half-told names r x status k mid.text mid.faults h.sends.sent.0 last.short last.write last.sends.later s.told closed.0;
      words = y.words;
      failed = λ e. absurd (y.failed e);
      missing = y.missing;
      long = y.long;
      read = y.read;
      write = λ e. inr (rose-on err.faults mid.faults end.faults last.sends.later (y.write e) closed.1);
      later = record { out = h.sends.later; err = omega (arith, last.sends.later, closed.1) };
      counts = s.later;
    }) y.failed in
    record { acts = kept.acts; still = λ p. absurd p; saves = kept.saves; calls = kept.calls }

-- all of it is done
pub run-kept : (names : FileNames) (r : RunToTell) (value : Status) (note : Note) (old new : Stored) (out printed err mid : Stream) → code value ≡ end_status r.end → SavesAll names (saved_of r) (is_lean r) note old new (Ok tt) → SendsBytes r.out.items out printed (Ok tt)
    → SendsBytes r.err.items err mid (Ok tt) → ActsTo names (Recorded r) note (world old out err) (world new printed mid) (Ok value)
run-kept names r value note old new out printed err mid is s h last = λ status end closed.
    subst (λ (n : ℕ). ActsOn names (Recorded r) n note (world old out err) (with_err (world new printed mid) end)) (sym (closed.0 ∙ is))
    (subst (λ (e : Stream). ActsOn names (Recorded r) (end_status r.end) note (world old out err) (world new printed e)) (sym closed.1) ended)
  where
    done : (e : RunEnd) → Stops out.faults printed.faults (end_status e)
    done run_end.Done = sends-done out.faults printed.faults
    done run_end.Fault = sends-high out.faults printed.faults 10 10 refl (omega arith) (λ e. omega (arith, e)) (λ e. absurd (omega (arith, e)))
    done run_end.Limit = sends-high out.faults printed.faults 11 11 refl (omega arith) (λ e. omega (arith, e)) (λ e. absurd (omega (arith, e)))

    ended : ActsOn names (Recorded r) (end_status r.end) note (world old out err) (world new printed mid)
    ended =
        let k = between (world old out err) (world new printed mid) in
        let what = told_of_recording r in
        let y = done r.end in
        let kept = told-kept names (end_status r.end) r.out.items r.err.items (saved_of r) (is_lean r) note old (world new printed mid) out err (end_status r.end) s
        (acts-so names what (end_status r.end) k s.later (prints-so names what (end_status r.end) k (recorded-told names r k h.sends.sent.0 last.sends.sent.0 s.told) (record { out = h.sends.later; err = last.sends.later }) y)) y.failed in
        record { acts = kept.acts; still = λ p. absurd p; saves = kept.saves; calls = kept.calls }

-- ---- what is printed alone

pub prints-act : (names : FileNames) (answer : Answer) (note : Note) (s : Stored) (out printed err : Stream) (result : Result (Unit {0}) Refusal) → saves_in answer ≡ [] → ((status : ℕ) → AnswerSaves answer status s.saves s.saves)
    → PrintsTo (λ names. told_of names answer) out printed result → ActsTo names answer note (world s out err) (world s printed err) (done_of result)
prints-act names answer note s out printed err result none saves p = λ status end closed.
    let q = p names s status err end closed in
    let k = between (world s out err) (world s printed end) in
    record {
      acts = acts-so names (told_of names answer) status k (none-fell s.counts) q;
      still = λ is. refl;
      saves = saves status;
      calls = subst (λ (calls : List FileCall). SavesTold names calls status note s.noted s.noted k) (sym none) (saves-done note names [] status s.noted s.noted k refl q.failed);
    }
