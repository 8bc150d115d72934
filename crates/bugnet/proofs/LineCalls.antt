-- Which calls a line makes of its store.
use Rattle.bugnet.proofs.Common.{◌≡◌, ◌≢◌, ℕ, List, [], ◌++◌, Option, Some, None, ◌∙◌, ap, subst, sym, refl, arith, true, false, Bool, inl, inr, ◌⊎◌, append_assoc, Result, Ok, Err, IfOk, is_some, option_map, Appends, append-nil, first_bad, Line, RecordLine, ReplayLine, JointLine, DebugLine, ConvertLine, SalvageLine, DemoLine, seen_recording, RecordOptions, demo_text, Outcome, Refused, interval_of, replayed, ReplayError, JointError, Replay, run_all, joint_text, Content, Program, EndMark, FileNames, no_names, names_in, names_by, scheduling_by, setting_refusal, refusal_in, refusal_by, IsAnswer, line_roles, replay_status, joint_refusal, IsRenewed, IsRecordedRun, IsMade, FitsLine, FileCall, Note, Saves, noted_after, loads_of, saves_of, has_save, input_roles, record_roles, elf_roles, saved_in, saves_in, IsOfContent, StopsAt, LoadsUpTo, CallsTo, LoadsTo, CallsBy, IsOfSave, SaveRefused, SavesTold, needed_roles, IsSaved, MaySave, calls_of, needed_of, is_printed, is_replayed, is_recorded, line_past, past_of, RefusedAfter, CallsSo, CallsOnly, TellsRefusal, HasShape, AnswersDemo, TellsDemo, is_clash, replay_found, ended, ran_told, joined, joint_with, IsReadOnly, IsNoSession, WithFiles, CauseBy, IsPrinted, ToldRefusal, told_of, pair_roles, end_status, Call, IsFree, SomeTold, Tells, is_begun, Told, Saved, refused, printed, printed_until, Answer, Recorded, Joined, Checked, Agreed, Renewed, Shown, RunEnd, Scheduling, Role, Refusal, OutOfMemory, ReplayStopped, WordsRefused, part-longer, part-whole, from, stopped-free, memory-names, memory, same-files, with-files, ends-behind, noted-append, loads-alone, Stored, not, Schedule}
use Rattle.log_commands.specs.declared.answer.Answer.TheVariants.{Listed}
use Rattle.hart_replay.specs.Replay as rows
use Rattle.hart_replay.specs.declared.error.ReplayError.TheVariants as replay
use Rattle.log_commands.specs.Effects.{Done}
use Rattle.log_commands.specs.declared.answer.Answer.TheVariants.{Interval}
use Rattle.log_commands.specs.declared.answer.RunEnd.TheVariants as run_end
use Rattle.bugnet.proofs.BegunReplays.{is_found, is_begun_end, StopsBegun, replays_begin, joint_replays_begin}
use Rattle.log_commands.proofs.Shows.{found-saved}

-- ---- the last of the calls

-- at a save
stops-save : (needed : List FileCall) (r : Refusal) (first made : List FileCall) → IsOfSave r made → StopsAt needed r (first ++ made)
stops-save needed r first made (inl memory) = inl memory
stops-save needed r first made (inr (role, bytes, last, is)) = inr (inr (inl (role, bytes, ends-behind first made (Saves role bytes) last, is)))

-- ---- loads

-- a program is refused before the input is loaded
pub own-first : (note : Note) (names : FileNames) (roles : List Role) (n : ℕ) (r : Refusal) → IsOfContent r → LoadsUpTo names roles [] note n n r
own-first note names roles n r own = record { made = []; left = loads_of roles; parts = refl; noted = refl; at = inr (inr (inr (own, refl))) }

-- all is loaded, and then memory runs out
pub memory-loads : (note : Note) (names : FileNames) (roles needed : List Role) (before after : ℕ) → after ≡ noted_after note names before (loads_of roles)
    → LoadsUpTo names roles needed note before after OutOfMemory
memory-loads note names roles needed before after e = record {
  made = loads_of roles;
  left = [];
  parts = sym (append-nil (loads_of roles));
  noted = e;
  at = inl refl;
}

-- ---- a recording's input

pub no-input-loads : (note : Note) (names : FileNames) (has : Bool) (n : ℕ) → has ≡ false → n ≡ noted_after note names n (loads_of (input_roles has))
no-input-loads note names false n e = refl
no-input-loads note names true n e = grind arith

pub input-loads : (A : Type 0) (note : Note) (names : FileNames) (has : Bool) (needed : List Role) (before after : ℕ) (result : Result A Refusal) → has ≡ true
    → CallsTo names (input_roles true) needed note before after result → CallsTo names (input_roles has) needed note before after result
input-loads A note names has needed before after result e h = subst (λ (b : Bool). CallsTo names (input_roles b) needed note before after result) (sym e) h

-- ---- words that are tested first

-- they are refused
pub words-first : (A : Type 0) (note : Note) (names : FileNames) (o : Option Refusal) (x : Refusal) (roles needed : List Role) (n : ℕ) (result : Result A Refusal) → o ≡ Some x → CallsBy o names roles needed note n n result
words-first A note names o x roles needed n result e = subst (λ (p : Option Refusal). CallsBy p names roles needed note n n result) (sym e) refl

-- they aren't
pub words-pass : (A : Type 0) (note : Note) (names : FileNames) (o : Option Refusal) (roles needed : List Role) (before after : ℕ) (result : Result A Refusal) → o ≡ None
    → CallsTo names roles needed note before after result → CallsBy o names roles needed note before after result
words-pass A note names o roles needed before after result e h = subst (λ (p : Option Refusal). CallsBy p names roles needed note before after result) (sym e) h

pub mapped : (A : Type 0) (B : Type 0) (f : A → B) (o : Option A) → is_some (option_map f o) ≡ is_some o
mapped A B f None = refl
mapped A B f (Some a) = refl

-- and by what a recording's line asks for
pub record-calls : (A : Type 0) (note : Note) (names : FileNames) (r : RecordOptions) (o : Option Schedule) (how : Scheduling) (has : Bool) (before after : ℕ) (result : Result A Refusal) → names ≡ names_in (RecordLine (seen_recording r))
    → how ≡ scheduling_by (seen_recording r) o → has ≡ is_some r.input
    → CallsBy (setting_refusal (first_bad r.settings) (is_clash how.lean names.log names.book)) names (record_roles has) elf_roles note before after result
    → CallsBy (refusal_in (RecordLine (seen_recording r))) names (line_roles (RecordLine (seen_recording r))) (needed_roles (RecordLine (seen_recording r))) note before after result
record-calls A note names r o how has before after result e m input h =
    let s = seen_recording r in
    let there : has ≡ is_some s.input = input ∙ sym (mapped _ _ _ r.input) in
    subst (λ (n : FileNames). CallsBy (setting_refusal (first_bad s.settings) (is_clash s.lean n.log n.book)) names (record_roles (is_some s.input)) elf_roles note before after result) e
    (subst (λ (b : Bool). CallsBy (setting_refusal (first_bad s.settings) (is_clash s.lean names.log names.book)) names (record_roles b) elf_roles note before after result) there
    (subst (λ (x : Scheduling). CallsBy (setting_refusal (first_bad s.settings) (is_clash x.lean names.log names.book)) names (record_roles has) elf_roles note before after result) m h))

-- ---- what an answer saves is what its line may save

printed-none : (answer : Answer) → IsPrinted answer → saved_in answer ≡ None
printed-none (Recorded r) p = absurd p
printed-none (Renewed n) p = absurd p
printed-none answer p = refl

renewed-one : (answer : Answer) → IsRenewed answer → IsSaved true (saved_in answer)
renewed-one (Renewed n) is = refl
renewed-one answer is = absurd is

listed-so : {A B : Type 0} (f : A → B) (o : Option A) (lean : Bool) → not (is_some o) ≡ lean → is_some (option_map f o) ≡ not lean
listed-so f None lean e = ap not e
listed-so f (Some a) lean e = ap not e

recorded-so : (lean : Bool) (answer : Answer) → IsRecordedRun lean answer → IsSaved lean (saved_in answer)
recorded-so lean (Recorded r) is = listed-so _ r.book lean is
recorded-so lean answer is = absurd is

answer-saves : (line : Line) (answer : Answer) → FitsLine line answer → (IsReadOnly (Some line) → IsPrinted answer) → MaySave (Some line) (saved_in answer)
answer-saves (RecordLine r) answer records prints = recorded-so r.lean answer records
answer-saves (ConvertLine log copy) answer records prints = renewed-one answer records
answer-saves (SalvageLine log copy) answer records prints = renewed-one answer records
answer-saves line answer records prints = printed-none answer (prints tt)

-- and what it tells says so
until-saved : (names : FileNames) (text : List ℕ) (o : Option Refusal) → (printed_until names text o).saved ≡ None
until-saved names text None = refl
until-saved names text (Some refusal) = refl

answer-told : (names : FileNames) (answer : Answer) → (told_of names answer).saved ≡ saved_in answer
unfolding ran_told
answer-told names (Interval r) = found-saved names r (interval_of r.hart r.interval r.log.records)
answer-told names (Joined r) = until-saved names _ _
answer-told names answer = refl

-- before there is an answer: something that the line may save
abbrev a_log : (lean : Bool) → Option Saved
a_log true = Some (record { log = []; book = None })
a_log false = Some (record { log = []; book = Some [] })

log-fits : (lean : Bool) → IsSaved lean (a_log lean)
log-fits true = refl
log-fits false = refl

sample : (line : Option Line) → (saved : Option Saved) × MaySave line saved
sample (Some (RecordLine r)) = (a_log r.lean, log-fits r.lean)
sample (Some (ConvertLine log copy)) = (a_log true, refl)
sample (Some (SalvageLine log copy)) = (a_log true, refl)
sample line = (None, refl)

-- no save was made
no-save : {A : Type 0} (b : Bool) → b ≡ false → b ≡ true → A
no-save b none some = absurd (grind arith)

pub made-printed : {E : Type 0} (result : Result Answer E) → IfOk result IsMade → IfOk result IsPrinted
made-printed (Ok (Recorded r)) p = absurd p
made-printed (Ok (Interval r)) p = absurd p
made-printed (Ok (Joined r)) p = absurd p
made-printed (Ok (Renewed n)) p = absurd p
made-printed result p = tt

-- ---- what an answer ends with

past-at : (past : ℕ → Bool) (status n : ℕ) → status ≡ n → past n ≡ true → past status ≡ true
past-at past status n e h = ap past e ∙ h

end-past : (e : RunEnd) → is_recorded (end_status e) ≡ true
end-past run_end.Done = refl
end-past e = refl

-- it is refused by what its files hold, before it prints
record Unbegun (names : FileNames) (status : ℕ) (k : Call) : Type 0 where
  refusal : Refusal
  own : IsOfContent refusal
  out : Appends k.old.out.text k.new.out.text []
  told : ToldRefusal names refusal status k.old.err.text k.new.err.text k.old.err.faults k.new.err.faults

-- a replay ends so, or before it begins
abbrev Replays : FileNames → (status : ℕ) → Call → Type 0
Replays names status k = (is_replayed status ≡ true) ⊎ Unbegun names status k

replay-past : (e : ReplayError) → is_found e ≡ true → is_replayed (replay_status e) ≡ true
replay-past (replay.NoInterval hart interval) begun = absurd (cc begun)
replay-past e begun = refl

until-past : (names : FileNames) (text : List ℕ) (o : Option JointError) → StopsBegun o → is_replayed (printed_until names text (option_map joint_refusal o)).status ≡ true
until-past names text (Some (Replay e)) begun = replay-past e begun
until-past names text o begun = refl

outcome-past : (names : FileNames) (hart interval : ℕ) (mark : EndMark) (text : List ℕ) (o : Outcome) → is_begun_end o ≡ true → is_replayed (ended names hart interval mark text o).status ≡ true
unfolding ended
outcome-past names hart interval mark text rows.Done begun = refl
outcome-past names hart interval mark text (Refused e) begun = replay-past e begun

found-past : (names : FileNames) (hart interval : ℕ) (d : Content) (i : Program) (o : Option rows.Interval) (status : ℕ) (k : Call) → interval_of hart interval d.records ≡ o
    → Done names (replay_found names hart interval d i o) status k → Replays names status k
unfolding refused
found-past names hart interval d i None status k e done =
    inr (record { refusal = ReplayStopped (replay.NoInterval hart interval); own = λ before now. tt; out = done.out; told = inl (done.status_is, done.err) })
found-past names hart interval d i (Some v) status k e done =
    inl (past-at is_replayed status _ done.status_is (outcome-past names hart interval v.mark _ (replayed i d.records hart interval).outcome (replays_begin i d.records hart interval v e)))

joined-past : (names : FileNames) (d : Content) (i : Program) (status : ℕ) (k : Call) → Done names (joint_with names d i) status k → Replays names status k
unfolding ran_told
joined-past names d i status k done =
    inl (past-at is_replayed status _ done.status_is (until-past names (joint_text (run_all (joined d i))) (run_all (joined d i)).stopped (joint_replays_begin i d.head.settings.harts d.records)))

printed-past : (names : FileNames) (answer : Answer) (status : ℕ) (k : Call) → IsPrinted answer → Done names (told_of names answer) status k → Replays names status k
printed-past names (Recorded r) status k p done = absurd p
printed-past names (Interval r) status k p done = found-past names r.hart r.interval r.log r.image (interval_of r.hart r.interval r.log.records) status k refl done
printed-past names (Joined r) status k p done = joined-past names r.log r.image status k done
printed-past names (Renewed n) status k p done = absurd p
printed-past names answer status k p done = inl (past-at is_replayed status 0 done.status_is refl)

made-past : (names : FileNames) (answer : Answer) → IsMade answer → is_printed (told_of names answer).status ≡ true
made-past names (Listed d) p = refl
made-past names (Checked n) p = refl
made-past names Agreed p = refl
made-past names (Shown text) p = refl
made-past names answer p = absurd p

renewed-past : (names : FileNames) (answer : Answer) → IsRenewed answer → is_printed (told_of names answer).status ≡ true
renewed-past names (Renewed n) p = refl
renewed-past names answer p = absurd p

recorded-past : (lean : Bool) (names : FileNames) (answer : Answer) → IsRecordedRun lean answer → is_recorded (told_of names answer).status ≡ true
recorded-past lean names (Recorded r) p = end-past r.end
recorded-past lean names answer p = absurd p

-- once all its calls are made a line ends so, or it is refused before it prints, and then these are the calls that it needs
abbrev Ends : (past : ℕ → Bool) → (calls needed : List FileCall) → FileNames → (status : ℕ) → Call → Type 0
Ends past calls needed names status k = (past status ≡ true) ⊎ ((calls ≡ needed) × Unbegun names status k)

abbrev LineEnds : Line → (saved : Option Saved) → FileNames → (status : ℕ) → Call → Type 0
LineEnds line saved names status k = Ends (line_past line) (calls_of (Some line) saved) (needed_of (Some line)) names status k

replay-ends : (names : FileNames) (status : ℕ) (k : Call) → Replays names status k → Ends is_replayed (loads_of pair_roles) (loads_of pair_roles) names status k
replay-ends names status k (inl past) = inl past
replay-ends names status k (inr refused) = inr (refl, refused)

printed-ends : (names : FileNames) (answer : Answer) (status : ℕ) (k : Call) → IsPrinted answer → Done names (told_of names answer) status k
    → Ends is_replayed (loads_of pair_roles ++ saves_of (saved_in answer)) (loads_of pair_roles) names status k
printed-ends names answer status k p done =
    subst (λ (saved : Option Saved). Ends is_replayed (loads_of pair_roles ++ saves_of saved) (loads_of pair_roles) names status k) (sym (printed-none answer p))
    (replay-ends names status k (printed-past names answer status k p done))

answer-past : (past : ℕ → Bool) (names : FileNames) (answer : Answer) (status : ℕ) (k : Call) → Done names (told_of names answer) status k → past (told_of names answer).status ≡ true → past status ≡ true
answer-past past names answer status k done e = past-at past status (told_of names answer).status done.status_is e

line-ends : (line : Line) (names : FileNames) (answer : Answer) (status : ℕ) (k : Call) → FitsLine line answer → (IsReadOnly (Some line) → IsPrinted answer) → IsNoSession (Some line)
    → Done names (told_of names answer) status k → LineEnds line (saved_in answer) names status k
line-ends (RecordLine r) names answer status k fits prints other done = inl (answer-past is_recorded names answer status k done (recorded-past r.lean names answer fits))
line-ends (ReplayLine log elf hart interval) names answer status k fits prints other done = printed-ends names answer status k (prints tt) done
line-ends (JointLine log elf) names answer status k fits prints other done = printed-ends names answer status k (prints tt) done
line-ends (DebugLine log elf) names answer status k fits prints other done = absurd other
line-ends (ConvertLine log copy) names answer status k fits prints other done = inl (answer-past is_printed names answer status k done (renewed-past names answer fits))
line-ends (SalvageLine log copy) names answer status k fits prints other done = inl (answer-past is_printed names answer status k done (renewed-past names answer fits))
line-ends line names answer status k fits prints other done = inl (answer-past is_printed names answer status k done (made-past names answer fits))

memory-past : (line : Line) → line_past line 9 ≡ true
memory-past (RecordLine r) = refl
memory-past line = refl

write-past : (line : Line) → line_past line 13 ≡ true
write-past (RecordLine r) = refl
write-past line = refl

free-past : (line : Line) (status : ℕ) → IsFree status → status ≢ 3 → line_past line status ≡ true
free-past line status (inl e) other = absurd (other e)
free-past line status (inr (inl e)) other = past-at (line_past line) status 9 e (memory-past line)
free-past line status (inr (inr e)) other = past-at (line_past line) status 13 e (write-past line)

tells-past : (line : Line) (names : FileNames) (answer : Answer) (status : ℕ) (k : Call) → FitsLine line answer → (IsReadOnly (Some line) → IsPrinted answer) → IsNoSession (Some line)
    → Tells names (told_of names answer) status k → status ≢ 3 → LineEnds line (saved_in answer) names status k
tells-past line names answer status k fits prints none (inl done) other = line-ends line names answer status k fits prints none done
tells-past line names answer status k fits prints none (inr s) other = inl (free-past line status (stopped-free names (told_of names answer) status k s) other)

-- ---- a command

-- such calls without a save
abbrev SavesNone : FileNames → (calls needed : List FileCall) → Option Refusal → (ℕ → Bool) → (status : ℕ) → Note → Call → Type 0
SavesNone names calls needed words past status note k = (so : CallsSo names calls needed words past status note k) × (has_save so.made ≡ false)

-- those of a line
none-saved : (o : Option Schedule) (line : Option Line) (saved : Option Saved) (status : ℕ) (note : Note) (k : Call) → MaySave line saved
    → SavesNone (names_by line) (calls_of line saved) (needed_of line) (refusal_by line) (past_of line) status note k → CallsOnly o line status note k
none-saved o line saved status note k fits (so, none) = record { saved = saved; fits = fits; so = so; own = λ some. no-save (has_save so.made) none some }

-- it is refused before it saves
refused-so : (A : Type 0) (note : Note) (names : FileNames) (o : Option Refusal) (roles needed : List Role) (saves : List FileCall) (past : ℕ → Bool) (r : Refusal) (status : ℕ) (k : Call)
    → CallsBy {A = A} o names roles needed note k.old.store.noted k.new.store.noted (Err r) → CauseBy {A = A} o k.old.store.counts k.new.store.counts (Err r) → Appends k.old.out.text k.new.out.text []
    → ToldRefusal names r status k.old.err.text k.new.err.text k.old.err.faults k.new.err.faults → SavesNone names (loads_of roles ++ saves) (loads_of needed) o past status note k
refused-so A note names (Some x) roles needed saves past r status k h c out told = (
  record {
    made = [];
    left = loads_of roles ++ saves;
    parts = refl;
    noted = h;
    ends = inr (record { refusal = r; at = inl (cc c.0, refl); out = out; told = told });
  },
  refl,
)
refused-so A note names None roles needed saves past r status k h c out told = (
  record {
    made = h.made;
    left = h.left ++ saves;
    parts = ap (λ (calls : List FileCall). calls ++ saves) h.parts ∙ append_assoc h.made h.left saves;
    noted = h.noted;
    ends = inr (record { refusal = r; at = inr h.at; out = out; told = told });
  },
  loads-alone roles h.made h.left h.parts,
)

pub refusal-calls : (o : Option Schedule) (A : Type 0) (note : Note) (line : Line) (names : FileNames) (r : Refusal) (status : ℕ) (k : Call) → names ≡ names_in line
    → CallsBy {A = A} (refusal_in line) names (line_roles line) (needed_roles line) note k.old.store.noted k.new.store.noted (Err r) → CauseBy {A = A} (refusal_in line) k.old.store.counts k.new.store.counts (Err r)
    → Appends k.old.out.text k.new.out.text [] → ToldRefusal names r status k.old.err.text k.new.err.text k.old.err.faults k.new.err.faults → CallsOnly o (Some line) status note k
refusal-calls o A note line names r status k e h c out told =
    let saved = (sample (Some line)).0 in
    none-saved o (Some line) saved status note k (sample (Some line)).1
    (subst (λ (n : FileNames). SavesNone n (calls_of (Some line) saved) (needed_of (Some line)) (refusal_in line) (line_past line) status note k) e
    (refused-so A note names (refusal_in line) (line_roles line) (needed_roles line) (saves_of saved) (line_past line) r status k h c out told))

-- it has its answer, of which all is saved, or not
answer-so : (A : Type 0) (a : A) (note : Note) (names : FileNames) (o : Option Refusal) (roles needed : List Role) (saves : List FileCall) (past : ℕ → Bool) (status : ℕ) (old : Stored) (k : Call)
    → CallsBy o names roles needed note old.noted k.old.store.noted (Ok a) → CauseBy o old.counts k.old.store.counts (Ok a) → SavesTold names saves status note k.old.store.noted k.new.store.noted k
    → (status ≢ 3 → Ends past (loads_of roles ++ saves) (loads_of needed) names status k) → CallsSo names (loads_of roles ++ saves) (loads_of needed) o past status note (from old k)
answer-so A a note names (Some x) roles needed saves past status old k h c s goes = cc c.0
answer-so A a note names None roles needed saves past status old k h c s goes = record {
  made = loads_of roles ++ s.made;
  left = s.left;
  parts = ap (λ (calls : List FileCall). loads_of roles ++ calls) s.parts ∙ sym (append_assoc (loads_of roles) s.made s.left);
  noted = s.noted ∙ ap (λ (n : ℕ). noted_after note names n s.made) h ∙ sym (noted-append note names old.noted (loads_of roles) s.made);
  ends = by s.ends;
}
  where
    all_made : s.left ≡ [] → loads_of roles ++ s.made ≡ loads_of roles ++ saves
    all_made all = ap (λ (calls : List FileCall). loads_of roles ++ calls) (sym (s.parts ∙ ap (λ (calls : List FileCall). s.made ++ calls) all ∙ append-nil s.made))

    at_end : s.left ≡ [] → Ends past (loads_of roles ++ saves) (loads_of needed) names status k
        → ((s.left ≡ []) × (past status ≡ true)) ⊎ RefusedAfter names (loads_of needed) None (loads_of roles ++ s.made) status (from old k)
    at_end all (inl goes) = inl (all, goes)
    at_end all (inr (same, u)) = inr (record { refusal = u.refusal; at = inr (inr (inr (inr (u.own, all_made all ∙ same)))); out = u.out; told = u.told })

    by : ((s.left ≡ []) × (status ≢ 3)) ⊎ SaveRefused names s.made status k
        → ((s.left ≡ []) × (past status ≡ true)) ⊎ RefusedAfter names (loads_of needed) None (loads_of roles ++ s.made) status (from old k)
    by (inl (all, other)) = at_end all (goes other)
    by (inr t) = inr (record { refusal = t.refusal; at = inr (stops-save (loads_of needed) t.refusal (loads_of roles) s.made t.at); out = t.out; told = t.told })

pub answer-calls : (o : Option Schedule) (note : Note) (line : Line) (names : FileNames) (answer : Answer) (status : ℕ) (old : Stored) (k : Call) → names ≡ names_in line
    → CallsBy (refusal_in line) names (line_roles line) (needed_roles line) note old.noted k.old.store.noted (Ok answer) → CauseBy (refusal_in line) old.counts k.old.store.counts (Ok answer)
    → FitsLine line answer → (IsReadOnly (Some line) → IsPrinted answer) → IsNoSession (Some line) → SavesTold names (saves_in answer) status note k.old.store.noted k.new.store.noted k → Tells names (told_of names answer) status k
    → WithFiles old.files (λ known. IsAnswer o (Some line) known (told_of names answer)) → CallsOnly o (Some line) status note (from old k)
answer-calls o note line names answer status old k e h c fits prints none s told is = record {
  saved = saved_in answer;
  fits = answer-saves line answer fits prints;
  so = subst (λ (n : FileNames). CallsSo n (calls_of (Some line) (saved_in answer)) (needed_of (Some line)) (refusal_in line) (line_past line) status note (from old k)) e
      (answer-so Answer answer note names (refusal_in line) (line_roles line) (needed_roles line) (saves_in answer) (line_past line) status old k h c s
      (λ other. tells-past line names answer status k fits prints none told other));
  own = λ some. with-files old.files (λ files. IsAnswer o (Some line) files (told_of names answer)) (λ files. SomeTold (IsAnswer o (Some line) files) (λ what. what.saved ≡ saved_in answer))
      (λ files is. (told_of names answer, is, answer-told names answer)) is;
}

-- ---- a session

-- it isn't begun
pub unbegun-calls : (A : Type 0) (note : Note) (names : FileNames) (roles : List Role) (r : Refusal) (status : ℕ) (k : Call)
    → LoadsTo {A = A} names roles note k.old.store.noted k.new.store.noted (Err r) → Appends k.old.out.text k.new.out.text [] → ToldRefusal names r status k.old.err.text k.new.err.text k.old.err.faults k.new.err.faults
    → CallsSo names (loads_of roles) (loads_of roles) None is_begun status note k
unbegun-calls A note names roles r status k h out told = record {
  made = h.made;
  left = h.left;
  parts = h.parts;
  noted = h.noted;
  ends = inr (record { refusal = r; at = inr h.at; out = out; told = told });
}

-- it is
pub begun-calls : (note : Note) (names : FileNames) (roles : List Role) (status : ℕ) (k : Call) → k.new.store.noted ≡ noted_after note names k.old.store.noted (loads_of roles) → is_begun status ≡ true
    → CallsSo names (loads_of roles) (loads_of roles) None is_begun status note k
begun-calls note names roles status k e begun = record {
  made = loads_of roles;
  left = [];
  parts = sym (append-nil (loads_of roles));
  noted = e;
  ends = inl (refl, begun);
}

-- by the names that its line says
pub session-calls : (o : Option Schedule) (log elf : List ℕ) (note : Note) (names : FileNames) (status : ℕ) (k : Call) → names ≡ names_in (DebugLine log elf)
    → CallsSo names (loads_of pair_roles) (loads_of pair_roles) None is_begun status note k → CallsOnly o (Some (DebugLine log elf)) status note k
session-calls o log elf note names status k e h =
    none-saved o (Some (DebugLine log elf)) None status note k refl
    (subst (λ (n : FileNames). SavesNone n (loads_of pair_roles) (loads_of pair_roles) None is_begun status note k) e (h, loads-alone pair_roles h.made h.left h.parts))

-- ---- words

-- they say no line
pub words-calls : (o : Option Schedule) (note : Note) (status : ℕ) (k : Call) → k.new.store.noted ≡ k.old.store.noted → Appends k.old.out.text k.new.out.text [] → ToldRefusal no_names WordsRefused status k.old.err.text k.new.err.text k.old.err.faults k.new.err.faults
    → CallsOnly o None status note k
words-calls o note status k same out told =
    none-saved o None None status note k refl (record { made = []; left = []; parts = refl; noted = same; ends = inr (record { refusal = WordsRefused; at = inl (refl, refl); out = out; told = told }) }, refl)

-- no memory to read them
pub unread-calls : (o : Option Schedule) (note : Note) (line : Option Line) (status : ℕ) (k : Call) → k.new.store.noted ≡ k.old.store.noted → Appends k.old.out.text k.new.out.text []
    → ToldRefusal (names_by line) OutOfMemory status k.old.err.text k.new.err.text k.old.err.faults k.new.err.faults → CallsOnly o line status note k
unread-calls o note line status k same out told =
    none-saved o line (sample line).0 status note k (sample line).1
    (record { made = []; left = calls_of line (sample line).0; parts = refl; noted = same; ends = inr (record { refusal = OutOfMemory; at = inr (inl refl); out = out; told = told }) }, refl)

-- ---- what is told

pub call-shape : (o : Option Schedule) (note : Note) (line : Option Line) (status : ℕ) (k : Call) → CallsOnly o line status note k → HasShape line status k
call-shape o note line status k calls other = by calls.so.ends
  where
    told : (r : RefusedAfter (names_by line) (needed_of line) (refusal_by line) calls.so.made status k)
        → ToldRefusal (names_by line) r.refusal status k.old.err.text k.new.err.text k.old.err.faults k.new.err.faults → TellsRefusal (names_by line) status k
    told r (inl h) = record { refusal = r.refusal; status_is = h.0; out = r.out; err = h.1 }
    told r (inr h) = record { refusal = OutOfMemory; status_is = h.0; out = r.out; err = h.1 }

    by : ((calls.so.left ≡ []) × (past_of line status ≡ true)) ⊎ RefusedAfter (names_by line) (needed_of line) (refusal_by line) calls.so.made status k → TellsRefusal (names_by line) status k
    by (inl (all, past)) = cc
    by (inr r) = told r r.told

-- ---- `demo`

demo-memory : (line : Line) (names : FileNames) (status : ℕ) (k : Call) → names ≡ names_in line → Appends k.old.out.text k.new.out.text [] → k.new.store.files ≡ k.old.store.files
    → ToldRefusal names OutOfMemory status k.old.err.text k.new.err.text k.old.err.faults k.new.err.faults → TellsDemo (Some line) status k
demo-memory (DemoLine seed) names status k e out same told =
    inr (memory no_names (printed (demo_text seed)) status k (part-longer k.old.out.text k.new.out.text [] (demo_text seed) (part-whole k.old.out.text k.new.out.text [] out)) (same-files k.old.store.files k.new.store.files same)
    (memory-names names no_names status k.old.err.text k.new.err.text k.old.err.faults k.new.err.faults told))
demo-memory line names status k e out same told = tt

-- it is refused
pub demo-refused : (line : Line) (names : FileNames) (r : Refusal) (status : ℕ) (k : Call) → names ≡ names_in line → AnswersDemo line names (Err r) → Appends k.old.out.text k.new.out.text [] → k.new.store.files ≡ k.old.store.files
    → ToldRefusal names r status k.old.err.text k.new.err.text k.old.err.faults k.new.err.faults → TellsDemo (Some line) status k
demo-refused (DemoLine seed) names r status k e shows out same told =
    demo-memory (DemoLine seed) names status k e out same (subst (λ (x : Refusal). ToldRefusal names x status k.old.err.text k.new.err.text k.old.err.faults k.new.err.faults) shows told)
demo-refused line names r status k e shows out same told = tt

-- it has its answer
pub demo-answers : (line : Line) (names : FileNames) (answer : Answer) (status : ℕ) (k : Call) → names ≡ names_in line → AnswersDemo line names (Ok answer) → Tells names (told_of names answer) status k
    → TellsDemo (Some line) status k
demo-answers (DemoLine seed) names answer status k e shows told =
    subst (λ (n : FileNames). Tells n (printed (demo_text seed)) status k) e (subst (λ (what : Told). Tells names what status k) shows told)
demo-answers line names answer status k e shows told = tt

-- no memory to read the words
pub demo-unread : (line : Option Line) (status : ℕ) (k : Call) → Appends k.old.out.text k.new.out.text [] → k.new.store.files ≡ k.old.store.files
    → ToldRefusal (names_by line) OutOfMemory status k.old.err.text k.new.err.text k.old.err.faults k.new.err.faults → TellsDemo line status k
demo-unread None status k out same told = tt
demo-unread (Some line) status k out same told = demo-memory line (names_in line) status k refl out same told
