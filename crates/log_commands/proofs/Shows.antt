-- What is told of the replay of an interval.
use Rattle.log_commands.proofs.Common.{◌≡◌, ℕ, List, [], ◌++◌, Option, Some, None, ◌∙◌, ap, subst, sym, refl, inl, inr, ◌⊎◌, append_assoc, Appends, append-nil, EndMark, WhereTold, AppendsPart, Replaying, Outcome, Done, Refused, Replayed, interval_of, ReplayError, FileNames, begin_text, rows_text, Told, Saved, refused, outcome_of, end_of_interval, rest_text, ended, replay_found, SendStops, ToldRefusal, told_of_reading, SameFiles, KeptFiles, Call, AreKept, Tells, ReplayEnd, Refusal, OutOfMemory, ReplayStopped}
use Rattle.hart_replay.specs.Replay.{Interval}
use Rattle.bn_base.specs.declared.state.HartState.{HartState}
use Rattle.hart_replay.specs.declared.error.ReplayError.TheVariants.{NoInterval}
use Rattle.rv_text.specs.Marks.{end_text}
use Rattle.log_commands.specs.Logs.{IsBegun}
use Rattle.log_commands.specs.declared.answer.IntervalToReplay.{IntervalToReplay}
use Rattle.log_commands.specs.declared.replay_lines.ReplayEnd.TheVariants as ending
use Rattle.log_commands.proofs.Prints.{part-whole}
use Rattle.log_commands.proofs.Tells.{memory, refused-told, stopped-told, printed-told}

-- ---- an interval

-- what is printed is what is told
ended-out : (names : FileNames) (hart interval : ℕ) (mark : EndMark) (begin rows : List ℕ) (o : Outcome)
    → begin ++ (rows ++ end_of_interval hart interval mark o) ≡ (ended names hart interval mark (begin ++ rows) o).out
unfolding ended
ended-out names hart interval mark begin rows Done = sym (append_assoc begin rows (end_text hart interval mark))
ended-out names hart interval mark begin rows (Refused e) = ap (λ (t : List ℕ). begin ++ t) (append-nil rows)

pub ended-saved : (names : FileNames) (hart interval : ℕ) (mark : EndMark) (text : List ℕ) (o : Outcome) → (ended names hart interval mark text o).saved ≡ None
unfolding ended
ended-saved names hart interval mark text Done = refl
ended-saved names hart interval mark text (Refused e) = refl

-- what is told of a replay
abbrev shown : FileNames → (hart interval : ℕ) → EndMark → HartState → Replayed → Told
shown names hart interval mark s r = ended names hart interval mark (begin_text hart interval s.ic ++ rows_text r.rows) r.outcome

-- an interval that was begun is told so
begun-told : (names : FileNames) (reading : IntervalToReplay) (r : Replaying) (mark : EndMark) → IsBegun reading r mark
    → told_of_reading names reading ≡ shown names reading.hart reading.interval mark r.state r.left
begun-told names reading r mark b =
    let v = b.interval in
    let h = reading.hart in
    let n = reading.interval in
    ap (λ (o : Option Interval). replay_found names h n reading.log reading.image o) b.found
    ∙ ap (λ (m : EndMark). shown names h n m v.start _) (sym b.mark_is)
    ∙ ap (λ (s : HartState). shown names h n mark s _) (sym b.state)
    ∙ ap (λ (x : Replayed). shown names h n mark r.state x) (sym b.left)

back : (names : FileNames) (reading : IntervalToReplay) (r : Replaying) (mark : EndMark) (status : ℕ) (k : Call) → IsBegun reading r mark
    → Tells names (shown names reading.hart reading.interval mark r.state r.left) status k → Tells names (told_of_reading names reading) status k
back names reading r mark status k b h = subst (λ (t : Told). Tells names t status k) (sym (begun-told names reading r mark b)) h

done-told : (names : FileNames) (hart interval : ℕ) (mark : EndMark) (text : List ℕ) (k : Call) → Appends k.old.out.text k.new.out.text (ended names hart interval mark text Done).out
    → Appends k.old.err.text k.new.err.text [] → WhereTold k.old.store.files k.new.store.files SameFiles → Tells names (ended names hart interval mark text Done) 0 k
unfolding ended
done-told names hart interval mark text k h err files = printed-told names (text ++ end_text hart interval mark) k h err files

pub interval-done : (names : FileNames) (reading : IntervalToReplay) (r : Replaying) (mark : EndMark) (x : ReplayEnd) (k : Call)
    → IsBegun reading r mark → Appends k.old.out.text k.new.out.text (begin_text reading.hart reading.interval r.state.ic ++ rest_text reading.hart reading.interval mark r.left)
    → outcome_of x ≡ r.left.outcome → x ≡ ending.Done → Appends k.old.err.text k.new.err.text [] → WhereTold k.old.store.files k.new.store.files SameFiles
    → Tells names (told_of_reading names reading) 0 k
interval-done names reading r mark x k b h same done err files =
    let hart = reading.hart in
    let n = reading.interval in
    let e : r.left.outcome ≡ Done = sym same ∙ ap outcome_of done in
    let begin = begin_text hart n r.state.ic in
    let rows = rows_text r.left.rows in
    let whole : Appends k.old.out.text k.new.out.text (ended names hart n mark (begin ++ rows) r.left.outcome).out =
    subst (λ (t : List ℕ). Appends k.old.out.text k.new.out.text t) (ended-out names hart n mark begin rows r.left.outcome) h in
    let there : Appends k.old.out.text k.new.out.text (ended names hart n mark (begin ++ rows) Done).out = subst (λ (o : Outcome). Appends k.old.out.text k.new.out.text (ended names hart n mark (begin ++ rows) o).out) e whole in
    back names reading r mark 0 k b
    (subst (λ (o : Outcome). Tells names (ended names hart n mark (begin ++ rows) o) 0 k) (sym e) (done-told names hart n mark (begin ++ rows) k there err files))

differs-told : (names : FileNames) (hart interval : ℕ) (mark : EndMark) (text : List ℕ) (e : ReplayError) (status : ℕ) (k : Call)
    → Appends k.old.out.text k.new.out.text (ended names hart interval mark text (Refused e)).out → WhereTold k.old.store.files k.new.store.files SameFiles
    → ToldRefusal names (ReplayStopped e) status k.old.err.text k.new.err.text k.old.err.faults k.new.err.faults → Tells names (ended names hart interval mark text (Refused e)) status k
unfolding ended
differs-told names hart interval mark text e status k h files (inl told) = inl (record { status_is = told.0; out = h; err = told.1; files = files })
differs-told names hart interval mark text e status k h files (inr told) =
    inr (memory names (ended names hart interval mark text (Refused e)) status k (part-whole k.old.out.text k.new.out.text text h) files (inl told))

pub interval-differs : (names : FileNames) (reading : IntervalToReplay) (r : Replaying) (mark : EndMark) (x : ReplayEnd) (e : ReplayError) (status : ℕ) (k : Call)
    → IsBegun reading r mark → Appends k.old.out.text k.new.out.text (begin_text reading.hart reading.interval r.state.ic ++ rest_text reading.hart reading.interval mark r.left)
    → outcome_of x ≡ r.left.outcome → x ≡ ending.Stopped e → WhereTold k.old.store.files k.new.store.files SameFiles
    → ToldRefusal names (ReplayStopped e) status k.old.err.text k.new.err.text k.old.err.faults k.new.err.faults → Tells names (told_of_reading names reading) status k
interval-differs names reading r mark x e status k b h same differs files told =
    let hart = reading.hart in
    let n = reading.interval in
    let is : r.left.outcome ≡ Refused e = sym same ∙ ap outcome_of differs in
    let begin = begin_text hart n r.state.ic in
    let rows = rows_text r.left.rows in
    let whole : Appends k.old.out.text k.new.out.text (ended names hart n mark (begin ++ rows) r.left.outcome).out =
    subst (λ (t : List ℕ). Appends k.old.out.text k.new.out.text t) (ended-out names hart n mark begin rows r.left.outcome) h in
    let there : Appends k.old.out.text k.new.out.text (ended names hart n mark (begin ++ rows) (Refused e)).out = subst (λ (o : Outcome). Appends k.old.out.text k.new.out.text (ended names hart n mark (begin ++ rows) o).out) is whole in
    back names reading r mark status k b
    (subst (λ (o : Outcome). Tells names (ended names hart n mark (begin ++ rows) o) status k) (sym is) (differs-told names hart n mark (begin ++ rows) e status k there files told))

kept-none : (names : FileNames) (what : Told) (k : Call) → what.saved ≡ None → WhereTold k.old.store.files k.new.store.files SameFiles → AreKept names what k
kept-none names what k e files = subst (λ (s : Option Saved). WhereTold k.old.store.files k.new.store.files (KeptFiles s names.log names.book)) (sym e) files

-- sending stopped
pub interval-stopped : (names : FileNames) (reading : IntervalToReplay) (r : Replaying) (mark : EndMark) (why : Refusal) (status : ℕ) (k : Call)
    → IsBegun reading r mark
    → AppendsPart k.old.out.text k.new.out.text (begin_text reading.hart reading.interval r.state.ic ++ rest_text reading.hart reading.interval mark r.left) × SendStops k.old.out.faults k.new.out.faults why
    → WhereTold k.old.store.files k.new.store.files SameFiles → ToldRefusal names why status k.old.err.text k.new.err.text k.old.err.faults k.new.err.faults
    → Tells names (told_of_reading names reading) status k
interval-stopped names reading r mark why status k b h files told =
    let hart = reading.hart in
    let n = reading.interval in
    let what = shown names hart n mark r.state r.left in
    let there = subst (λ (t : List ℕ). AppendsPart k.old.out.text k.new.out.text t) (ended-out names hart n mark (begin_text hart n r.state.ic) (rows_text r.left.rows) r.left.outcome) h.0 in
    back names reading r mark status k b
    (stopped-told names what why status k (there, h.1) (kept-none names what k (ended-saved names hart n mark (begin_text hart n r.state.ic ++ rows_text r.left.rows) r.left.outcome) files) told)

pub found-saved : (names : FileNames) (reading : IntervalToReplay) (o : Option Interval) → (replay_found names reading.hart reading.interval reading.log reading.image o).saved ≡ None
unfolding refused
found-saved names reading None = refl
found-saved names reading (Some v) = ended-saved names reading.hart reading.interval v.mark _ _

-- the log keeps no such interval, or there was no memory for its replay
pub not-begun : (names : FileNames) (reading : IntervalToReplay) (r : Refusal) (status : ℕ) (k : Call)
    → ((r ≡ ReplayStopped (NoInterval reading.hart reading.interval)) × (interval_of reading.hart reading.interval reading.log.records ≡ None)) ⊎ (r ≡ OutOfMemory)
    → Appends k.old.out.text k.new.out.text [] → WhereTold k.old.store.files k.new.store.files SameFiles
    → ToldRefusal names r status k.old.err.text k.new.err.text k.old.err.faults k.new.err.faults → Tells names (told_of_reading names reading) status k
not-begun names reading r status k (inl h) out files told =
    let is : told_of_reading names reading ≡ refused names r =
    ap (λ (o : Option Interval). replay_found names reading.hart reading.interval reading.log reading.image o) h.1 ∙ ap (λ (x : Refusal). refused names x) (sym h.0) in
    subst (λ (t : Told). Tells names t status k) (sym is) (refused-told names r status k out files told)
not-begun names reading r status k (inr h) out files told =
    let what = told_of_reading names reading in
    let saved : what.saved ≡ None = found-saved names reading (interval_of reading.hart reading.interval reading.log.records) in
    inr (memory names what status k (0, out) (kept-none names what k saved files)
    (subst (λ (x : Refusal). ToldRefusal names x status k.old.err.text k.new.err.text k.old.err.faults k.new.err.faults) h told))
