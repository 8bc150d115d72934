-- No session of the debugger over a log's joint replay ends because an interval isn't there.
use Rattle.bugnet.proofs.Common.{◌≡◌, ◌≢◌, ℕ, zero, suc, ◌+◌, ◌-◌, ◌==◌, nat_lt, Bool, true, false, not, codes, refl, sym, ◌∙◌, subst, arith, List, [], ◌∷◌, ◌++◌, length, take, inl, inr, ◌⊎◌, Option, Some, None, Result, Ok, Err, filter, Program, Content, ReplayError, NoInterval, JointError, Replay, Readiness, Next, Joining, Walk, begun, longer, readiness, choice, next_step, steps_left, Item, ready_step, walk_on, Trace, at_start, harts_of, with_entry, trace_step, cut, Stop, Moves, Session, hart_text, address_text, break_limit, is_set, stop_unless, step_by, step_up_to, go_past, go_by, go_for, stop_below, back_to, says, unknown, answer, begin_at, command_of, input_of, goes_on_by, answers, lines_in, transcript, DebugCommand, DebugError, Ending, Stored, ReadNote, Stream, Supply, DebugsPair, Call, IsFree, Tells, printing_on, joined, FileNames, stopped-free, Commands, input_in, is_begun, session_status, session_told}
use Rattle.joint_replay.specs.declared.kinds.Readiness.TheVariants as is
use Rattle.joint_replay.specs.declared.kinds.Next.TheVariants as next
use Rattle.step_debugger.specs.Answers.{Answer}
use Rattle.step_debugger.specs.declared.command.DebugCommand.TheVariants as to
use Rattle.step_debugger.specs.declared.error.DebugError.TheVariants as stop
use Rattle.step_debugger.specs.declared.session.Ending.TheVariants as ending
use Rattle.bugnet.proofs.BegunReplays.{is_found, JoiningBegun, IfGoes, StopsBegun, told_begun, next_goes, joining_begins}
use Rattle.bugnet.proofs.Debugs.{cut-refusal, own-refusal, by-end}

-- ---- walks

abbrev WalkBegun : Option Walk → Type 0
WalkBegun None = Unit {0}
WalkBegun (Some w) = JoiningBegun w.now

abbrev Stepped : Option (Item × Joining) → Type 0
Stepped None = Unit {0}
Stepped (Some x) = JoiningBegun x.1

taken : (o : Option (Result (Item × Joining) ReplayError)) → IfGoes o
    → Stepped (elim o as (λ z. Option (Item × Joining)) [ None ↦ None | Some r ↦ elim r as (λ z. Option (Item × Joining)) [ Err e ↦ None | Ok x ↦ Some x ] ])
taken None goes = tt
taken (Some (Ok x)) goes = goes
taken (Some (Err e)) goes = tt

ready : (r : Readiness) (o : Option (Item × Joining)) → Stepped o → Stepped (elim r as (λ z. Option (Item × Joining)) [ is.Ready ↦ o | is.Waits s ic ↦ None | is.Done ↦ None ])
ready is.Ready o goes = goes
ready (is.Waits s ic) o goes = tt
ready is.Done o goes = tt

steps : (j : Joining) (h : ℕ) → JoiningBegun j → Stepped (ready_step j h)
steps j h all = ready (readiness j h) _ (taken (next_step j h) (next_goes j h all))

further : (w : Walk) (h : ℕ) (hs : List ℕ) (o : Option (Item × Joining)) → Stepped o → ((v : Walk) → JoiningBegun v.now → WalkBegun (walk_on v hs))
    → WalkBegun (elim o as (λ z. Option Walk) [ None ↦ None | Some x ↦ walk_on (longer w h x) hs ])
further w h hs None goes each = tt
further w h hs (Some x) goes each = each (longer w h x) goes

walks : (hs : List ℕ) (w : Walk) → JoiningBegun w.now → WalkBegun (walk_on w hs)
walks [] w all = all
walks (h ∷ hs) w all = further w h hs (ready_step w.now h) (steps w.now h all) (λ v each. walks hs v each)

stands : (start : Joining) (o : Option Walk) → JoiningBegun start → WalkBegun o → JoiningBegun (elim o as (λ z. Joining) [ None ↦ start | Some w ↦ w.now ])
stands start None all goes = all
stands start (Some w) all goes = goes

-- ---- where moves lead

abbrev TraceBegun : Trace → Type 0
TraceBegun t = JoiningBegun t.start × JoiningBegun t.now

abbrev EndBegun : Ending → Type 0
EndBegun ending.GoesOn = Unit {0}
EndBegun ending.Quits = Unit {0}
EndBegun (ending.Refused e) = StopsBegun (Some e)

abbrev MovesOn : Moves → Type 0
MovesOn m = TraceBegun m.now × EndBegun m.ends

abbrev TraceGoes : Option (Result (Item × Trace) ReplayError) → Type 0
TraceGoes None = Unit {0}
TraceGoes (Some (Ok x)) = TraceBegun x.1
TraceGoes (Some (Err e)) = is_found e ≡ true

entered : (t : Trace) (h : ℕ) (o : Option (Result (Item × Joining) ReplayError)) → TraceBegun t → IfGoes o
    → TraceGoes (elim o as (λ z. Option (Result (Item × Trace) ReplayError)) [ None ↦ None | Some r ↦ Some (with_entry t h r) ])
entered t h None all goes = tt
entered t h (Some (Ok x)) all goes = (all.0, goes)
entered t h (Some (Err e)) all goes = goes

trace_goes : (t : Trace) (h : ℕ) → TraceBegun t → TraceGoes (trace_step t h)
trace_goes t h all = entered t h (next_step t.now h) all (next_goes t.now h all.1)

step-by : (t : Trace) (h : ℕ) (r : Readiness) (o : Option (Result (Item × Trace) ReplayError)) (go : Trace → Moves) → TraceBegun t → TraceGoes o → ((u : Trace) → TraceBegun u → MovesOn (go u))
    → MovesOn (step_by t h r o go)
step-by t h is.Ready None go all goes each = (all, tt)
step-by t h is.Ready (Some (Ok x)) go all goes each = each x.1 goes
step-by t h is.Ready (Some (Err e)) go all goes each = ((all.0, (all.1.0, goes)), told_begun e goes)
step-by t h (is.Waits s ic) o go all goes each = (all, tt)
step-by t h is.Done o go all goes each = (all, tt)

steps-on : (h k : ℕ) (t : Trace) → TraceBegun t → MovesOn (step_up_to h k t)
steps-on h zero t all = (all, tt)
steps-on h (suc k) t all = step-by t h (readiness t.now h) (trace_step t h) (λ u. step_up_to h k u) all (trace_goes t h all) (λ u each. steps-on h k u each)

go-past : (t : Trace) (h : ℕ) (at : Option (ℕ × ℕ)) (o : Option (Result (Item × Trace) ReplayError)) (go : Trace → Moves) → TraceBegun t → TraceGoes o → ((u : Trace) → TraceBegun u → MovesOn (go u))
    → MovesOn (go_past t h at o go)
go-past t h (Some at) o go all goes each = (all, tt)
go-past t h None None go all goes each = (all, tt)
go-past t h None (Some (Ok x)) go all goes each = each x.1 goes
go-past t h None (Some (Err e)) go all goes each = ((all.0, (all.1.0, goes)), told_begun e goes)

go-by : (first : Bool) (breaks : List ℕ) (t : Trace) (n : Next) (go : Trace → Moves) → TraceBegun t → ((u : Trace) → TraceBegun u → MovesOn (go u)) → MovesOn (go_by first breaks t n go)
go-by first breaks t next.AllDone go all each = (all, tt)
go-by first breaks t next.NoneReady go all each = (all, tt)
go-by first breaks t (next.Hart h) go all each = go-past t h (stop_unless first breaks t.now h) (trace_step t h) go all (trace_goes t h all) each

goes-on : (n : ℕ) (first : Bool) (breaks : List ℕ) (t : Trace) → TraceBegun t → MovesOn (go_for n first breaks t)
goes-on zero first breaks t all = (all, tt)
goes-on (suc n) first breaks t all = go-by first breaks t (choice t.now) (λ u. go_for n false breaks u) all (λ u each. goes-on n false breaks u each)

goes-back : (t : Trace) (to : ℕ) → TraceBegun t → TraceBegun (cut t to)
goes-back t to all =
    let harts : List ℕ = harts_of (take to t.entries) in
    (all.0, stands t.start (walk_on (begun t.start) harts) all.0 (walks harts (begun t.start) all.0))

back-to : (t : Trace) (o : Option Stop) → TraceBegun t → MovesOn (back_to t o)
back-to t None all = (goes-back t 0 all, tt)
back-to t (Some stop) all = (goes-back t stop.position all, tt)

-- ---- where answers lead

abbrev AnswersOn : Answer → Type 0
AnswersOn a = TraceBegun a.session.trace × EndBegun a.ends

either-on : (b : Bool) (x y : Answer) → AnswersOn x → AnswersOn y → AnswersOn (elim b as (λ z. Answer) [ true ↦ x | false ↦ y ])
either-on true x y p q = p
either-on false x y p q = q

answer-on : (s : Session) (c : DebugCommand) → TraceBegun s.trace → AnswersOn (answer s c)
answer-on s (to.Hart n) p = either-on (nat_lt n (length s.trace.now.lanes)) (says (record s { hart = n }) (hart_text n)) (unknown s) (p, tt) (p, tt)
answer-on s (to.Step k) p = steps-on s.hart k s.trace p
answer-on s to.Go p = goes-on (steps_left s.trace.now.lanes + 1) true s.breaks s.trace p
answer-on s (to.Back k) p = (goes-back s.trace (length s.trace.entries - k) p, tt)
answer-on s to.ReverseGo p = back-to s.trace (stop_below s.breaks s.trace.entries (length s.trace.entries)) p
answer-on s (to.Break addr) p =
    let t : Session = record s { breaks = s.breaks ++ addr ∷ [] } in
    let text = address_text (codes "break ") addr in
    let full : Answer = elim (nat_lt (length s.breaks) break_limit) as (λ z. Answer) [ true ↦ says t text | false ↦ says s (codes "full\n") ] in
    either-on (is_set s.breaks addr) (says s text) full (p, tt) (either-on (nat_lt (length s.breaks) break_limit) (says t text) (says s (codes "full\n")) (p, tt) (p, tt))
answer-on s (to.Unbreak addr) p =
    let t : Session = record s { breaks = filter (λ b. not (b == addr)) s.breaks } in
    either-on (is_set s.breaks addr) (says t (address_text (codes "unbreak ") addr)) (says s (codes "none\n")) (p, tt) (p, tt)
answer-on s c p = (p, tt)

ends-on : (e : Ending) (a : Answer) (go : Session → Answer) → AnswersOn a → ((t : Session) → TraceBegun t.trace → AnswersOn (go t)) → AnswersOn (goes_on_by e a go)
ends-on ending.GoesOn a go p each = each a.session p.0
ends-on ending.Quits a go p each = p
ends-on (ending.Refused e) a go p each = p

answers-on : (lines : List (List ℕ)) (s : Session) → TraceBegun s.trace → AnswersOn (answers lines s)
answers-on [] s p = (p, tt)
answers-on (line ∷ lines) s p =
    let a = answer s (command_of line) in
    ends-on a.ends a (λ t. answers lines t) (answer-on s (command_of line) p) (λ t q. answers-on lines t q)

-- ---- how a session ends

not-absent : (x : Ending) (h c : ℕ) → EndBegun x → x ≢ ending.Refused (Replay (NoInterval h c))
not-absent x h c all same = let found : is_found (NoInterval h c) ≡ true = subst EndBegun same all in absurd (grind arith)

session-found : (d : Content) (i : Program) (c : Commands) (h n : ℕ) → (transcript (joined d i) (input_in c)).result ≢ Err (stop.Joint (Replay (NoInterval h n)))
session-found d i c h n =
    let j = joined d i in
    let e : JointError = Replay (NoInterval h n) in
    let a : Answer = answers (lines_in (input_in c)) (begin_at (at_start j)) in
    let begins : JoiningBegun j = joining_begins i d.head.settings.harts d.records in
    by-end a.ends (input_in c).refused e (not-absent a.ends h n (answers-on (lines_in (input_in c)) (begin_at (at_start j)) (begins, begins)).1)
    (cut-refusal c.failed (input_of c.bytes) e (own-refusal 0 [] c.bytes e))

never-14 : (r : Result (Unit {0}) DebugError) → ((h n : ℕ) → r ≢ Err (stop.Joint (Replay (NoInterval h n)))) → session_status r ≢ 14
never-14 (Err (stop.Joint (Replay (NoInterval h n)))) other e = other h n refl
never-14 result other e = omega (arith, e)

told-14 : (names : FileNames) (d : Content) (i : Program) (c : Commands) (status : ℕ) (k : Call) → Tells names (session_told names (transcript (joined d i) (input_in c))) status k → status ≢ 14
unfolding session_told
told-14 names d i c status k (inl done) e = never-14 (transcript (joined d i) (input_in c)).result (session-found d i c) (sym done.status_is ∙ e)
told-14 names d i c status k (inr s) e = free (stopped-free names (session_told names (transcript (joined d i) (input_in c))) status k s)
  where
    free : IsFree status → ⊥
    free (inl f) = omega (arith, e, f)
    free (inr (inl f)) = omega (arith, e, f)
    free (inr (inr f)) = omega (arith, e, f)

-- so it has a status of one that was begun
pub session-begun : (names : FileNames) (d : Content) (i : Program) (c : Commands) (status : ℕ) (k : Call) → Tells names (session_told names (transcript (joined d i) (input_in c))) status k
    → (is_begun status ≡ true) ⊎ (status ≡ 14) → is_begun status ≡ true
session-begun names d i c status k told (inl begun) = begun
session-begun names d i c status k told (inr e) = absurd (told-14 names d i c status k told e)

pub pair-begun : (names : FileNames) (d : Content) (i : Program) (status : ℕ) (input now_input : Supply) (notes : ReadNote) (out printed err end : Stream) → DebugsPair names (joined d i) status input now_input notes out printed err end → (is_begun status ≡ true) ⊎ (status ≡ 14) → is_begun status ≡ true
pair-begun names d i status input now_input notes out printed err end told begun =
    let store : Stored = record { files = None; saves = 0; counts = record { misses = 0; longs = 0; faults = 0 }; noted = 0 } in
    session-begun names d i told.0 status (printing_on store out printed err end) (told.2 store) begun
