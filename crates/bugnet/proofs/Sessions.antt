-- The places that sessions of the debugger reach, and which of their lines are `quit`.
use Rattle.bugnet.proofs.Common.{◌≡◌, ◌≢◌, ℕ, zero, suc, ◌+◌, ◌-◌, ◌==◌, nat_lt, Bool, true, false, not, codes, refl, sym, ap, ◌∙◌, subst, List, [], ◌∷◌, ◌++◌, length, take, drop, slice_get, map, Option, Some, None, Result, Ok, Err, filter, take-append-drop, Program, Record, ReplayError, JointError, Readiness, Next, Joining, Walk, begun, longer, readiness, choice, next_step, move, steps_left, Lane, Item, lane_step, IsBegun, ready_step, walk_on, Recording, IsLogOf, OfBeginnings, begin, IsNotRefused, ReachedSayTheRun, entry_of, harts_of, Trace, at_start, with_entry, trace_step, cut, Stop, Moves, Session, hart_text, address_text, word_text, registers_text, places_from, break_limit, is_set, stop_unless, step_by, step_up_to, go_past, go_by, go_for, go_on, back_by, stop_below, back_to, back_to_stop, says, moved, unknown, answer, command_of, goes_on_by, answers, DebugCommand, Ending, session_after, SessionsShowTheRun, NoQuit}
use Rattle.std.proofs.lemmas.List.{map-append}
use Rattle.joint_laws.specs.Laws.{GoesOn}
use Rattle.joint_replay.specs.declared.kinds.Readiness.TheVariants as is
use Rattle.joint_replay.specs.declared.kinds.Next.TheVariants as next
use Rattle.joint_replay.specs.Calls.{bare, state_at, IsReached}
use Rattle.joint_replay.specs.Memory.{word_in}
use Rattle.joint_replay.specs.Lanes as lanes
use Rattle.back_step.proofs.Leading.{next_is, step_there}
use Rattle.back_step.specs.declared.entry.Entry.{Entry}
use Rattle.step_debugger.proofs.Stepping.{lowest_is_ready}
use Rattle.step_debugger.specs.Answers.{Answer, begin as session_begin}
use Rattle.step_debugger.specs.declared.command.DebugCommand.TheVariants as to
use Rattle.step_debugger.specs.declared.session.Ending.TheVariants as ending

-- ---- where moves lead

-- what holds of joint replays whose ready harts have a step that isn't refused, after which it holds again, and of which none
-- has harts that all wait
record Lasts (P : Trace → Type 0) : Type 0 where
  pub steps : (j : Trace) → P j → (h : ℕ) → readiness j.now h ≡ is.Ready → (x : Item × Trace) × (trace_step j h ≡ Some (Ok x)) × P x.1
  pub some : (j : Trace) → P j → choice j.now ≡ next.NoneReady → ⊥
  -- and it holds further back
  pub backs : (j : Trace) → P j → (n : ℕ) → P (cut j n)

-- it holds after moves, and they don't end the session
abbrev MovesOn : (Trace → Type 0) → Moves → Type 0
MovesOn P m = P m.now × (m.ends ≡ ending.GoesOn)

step-by : (P : Trace → Type 0) → Lasts P → (j : Trace) (h : ℕ) (r : Readiness) (go : Trace → Moves) → P j → readiness j.now h ≡ r → ((i : Trace) → P i → MovesOn P (go i)) → MovesOn P (step_by j h r (trace_step j h) go)
step-by P g j h is.Ready go p e rest =
    let s = g.steps j p h e in
    subst (λ (o : Option (Result (Item × Trace) ReplayError)). MovesOn P (step_by j h is.Ready o go)) (sym s.1) (rest s.0.1 s.2)
step-by P g j h (is.Waits s ic) go p e rest = (p, refl)
step-by P g j h is.Done go p e rest = (p, refl)

steps-on : (P : Trace → Type 0) → Lasts P → (h k : ℕ) (j : Trace) → P j → MovesOn P (step_up_to h k j)
steps-on P g h zero j p = (p, refl)
steps-on P g h (suc k) j p = step-by P g j h (readiness j.now h) (λ i. step_up_to h k i) p refl (λ i q. steps-on P g h k i q)

past-by : (P : Trace → Type 0) → Lasts P → (j : Trace) (h : ℕ) (o : Option (ℕ × ℕ)) (go : Trace → Moves) → P j → readiness j.now h ≡ is.Ready → ((i : Trace) → P i → MovesOn P (go i)) → MovesOn P (go_past j h o (trace_step j h) go)
past-by P g j h (Some at) go p e rest = (p, refl)
past-by P g j h None go p e rest =
    let s = g.steps j p h e in
    subst (λ (o : Option (Result (Item × Trace) ReplayError)). MovesOn P (go_past j h None o go)) (sym s.1) (rest s.0.1 s.2)

go-by : (P : Trace → Type 0) → Lasts P → (first : Bool) (breaks : List ℕ) (j : Trace) (n : Next) (go : Trace → Moves) → P j → choice j.now ≡ n → ((i : Trace) → P i → MovesOn P (go i)) → MovesOn P (go_by first breaks j n go)
go-by P g first breaks j next.AllDone go p e rest = (p, refl)
go-by P g first breaks j next.NoneReady go p e rest = absurd (g.some j p e)
go-by P g first breaks j (next.Hart h) go p e rest = past-by P g j h (stop_unless first breaks j.now h) go p (lowest_is_ready j.now h e) rest

goes-on : (P : Trace → Type 0) → Lasts P → (n : ℕ) (first : Bool) (breaks : List ℕ) (j : Trace) → P j → MovesOn P (go_for n first breaks j)
goes-on P g zero first breaks j p = (p, refl)
goes-on P g (suc n) first breaks j p = go-by P g first breaks j (choice j.now) (λ i. go_for n false breaks i) p refl (λ i q. goes-on P g n false breaks i q)

goes-back : (P : Trace → Type 0) → Lasts P → (j : Trace) (o : Option Stop) → P j → MovesOn P (back_to j o)
goes-back P g j None p = (g.backs j p 0, refl)
goes-back P g j (Some stop) p = (g.backs j p stop.position, refl)

-- ---- where answers lead

-- it holds after an answer, which isn't a refusal
abbrev AnswersOn : (Trace → Type 0) → Answer → Type 0
AnswersOn P a = P a.session.trace × ((e : JointError) → a.ends ≢ ending.Refused e)

not-refused : (x : Ending) (e : JointError) → x ≡ ending.GoesOn → x ≢ ending.Refused e
not-refused x e h f = absurd cc

said-on : (P : Trace → Type 0) (s : Session) (text : List ℕ) → P s.trace → AnswersOn P (says s text)
said-on P s text p = (p, λ e f. absurd cc)

moved-on : (P : Trace → Type 0) (s : Session) (m : Moves) → MovesOn P m → AnswersOn P (moved s m)
moved-on P s m p = (p.0, λ e f. not-refused m.ends e p.1 f)

either-on : (P : Trace → Type 0) (b : Bool) (x y : Answer) → AnswersOn P x → AnswersOn P y → AnswersOn P (elim b as (λ z. Answer) [ true ↦ x | false ↦ y ])
either-on P true x y p q = p
either-on P false x y p q = q

answer-on : (P : Trace → Type 0) → Lasts P → (s : Session) (c : DebugCommand) → P s.trace → AnswersOn P (answer s c)
answer-on P g s to.Empty p = said-on P s [] p
answer-on P g s (to.Hart n) p =
    either-on P (nat_lt n (length s.trace.now.lanes)) (says (record s { hart = n }) (hart_text n)) (unknown s) (said-on P (record s { hart = n }) (hart_text n) p) (said-on P s (codes "?\n") p)
answer-on P g s (to.Step k) p = moved-on P s (step_up_to s.hart k s.trace) (steps-on P g s.hart k s.trace p)
answer-on P g s to.Go p = moved-on P s (go_on true s.breaks s.trace) (goes-on P g (steps_left s.trace.now.lanes + 1) true s.breaks s.trace p)
answer-on P g s (to.Back k) p = moved-on P s (back_by k s.trace) (g.backs s.trace p (length s.trace.entries - k), refl)
answer-on P g s to.ReverseGo p = moved-on P s (back_to_stop s.breaks s.trace) (goes-back P g s.trace (stop_below s.breaks s.trace.entries (length s.trace.entries)) p)
answer-on P g s (to.Break addr) p =
    let t : Session = record s { breaks = s.breaks ++ addr ∷ [] } in
    let text = address_text (codes "break ") addr in
    let full : Answer = elim (nat_lt (length s.breaks) break_limit) as (λ z. Answer) [ true ↦ says t text | false ↦ says s (codes "full\n") ] in
    either-on P (is_set s.breaks addr) (says s text) full (said-on P s text p)
    (either-on P (nat_lt (length s.breaks) break_limit) (says t text) (says s (codes "full\n")) (said-on P t text p) (said-on P s (codes "full\n") p))
answer-on P g s (to.Unbreak addr) p =
    let t : Session = record s { breaks = filter (λ b. not (b == addr)) s.breaks } in
    let text = address_text (codes "unbreak ") addr in
    either-on P (is_set s.breaks addr) (says t text) (says s (codes "none\n")) (said-on P t text p) (said-on P s (codes "none\n") p)
answer-on P g s to.Registers p = said-on P s (registers_text (state_at s.trace.now s.hart)) p
answer-on P g s (to.Word addr) p = said-on P s (word_text addr (word_in s.trace.now.memory addr)) p
answer-on P g s to.Where p = said-on P s (places_from s.trace.now 0 (length s.trace.now.lanes)) p
answer-on P g s to.Quit p = (p, λ e f. absurd cc)
answer-on P g s to.Other p = said-on P s (codes "?\n") p

ends-on : (P : Trace → Type 0) (e : Ending) (a : Answer) (go : Session → Answer) → AnswersOn P a → ((t : Session) → P t.trace → AnswersOn P (go t)) → AnswersOn P (goes_on_by e a go)
ends-on P ending.GoesOn a go p rest = rest a.session p.0
ends-on P ending.Quits a go p rest = p
ends-on P (ending.Refused e) a go p rest = p

answers-on : (P : Trace → Type 0) → Lasts P → (lines : List (List ℕ)) (s : Session) → P s.trace → AnswersOn P (answers lines s)
answers-on P g [] s p = said-on P s [] p
answers-on P g (line ∷ lines) s p =
    let a = answer s (command_of line) in ends-on P a.ends a (λ t. answers lines t) (answer-on P g s (command_of line) p) (λ t q. answers-on P g lines t q)

-- ---- of a recording

walk-added : (w v : Walk) (order : List ℕ) (h : ℕ) (x : Item × Joining) → walk_on w order ≡ Some v → ready_step v.now h ≡ Some x → walk_on w (order ++ h ∷ []) ≡ Some (longer v h x)
walk-added w v [] h x e f =
    let same : w ≡ v = cc in
    ap (λ (a : Walk). walk_on a (h ∷ [])) same ∙ ap (λ (o : Option (Item × Joining)). elim o as (λ y. Option Walk) [ None ↦ None | Some y ↦ Some (longer v h y) ]) f
walk-added w v (k ∷ order) h x e f = by (ready_step w.now k) (λ y g. walk-added (longer w k y) v order h x g f) e
  where
    by : (o : Option (Item × Joining)) → ((y : Item × Joining) → walk_on (longer w k y) order ≡ Some v → walk_on (longer w k y) (order ++ h ∷ []) ≡ Some (longer v h x))
        → (elim o as (λ y. Option Walk) [ None ↦ None | Some y ↦ walk_on (longer w k y) order ]) ≡ Some v
        → (elim o as (λ y. Option Walk) [ None ↦ None | Some y ↦ walk_on (longer w k y) (order ++ h ∷ []) ]) ≡ Some (longer v h x)
    by None rest g = absurd cc
    by (Some y) rest g = rest y g

-- a step keeps the program and the records
abbrev Same : Joining → Option (Result (Item × Joining) ReplayError) → Type 0
Same j None = Unit {0}
Same j (Some (Err e)) = Unit {0}
Same j (Some (Ok x)) = (x.1.program ≡ j.program) × (x.1.records ≡ j.records)

by-move : (j : Joining) (h : ℕ) (o : Option (Result (Item × Lane) ReplayError)) → Same j (move j h o)
by-move j h None = tt
by-move j h (Some (Err e)) = tt
by-move j h (Some (Ok x)) = (refl, refl)

by-lane : (j : Joining) (h : ℕ) (o : Option Lane) → Same j (elim o as (λ x. Option (Result (Item × Joining) ReplayError)) [ None ↦ None | Some lane ↦ move j h (lane_step j.program lane) ])
by-lane j h None = tt
by-lane j h (Some lane) = by-move j h (lane_step j.program lane)

by-refused : (j : Joining) (h : ℕ) (o : Option ReplayError) → Same j (elim o as (λ x. Option (Result (Item × Joining) ReplayError)) [
  | Some e ↦ Some (Err e)
  | None ↦ elim (slice_get j.lanes h) as (λ x. Option (Result (Item × Joining) ReplayError)) [ None ↦ None | Some lane ↦ move j h (lane_step j.program lane) ]
])
by-refused j h (Some e) = tt
by-refused j h None = by-lane j h (slice_get j.lanes h)

step-same : (j : Joining) (h : ℕ) → Same j (next_step j h)
step-same j h = by-refused j h j.refused

-- walks of an order's parts
walk-parts : (w v : Walk) (one two : List ℕ) → walk_on w (one ++ two) ≡ Some v → (u : Walk) × (walk_on w one ≡ Some u) × (walk_on u two ≡ Some v)
walk-parts w v [] two e = (w, refl, e)
walk-parts w v (h ∷ one) two e = by (ready_step w.now h) (λ x f. walk-parts (longer w h x) v one two f) e
  where
    by : (o : Option (Item × Joining)) → ((x : Item × Joining) → walk_on (longer w h x) (one ++ two) ≡ Some v → (u : Walk) × (walk_on (longer w h x) one ≡ Some u) × (walk_on u two ≡ Some v))
        → (elim o as (λ y. Option Walk) [ None ↦ None | Some x ↦ walk_on (longer w h x) (one ++ two) ]) ≡ Some v
        → (u : Walk) × ((elim o as (λ y. Option Walk) [ None ↦ None | Some x ↦ walk_on (longer w h x) one ]) ≡ Some u) × (walk_on u two ≡ Some v)
    by None rest e = absurd cc
    by (Some x) rest e = rest x e

-- a walk keeps the program and the records
walk-same : (w v : Walk) (order : List ℕ) → walk_on w order ≡ Some v → (v.now.program ≡ w.now.program) × (v.now.records ≡ w.now.records)
walk-same w v [] e = let same : w ≡ v = cc in (sym (ap (λ (u : Walk). u.now.program) same), sym (ap (λ (u : Walk). u.now.records) same))
walk-same w v (h ∷ order) e = by (ready_step w.now h) refl (λ x f. walk-same (longer w h x) v order f) e
  where
    by : (o : Option (Item × Joining)) → ready_step w.now h ≡ o → ((x : Item × Joining) → walk_on (longer w h x) order ≡ Some v → (v.now.program ≡ x.1.program) × (v.now.records ≡ x.1.records))
        → (elim o as (λ y. Option Walk) [ None ↦ None | Some x ↦ walk_on (longer w h x) order ]) ≡ Some v → (v.now.program ≡ w.now.program) × (v.now.records ≡ w.now.records)
    by None f rest e = absurd cc
    by (Some x) f rest e =
        let here : Same w.now (Some (Ok x)) = subst (λ (o : Option (Result (Item × Joining) ReplayError)). Same w.now o) (next_is w.now h x f) (step-same w.now h) in
        let more = rest x e in
        (more.0 ∙ here.0, more.1 ∙ here.1)

-- an allowed order, that of its entries, led to a trace's present place
record Led (r : Recording) (records : List Record) (t : Trace) : Type 0 where
  pub start : t.start ≡ begin r records
  pub walk : Walk
  pub led : walk_on (begun t.start) (harts_of t.entries) ≡ Some walk
  pub now : walk.now ≡ t.now

led-begun : (r : Recording) (records : List Record) (t : Trace) (p : Led r records t) → IsBegun r.program r.settings.harts records (harts_of t.entries) p.walk
led-begun r records t p = record { allowed = subst (λ (j : Joining). walk_on (begun j) (harts_of t.entries) ≡ Some p.walk) p.start p.led }

led-lasts : OfBeginnings GoesOn → OfBeginnings IsNotRefused → (r : Recording) (records : List Record) → IsLogOf r records → Lasts (Led r records)
led-lasts goes steps r records log = record { steps = more; some = λ t p none. goes r records (harts_of t.entries) p.walk log (led-begun r records t p) (ap choice p.now ∙ none); backs = back }
  where
    more : (t : Trace) → Led r records t → (h : ℕ) → readiness t.now h ≡ is.Ready → (x : Item × Trace) × (trace_step t h ≡ Some (Ok x)) × Led r records x.1
    more t p h ready =
        let here : readiness p.walk.now h ≡ is.Ready = ap (λ (i : Joining). readiness i h) p.now ∙ ready in
        let s = steps r records (harts_of t.entries) p.walk log (led-begun r records t p) h here in
        let there : next_step t.now h ≡ Some (Ok s.0) = subst (λ (i : Joining). next_step i h ≡ Some (Ok s.0)) p.now s.1 in
        let longer_trace : Trace = record { start = t.start; entries = t.entries ++ entry_of h s.0.0 ∷ []; now = s.0.1 } in
        let harts : harts_of t.entries ++ h ∷ [] ≡ harts_of longer_trace.entries =
        ap (λ n. harts_of t.entries ++ n ∷ []) (own-hart h s.0.0) ∙ sym (map-append (λ (e : Entry). e.hart) t.entries (entry_of h s.0.0 ∷ [])) in (
          (s.0.0, longer_trace),
          ap (λ (o : Option (Result (Item × Joining) ReplayError)). elim o as (λ z. Option (Result (Item × Trace) ReplayError)) [ None ↦ None | Some x ↦ Some (with_entry t h x) ]) there,
          record {
            start = p.start;
            walk = longer p.walk h s.0;
            led = subst (λ hs. walk_on (begun t.start) hs ≡ Some (longer p.walk h s.0)) harts (walk-added (begun t.start) p.walk (harts_of t.entries) h s.0 p.led (step_there p.walk.now h s.0 here s.1));
            now = refl;
          },
        )
      where
        own-hart : (h : ℕ) (item : Item) → h ≡ (entry_of h item).hart
        own-hart h (lanes.Passing ic) = refl
        own-hart h (lanes.Doing before row) = refl
        own-hart h (lanes.Ending n mark) = refl

    back : (t : Trace) → Led r records t → (n : ℕ) → Led r records (cut t n)
    back t p n =
        let parts : harts_of (take n t.entries) ++ harts_of (drop n t.entries) ≡ harts_of t.entries =
        sym (map-append (λ (e : Entry). e.hart) (take n t.entries) (drop n t.entries)) ∙ ap harts_of (take-append-drop n t.entries) in
        let w = walk-parts (begun t.start) p.walk (harts_of (take n t.entries)) (harts_of (drop n t.entries)) (ap (walk_on (begun t.start)) parts ∙ p.led) in
        record { start = p.start; walk = w.0; led = w.1; now = sym (ap (λ (o : Option Walk). elim o as (λ y. Joining) [ None ↦ t.start | Some u ↦ u.now ]) w.1) }

led-first : (r : Recording) (records : List Record) → Led r records (at_start (begin r records))
led-first r records = record { start = refl; walk = begun (begin r records); led = refl; now = refl }

led-records : (r : Recording) (records : List Record) (t : Trace) → Led r records t → (t.now.program ≡ r.program) × (t.now.records ≡ records)
led-records r records t p =
    let s = walk-same (begun (begin r records)) p.walk (harts_of t.entries) (led-begun r records t p).allowed in
    (sym (ap (λ (j : Joining). j.program) p.now) ∙ s.0, sym (ap (λ (j : Joining). j.records) p.now) ∙ s.1)

led-reached : (r : Recording) (records : List Record) (t : Trace) → Led r records t → IsReached r.settings.harts t.now
led-reached r records t p =
    let same = led-records r records t p in
    record {
      order = harts_of t.entries;
      walk = p.walk;
      begun = subst (λ (i : Program). IsBegun i r.settings.harts t.now.records (harts_of t.entries) p.walk) (sym same.0) (subst (λ (rs : List Record). IsBegun r.program r.settings.harts rs (harts_of t.entries) p.walk) (sym same.1) (led-begun r records t p));
      lanes = ap (λ (i : Joining). map bare i.lanes) p.now;
      memory = ap (λ (i : Joining). i.memory) p.now;
      whole = λ none. p.now;
    }

pub sessions_show : OfBeginnings GoesOn → OfBeginnings IsNotRefused → ReachedSayTheRun → SessionsShowTheRun
sessions_show goes steps reached r records log lines =
    let s = answers-on (Led r records) (led-lasts goes steps r records log) lines (session_begin (begin r records)) (led-first r records) in
    let t = (session_after r records lines).session.trace in
    let here = led-reached r records t s.0 in
    let same = led-records r records t s.0 in
    record { goes_on = s.1; walk = here.walk; says = reached r t.now (subst (λ (rs : List Record). IsLogOf r rs) (sym same.1) log) same.0 here }

-- ---- which lines are `quit`

-- moves never quit
never-by : (j : Trace) (h : ℕ) (r : Readiness) (o : Option (Result (Item × Trace) ReplayError)) (go : Trace → Moves) → ((i : Trace) → (go i).ends ≢ ending.Quits) → (step_by j h r o go).ends ≢ ending.Quits
never-by j h is.Ready None go rest e = absurd cc
never-by j h is.Ready (Some (Err x)) go rest e = absurd cc
never-by j h is.Ready (Some (Ok x)) go rest e = rest x.1 e
never-by j h (is.Waits s ic) o go rest e = absurd cc
never-by j h is.Done o go rest e = absurd cc

steps-never : (h k : ℕ) (j : Trace) → (step_up_to h k j).ends ≢ ending.Quits
steps-never h zero j e = absurd cc
steps-never h (suc k) j e = never-by j h (readiness j.now h) (trace_step j h) (λ i. step_up_to h k i) (λ i f. steps-never h k i f) e

never-past : (j : Trace) (h : ℕ) (at : Option (ℕ × ℕ)) (o : Option (Result (Item × Trace) ReplayError)) (go : Trace → Moves) → ((i : Trace) → (go i).ends ≢ ending.Quits) → (go_past j h at o go).ends ≢ ending.Quits
never-past j h (Some at) o go rest e = absurd cc
never-past j h None None go rest e = absurd cc
never-past j h None (Some (Err x)) go rest e = absurd cc
never-past j h None (Some (Ok x)) go rest e = rest x.1 e

never-go : (first : Bool) (breaks : List ℕ) (j : Trace) (n : Next) (go : Trace → Moves) → ((i : Trace) → (go i).ends ≢ ending.Quits) → (go_by first breaks j n go).ends ≢ ending.Quits
never-go first breaks j next.AllDone go rest e = absurd cc
never-go first breaks j next.NoneReady go rest e = absurd cc
never-go first breaks j (next.Hart h) go rest e = never-past j h (stop_unless first breaks j.now h) (trace_step j h) go rest e

goes-never : (n : ℕ) (first : Bool) (breaks : List ℕ) (j : Trace) → (go_for n first breaks j).ends ≢ ending.Quits
goes-never zero first breaks j e = absurd cc
goes-never (suc n) first breaks j e = never-go first breaks j (choice j.now) (λ i. go_for n false breaks i) (λ i f. goes-never n false breaks i f) e

either-never : (b : Bool) (x y : Answer) → x.ends ≢ ending.Quits → y.ends ≢ ending.Quits → (elim b as (λ z. Answer) [ true ↦ x | false ↦ y ]).ends ≢ ending.Quits
either-never true x y p q = p
either-never false x y p q = q

said-never : (s : Session) (text : List ℕ) → (says s text).ends ≢ ending.Quits
said-never s text e = absurd cc

back-never : (j : Trace) (o : Option Stop) → (back_to j o).ends ≢ ending.Quits
back-never j None e = absurd cc
back-never j (Some stop) e = absurd cc

-- only the command `quit` quits
only-quit : (s : Session) (c : DebugCommand) → (answer s c).ends ≡ ending.Quits → c ≡ to.Quit
only-quit s to.Empty e = absurd (said-never s [] e)
only-quit s (to.Hart n) e =
    absurd (either-never (nat_lt n (length s.trace.now.lanes)) (says (record s { hart = n }) (hart_text n)) (unknown s) (said-never (record s { hart = n }) (hart_text n)) (said-never s (codes "?\n")) e)
only-quit s (to.Step k) e = absurd (steps-never s.hart k s.trace e)
only-quit s to.Go e = absurd (goes-never (steps_left s.trace.now.lanes + 1) true s.breaks s.trace e)
only-quit s (to.Back k) e = absurd cc
only-quit s to.ReverseGo e = absurd (back-never s.trace (stop_below s.breaks s.trace.entries (length s.trace.entries)) e)
only-quit s (to.Break addr) e =
    let t : Session = record s { breaks = s.breaks ++ addr ∷ [] } in
    let text = address_text (codes "break ") addr in
    let full : Answer = elim (nat_lt (length s.breaks) break_limit) as (λ z. Answer) [ true ↦ says t text | false ↦ says s (codes "full\n") ] in
    absurd (either-never (is_set s.breaks addr) (says s text) full (said-never s text)
    (either-never (nat_lt (length s.breaks) break_limit) (says t text) (says s (codes "full\n")) (said-never t text) (said-never s (codes "full\n"))) e)
only-quit s (to.Unbreak addr) e =
    let t : Session = record s { breaks = filter (λ b. not (b == addr)) s.breaks } in
    let text = address_text (codes "unbreak ") addr in
    absurd (either-never (is_set s.breaks addr) (says t text) (says s (codes "none\n")) (said-never t text) (said-never s (codes "none\n")) e)
only-quit s to.Registers e = absurd (said-never s (registers_text (state_at s.trace.now s.hart)) e)
only-quit s (to.Word addr) e = absurd (said-never s (word_text addr (word_in s.trace.now.memory addr)) e)
only-quit s to.Where e = absurd (said-never s (places_from s.trace.now 0 (length s.trace.now.lanes)) e)
only-quit s to.Quit e = refl
only-quit s to.Other e = absurd (said-never s (codes "?\n") e)

quit-ends : (s : Session) (c : DebugCommand) → c ≡ to.Quit → (answer s c).ends ≡ ending.Quits
quit-ends s c e = subst (λ (x : DebugCommand). (answer s x).ends ≡ ending.Quits) (sym e) refl

two-ends : (x : Ending) → x ≡ ending.GoesOn → x ≡ ending.Quits → ⊥
two-ends x e f = absurd cc

going : (s : Session) (c : DebugCommand) → (answer s c).ends ≡ ending.GoesOn → c ≢ to.Quit
going s c e q = two-ends (answer s c).ends e (quit-ends s c q)

no-quit-by : (x : Ending) (a : Answer) (line : List ℕ) (lines : List (List ℕ)) (go : Session → Answer) → a.ends ≡ x → (a.ends ≡ ending.GoesOn → command_of line ≢ to.Quit) → ((go a.session).ends ≡ ending.GoesOn → NoQuit lines)
    → (goes_on_by x a go).ends ≡ ending.GoesOn → NoQuit (line ∷ lines)
no-quit-by ending.GoesOn a line lines go f here rest e = (here f, rest e)
no-quit-by ending.Quits a line lines go f here rest e = absurd (two-ends a.ends e f)
no-quit-by (ending.Refused x) a line lines go f here rest e = absurd (not-refused a.ends x e f)

-- if a session isn't over after lines, none of them is `quit`
pub no-quit : (lines : List (List ℕ)) (s : Session) → (answers lines s).ends ≡ ending.GoesOn → NoQuit lines
no-quit [] s e = tt
no-quit (line ∷ lines) s e =
    let a = answer s (command_of line) in
    no-quit-by a.ends a line lines (λ t. answers lines t) refl (λ f. going s (command_of line) f) (λ f. no-quit lines a.session f) e

quits-by : (x : Ending) (a : Answer) (go : Session → Answer) → a.ends ≡ x → ((t : Session) → (go t).ends ≡ ending.GoesOn) → (goes_on_by x a go).ends ≡ ending.Quits → a.ends ≡ ending.Quits
quits-by ending.GoesOn a go f rest e = absurd (two-ends (go a.session).ends (rest a.session) e)
quits-by ending.Quits a go f rest e = e
quits-by (ending.Refused x) a go f rest e = e

later-by : (x : Ending) (a : Answer) (front whole : Session → Answer) {T : Type 0} → a.ends ≡ x → ((front a.session).ends ≡ ending.GoesOn → (whole a.session).ends ≡ ending.Quits → T)
    → (goes_on_by x a front).ends ≡ ending.GoesOn → (goes_on_by x a whole).ends ≡ ending.Quits → T
later-by ending.GoesOn a front whole f rest e g = rest e g
later-by ending.Quits a front whole f rest e g = absurd (two-ends a.ends e f)
later-by (ending.Refused x) a front whole f rest e g = absurd (not-refused a.ends x e f)

-- the line that ends it is `quit`
pub last-quit : (front : List (List ℕ)) (line : List ℕ) (s : Session) → (answers front s).ends ≡ ending.GoesOn → (answers (front ++ line ∷ []) s).ends ≡ ending.Quits → command_of line ≡ to.Quit
last-quit [] line s e f =
    let a = answer s (command_of line) in only-quit s (command_of line) (quits-by a.ends a (λ t. answers [] t) refl (λ t. refl) f)
last-quit (l ∷ front) line s e f =
    let a = answer s (command_of l) in later-by a.ends a (λ t. answers front t) (λ t. answers (front ++ line ∷ []) t) refl (λ g h. last-quit front line a.session g h) e f
