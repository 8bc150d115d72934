-- Turns of a hart that is alone, in its own place.
use Rattle.run_model.proofs.Common.{◌≡◌, ◌≢◌, ℕ, zero, suc, ◌+◌, ◌-◌, ◌*◌, ◌/◌, ◌<◌, ◌≤◌, ◌^◌, ◌==◌, ◌++◌, Bool, true, false, List, [], ◌∷◌, length, sym, ◌∙◌, ap, subst, arith, refl, inl, inr, min, IsTrue, slice_set, Option, Some, None, slice_get, nat_le, nat_lt, ◌&&◌, if◌then◌else◌, append-nil, Program, RawSettings, HartState, Contents, Warm, Record, Shadow, Hart, Log, TurnEnd, GoesOn, NewInterval, HartOver, RunOver, Walking, LeadsTo, AsksThere, absorbed, ask_of, count_up, orderly, add, Ask, Plan, total, eqb_tells, Want, Reply, Trace, Run, turn, serve, served_if, ask_at, budget, counted, is_orderly, is_guarded, serve_call, guarded_run, by_guard, span_of, point_of, edge_records, load_record, sc_record, next_records, run_over_records, warmth, loading, word_before, bytes_since, header_size, hart_after, harts_after, other_after, skipped_after, next_of, EndsTurn, steps_in, hart_in, is_live_hart, no_hart, get_or-set_same, IsOneOn, IsOnWay, IsMovedAlone, CanTakeAlone, IsTakenAlone, IsTurnedAlone, IsUnguarded, CanTurn, HasTurned, run_alone, is_live, in_state, ask_here, moved_harts, moved_run, IsMoved, IsLog, taken, IsMachine, IsSwept, is_walk_due, IsTraceFit, IsTrace, IsRun, PlainParts, Start, IsRested, answer, call_of, lt-leb, le-ltb}
use Rattle.first_load_bits.specs.declared.warm.Warm.TheVariants as answers
use Rattle.run_model.proofs.InPlace.{moved_is, onward_fit, orderly_there, own_moved, served_moved, stands_on, taken_there}
use Rattle.run_model.proofs.MoveOn.{InBudget, one_up, budget_limit, budget_interval}
use Rattle.run_model.proofs.OneTurn.{turn_is, asked_orderly, live_within, live_in_run}
use Rattle.run_model.proofs.Owns.{hart_of_run}

-- ---- the records of an access

-- no Edge and then these records
pub with_no_edges : (log : Log) (rs edges more : List Record) → edges ≡ [] → IsLog log (rs ++ more) → IsLog log (rs ++ edges ++ more)
with_no_edges log rs edges more none held =
    subst (λ (es : List Record). IsLog log (rs ++ es ++ more)) (sym none) (subst (λ (xs : List Record). IsLog log (xs ++ more)) (sym (append-nil rs)) held)

-- at most one is of a load
pub few_records : (load : Option Warm) (k skipped word : ℕ) → length (load_record load k skipped word) ≤ 1
few_records None k skipped word = omega arith
few_records (Some answers.Cold) k skipped word = omega arith
few_records (Some answers.Warm) k skipped word = omega arith

-- ---- what comes next, if the interval continues

-- a race log is swept from itself
swept_itself : (s : Shadow) (hs : List Hart) → IsSwept s s hs
swept_itself s hs = record { stands = λ points e. e; harts = refl; turn = refl; counts = λ k. refl; lasting = λ k below live e. e }

-- the hart, put together in its place
pub own_on : (load : Option Warm) (x h own : Hart) (want : Want) (reply : Reply) (k : ℕ) → x ≡ h → k ≡ skipped_after load x.skipped → own ≡ record x { skipped = k; state = absorbed (ask_here x want) reply }
    → own ≡ record h { state = absorbed (ask_here h want) reply; skipped = skipped_after load h.skipped }
own_on load x h own want reply k ex ek eo =
    eo ∙ ap (λ (n : ℕ). record x { skipped = n; state = absorbed (ask_here x want) reply }) ek
    ∙ ap (λ (y : Hart). record y { skipped = skipped_after load y.skipped; state = absorbed (ask_here y want) reply }) ex

same_steps : (b : Bool) (n : ℕ) → n ≡ (if b then n + 0 else n)
same_steps true n = omega arith
same_steps false n = refl

never_ends : (b : Bool) → (false && b) ≡ true → ⊥
never_ends b e = cc

pub finished_on : (old new : Trace) (next : TurnEnd) → next ≡ GoesOn → new.caches ≡ old.caches → new.shadow ≡ old.shadow → new.log ≡ old.log → length new.harts.items ≡ length old.harts.items → EndsTurn old new 0 next
finished_on old new next e ec es el len =
    let swept = subst (λ (x : Shadow). IsSwept old.shadow x new.harts.items) (sym es) (swept_itself old.shadow new.harts.items) in
    subst (λ (n : TurnEnd). EndsTurn old new 0 n) (sym e) (record {
      len = len;
      count = ap (λ (cs : List Contents). length cs) ec;
      steps = λ j. ap (λ (cs : List Contents). steps_in cs j) ec ∙ same_steps (j == 0) (steps_in old.caches j);
      shadow = swept;
      due = record { kept = λ t. absurd (never_ends (is_walk_due old.shadow) t); unswept = λ t. absurd (never_ends (is_walk_due old.shadow) t); stays = λ f. es };
      took = omega (arith, ap (λ (l : Log). taken l.ring) el);
      size = ap (λ (l : Log). l.ring.size) el;
    })

-- ---- the budget of a hart that did some instructions

pub budget_by : (c : RawSettings) (h g : Hart) (more end : ℕ) → g.begun ≡ h.begun → h.begun ≤ h.state.ic → h.state.ic ≤ g.state.ic → end ≡ g.state.ic + more → budget c h + h.state.ic ≡ end + 1 → budget c g ≡ more + 1
budget_by c h g more end same begun from e whole = omega (arith, same, begun, from, e, whole)

-- while one instruction more is left, its interval continues
pub goes_on : (c : RawSettings) (h : Hart) (ic : ℕ) → ic < c.limit → ic - h.begun < c.interval → counted c h ic ≡ GoesOn
goes_on c h ic below inside =
    ap (λ (b : Bool). elim b as (λ x. TurnEnd) [ true ↦ HartOver 7 0 | false ↦ elim (nat_le c.interval (ic - h.begun)) as (λ x. TurnEnd) [ true ↦ NewInterval 1 0 | false ↦ GoesOn ] ]) (lt-leb c.limit ic below)
    ∙ ap (λ (b : Bool). elim b as (λ x. TurnEnd) [ true ↦ NewInterval 1 0 | false ↦ GoesOn ]) (lt-leb c.interval (ic - h.begun) inside)

-- ---- the hart that was moved on

pub is_within : (c : RawSettings) (h : Hart) (s : HartState) (first left end : ℕ) → h.begun ≤ h.state.ic → end ≡ h.state.ic + first → end ≡ s.ic + left → left ≤ first → budget c h ≡ first + 1 → InBudget c h s.ic
is_within c h s first left end begun e f less whole = record { from = omega (arith, e, f, less); below = omega (arith, e, f, less, whole) }

-- ---- the turn of the run in which the one hart was moved on is that of the run

alone_over : (next : TurnEnd) (n : ℕ) (f : ℕ → Hart) → n ≡ 1 → run_over_records next 0 n f ≡ []
alone_over next n f alone = subst (λ (m : ℕ). run_over_records next 0 m f ≡ []) (sym alone) (of_one next)
  where
    of_one : (x : TurnEnd) → run_over_records x 0 1 f ≡ []
    of_one GoesOn = refl
    of_one (NewInterval reason value) = refl
    of_one (HartOver reason value) = refl
    of_one (RunOver reason value) = refl

served_trace : (c : RawSettings) (t : Trace) (run : Run) (s : HartState) (ask : Ask) (call : Option Plan) (g : Bool) → c.harts ≡ 1
    → IsTrace c t (serve_call c (moved_run run 0 s) 0 ask g call).run → IsTrace c t (serve_call c run 0 ask g call).run
served_trace c t run s ask call false alone is = served_moved c t run 0 s ask call (λ y reply ic g. alone_over (next_of c call y ask.want reply ic) c.harts g alone) is
served_trace c t run s ask call true alone is =
    let r : Run = guarded_run true run 0 ask.state in
    let h : Hart = r.harts 0 in
    let reply : Reply = (answer c call run.machine 0 ask).reply in
    let to : HartState = absorbed ask reply in
    let load = warmth c (loading ask.want) (r.events 0) in
    let span = span_of call ask.want reply in
    let point = point_of 0 ask.state.ic run.turns span in
    let sk : ℕ = skipped_after load h.skipped in
    let f : ℕ → Hart = (guarded_run true (moved_run run 0 s) 0 ask.state).harts in
    let m : TurnEnd = next_of c call h ask.want reply to.ic in
    let recs : List Record → List Record = λ (o : List Record). edge_records point run.points ++ (load_record load 0 h.skipped (word_before run.machine.memory (loading ask.want)) ++ (sc_record reply 0 ++ (next_records m 0 h.number to ++ o))) in
    let over : run_over_records m 0 c.harts f ≡ run_over_records m 0 c.harts r.harts = alone_over m c.harts f alone ∙ sym (alone_over m c.harts r.harts alone) in
    let same : recs (run_over_records m 0 c.harts f) ≡ recs (run_over_records m 0 c.harts r.harts) = ap recs over in
    let own : hart_after m to sk (r.bytes + total (recs (run_over_records m 0 c.harts f))) h ≡ hart_after m to sk (r.bytes + total (recs (run_over_records m 0 c.harts r.harts))) h =
    ap (λ (rs : List Record). hart_after m to sk (r.bytes + total rs) h) same in
    record {
      harts = λ j below. is.harts j below ∙ ap Some (each j m _ _ own run.harts s (hart_after by_guard ask.state 0 r.bytes (run.harts 0)));
      caches = is.caches;
      shadow = is.shadow;
      log = subst (λ (rs : List Record). IsLog t.log (r.stream ++ rs)) same is.log;
      bytes = is.bytes ∙ ap (λ (rs : List Record). r.bytes + total rs) same;
    }
  where
    each : (j : ℕ) (m : TurnEnd) (a b : Hart) → a ≡ b → (f : ℕ → Hart) (s : HartState) (o : Hart) → harts_after m 0 a (harts_after by_guard 0 o (moved_harts f 0 s)) j ≡ harts_after m 0 b (harts_after by_guard 0 o f) j
    each j m a b own f s o = by (j == 0) m a b (in_state s (f 0)) (f j) o own
      where
        by : (t : Bool) (m : TurnEnd) (a b x y o : Hart) → a ≡ b
            → elim t as (λ z. Hart) [ true ↦ a | false ↦ other_after m (elim t as (λ z. Hart) [ true ↦ o | false ↦ other_after by_guard (elim t as (λ z. Hart) [ true ↦ x | false ↦ y ]) ]) ]
            ≡ elim t as (λ z. Hart) [ true ↦ b | false ↦ other_after m (elim t as (λ z. Hart) [ true ↦ o | false ↦ other_after by_guard y ]) ]
        by true m a b x y o own = own
        by false m a b x y o own = refl

pub served_alone : (q : PlainParts) (c : RawSettings) (run : Run) (s : HartState) (ask : Ask) (call : Option Plan) (g : Bool) → q.start.settings ≡ c → c.harts ≡ 1
    → IsRun q (serve_call c (moved_run run 0 s) 0 ask g call).run → IsRun q (serve_call c run 0 ask g call).run
served_alone q c run s ask call g e alone is = record {
  machine = machine_same g is.machine;
  trace = subst (λ (x : RawSettings). IsTrace x q.trace (serve_call c run 0 ask g call).run) (sym e)
      (served_trace c q.trace run s ask call g alone (subst (λ (x : RawSettings). IsTrace x q.trace (serve_call c (moved_run run 0 s) 0 ask g call).run) e is.trace));
  turns = turns_same g is.turns;
}
  where
    machine_same : (b : Bool) → IsMachine q.start.input.items q.machine (serve_call c (moved_run run 0 s) 0 ask b call).run.machine → IsMachine q.start.input.items q.machine (serve_call c run 0 ask b call).run.machine
    machine_same b m = m

    turns_same : (b : Bool) → q.turns ≡ (serve_call c (moved_run run 0 s) 0 ask b call).run.turns → q.turns ≡ (serve_call c run 0 ask b call).run.turns
    turns_same b m = m

-- ---- a turn

-- the turn of the run in which the hart was moved on, from where it asks the same, is that of the run
pub turn_alone : (q : PlainParts) (c : RawSettings) (i : Program) (run : Run) (s : HartState) → q.start.settings ≡ c → c.harts ≡ 1 → ask_at c i (in_state s (run.harts 0)) ≡ ask_at c i (run.harts 0)
    → IsTrue (is_orderly c i (in_state s (run.harts 0)) (ask_at c i (run.harts 0))) → IsTrue (is_orderly c i (run.harts 0) (ask_at c i (run.harts 0))) → IsRun q (turn c i (moved_run run 0 s) 0) → IsRun q (turn c i run 0)
turn_alone q c i run s e alone asks there here is =
    let ask : Ask = ask_at c i (run.harts 0) in
    let call = call_of i run.machine ask.want in
    let moved = subst (λ (x : Run). IsRun q x) (sym (turn_is c i (moved_run run 0 s) 0 ask call (sym asks) refl there)) is in
    subst (λ (x : Run). IsRun q x) (turn_is c i run 0 ask call refl refl here) (served_alone q c run s ask call (is_guarded c run 0 ask.want) e alone moved)

-- a hart that did an instruction
pub one_on : (h g : Hart) (next : TurnEnd) (s : HartState) (sk bytes : ℕ) → next ≡ GoesOn → g ≡ hart_after next s sk bytes h → s.pc ≡ add h.state.pc 4 → s.ic ≡ h.state.ic + 1 → IsOneOn h g
one_on h g next s sk bytes e at pc ic =
    let is : g ≡ record h { state = s; skipped = sk } = at ∙ ap (λ (n : TurnEnd). hart_after n s sk bytes h) e in
    record { pc = ap (λ (y : Hart). y.state.pc) is ∙ pc; ic = ap (λ (y : Hart). y.state.ic) is ∙ ic; live = ap (λ (y : Hart). y.live) is; begun = ap (λ (y : Hart). y.begun) is; headed = ap (λ (y : Hart). y.headed) is }

-- the list's first hart is live
pub first_live : (hs : List Hart) → 0 < length hs → (hart_in hs 0).live ≡ true → is_live_hart (slice_get hs 0) ≡ true
first_live [] some live = absurd (none_there some)
  where
    none_there : 0 < 0 → ⊥
    none_there e = omega (arith, e)
first_live (h ∷ hs) some live = live

-- ---- where the hart was moved on to

-- the list's first hart, set in another state
moved_there : (hs : List Hart) (x : Hart) (s : HartState) → 0 < length hs → x ≡ hart_in hs 0 → hart_in (slice_set hs 0 (in_state s x)) 0 ≡ in_state s (hart_in hs 0)
moved_there hs x s within e = get_or-set_same hs 0 (in_state s x) no_hart within ∙ ap (λ (y : Hart). in_state s y) e

pub state_there : (hs : List Hart) (x : Hart) (s : HartState) → 0 < length hs → x ≡ hart_in hs 0 → (hart_in (slice_set hs 0 (in_state s x)) 0).state ≡ s
state_there hs x s within e = ap (λ (y : Hart). y.state) (moved_there hs x s within e)

pub moved_by : (old new : Trace) (x : Hart) (s : HartState) → 0 < length old.harts.items → x ≡ hart_in old.harts.items 0 → new.harts.items ≡ slice_set old.harts.items 0 (in_state s x) → new.caches ≡ old.caches → new.shadow ≡ old.shadow → new.log ≡ old.log
    → IsMoved 0 (hart_in new.harts.items 0).state old new
moved_by old new x s within e items ec es el =
    let hs : List Hart = old.harts.items in
    let at : (hart_in new.harts.items 0).state ≡ s = ap (λ (xs : List Hart). (hart_in xs 0).state) items ∙ state_there hs x s within e in
    record {
      harts = items ∙ ap (λ (y : Hart). slice_set hs 0 (in_state s y)) e ∙ ap (λ (z : HartState). slice_set hs 0 (in_state z (hart_in hs 0))) (sym at);
      caches = ec;
      shadow = es;
      log = el;
    }

-- the count that quiet instructions lead to
pub counted_to : (ic first left end : ℕ) → end ≡ ic + first → left ≤ first → end < 2 ^ 64 → min (ic + (first + 1 - (left + 1))) (2 ^ 64 - 1) ≡ end - left
counted_to ic first left end e less fits = omega (arith, e, less, fits)

-- a hart asks the same from there
pub asks_same : (i : Program) (x h : Hart) (w v : Walking) (y : List ℕ) (end : ℕ) → x ≡ h → w.pc ≡ h.state.pc → end ≡ h.state.ic + w.left → v.left ≤ w.left → end < 2 ^ 64
    → LeadsTo i (w.left + 1) w.pc x.state.x (v.left + 1) v.pc y → ask_of i (v.left + 1) (record { pc = v.pc; x = y; ic = end - v.left }) ≡ ask_of i (w.left + 1) h.state
asks_same i x h w v y end e pc whole less fits leads =
    ap (λ (n : ℕ). ask_of i (v.left + 1) (record { pc = v.pc; x = y; ic = n })) (sym (counted_to h.state.ic w.left v.left end whole less fits))
    ∙ leads h.state.ic (omega (arith, whole, fits))
    ∙ ap (λ (p : ℕ). ask_of i (w.left + 1) (record { pc = p; x = x.state.x; ic = h.state.ic })) pc
    ∙ ap (λ (z : Hart). ask_of i (w.left + 1) (record { pc = h.state.pc; x = z.state.x; ic = h.state.ic })) e

-- ---- a turn of a hart on its way

-- what is known once the quiet instructions of a turn are done
pub record HasGoneOn (p : PlainParts) (on : Trace) (first w : Walking) (end : ℕ) : Type 0 where
  pub fits : IsTraceFit p.start.settings p.trace p.turns
  pub alone : p.start.settings.harts ≡ 1
  pub live : is_live p 0 ≡ true
  pub code : first.program ≡ p.start.image
  pub way : IsOnWay p.start.settings (hart_in p.trace.harts.items 0) first end
  pub moved : IsMoved 0 (hart_in on.harts.items 0).state p.trace on
  pub pc : w.pc ≡ (hart_in on.harts.items 0).state.pc
  pub end_is : end ≡ (hart_in on.harts.items 0).state.ic + w.left
  pub left : w.left ≤ first.left
  pub program : w.program ≡ first.program
  pub asks : ask_of first.program (w.left + 1) (hart_in on.harts.items 0).state ≡ ask_of first.program (first.left + 1) (hart_in p.trace.harts.items 0).state

-- the hart then: it is within its budget
pub record StandsThere (p : PlainParts) (on : Trace) (w : Walking) : Type 0 where
  pub within : 0 < length p.trace.harts.items
  pub some : 0 < p.start.settings.harts
  pub live : (hart_in p.trace.harts.items 0).live ≡ true
  pub rested : IsRested p.start.settings (hart_in p.trace.harts.items 0)
  pub at : hart_in on.harts.items 0 ≡ in_state (hart_in on.harts.items 0).state (hart_in p.trace.harts.items 0)
  pub by : InBudget p.start.settings (hart_in p.trace.harts.items 0) (hart_in on.harts.items 0).state.ic
  pub budget_is : budget p.start.settings (hart_in on.harts.items 0) ≡ w.left + 1
  pub asks : ask_of p.start.image (w.left + 1) (hart_in on.harts.items 0).state ≡ ask_at p.start.settings p.start.image (hart_in p.trace.harts.items 0)

pub stands_there : (p : PlainParts) (on : Trace) (first w : Walking) (end : ℕ) → HasGoneOn p on first w end → StandsThere p on w
stands_there p on first w end g =
    let c = p.start.settings in
    let h : Hart = hart_in p.trace.harts.items 0 in
    let k : Hart = hart_in on.harts.items 0 in
    let alive = live_within p.trace.harts.items 0 g.live in
    let some : 0 < c.harts = omega (arith, g.alone) in
    let rested = (g.fits.each 0 some).fit in
    let begun : h.begun ≤ h.state.ic = omega (arith, rested.fit.skipped) in
    let at : k ≡ in_state k.state h = own_moved p.trace on 0 k.state g.moved alive.0 in
    let from : h.state.ic ≤ k.state.ic = omega (arith, g.way.end_is, g.end_is, g.left) in
    record {
      within = alive.0;
      some = some;
      live = alive.1;
      rested = rested;
      at = at;
      by = is_within c h k.state first.left w.left end begun g.way.end_is g.end_is g.left g.way.budget;
      budget_is = budget_by c h k w.left end (ap (λ (y : Hart). y.begun) at) begun from g.end_is (omega (arith, g.way.budget, g.way.end_is));
      asks =
          ap (λ (i : Program). ask_of i (w.left + 1) k.state) (sym g.code) ∙ g.asks
          ∙ ap (λ (i : Program). ask_of i (first.left + 1) h.state) g.code
          ∙ ap (λ (n : ℕ). ask_of p.start.image n h.state) (sym g.way.budget);
    }

pub gone_fits : (p : PlainParts) (on : Trace) (first w : Walking) (end : ℕ) → HasGoneOn p on first w end → IsTraceFit p.start.settings on p.turns
gone_fits p on first w end g =
    let t = stands_there p on first w end g in
    onward_fit p.start.settings p.trace on p.turns 0 (hart_in on.harts.items 0).state g.fits t.some t.live t.by g.moved

pub gone_moved : (p : PlainParts) (on : Trace) (first w : Walking) (end : ℕ) → HasGoneOn p on first w end → IsMovedAlone p (record p { trace = on })
gone_moved p on first w end g =
    let t = stands_there p on first w end g in
    record {
      start = refl;
      machine = refl;
      turns = refl;
      moved = g.moved;
      asks = ap (λ (n : ℕ). ask_of p.start.image n (hart_in on.harts.items 0).state) t.budget_is ∙ t.asks;
    }

-- the hart asks so there
asked_there : (p : PlainParts) (on : Trace) (first w : Walking) (end : ℕ) (want : Want) → HasGoneOn p on first w end → AsksThere w (hart_in on.harts.items 0).state.x want
    → ◌≡◌ {A = Ask} (record { state = (hart_in on.harts.items 0).state; want = want }) (ask_at p.start.settings p.start.image (hart_in p.trace.harts.items 0))
asked_there p on first w end want g asks =
    let t = stands_there p on first w end g in
    let s : HartState = (hart_in on.harts.items 0).state in
    let some : 0 < w.left + 1 = omega arith in
    let pc : ◌≡◌ {A = HartState} (record { pc = w.pc; x = s.x; ic = s.ic }) s = ap (λ (a : ℕ). record s { pc = a }) g.pc in
    ap (λ (z : HartState). record { state = z; want = want }) (sym pc)
    ∙ asks (w.left + 1) s.ic some
    ∙ ap (λ (z : HartState). ask_of w.program (w.left + 1) z) pc
    ∙ ap (λ (i : Program). ask_of i (w.left + 1) s) (g.program ∙ g.code)
    ∙ t.asks

own_orderly : ((i : Program) (n : ℕ) (s : HartState) → s.ic + n < 2 ^ 64 → IsTrue (orderly i s.ic n (ask_of i n s))) → (p : PlainParts) (on : Trace) (first w : Walking) (end : ℕ) (want : Want) → HasGoneOn p on first w end → AsksThere w (hart_in on.harts.items 0).state.x want
    → IsTrue (is_orderly p.start.settings p.start.image (hart_in p.trace.harts.items 0) (record { state = (hart_in on.harts.items 0).state; want = want }))
own_orderly each p on first w end want g asks =
    let t = stands_there p on first w end g in
    asked_orderly each p.start.settings p.start.image (hart_in p.trace.harts.items 0) (record { state = (hart_in on.harts.items 0).state; want = want }) g.fits.settings.limit_high t.rested.fit (asked_there p on first w end want g asks)

pub can_take : ((i : Program) (n : ℕ) (s : HartState) → s.ic + n < 2 ^ 64 → IsTrue (orderly i s.ic n (ask_of i n s))) → (p : PlainParts) (on : Trace) (first w : Walking) (end : ℕ) → HasGoneOn p on first w end → 0 < w.left
    → ((run : Run) → IsRun (record p { trace = on }) run → (p.start.settings.format == 2) && nat_lt p.start.settings.log_size (2 * bytes_since run 0) ≡ false) → CanTakeAlone (record p { trace = on }) w
can_take each p on first w end g left unguarded =
    let c = p.start.settings in
    let t = stands_there p on first w end g in
    let h : Hart = hart_in p.trace.harts.items 0 in
    let k : Hart = hart_in on.harts.items 0 in
    let one : count_up k.state.ic ≡ k.state.ic + 1 = one_up k.state.ic (omega (arith, t.by.below, t.rested.fit.limit, budget_limit c h, g.fits.settings.limit_high)) in
    let next : k.state.ic + 1 < h.state.ic + budget c h = omega (arith, g.end_is, g.way.end_is, g.way.budget, left) in
    let begun : k.begun ≡ h.begun = ap (λ (y : Hart). y.begun) t.at in
    record {
      alone = g.alone;
      on = ap (counted c k) one
          ∙ goes_on c k (k.state.ic + 1) (omega (arith, next, t.rested.fit.limit, budget_limit c h)) (omega (arith, next, begun, t.rested.fit.skipped, budget_interval c h, t.by.from));
      unguarded = unguarded;
      asks = λ want asks cut. record {
        hart = t.some;
        live = ap (λ (y : Hart). y.live) t.at ∙ t.live;
        orderly = subst (λ (y : Hart). IsTrue (is_orderly c p.start.image y (ask_here y want))) (sym t.at)
            (orderly_there c p.start.image h k.state want t.rested t.live cut (own_orderly each p on first w end want g asks));
      };
    }

pub turned_alone : ((i : Program) (n : ℕ) (s : HartState) → s.ic + n < 2 ^ 64 → IsTrue (orderly i s.ic n (ask_of i n s))) → (p new : PlainParts) (on : Trace) (first w : Walking) (end : ℕ) → HasGoneOn p on first w end → IsTakenAlone (record p { trace = on }) new w
    → 0 < length new.trace.harts.items → IsTurnedAlone p new
turned_alone each p new on first w end g k within =
    let t = stands_there p on first w end g in
    record {
      start = k.taken.start;
      turns = k.turns;
      live = first_live new.trace.harts.items within (k.on.live ∙ ap (λ (y : Hart). y.live) t.at ∙ t.live);
      headed = k.on.headed ∙ ap (λ (y : Hart). y.headed) t.at;
      run = taken_there p new 0 on (hart_in on.harts.items 0).state k.want (λ y reply ic g'. alone_over (next_of p.start.settings None y k.want reply ic) p.start.settings.harts g' g.alone) t.within g.moved k.no_call
          (asked_there p on first w end k.want g k.there) (own_orderly each p on first w end k.want g k.there) k.taken;
    }

pub still_on_way : (p new : PlainParts) (on : Trace) (first w : Walking) (end : ℕ) → HasGoneOn p on first w end → 0 < w.left → IsOneOn (hart_in on.harts.items 0) (hart_in new.trace.harts.items 0) → new.start ≡ p.start
    → IsOnWay new.start.settings (hart_in new.trace.harts.items 0) (record w { pc = add w.pc 4; left = w.left - 1 }) end
still_on_way p new on first w end g left one es =
    let c = p.start.settings in
    let t = stands_there p on first w end g in
    let h : Hart = hart_in p.trace.harts.items 0 in
    let k : Hart = hart_in on.harts.items 0 in
    let n : Hart = hart_in new.trace.harts.items 0 in
    let begun : n.begun ≡ h.begun = one.begun ∙ ap (λ (y : Hart). y.begun) t.at in
    subst (λ (x : Start). IsOnWay x.settings n (record w { pc = add w.pc 4; left = w.left - 1 }) end) (sym es) (record {
      pc = ap (λ (a : ℕ). add a 4) g.pc ∙ sym one.pc;
      end_is = omega (arith, g.end_is, one.ic, left);
      budget = budget_by c h n (w.left - 1) end begun (omega (arith, t.rested.fit.skipped)) (omega (arith, one.ic, t.by.from)) (omega (arith, g.end_is, one.ic, left)) (omega (arith, g.way.budget, g.way.end_is));
    })

-- the bytes from the present Header on
pub bytes_here : (p : PlainParts) (run : Run) → IsRun p run → 0 < length p.trace.harts.items → bytes_since run 0 ≡ header_size + (p.trace.log.bytes - (hart_in p.trace.harts.items 0).headed)
bytes_here p run is within =
    let there = hart_of_run p.trace.harts.items 0 run.harts is.trace.harts within in
    sym (ap (λ (n : ℕ). header_size + (n - (hart_in p.trace.harts.items 0).headed)) is.trace.bytes ∙ ap (λ (y : Hart). header_size + (run.bytes - y.headed)) there)

pub below_from : (bytes limit : ℕ) → nat_le limit bytes ≡ false → bytes < limit
below_from bytes limit e = grind arith

pub below_none : (c : RawSettings) (headed : ℕ) → IsUnguarded c headed 0
below_none c headed bytes below = absurd (none bytes below)
  where
    none : (n : ℕ) → n < 0 → ⊥
    none n e = omega (arith, e)

-- as long as the bytes are so many fewer than half of the log's, no more than half are there
pub fewer_than_half : (c : RawSettings) (half headed limit : ℕ) → half ≡ c.log_size / 2 → 146 ≤ half → limit ≤ headed + (half - 145) → IsUnguarded c headed limit
fewer_than_half c half headed limit is most low bytes below =
    let few : 2 * (header_size + (bytes - headed)) ≤ c.log_size = omega (arith, is, most, low, below) in
    none_and (c.format == 2) (nat_lt c.log_size (2 * (header_size + (bytes - headed)))) (le-ltb c.log_size (2 * (header_size + (bytes - headed))) few)
  where
    none_and : (b e : Bool) → e ≡ false → b && e ≡ false
    none_and true e none = none
    none_and false e none = refl

-- a hart that was moved on keeps the limit of its guards
pub still_unguarded : (p : PlainParts) (on : Trace) (first w : Walking) (end limit : ℕ) → HasGoneOn p on first w end → IsUnguarded p.start.settings (hart_in p.trace.harts.items 0).headed limit → IsUnguarded p.start.settings (hart_in on.harts.items 0).headed limit
still_unguarded p on first w end limit g below =
    let t = stands_there p on first w end g in
    subst (λ (n : ℕ). IsUnguarded p.start.settings n limit) (sym (ap (λ (y : Hart). y.headed) t.at)) below

-- ---- many turns

-- a turn of a run is counted
turn_counts : (c : RawSettings) (i : Program) (run : Run) → (turn c i run 0).turns ≡ run.turns + 1
unfolding serve
turn_counts c i run = by (is_orderly c i (run.harts 0) (ask_at c i (run.harts 0)))
  where
    by : (b : Bool) → (served_if b c i run 0 (ask_at c i (run.harts 0))).run.turns ≡ run.turns + 1
    by true = refl
    by false = refl

alone_more : (c : RawSettings) (i : Program) (run : Run) (n : ℕ) → run_alone c i run (suc n) ≡ turn c i (run_alone c i run n) 0
alone_more c i run zero = refl
alone_more c i run (suc n) = alone_more c i (turn c i run 0) n

pub none_turned : (p : PlainParts) (run : Run) → IsRun p run → HasTurned p p run 0
none_turned p run is = record { turns = omega arith; is = is; each = λ n below. absurd (never_below n below) }
  where
    never_below : (n : ℕ) → n < 0 → ⊥
    never_below n below = omega (arith, below)

-- what a machine's run can do next
pub can_turn : ((i : Program) (n : ℕ) (s : HartState) → s.ic + n < 2 ^ 64 → IsTrue (orderly i s.ic n (ask_of i n s))) → (p : PlainParts) (run : Run) → IsTraceFit p.start.settings p.trace p.turns → p.start.settings.harts ≡ 1 → is_live p 0 ≡ true → IsRun p run → CanTurn p.start.settings p.start.image run
can_turn each p run fits alone live is =
    let c = p.start.settings in let i = p.start.image in
    let hs : List Hart = p.trace.harts.items in
    let alive = live_within hs 0 live in
    let h : Hart = hart_in hs 0 in
    let there : h ≡ run.harts 0 = hart_of_run hs 0 run.harts is.trace.harts alive.0 in
    let some : 0 < c.harts = omega (arith, alone) in
    record {
      live = sym (live_in_run c run hs 0 is.trace.harts fits.harts) ∙ live;
      orderly = subst (λ (y : Hart). is_orderly c i y (ask_at c i y) ≡ true) there (asked_orderly each c i h (ask_at c i h) fits.settings.limit_high (fits.each 0 some).fit.fit refl);
    }

-- a turn more
pub one_turned : (p q r : PlainParts) (run : Run) (n : ℕ) → HasTurned p q run n → q.start ≡ p.start → CanTurn q.start.settings q.start.image (run_alone p.start.settings p.start.image run n)
    → ((x : Run) → IsRun q x → IsRun r (turn q.start.settings q.start.image x 0)) → HasTurned p r run (n + 1)
one_turned p q r run n had es can turns =
    let c = p.start.settings in let i = p.start.image in
    let x : Run = run_alone c i run n in
    let up : suc n ≡ n + 1 = omega arith in
    let next : IsRun r (turn c i x 0) = subst (λ (t : Start). IsRun r (turn t.settings t.image x 0)) es (turns x had.is) in
    let is : IsRun r (run_alone c i run (n + 1)) = subst (λ (m : ℕ). IsRun r (run_alone c i run m)) up (subst (λ (y : Run). IsRun r y) (sym (alone_more c i run n)) next) in
    record {
      turns = omega (arith, next.turns, turn_counts c i x, had.is.turns, had.turns);
      is = is;
      each = λ m below. elim (eqb_tells m n) [
        | inl e ↦ subst (λ (j : ℕ). CanTurn c i (run_alone c i run j)) (sym e.1) (subst (λ (t : Start). CanTurn t.settings t.image x) es can)
        | inr e ↦ had.each m (lower m n below e.1)
      ];
    }
  where
    lower : (m n : ℕ) → m < n + 1 → m ≢ n → m < n
    lower m n below e = omega (arith, below, e)

-- so many turns were taken, fewer than the most, and another could be
pub could_more : (p q r : PlainParts) (run : Run) (n most : ℕ) → HasTurned p q run n → q.start ≡ p.start → CanTurn q.start.settings q.start.image (run_alone p.start.settings p.start.image run n) → r.turns ≡ q.turns → n < most
    → (count : ℕ) × (count < most) × (r.turns ≡ p.turns + count) × ((m : ℕ) → m ≤ count → CanTurn p.start.settings p.start.image (run_alone p.start.settings p.start.image run m))
could_more p q r run n most had es can turns few =
    let c = p.start.settings in let i = p.start.image in (
      n,
      few,
      turns ∙ had.turns,
      λ m within. elim (eqb_tells m n) [
        | inl e ↦ subst (λ (j : ℕ). CanTurn c i (run_alone c i run j)) (sym e.1) (subst (λ (t : Start). CanTurn t.settings t.image (run_alone c i run n)) es can)
        | inr e ↦ had.each m (lower m n within e.1)
      ],
    )
  where
    lower : (m n : ℕ) → m ≤ n → m ≢ n → m < n
    lower m n within e = omega (arith, within, e)

-- the run of a machine whose hart was moved on
pub run_moved : (p q : PlainParts) → is_live p 0 ≡ true → IsMovedAlone p q → (run : Run) → IsRun p run → IsRun q (moved_run run 0 (hart_in q.trace.harts.items 0).state)
run_moved p q live m run is =
    let s : HartState = (hart_in q.trace.harts.items 0).state in
    let alive = live_within p.trace.harts.items 0 live in
    stands_on p q (moved_run run 0 s) m.start m.machine m.turns is.machine (moved_is p.start.settings p.trace q.trace run 0 s alive.0 m.moved is.trace) is.turns

-- a turn that was not taken isn't counted
pub moved_stays : (p q r : PlainParts) → is_live p 0 ≡ true → IsMovedAlone p q → ((x : Run) → IsRun q x → IsRun r x) → (run : Run) → IsRun p run → r.turns ≡ p.turns
moved_stays p q r live m stays run is = let on = run_moved p q live m run is in (stays (moved_run run 0 (hart_in q.trace.harts.items 0).state) on).turns ∙ sym on.turns ∙ m.turns

-- the turn of a machine whose hart was moved on is that of the machine
pub moved_turn : ((i : Program) (n : ℕ) (s : HartState) → s.ic + n < 2 ^ 64 → IsTrue (orderly i s.ic n (ask_of i n s))) → (p q r : PlainParts) → IsTraceFit p.start.settings p.trace p.turns → IsTraceFit q.start.settings q.trace q.turns → p.start.settings.harts ≡ 1 → is_live p 0 ≡ true
    → IsMovedAlone p q → r.start ≡ q.start → ((x : Run) → IsRun q x → IsRun r (turn q.start.settings q.start.image x 0)) → (run : Run) → IsRun p run → IsRun r (turn p.start.settings p.start.image run 0)
moved_turn each p q r fits on_fits alone live m er turns run is =
    let c = p.start.settings in let i = p.start.image in
    let hs : List Hart = p.trace.harts.items in
    let alive = live_within hs 0 live in
    let h : Hart = hart_in hs 0 in
    let k : Hart = hart_in q.trace.harts.items 0 in
    let s : HartState = k.state in
    let there : h ≡ run.harts 0 = hart_of_run hs 0 run.harts is.trace.harts alive.0 in
    let at : k ≡ in_state s (run.harts 0) = own_moved p.trace q.trace 0 s m.moved alive.0 ∙ ap (λ (y : Hart). in_state s y) there in
    let on : IsRun q (moved_run run 0 s) = run_moved p q live m run is in
    let after : IsRun r (turn c i (moved_run run 0 s) 0) = subst (λ (t : Start). IsRun r (turn t.settings t.image (moved_run run 0 s) 0)) m.start (turns (moved_run run 0 s) on) in
    let some : 0 < c.harts = omega (arith, alone) in
    let fit : IsTraceFit c q.trace q.turns = subst (λ (t : Start). IsTraceFit t.settings q.trace q.turns) m.start on_fits in
    let asks : ask_at c i (in_state s (run.harts 0)) ≡ ask_at c i (run.harts 0) = subst (λ (y : Hart). ask_at c i y ≡ ask_at c i (run.harts 0)) at (m.asks ∙ ap (ask_at c i) there) in
    let here : IsTrue (is_orderly c i (run.harts 0) (ask_at c i (run.harts 0))) = subst (λ (y : Hart). IsTrue (is_orderly c i y (ask_at c i y))) there (asked_orderly each c i h (ask_at c i h) fits.settings.limit_high (fits.each 0 some).fit.fit refl) in
    let moved : IsTrue (is_orderly c i (in_state s (run.harts 0)) (ask_at c i (run.harts 0))) =
    subst (λ (y : Hart). IsTrue (is_orderly c i y (ask_at c i (run.harts 0)))) at (asked_orderly each c i k (ask_at c i (run.harts 0)) fits.settings.limit_high (fit.each 0 some).fit.fit (sym (m.asks ∙ ap (ask_at c i) there))) in
    turn_alone r c i run s (ap (λ (t : Start). t.settings) (er ∙ m.start)) alone asks moved here after
