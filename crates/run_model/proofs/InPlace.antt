-- A turn whose quiet instructions are done in the hart's own place.
use Rattle.run_model.proofs.Common.{◌≡◌, ◌≢◌, ℕ, ◌+◌, ◌-◌, ◌*◌, ◌<◌, ◌≤◌, ◌^◌, ◌==◌, ◌++◌, Bool, true, false, List, [], length, sym, ◌∙◌, ap, subst, arith, refl, inl, inr, IsTrue, Vec, slice_set, Some, None, nat_le, nat_lt, ◌&&◌, Global, get_or-set_same, get_or-set_other, length-set, set-set, set-get_or, eqb_tells, Program, RawSettings, HartState, Contents, is_cut, passes, orderly, absorbed, ask_of, Ask, Want, Reply, Shadow, RepresentsAccesses, lasts, next_turn, next_count, harts_of, Record, total, Hart, Log, TurnEnd, GoesOn, NewInterval, HartOver, RunOver, Trace, answer, Run, turn, ask_at, budget, is_orderly, serve_call, span_of, counted, point_of, edge_records, load_record, sc_record, next_records, run_over_records, warmth, loading, word_before, hart_after, harts_after, other_after, skipped_after, events_after, is_guarded, IsRested, turns_left, steps_in, AreCaches, AreHarts, hart_in, no_hart, AsksHere, IsTaken, IsOnlySwept, is_live, ask_here, in_state, moved_harts, moved_run, IsMoved, taken, IsLog, IsTraceFit, IsHartFit, IsTrace, IsSwept, everyone, IsRun, PlainParts, MachineParts, IsMachine, Start, Option, Plan, not, next_of, header_size, IsNoCall, lt-ltb, le-leb}
use Rattle.run_model.specs.Represents.Accessed.{IsTurnedHere}
use Rattle.run_model.proofs.Fits.{counted_by, guarded_below, left_live}
use Rattle.run_model.proofs.MoveOn.{InBudget, budget_interval, some_budget}
use Rattle.run_model.proofs.OneTurn.{live_within, asked_orderly, turn_is}
use Rattle.run_model.proofs.Asked.{all_less, eqb_same, other_stays}
use Rattle.run_model.proofs.Owns.{hart_of_run, next_same}
use Rattle.run_model.proofs.PlainFits.{IsLike, like_trace, swept_like}
use Rattle.run_model.proofs.Stopping.{own_set, with_own}

-- ---- the hart that was moved on

pub within_interval : (c : RawSettings) (h : Hart) (ic : ℕ) → h.begun ≤ h.state.ic → h.state.ic ≤ h.begun + c.interval → ic < h.state.ic + budget c h → ic < h.begun + c.interval
within_interval c h ic low high below = omega (arith, low, high, below, budget_interval c h)

some_left : (c : RawSettings) (h : Hart) (s : HartState) → h.begun ≤ s.ic → s.ic < h.begun + c.interval → s.ic < c.limit → 0 < budget c (in_state s h)
some_left c h s begun inside below = some_budget c (in_state s h) (omega (arith, begun, inside)) (omega (arith, below))

-- a hart that has done some of its budget
pub record IsOnward (c : RawSettings) (h : Hart) (s : HartState) : Type 0 where
  pub from : h.state.ic ≤ s.ic
  pub below : s.ic < c.limit
  pub inside : s.ic < h.begun + c.interval
  pub rested : IsRested c (in_state s h)
  pub left : turns_left c (in_state s h) ≤ turns_left c h

-- a hart that is moved on within its budget has done some of it
onward : (c : RawSettings) (h : Hart) (s : HartState) → IsRested c h → h.live ≡ true → InBudget c h s.ic → IsOnward c h s
onward c h s rested live by =
    let fit = rested.fit in
    let below = guarded_below c h s.ic fit by in
    let inside = within_interval c h s.ic (omega (arith, fit.skipped)) fit.interval by.below in
    record {
      from = by.from;
      below = below;
      inside = inside;
      rested = record {
        fit = record {
          number = omega (arith, rested.number live, by.from);
          skipped = omega (arith, fit.skipped, by.from);
          interval = omega (arith, inside);
          limit = omega (arith, below);
          unfilled = λ p. inside;
        };
        number = λ p. omega (arith, rested.number live, by.from);
      };
      left = omega (arith, left_live c h live, left_live c (in_state s h) live, by.from);
    }

orderly_on : (c : RawSettings) (i : Program) (h : Hart) (s : HartState) (want : Want) → is_cut want ≡ false → 0 < budget c (in_state s h) → passes i want ≡ true
    → is_orderly c i (in_state s h) (record { state = s; want = want }) ≡ true
orderly_on c i h s want cut some pass =
    rw (cut, pass, le-leb s.ic s.ic (omega arith), lt-ltb s.ic (s.ic + budget c (in_state s h)) (omega (arith, some))) refl

-- an ask that is orderly for a hart is orderly once the hart is moved on to it
pub orderly_there : (c : RawSettings) (i : Program) (h : Hart) (s : HartState) (want : Want) → IsRested c h → h.live ≡ true → is_cut want ≡ false → IsTrue (is_orderly c i h (record { state = s; want = want }))
    → IsTrue (is_orderly c i (in_state s h) (ask_here (in_state s h) want))
orderly_there c i h s want rested live cut o =
    let by = counted_by c i h s want cut o in
    let on = onward c h s rested live by.0 in
    orderly_on c i h s want cut (some_left c h s (omega (arith, rested.fit.skipped, by.0.from)) on.inside on.below) by.1

pub own_moved : (old new : Trace) (k : ℕ) (s : HartState) → IsMoved k s old new → k < length old.harts.items → hart_in new.harts.items k ≡ in_state s (hart_in old.harts.items k)
own_moved old new k s m within =
    ap (λ (xs : List Hart). hart_in xs k) m.harts ∙ get_or-set_same old.harts.items k (in_state s (hart_in old.harts.items k)) no_hart within

pub other_moved : (old new : Trace) (k j : ℕ) (s : HartState) → IsMoved k s old new → j ≢ k → hart_in new.harts.items j ≡ hart_in old.harts.items j
other_moved old new k j s m differ =
    ap (λ (xs : List Hart). hart_in xs j) m.harts ∙ get_or-set_other old.harts.items k j (in_state s (hart_in old.harts.items k)) no_hart differ

own_onward : (c : RawSettings) (old new : Trace) (k : ℕ) (s : HartState) → IsMoved k s old new → hart_in new.harts.items k ≡ in_state s (hart_in old.harts.items k) → (hart_in old.harts.items k).live ≡ true
    → IsHartFit c old k → IsOnward c (hart_in old.harts.items k) s → IsHartFit c new k
own_onward c old new k s m at live one on =
    let ic : (hart_in new.harts.items k).state.ic ≡ s.ic = ap (λ (h : Hart). h.state.ic) at in
    let number : (hart_in new.harts.items k).number ≡ (hart_in old.harts.items k).number = ap (λ (h : Hart). h.number) at in
    record {
      fit = subst (λ (h : Hart). IsRested c h) (sym at) on.rested;
      steps = omega (arith, one.steps, ap (λ (cs : List Contents). steps_in cs k) m.caches, ic, number, on.from);
      count = omega (arith, one.count, ap (λ (x : Shadow). next_count x k) m.shadow, ic, on.from);
      lasting = λ e. subst (λ (x : Shadow). lasts x k ≡ true) (sym m.shadow) (one.lasting live);
    }

-- the counts fit the settings once hart k is moved on
pub onward_fit : (c : RawSettings) (old new : Trace) (turns k : ℕ) (s : HartState) → IsTraceFit c old turns → k < c.harts → (hart_in old.harts.items k).live ≡ true
    → InBudget c (hart_in old.harts.items k) s.ic → IsMoved k s old new → IsTraceFit c new turns
onward_fit c old new turns k s fit within live by m =
    let h : Hart = hart_in old.harts.items k in
    let f : ℕ → Hart = hart_in old.harts.items in
    let g : ℕ → Hart = hart_in new.harts.items in
    let one = fit.each k within in
    let on = onward c h s one.fit live by in
    let at : g k ≡ in_state s h = own_moved old new k s m (omega (arith, within, fit.harts)) in
    let no_more : (j : ℕ) → j < c.harts → turns_left c (g j) ≤ turns_left c (f j) = λ j below. elim (eqb_tells j k) [
      | inl p ↦ subst (λ (n : ℕ). turns_left c (g n) ≤ turns_left c (f n)) (sym p.1) (subst (λ (x : Hart). turns_left c x ≤ turns_left c h) (sym at) on.left)
      | inr p ↦ subst (λ (x : Hart). turns_left c x ≤ turns_left c (f j)) (sym (other_moved old new k j s m p.1)) (omega arith)
    ] in
    record {
      settings = fit.settings;
      few = fit.few;
      harts = ap (λ (xs : List Hart). length xs) m.harts ∙ length-set old.harts.items k (in_state s h) ∙ fit.harts;
      caches = ap (λ (cs : List Contents). length cs) m.caches ∙ fit.caches;
      shadow = ap harts_of m.shadow ∙ fit.shadow;
      each = λ j below. elim (eqb_tells j k) [
        | inl p ↦ subst (λ (n : ℕ). IsHartFit c new n) (sym p.1) (own_onward c old new k s m at live one on)
        | inr p ↦ other_stays c old new j k (other_moved old new k j s m p.1) (ap (λ (cs : List Contents). steps_in cs j) m.caches) m.shadow (fit.each j below)
      ];
      turn = omega (arith, fit.turn, ap next_turn m.shadow);
      left = omega (arith, all_less c c.harts f g no_more, fit.left);
      log = omega (arith, fit.log, ap (λ (l : Log). taken l.ring) m.log);
      log_size = ap (λ (l : Log). l.ring.size) m.log ∙ fit.log_size;
    }

pub moved_is : (c : RawSettings) (old new : Trace) (run : Run) (k : ℕ) (s : HartState) → k < length old.harts.items → IsMoved k s old new → IsTrace c old run → IsTrace c new (moved_run run k s)
moved_is c old new run k s within m is =
    let there : hart_in old.harts.items k ≡ run.harts k = hart_of_run old.harts.items k run.harts is.harts within in
    let set = own_set old.harts.items k (in_state s (hart_in old.harts.items k)) run.harts is.harts within in
    let named = subst (λ (y : Hart). AreHarts (slice_set old.harts.items k (in_state s (hart_in old.harts.items k))) (with_own k (in_state s y) run.harts)) there set in
    record {
      harts = subst (λ (xs : List Hart). AreHarts xs (moved_harts run.harts k s)) (sym m.harts) named;
      caches = subst (λ (cs : List Contents). AreCaches c cs run.events) (sym m.caches) is.caches;
      shadow = subst (λ (x : Shadow). RepresentsAccesses run.points everyone x) (sym m.shadow) is.shadow;
      log = subst (λ (l : Log). IsLog l run.stream) (sym m.log) is.log;
      bytes = ap (λ (l : Log). l.bytes) m.log ∙ is.bytes;
    }

-- ---- the hart that was put back

-- the lists of harts: hart k set, and set back
set_back : (hs : List Hart) (k : ℕ) (a : Hart) (s : HartState) → k < length hs → s ≡ (hart_in hs k).state → hart_in (slice_set hs k a) k ≡ a → in_state s a ≡ in_state s (hart_in hs k)
    → slice_set (slice_set hs k a) k (in_state s (hart_in (slice_set hs k a) k)) ≡ hs
set_back hs k a s within es at ea =
    ap (λ (y : Hart). slice_set (slice_set hs k a) k (in_state s y)) at
    ∙ ap (λ (y : Hart). slice_set (slice_set hs k a) k y) (ea ∙ ap (λ (z : HartState). in_state z (hart_in hs k)) es)
    ∙ set-set hs k a (hart_in hs k)
    ∙ set-get_or hs k no_hart

-- moved on, what the race log has may have changed, and put back
pub back : (old on aside new : Trace) (k : ℕ) (s before : HartState) → k < length old.harts.items → before ≡ (hart_in old.harts.items k).state → IsMoved k s old on → IsLike on aside → IsMoved k before aside new → IsLike old new
back old on aside new k s before within eb m like put =
    let h : Hart = hart_in old.harts.items k in
    let items : aside.harts.items ≡ slice_set old.harts.items k (in_state s h) = like.harts ∙ m.harts in
    let at : hart_in (slice_set old.harts.items k (in_state s h)) k ≡ in_state s h = get_or-set_same old.harts.items k (in_state s h) no_hart within in
    record {
      harts = put.harts ∙ ap (λ (xs : List Hart). slice_set xs k (in_state before (hart_in xs k))) items ∙ set_back old.harts.items k (in_state s h) before within eb at refl;
      caches = put.caches ∙ like.caches ∙ m.caches;
      shadow = swept_back old on aside new k s within m like put;
      log = put.log ∙ like.log ∙ m.log;
    }
  where
    live_same : (old on : Trace) (k j : ℕ) (s : HartState) → k < length old.harts.items → IsMoved k s old on → (hart_in old.harts.items j).live ≡ true → (hart_in on.harts.items j).live ≡ true
    live_same old on k j s within m live = elim (eqb_tells j k) [
      | inl p ↦ subst (λ (n : ℕ). (hart_in on.harts.items n).live ≡ true) (sym p.1) (ap (λ (h : Hart). h.live) (own_moved old on k s m within) ∙ subst (λ (n : ℕ). (hart_in old.harts.items n).live ≡ true) p.1 live)
      | inr p ↦ ap (λ (h : Hart). h.live) (other_moved old on k j s m p.1) ∙ live
    ]

    swept_back : (old on aside new : Trace) (k : ℕ) (s : HartState) {before : HartState} → k < length old.harts.items → IsMoved k s old on → IsLike on aside → IsMoved k before aside new → IsSwept old.shadow new.shadow old.harts.items
    swept_back old on aside new k s within m like put =
        let there : IsSwept old.shadow aside.shadow on.harts.items = subst (λ (x : Shadow). IsSwept x aside.shadow on.harts.items) m.shadow like.shadow in
        let all : IsSwept old.shadow new.shadow on.harts.items = subst (λ (x : Shadow). IsSwept old.shadow x on.harts.items) (sym put.shadow) there in
        record {
          stands = all.stands;
          harts = all.harts;
          turn = all.turn;
          counts = all.counts;
          lasting = λ j below live was. all.lasting j (omega (arith, below, ap (λ (xs : List Hart). length xs) m.harts, length-set old.harts.items k (in_state s (hart_in old.harts.items k)))) (live_same old on k j s within m live) was;
        }

-- from one to the other, of a machine and what a hart wants, at most the race log has changed
pub record IsAside (on : Trace) (start : Start) (machine : MachineParts) (turns : ℕ) (want : Want) (start' : Start) (machine' : MachineParts) (trace' : Trace) (turns' : ℕ) (want' : Want) : Type 0 where
  pub start_is : start' ≡ start
  pub machine_is : machine' ≡ machine
  pub turns_is : turns' ≡ turns
  pub want_is : want' ≡ want
  pub like : IsLike on trace'

-- a race log is swept from itself
pub like_itself : (t : Trace) → IsLike t t
like_itself t = record { harts = refl; caches = refl; shadow = record { stands = λ points e. e; harts = refl; turn = refl; counts = λ k. refl; lasting = λ k below live e. e }; log = refl }

-- ---- the turn of the run in which the hart was moved on is that of the run

-- what comes next after an access ends no run
none_over : (c : RawSettings) (h : Hart) (ic k n : ℕ) (f : ℕ → Hart) → run_over_records (counted c h ic) k n f ≡ []
none_over c h ic k n f = by (nat_le c.limit ic) (nat_le c.interval (ic - h.begun))
  where
    by : (a b : Bool) → run_over_records (elim a as (λ x. TurnEnd) [ true ↦ HartOver 7 0 | false ↦ elim b as (λ x. TurnEnd) [ true ↦ NewInterval 1 0 | false ↦ GoesOn ] ]) k n f ≡ []
    by true b = refl
    by false true = refl
    by false false = refl

pub own_same : (next : TurnEnd) (s to : HartState) (skipped bytes : ℕ) (h : Hart) → hart_after next to skipped bytes (in_state s h) ≡ hart_after next to skipped bytes h
own_same GoesOn s to skipped bytes h = refl
own_same (NewInterval reason value) s to skipped bytes h = refl
own_same (HartOver reason value) s to skipped bytes h = refl
own_same (RunOver reason value) s to skipped bytes h = refl

pub moved_own : (f : ℕ → Hart) (k : ℕ) (s : HartState) → moved_harts f k s k ≡ in_state s (f k)
moved_own f k s = ap (λ (b : Bool). elim b as (λ x. Hart) [ true ↦ in_state s (f k) | false ↦ f k ]) (eqb_same k)

-- the harts after, of harts that are the same but for hart k
same_after : (b : Bool) (next : TurnEnd) (own a x : Hart) → elim b as (λ z. Hart) [ true ↦ own | false ↦ other_after next (elim b as (λ z. Hart) [ true ↦ a | false ↦ x ]) ] ≡ elim b as (λ z. Hart) [ true ↦ own | false ↦ other_after next x ]
same_after true next own a x = refl
same_after false next own a x = refl

-- the ask that hart k makes after it was moved on leaves what it leaves of the run, if it does not end the others
pub served_moved : (c : RawSettings) (t : Trace) (run : Run) (k : ℕ) (s : HartState) (ask : Ask) (call : Option Plan) → ((y : Hart) (reply : Reply) (ic : ℕ) (g : ℕ → Hart) → run_over_records (next_of c call y ask.want reply ic) k c.harts g ≡ [])
    → IsTrace c t (serve_call c (moved_run run k s) k ask false call).run → IsTrace c t (serve_call c run k ask false call).run
served_moved c t run k s ask call over is =
    let h : Hart = run.harts k in
    let reply : Reply = (answer c call run.machine k ask).reply in
    let to : HartState = absorbed ask reply in
    let load = warmth c (loading ask.want) (run.events k) in
    let span = span_of call ask.want reply in
    let point = point_of k ask.state.ic run.turns span in
    let next : Hart → TurnEnd = λ (y : Hart). next_of c call y ask.want reply to.ic in
    let recs : TurnEnd → Hart → List Record → List Record = λ (n : TurnEnd) (y : Hart) (o : List Record). edge_records point run.points ++ (load_record load k y.skipped (word_before run.machine.memory (loading ask.want)) ++ (sc_record reply k ++ (next_records n k y.number to ++ o))) in
    let all_recs : Hart → (ℕ → Hart) → List Record = λ (y : Hart) (g : ℕ → Hart). recs (next y) y (run_over_records (next y) k c.harts g) in
    let after : TurnEnd → Hart → ℕ → Hart = λ (n : TurnEnd) (y : Hart) (bytes : ℕ). hart_after n to (skipped_after load y.skipped) bytes y in
    let f : ℕ → Hart = moved_harts run.harts k s in
    let e : f k ≡ in_state s h = moved_own run.harts k s in
    let en : next (in_state s h) ≡ next h = next_same c call ask.want reply h s to.ic in
    let same : all_recs (f k) f ≡ all_recs h run.harts =
    ap (λ (y : Hart). all_recs y f) e ∙ ap (λ (o : List Record). recs (next (in_state s h)) h o) (over (in_state s h) reply to.ic f) ∙ ap (λ (n : TurnEnd). recs n h []) en ∙ ap (λ (o : List Record). recs (next h) h o) (sym (over h reply to.ic run.harts)) in
    let bytes = run.bytes + total (all_recs h run.harts) in
    let own : after (next (f k)) (f k) (run.bytes + total (all_recs (f k) f)) ≡ after (next h) h bytes =
    ap (λ (rs : List Record). after (next (f k)) (f k) (run.bytes + total rs)) same
    ∙ ap (λ (y : Hart). after (next y) y bytes) e
    ∙ ap (λ (n : TurnEnd). after n (in_state s h) bytes) en
    ∙ own_same (next h) s to (skipped_after load h.skipped) bytes h in
    let are : AreHarts t.harts.items (harts_after (next h) k (after (next h) h bytes) f) =
    subst (λ (y : Hart). AreHarts t.harts.items (harts_after (next h) k y f)) own
    (subst (λ (n : TurnEnd). AreHarts t.harts.items (harts_after n k (after (next (f k)) (f k) (run.bytes + total (all_recs (f k) f))) f)) (ap next e ∙ en) is.harts) in
    record {
      harts = λ j below. are j below ∙ ap Some (same_after (j == k) (next h) _ (in_state s h) (run.harts j));
      caches = subst (λ (n : TurnEnd). AreCaches c t.caches (events_after n k call span run.events)) (ap next e ∙ en) is.caches;
      shadow = is.shadow;
      log = subst (λ (rs : List Record). IsLog t.log (run.stream ++ rs)) same is.log;
      bytes = is.bytes ∙ ap (λ (rs : List Record). run.bytes + total rs) same;
    }

pub stands_on : (old new : PlainParts) (run : Run) → new.start ≡ old.start → new.machine ≡ old.machine → new.turns ≡ old.turns → IsMachine old.start.input.items old.machine run.machine → IsTrace old.start.settings new.trace run → old.turns ≡ run.turns → IsRun new run
stands_on old new run es em et machine trace turns = record {
  machine = subst (λ (x : Start). IsMachine x.input.items new.machine run.machine) (sym es) (subst (λ (x : MachineParts). IsMachine old.start.input.items x run.machine) (sym em) machine);
  trace = subst (λ (x : Start). IsTrace x.settings new.trace run) (sym es) trace;
  turns = et ∙ turns;
}

-- the turn that was taken where hart k was moved on is that of the run
pub taken_there : (p new : PlainParts) (k : ℕ) (on : Trace) (s : HartState) (want : Want) → ((y : Hart) (reply : Reply) (ic : ℕ) (g : ℕ → Hart) → run_over_records (next_of p.start.settings None y want reply ic) k p.start.settings.harts g ≡ [])
    → k < length p.trace.harts.items → IsMoved k s p.trace on → IsNoCall want
    → ◌≡◌ {A = Ask} (record { state = s; want = want }) (ask_at p.start.settings p.start.image (hart_in p.trace.harts.items k)) → IsTrue (is_orderly p.start.settings p.start.image (hart_in p.trace.harts.items k) (record { state = s; want = want }))
    → IsTaken (record p { trace = on }) new k want → (run : Run) → IsRun p run → IsRun new (turn p.start.settings p.start.image run k)
taken_there p new k on s want over within moved no_call ea own taken run is =
    let c = p.start.settings in let h : Hart = hart_in p.trace.harts.items k in
    let asked : Ask = record { state = s; want = want } in
    let there : h ≡ run.harts k = hart_of_run p.trace.harts.items k run.harts is.trace.harts within in
    let is_on : IsRun (record p { trace = on }) (moved_run run k s) = record { machine = is.machine; trace = moved_is c p.trace on run k s within moved is.trace; turns = is.turns } in
    let unguarded : is_guarded c run k want ≡ false =
    subst (λ (y : Hart). ((c.format == 2) && (not (is_cut want) && nat_lt c.log_size (2 * (header_size + (run.bytes - y.headed))))) ≡ false) (moved_own run.harts k s) (taken.unguarded (moved_run run k s) is_on) in
    let by_ask : IsRun new (serve_call c (moved_run run k s) k asked false None).run =
    subst (λ (y : Hart). IsRun new (serve_call c (moved_run run k s) k (ask_here y want) false None).run) (own_moved p.trace on k s moved within) (taken.run (moved_run run k s) is_on) in
    let es : new.start.settings ≡ c = ap (λ (x : Start). x.settings) taken.start in
    let served : IsRun new (serve_call c run k asked false None).run = record {
      machine = by_ask.machine;
      trace = subst (λ (x : RawSettings). IsTrace x new.trace (serve_call c run k asked false None).run) (sym es)
          (served_moved c new.trace run k s asked None over (subst (λ (x : RawSettings). IsTrace x new.trace (serve_call c (moved_run run k s) k asked false None).run) es by_ask.trace));
      turns = by_ask.turns;
    } in
    let at : asked ≡ ask_at c p.start.image (run.harts k) = ea ∙ ap (λ (y : Hart). ask_at c p.start.image y) there in
    let ordered = subst (λ (y : Hart). IsTrue (is_orderly c p.start.image y asked)) there own in
    subst (λ (x : Run). IsRun new x) (turn_is c p.start.image run k asked None at (sym (no_call.call p.start.image run.machine)) ordered)
    (subst (λ (b : Bool). IsRun new (serve_call c run k asked b None).run) (sym unguarded) served)

-- ---- a load or a store that a hart has moved on to

-- hart k has moved on to what it asks, which is this, and asks it there
pub record IsAtAsk (p : PlainParts) (k : ℕ) (on : Trace) (want : Want) : Type 0 where
  pub within : k < length p.trace.harts.items
  pub moved : IsMoved k (ask_at p.start.settings p.start.image (hart_in p.trace.harts.items k)).state p.trace on
  pub is_want : (ask_at p.start.settings p.start.image (hart_in p.trace.harts.items k)).want ≡ want
  pub own : IsTrue (is_orderly p.start.settings p.start.image (hart_in p.trace.harts.items k) (record { state = (ask_at p.start.settings p.start.image (hart_in p.trace.harts.items k)).state; want = want }))
  pub fits : IsTraceFit p.start.settings on p.turns
  pub asks : AsksHere (record p { trace = on }) k want

pub at_ask : (p : PlainParts) (k : ℕ) (code : Program) (on : Trace) (got want : Want) → ((i : Program) (n : ℕ) (s : HartState) → s.ic + n < 2 ^ 64 → IsTrue (orderly i s.ic n (ask_of i n s)))
    → IsTraceFit p.start.settings p.trace p.turns → is_live p k ≡ true → code ≡ p.start.image → got ≡ (ask_at p.start.settings code (hart_in p.trace.harts.items k)).want
    → IsMoved k (ask_at p.start.settings code (hart_in p.trace.harts.items k)).state p.trace on → got ≡ want → is_cut want ≡ false → IsAtAsk p k on want
at_ask p k code on got want each fits alive ec asked m e cut =
    let settings = p.start.settings in let h : Hart = hart_in p.trace.harts.items k in
    let live = live_within p.trace.harts.items k alive in
    let within : k < settings.harts = omega (arith, live.0, fits.harts) in
    let fit = (fits.each k within).fit in
    let ask : Ask = ask_at settings p.start.image h in
    let is_want : ask.want ≡ want = ap (λ (i : Program). (ask_at settings i h).want) (sym ec) ∙ sym asked ∙ e in
    let own : IsTrue (is_orderly settings p.start.image h (record { state = ask.state; want = want })) =
    subst (λ (w : Want). IsTrue (is_orderly settings p.start.image h (record { state = ask.state; want = w }))) is_want (asked_orderly each settings p.start.image h ask fits.settings.limit_high fit.fit refl) in
    let moved : IsMoved k ask.state p.trace on = subst (λ (i : Program). IsMoved k (ask_at settings i h).state p.trace on) ec m in
    let at = own_moved p.trace on k ask.state moved live.0 in
    record {
      within = live.0;
      moved = moved;
      is_want = is_want;
      own = own;
      fits = onward_fit settings p.trace on p.turns k ask.state fits within live.1 (counted_by settings p.start.image h ask.state want cut own).0 moved;
      asks = record {
        hart = within;
        live = ap (λ (y : Hart). y.live) at ∙ live.1;
        orderly = subst (λ (y : Hart). IsTrue (is_orderly settings p.start.image y (ask_here y want))) (sym at) (orderly_there settings p.start.image h ask.state want fit live.1 cut own);
      };
    }

-- its turn is taken in its own place
pub access_taken : (p new : PlainParts) (k : ℕ) (on : Trace) (want : Want) → ((y : Hart) (reply : Reply) (ic : ℕ) → next_of p.start.settings None y want reply ic ≡ counted p.start.settings y ic) → IsNoCall want → IsAtAsk p k on want
    → IsTaken (record p { trace = on }) new k want → (run : Run) → IsRun p run → IsRun new (turn p.start.settings p.start.image run k)
access_taken p new k on want counts no_call here taken =
    let c = p.start.settings in
    let s : HartState = (ask_at c p.start.image (hart_in p.trace.harts.items k)).state in
    taken_there p new k on s want (λ y reply ic g. subst (λ (n : TurnEnd). run_over_records n k c.harts g ≡ []) (sym (counts y reply ic)) (none_over c y ic k c.harts g)) here.within here.moved no_call
    (ap (λ (v : Want). record { state = s; want = v }) (sym here.is_want)) here.own taken

-- it isn't taken
pub swept_aside : (p q : PlainParts) (on : Trace) (want got : Want) → IsOnlySwept (record p { trace = on }) q → got ≡ want → IsAside on p.start p.machine p.turns want q.start q.machine q.trace q.turns got
swept_aside p q on want got swept e = record {
  start_is = swept.start;
  machine_is = swept.machine;
  turns_is = swept.turns;
  want_is = e;
  like = swept_like swept;
}

-- ---- the race log gave up accesses before the turn

-- hart k asks the same after a sweep
pub asks_swept : (p q : PlainParts) (k : ℕ) (want : Want) → IsOnlySwept p q → AsksHere p k want → AsksHere q k want
asks_swept p q k want swept asks = record {
  hart = subst (λ (x : Start). k < x.settings.harts) (sym swept.start) asks.hart;
  live = ap (λ (v : Vec Hart Global). (hart_in v.items k).live) swept.harts ∙ asks.live;
  orderly = subst (λ (x : Start). IsTrue (is_orderly x.settings x.image (hart_in q.trace.harts.items k) (ask_here (hart_in q.trace.harts.items k) want))) (sym swept.start)
      (subst (λ (v : Vec Hart Global). IsTrue (is_orderly p.start.settings p.start.image (hart_in v.items k) (ask_here (hart_in v.items k) want))) (sym swept.harts) asks.orderly);
}

-- a turn that follows a sweep is that of the run before it
pub turned_swept : (p q new : PlainParts) (k : ℕ) (want : Want) → IsOnlySwept p q → IsTurnedHere q new k want → IsTurnedHere p new k want
turned_swept p q new k want swept turned run is =
    let ready = stands_on p q run swept.start swept.machine swept.turns is.machine (like_trace p.start.settings p.trace q.trace run is.trace (swept_like swept)) is.turns in
    subst (λ (v : Vec Hart Global). IsRun new (serve_call p.start.settings run k (ask_here (hart_in v.items k) want) false None).run) swept.harts
    (subst (λ (x : Start). IsRun new (serve_call x.settings run k (ask_here (hart_in q.trace.harts.items k) want) false None).run) swept.start (turned run ready))
