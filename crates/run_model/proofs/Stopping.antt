-- Lists of harts that are set one by one.
use Rattle.run_model.proofs.Common.{◌≡◌, ℕ, zero, suc, ◌+◌, ◌<◌, ◌≤◌, Bool, true, false, not, ◌&&◌, ◌==◌, List, [], ◌∷◌, ◌++◌, length, Some, refl, sym, ◌∙◌, ap, subst, arith, inl, inr, length-set, slice_get, slice_set, get_or, ◌≢◌, if◌then◌else◌, eqb_tells, get_or-set_same, get_or-set_other, append_assoc, append-nil, slice_get-get_or, get_or_from_slice_get, Record, End, HartState, Shadow, Hart, Trace, TurnEnd, GoesOn, NewInterval, HartOver, RunOver, other_after, harts_after, stopped_records, run_over_records, next_records, mark, AreHarts, others_after, stopped_at, stopped_below, stop_record, stop_records, taken, steps_in, IsSwept, GivesUpKnown, is_walk_due, clears, EndsTurn, RawSettings, Plan, Ask, Reply, Warm, Log, absorbed, next_of, hart_after, skipped_after, IsLog, hart_in, Option, harts_by, with_ends}
use Rattle.run_model.proofs.Owns.{own_after}
use Rattle.run_model.specs.Represents.Plain.{is_end}

-- hart k of a list in which one was set
pub set_one : (hs : List Hart) (n k : ℕ) (t y : Hart) (g : ℕ → Hart) → AreHarts hs g → n < length hs → k < length hs → slice_get (slice_set hs n t) k ≡ Some (elim (k == n) [ true ↦ t | false ↦ g k ])
set_one hs n k t y g are within below =
    let there : k < length (slice_set hs n t) = rw (length-set hs n t) below in
    elim (eqb_tells k n) [
      | inl p ↦ slice_get-get_or (slice_set hs n t) k y there ∙ ap (λ (j : ℕ). Some (get_or (slice_set hs n t) j y)) p.1 ∙ ap Some (get_or-set_same hs n t y within) ∙ sym (ap (λ (b : Bool). Some (elim b as (λ x. Hart) [ true ↦ t | false ↦ g k ])) p.0)
      | inr p ↦ slice_get-get_or (slice_set hs n t) k y there ∙ ap Some (get_or-set_other hs n k t y p.1) ∙ ap Some (get_or_from_slice_get hs k (g k) y (are k below)) ∙ sym (ap (λ (b : Bool). Some (elim b as (λ x. Hart) [ true ↦ t | false ↦ g k ])) p.0)
    ]

pub are_set : (hs : List Hart) (n : ℕ) (t : Hart) (g f : ℕ → Hart) → AreHarts hs g → n < length hs → ((k : ℕ) → elim (k == n) as (λ x. Hart) [ true ↦ t | false ↦ g k ] ≡ f k) → AreHarts (slice_set hs n t) f
are_set hs n t g f are within same k below =
    let inside : k < length hs = omega (arith, below, length-set hs n t) in
    set_one hs n k t t g are within inside ∙ ap Some (same k)

-- a hart that the stop didn't reach
pub below_same : (own n j : ℕ) (f : ℕ → Hart) → n ≤ j → stopped_below own n f j ≡ f j
below_same own zero j f h = refl
below_same own (suc n) j f h = elim (eqb_tells j n) [
  | inl p ↦ absurd (too_low j n p.1 h)
  | inr p ↦ ap (λ (b : Bool). elim b as (λ x. Hart) [ true ↦ stopped_at own f j | false ↦ stopped_below own n f j ]) p.0 ∙ below_same own n j f (omega (arith, h))
]
  where
    too_low : (j n : ℕ) → j ≡ n → suc n ≤ j → ⊥
    too_low j n e h = omega (arith, e, h)

none_below : (j : ℕ) → j < 0 → ⊥
none_below j h = omega (arith, h)

-- a hart that is
pub below_stopped : (own n j : ℕ) (f : ℕ → Hart) → j < n → stopped_below own n f j ≡ stopped_at own f j
below_stopped own zero j f h = absurd (none_below j h)
below_stopped own (suc n) j f h = elim (eqb_tells j n) [
  | inl p ↦ ap (λ (b : Bool). elim b as (λ x. Hart) [ true ↦ stopped_at own f j | false ↦ stopped_below own n f j ]) p.0
  | inr p ↦ ap (λ (b : Bool). elim b as (λ x. Hart) [ true ↦ stopped_at own f j | false ↦ stopped_below own n f j ]) p.0 ∙ below_stopped own n j f (lower j n h p.1)
]
  where
    lower : (j n : ℕ) → j < suc n → j ≢ n → j < n
    lower j n h e = omega (arith, h, e)

-- one hart more is stopped
pub stop_more : (hs : List Hart) (own n : ℕ) (t : Hart) (f : ℕ → Hart) → AreHarts hs (stopped_below own n f) → n < length hs → t ≡ stopped_at own f n → AreHarts (slice_set hs n t) (stopped_below own (n + 1) f)
stop_more hs own n t f are within e =
    let up : suc n ≡ n + 1 = omega arith in
    subst (λ (m : ℕ). AreHarts (slice_set hs n t) (stopped_below own m f)) up
    (are_set hs n t (stopped_below own n f) (stopped_below own (suc n) f) are within
    (λ k. elim (eqb_tells k n) [
      | inl p ↦ ap (λ (b : Bool). elim b as (λ x. Hart) [ true ↦ t | false ↦ stopped_below own n f k ]) p.0 ∙ e ∙ sym (ap (stopped_at own f) p.1) ∙ sym (ap (λ (b : Bool). elim b as (λ x. Hart) [ true ↦ stopped_at own f k | false ↦ stopped_below own n f k ]) p.0)
      | inr p ↦ ap (λ (b : Bool). elim b as (λ x. Hart) [ true ↦ t | false ↦ stopped_below own n f k ]) p.0 ∙ sym (ap (λ (b : Bool). elim b as (λ x. Hart) [ true ↦ stopped_at own f k | false ↦ stopped_below own n f k ]) p.0)
    ]))

-- the hart at a place, in a list that represents harts
pub hart_there : (hs : List Hart) (own n : ℕ) (d : Hart) (f : ℕ → Hart) → AreHarts hs (stopped_below own n f) → n < length hs → f n ≡ get_or hs n d
hart_there hs own n d f are within = sym (get_or_from_slice_get hs n (stopped_below own n f n) d (are n within) ∙ below_same own n n f (omega arith))

-- the Ends in the two orders of recursion
one_first : (b : Bool) (j : ℕ) (h : Hart) (rs : List Record) → elim b as (λ x. List Record) [ true ↦ End j (mark h.state.ic 5 0) ∷ rs | false ↦ rs ] ≡ elim b as (λ x. List Record) [ true ↦ End j (mark h.state.ic 5 0) ∷ [] | false ↦ [] ] ++ rs
one_first true j h rs = refl
one_first false j h rs = refl

stop_both : (m own j : ℕ) (f : ℕ → Hart) → stop_records own j f ++ stopped_records own j m f ≡ stop_records own (j + m) f
stop_both zero own j f =
    let end : j ≡ j + 0 = omega arith in
    append-nil (stop_records own j f) ∙ ap (λ (n : ℕ). stop_records own n f) end
stop_both (suc m) own j f =
    let first : stopped_records own j (suc m) f ≡ stop_record own j (f j) ++ stopped_records own (j + 1) m f = one_first (not (j == own) && (f j).live) j (f j) (stopped_records own (j + 1) m f) in
    let up : suc j ≡ j + 1 = omega arith in
    let same : stop_records own j f ++ stop_record own j (f j) ≡ stop_records own (j + 1) f = ap (λ (n : ℕ). stop_records own n f) up in
    let end : j + 1 + m ≡ j + suc m = omega arith in
    ap (λ (rs : List Record). stop_records own j f ++ rs) first
    ∙ sym (append_assoc (stop_records own j f) (stop_record own j (f j)) (stopped_records own (j + 1) m f))
    ∙ ap (λ (rs : List Record). rs ++ stopped_records own (j + 1) m f) same
    ∙ stop_both m own (j + 1) f
    ∙ ap (λ (n : ℕ). stop_records own n f) end

pub stops_are : (own n : ℕ) (f : ℕ → Hart) → stop_records own n f ≡ stopped_records own 0 n f
stops_are own n f =
    let whole : 0 + n ≡ n = omega arith in
    sym (stop_both n own 0 f ∙ ap (λ (m : ℕ). stop_records own m f) whole)

-- one hart's Ends more
pub stops_more : (own n : ℕ) (f : ℕ → Hart) (rs : List Record) (h : Hart) → f n ≡ h → (rs ++ stop_records own n f) ++ stop_record own n h ≡ rs ++ stop_records own (n + 1) f
stops_more own n f rs h e =
    let up : suc n ≡ n + 1 = omega arith in
    append_assoc rs (stop_records own n f) (stop_record own n h)
    ∙ ap (λ (x : Hart). rs ++ (stop_records own n f ++ stop_record own n x)) (sym e)
    ∙ ap (λ (m : ℕ). rs ++ stop_records own m f) up

pub all_stopped : (hs : List Hart) (own n : ℕ) (f : ℕ → Hart) → AreHarts hs (stopped_below own n f) → n ≡ length hs → AreHarts hs (stopped_at own f)
all_stopped hs own n f are whole k below = are k below ∙ ap Some (below_stopped own n k f (omega (arith, below, whole)))

-- the harts, of which the one whose turn it was is set ahead of the others
abbrev pub with_own : ℕ → Hart → (ℕ → Hart) → ℕ → Hart
with_own own t f j = elim (j == own) [ true ↦ t | false ↦ f j ]

pub own_set : (hs : List Hart) (own : ℕ) (t : Hart) (f : ℕ → Hart) → AreHarts hs f → own < length hs → AreHarts (slice_set hs own t) (with_own own t f)
own_set hs own t f are within = are_set hs own t f (with_own own t f) are within (λ k. refl)

after_by : (next : TurnEnd) (b : Bool) (t x : Hart) → elim b as (λ z. Hart) [ true ↦ elim b as (λ z. Hart) [ true ↦ t | false ↦ x ] | false ↦ other_after next (elim b as (λ z. Hart) [ true ↦ t | false ↦ x ]) ] ≡ elim b as (λ z. Hart) [ true ↦ t | false ↦ other_after next x ]
after_by next true t x = refl
after_by next false t x = refl

-- they are those after the turn, once the others are
pub others_then : (next : TurnEnd) (hs : List Hart) (own : ℕ) (t : Hart) (f : ℕ → Hart) → AreHarts hs (others_after next own (with_own own t f)) → AreHarts hs (harts_after next own t f)
others_then next hs own t f are k below = are k below ∙ ap Some (after_by next (k == own) t (f k))

-- and the Ends of the others are the same
one_end : (b : Bool) (j : ℕ) (t h : Hart) (rs : List Record)
    → elim (not b && (elim b as (λ z. Hart) [ true ↦ t | false ↦ h ]).live) as (λ z. List Record) [ true ↦ End j (mark (elim b as (λ z. Hart) [ true ↦ t | false ↦ h ]).state.ic 5 0) ∷ rs | false ↦ rs ]
    ≡ elim (not b && h.live) as (λ z. List Record) [ true ↦ End j (mark h.state.ic 5 0) ∷ rs | false ↦ rs ]
one_end true j t h rs = refl
one_end false j t h rs = refl

stops_with_own : (n own j : ℕ) (t : Hart) (f : ℕ → Hart) → stopped_records own j n (with_own own t f) ≡ stopped_records own j n f
stops_with_own zero own j t f = refl
stops_with_own (suc n) own j t f =
    one_end (j == own) j t (f j) (stopped_records own (j + 1) n (with_own own t f))
    ∙ ap (λ (rs : List Record). elim (not (j == own) && (f j).live) as (λ z. List Record) [ true ↦ End j (mark (f j).state.ic 5 0) ∷ rs | false ↦ rs ]) (stops_with_own n own (j + 1) t f)

pub ends_with_own : (next : TurnEnd) (own n : ℕ) (t : Hart) (f : ℕ → Hart) → run_over_records next own n (with_own own t f) ≡ run_over_records next own n f
ends_with_own GoesOn own n t f = refl
ends_with_own (NewInterval reason value) own n t f = refl
ends_with_own (HartOver reason value) own n t f = refl
ends_with_own (RunOver reason value) own n t f = stops_with_own n own 0 t f

-- the records of a turn, by what the code appends one after the other
pub ends_are : (n m : TurnEnd) (own : ℕ) (x h t : Hart) (s : HartState) (hs kept : List Hart) (f : ℕ → Hart) (rs : List Record) → n ≡ m → x ≡ h → length kept ≡ length hs
    → (rs ++ next_records n own x.number s) ++ run_over_records n own (length kept) (with_own own t f) ≡ rs ++ next_records m own h.number s ++ run_over_records m own (length hs) f
ends_are n m own x h t s hs kept f rs en ex el =
    ap (λ (ys : List Record). (rs ++ next_records n own x.number s) ++ ys) (ends_with_own n own (length kept) t f)
    ∙ ap (λ (l : ℕ). (rs ++ next_records n own x.number s) ++ run_over_records n own l f) el
    ∙ ap (λ (y : Hart). (rs ++ next_records n own y.number s) ++ run_over_records n own (length hs) f) ex
    ∙ ap (λ (j : TurnEnd). (rs ++ next_records j own h.number s) ++ run_over_records j own (length hs) f) en

-- hart k, which was this one, took in the reply and what comes next, and the log its End and its next Header
pub record IsTurnTaken (c : RawSettings) (call : Option Plan) (h : Hart) (k : ℕ) (ask : Ask) (reply : Reply) (load : Option Warm) (n : TurnEnd) (own : Hart) (old new : Log) : Type 0 where
  pub next : n ≡ next_of c call h ask.want reply (absorbed ask reply).ic
  pub own_is : own ≡ hart_after n (absorbed ask reply) (skipped_after load h.skipped) new.bytes h
  pub holds : (rs : List Record) → IsLog old rs → IsLog new (rs ++ next_records n k h.number (absorbed ask reply))

-- the harts once the others were ended
pub finished_harts : {c : RawSettings} {call : Option Plan} {k : ℕ} {ask : Ask} {reply : Reply} {load : Option Warm} {n : TurnEnd} {own : Hart} {old log : Log} (hs begun ended : List Hart) (bytes : ℕ) (f : ℕ → Hart)
    → IsTurnTaken c call (hart_in hs k) k ask reply load n own old log → k < length hs → begun ≡ slice_set hs k own → ((s : HartState) (skipped : ℕ) (h : Hart) → hart_after n s skipped log.bytes h ≡ hart_after n s skipped bytes h)
    → ((g : ℕ → Hart) → AreHarts begun g → AreHarts ended (others_after n k g)) → AreHarts hs f → AreHarts ended (harts_by c call hs k ask reply load bytes f)
finished_harts {c} {call} {k} {ask} {reply} {load} {n} {own} {old} {log} hs begun ended bytes f t within set headed others are =
    let h : Hart = hart_in hs k in
    let s = absorbed ask reply in
    let m = next_of c call h ask.want reply s.ic in
    let own_is = own_after load h h own s n m log.bytes bytes refl t.next t.own_is (headed s (skipped_after load h.skipped) h) in
    let start = subst (λ (xs : List Hart). AreHarts xs (with_own k own f)) (sym set) (own_set hs k own f are within) in
    subst (λ (y : Hart). AreHarts ended (harts_after m k y f)) own_is (subst (λ (j : TurnEnd). AreHarts ended (harts_after j k own f)) t.next (others_then n ended k own f (others (with_own k own f) start)))

-- the log once the others were ended
pub finished_log : {c : RawSettings} {call : Option Plan} {k : ℕ} {ask : Ask} {reply : Reply} {load : Option Warm} {n : TurnEnd} {own : Hart} {old log : Log} (hs begun : List Hart) (ended : Log) (f : ℕ → Hart) (rs : List Record)
    → IsTurnTaken c call (hart_in hs k) k ask reply load n own old log → k < length hs → begun ≡ slice_set hs k own
    → ((g : ℕ → Hart) (ys : List Record) → AreHarts begun g → IsLog log ys → IsLog ended (ys ++ run_over_records n k (length begun) g)) → AreHarts hs f → IsLog old rs → IsLog ended (with_ends c call hs k ask reply f rs)
finished_log {c} {call} {k} {ask} {reply} {load} {n} {own} {old} {log} hs begun ended f rs t within set ends are held =
    let h : Hart = hart_in hs k in
    let start = subst (λ (xs : List Hart). AreHarts xs (with_own k own f)) (sym set) (own_set hs k own f are within) in
    let count = ap (λ (xs : List Hart). length xs) set ∙ length-set hs k own in
    subst (λ (ys : List Record). IsLog ended ys) (ends_are n _ k h h own (absorbed ask reply) hs begun f rs t.next refl count) (ends (with_own k own f) _ start (t.holds rs held))

-- what a turn leaves, by what the code does one after the other: to a race log that is the old one, by harts that are the new
pub is_finished : (old new : Trace) (k : ℕ) (n m : TurnEnd) (s : Shadow) (hs : List Hart) → n ≡ m → s ≡ old.shadow → hs ≡ new.harts.items → length new.harts.items ≡ length old.harts.items → length new.caches ≡ length old.caches
    → ((j : ℕ) → steps_in new.caches j ≡ (if j == k then steps_in old.caches j + clears n else steps_in old.caches j)) → IsSwept s new.shadow hs → GivesUpKnown (is_end n && is_walk_due s) s new.shadow hs
    → taken new.log.ring ≤ taken old.log.ring + 18 → new.log.ring.size ≡ old.log.ring.size → EndsTurn old new k m
is_finished old new k n m s hs en es eh len count steps swept due took size = subst (λ (x : TurnEnd). EndsTurn old new k x) en (record {
  len = len;
  count = count;
  steps = steps;
  shadow = subst (λ (xs : List Hart). IsSwept old.shadow new.shadow xs) eh (subst (λ (x : Shadow). IsSwept x new.shadow hs) es swept);
  due = subst (λ (xs : List Hart). GivesUpKnown (is_end n && is_walk_due old.shadow) old.shadow new.shadow xs) eh (subst (λ (x : Shadow). GivesUpKnown (is_end n && is_walk_due x) x new.shadow hs) es due);
  took = took;
  size = size;
})

pub over_harts : (next : TurnEnd) (reason value : ℕ) (hs : List Hart) (own : ℕ) (f : ℕ → Hart) → next ≡ RunOver reason value → AreHarts hs (stopped_at own f) → AreHarts hs (others_after next own f)
over_harts next reason value hs own f e are = subst (λ (n : TurnEnd). AreHarts hs (others_after n own f)) (sym e) are

pub over_records : (next : TurnEnd) (reason value own n : ℕ) (f : ℕ → Hart) → next ≡ RunOver reason value → stop_records own n f ≡ run_over_records next own n f
over_records next reason value own n f e = stops_are own n f ∙ ap (λ (x : TurnEnd). run_over_records x own n f) (sym e)
