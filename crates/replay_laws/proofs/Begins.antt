-- The point of the run at which an interval begins, if its Header is kept.
use Rattle.replay_laws.proofs.Common.{◌≡◌, ℕ, zero, suc, ◌+◌, ◌<◌, ◌≤◌, Bool, true, false, ◌&&◌, List, [], ◌∷◌, ◌++◌, take, drop, length, length-append, Option, Some, None, refl, sym, ◌∙◌, ap, arith, subst, inl, inr, ◌==◌, ◌≢◌, nat_lt, if◌then◌else◌, false≢true, eq-eqb, eqb_tells, append_assoc, append-nil, Program, Row, RawSettings, HartState, Plan, Event, Clear, geometry_of, warm, Record, Interval, puts, nothing, interval_from, interval_of, Hart, TurnEnd, GoesOn, NewInterval, RunOver, Span, Run, next_records, events_after, own_events, other_events, header, call_of, start, start_state, first_headers, ne_eqb, and_right, and_left}
use Rattle.replay_laws.proofs.Asked.{served_turn, span_to}
use Rattle.replay_laws.proofs.Coming.{IsServed, equal_flip}
use Rattle.replay_laws.proofs.Counts.{Fit, Move, Moves, moved_run, want_at, asked_at, next_by, state_by, warmth_by, word_at, reply_by, point_by, added, served_records, log_from, own_harts, other_harts, own_fit, begun_fit}
use Rattle.replay_laws.proofs.Found.{Passes, FoundOr, pass_all, find_at, turn_passes, turn_finds, next_passes, headers_log, interval_skip}
use Rattle.replay_laws.proofs.Lengths.{extra, rows_by, move_count}
use Rattle.replay_laws.proofs.ServedRows.{served_rows, served_all, all_skip, all_own, number_up, over_live, dead_of, rows_skip}
use Rattle.replay_laws.proofs.Small.{new_small}
use Rattle.replay_laws.proofs.Turns.{turn_records, puts_append}
use Rattle.replay_laws.proofs.Way.{Sound}

abbrev pub there : Option Interval → Bool
there None = false
there (Some v) = true

some_same : (v w : Interval) → Some v ≡ Some w → v ≡ w
some_same v w e = ap (or v) e
  where
    or : Interval → Option Interval → Interval
    or v None = v
    or v (Some w) = w

interval_none : (h n m : ℕ) → interval_of h n (drop m []) ≡ None
interval_none h n zero = refl
interval_none h n (suc m) = refl

-- ---- an interval that begins

-- no word is warm
abbrev Cleared : RawSettings → List Event → Type 0
Cleared c es = (b : ℕ) → warm (geometry_of c) b es ≡ false

-- the run after a list of moves
abbrev pub served_from : RawSettings → Program → Run → List Move → Run
served_from c i run [] = run
served_from c i run (Moves guard k ∷ ks) = served_from c i (moved_run c i guard run k) ks

-- Interval v of h, with number n, begins later in the run: at that run, which so many moves lead to, with those moves left.
-- Before it are the front rows.
pub record Begins (c : RawSettings) (i : Program) (run : Run) (ks : List Move) (h n : ℕ) (v : Interval) : Type 0 where
  pub later : Run
  pub turns : List Move
  pub legal : IsServed c i later turns
  pub fit : Fit c (later.harts h)
  pub fresh : (later.harts h).skipped ≡ 0
  pub cleared : Cleared c (later.events h)
  pub number : (later.harts h).number ≡ n
  pub is : v ≡ interval_from (later.harts h).state (log_from c i later turns h)
  pub rows : served_rows c i run ks h n ≡ served_rows c i later turns h n
  pub front : List Row
  pub all : served_all c i run ks h ≡ front ++ served_all c i later turns h
  pub count : (run.harts h).state.ic + length front ≡ (later.harts h).state.ic
  pub place : ℕ
  pub list : turns ≡ drop place ks
  pub reached : later ≡ served_from c i run (take place ks)

-- it begins at once
begins_here : (c : RawSettings) (i : Program) (h n : ℕ) (ks : List Move) (run : Run) (v : Interval) → IsServed c i run ks → Fit c (run.harts h) → (run.harts h).skipped ≡ 0
    → Cleared c (run.events h) → (run.harts h).number ≡ n → v ≡ interval_from (run.harts h).state (log_from c i run ks h) → Begins c i run ks h n v
begins_here c i h n ks run v l f s w e is = record {
  later = run;
  turns = ks;
  legal = l;
  fit = f;
  fresh = s;
  cleared = w;
  number = e;
  is = is;
  rows = refl;
  front = [];
  all = refl;
  count = omega arith;
  place = 0;
  list = refl;
  reached = refl;
}

-- it begins after a move of another hart, which leaves h
begins_past : (c : RawSettings) (i : Program) (guard : Bool) (h n k : ℕ) (ks : List Move) (run : Run) (v : Interval) → (k == h) ≡ false → (moved_run c i guard run k).harts h ≡ run.harts h
    → Begins c i (moved_run c i guard run k) ks h n v → Begins c i run (Moves guard k ∷ ks) h n v
begins_past c i guard h n k ks run v p is b = record {
  later = b.later;
  turns = b.turns;
  legal = b.legal;
  fit = b.fit;
  fresh = b.fresh;
  cleared = b.cleared;
  number = b.number;
  is = b.is;
  rows = rows_skip c i guard run ks h k n (and_left (k == h) ((run.harts h).number == n) p) ∙ b.rows;
  front = b.front;
  all = all_skip c i guard run ks h k p ∙ b.all;
  count = ap (λ (x : Hart). x.state.ic + length b.front) (sym is) ∙ b.count;
  place = suc b.place;
  list = b.list;
  reached = b.reached;
}

-- it begins after an own move of h without the row of a fault
begins_after : (c : RawSettings) (i : Program) (guard : Bool) (h n : ℕ) (ks : List Move) (run : Run) (v : Interval) → Sound c i → Fit c (run.harts h) → (run.harts h).number < n
    → ((moved_run c i guard run h).harts h).state ≡ state_by c i guard run h → extra (next_by c i guard run h) ≡ 0 → Begins c i (moved_run c i guard run h) ks h n v → Begins c i run (Moves guard h ∷ ks) h n v
begins_after c i guard h n ks run v z f q is none b =
    let rows : List Row = rows_by c i guard run h in
    let whole : length (rows ++ b.front) ≡ length rows + length b.front = length-append rows b.front in
    let turn : (run.harts h).state.ic + length rows ≡ (state_by c i guard run h).ic + extra (next_by c i guard run h) = move_count c i guard run h z f in
    let next : ((moved_run c i guard run h).harts h).state.ic ≡ (state_by c i guard run h).ic = ap (λ (x : HartState). x.ic) is in
    let rest : ((moved_run c i guard run h).harts h).state.ic + length b.front ≡ (b.later.harts h).state.ic = b.count in
    record {
      later = b.later;
      turns = b.turns;
      legal = b.legal;
      fit = b.fit;
      fresh = b.fresh;
      cleared = b.cleared;
      number = b.number;
      is = b.is;
      rows = rows_skip c i guard run ks h h n (and_right (h == h) ((run.harts h).number == n) (ne_eqb (run.harts h).number n (λ u. absurd (omega arith)))) ∙ b.rows;
      front = rows ++ b.front;
      all = all_own c i guard run ks h ∙ (ap (λ x. rows ++ x) b.all ∙ sym (append_assoc rows b.front (served_all c i b.later b.turns h)));
      count = omega (arith, whole, turn, next, rest, none);
      place = suc b.place;
      list = b.list;
      reached = b.reached;
    }

-- ---- the Headers of a move

no_head : (run : Run) (h n k : ℕ) → (k ≡ h → ((run.harts h).number + 1 == n) ≡ false) → (k == h && ((run.harts k).number + 1 == n)) ≡ false
no_head run h n k f = elim (eqb_tells k h) [
  | inl p ↦ and_right (k == h) ((run.harts k).number + 1 == n) (ap (λ x. (run.harts x).number + 1 == n) p.1 ∙ f p.1)
  | inr p ↦ and_left (k == h) ((run.harts k).number + 1 == n) p.0
]

added_passes : (c : RawSettings) (i : Program) (guard : Bool) (run : Run) (h n k : ℕ) → Passes h n (next_records (next_by c i guard run k) k (run.harts k).number (state_by c i guard run k))
    → Passes h n (added c i guard run k)
added_passes c i guard run h n k p =
    turn_passes h n k (point_by c i guard run k) run.points (warmth_by c i guard run k) (run.harts k).skipped (word_at c i run k) (reply_by c i guard run k) (next_by c i guard run k)
    (run.harts k).number (state_by c i guard run k) c.harts run.harts p

-- a later Header is none of an earlier number
late : (c : RawSettings) (i : Program) (h n : ℕ) (ks : List Move) (run : Run) (m : ℕ) → n ≤ (run.harts h).number
    → interval_of h n (drop m (served_records c i run ks)) ≡ None
late c i h n [] run m b = interval_none h n m
late c i h n (Moves guard k ∷ ks) run m b =
    let p : Passes h n (added c i guard run k) =
    added_passes c i guard run h n k
    (next_passes (next_by c i guard run k) h n k (run.harts k).number (state_by c i guard run k) (no_head run h n k (λ q. ne_eqb ((run.harts h).number + 1) n (λ z. absurd (omega arith))))) in
    let d = pass_all h n (added c i guard run k) (served_records c i (moved_run c i guard run k) ks) m p in
    let up = number_up c i guard run h k in
    d.1 ∙ late c i h n ks (moved_run c i guard run k) d.0 (omega (arith, up))

-- and none comes where the hart is over
dead_late : (c : RawSettings) (i : Program) (h n : ℕ) (ks : List Move) (run : Run) (m : ℕ) → (run.harts h).live ≡ false → IsServed c i run ks
    → interval_of h n (drop m (served_records c i run ks)) ≡ None
dead_late c i h n [] run m e l = interval_none h n m
dead_late c i h n (Moves guard k ∷ ks) run m e l = elim (eqb_tells k h) [
  | inl p ↦ absurd (false≢true (sym e ∙ (ap (λ x. (run.harts x).live) (sym p.1) ∙ l.1)))
  | inr p ↦ (let d = pass_all h n (added c i guard run k) (served_records c i (moved_run c i guard run k) ks) m
      (added_passes c i guard run h n k (next_passes (next_by c i guard run k) h n k (run.harts k).number (state_by c i guard run k) (and_left (k == h) ((run.harts k).number + 1 == n) p.0))) in
      d.1 ∙ dead_late c i h n ks (moved_run c i guard run k) d.0
      (ap (λ (x : Hart). x.live) (other_harts c i guard run h k (next_by c i guard run k) refl (equal_flip k h p.1)) ∙ dead_of (next_by c i guard run k) (run.harts h) e) l.2)
]

-- ---- an interval that is still to begin

-- wherever a suffix of the records to come has the interval, it begins later
abbrev Gives : RawSettings → Program → ℕ → ℕ → List Move → Run → Type 0
Gives c i h n ks run = (m : ℕ) (v : Interval) → interval_of h n (drop m (served_records c i run ks)) ≡ Some v → Begins c i run ks h n v

-- a move that doesn't begin the interval
gives_later : (c : RawSettings) (i : Program) (guard : Bool) (h n k : ℕ) (ks : List Move) (run : Run) → Passes h n (next_records (next_by c i guard run k) k (run.harts k).number (state_by c i guard run k))
    → ((v : Interval) → Begins c i (moved_run c i guard run k) ks h n v → Begins c i run (Moves guard k ∷ ks) h n v) → Gives c i h n ks (moved_run c i guard run k) → Gives c i h n (Moves guard k ∷ ks) run
gives_later c i guard h n k ks run p step rest m v e =
    let d = pass_all h n (added c i guard run k) (served_records c i (moved_run c i guard run k) ks) m (added_passes c i guard run h n k p) in
    step v (rest d.0 v (sym d.1 ∙ e))

-- a move after which the hart is over
gives_none : (c : RawSettings) (i : Program) (guard : Bool) (h n k : ℕ) (ks : List Move) (run : Run) → Passes h n (next_records (next_by c i guard run k) k (run.harts k).number (state_by c i guard run k))
    → ((moved_run c i guard run k).harts h).live ≡ false → IsServed c i (moved_run c i guard run k) ks → Gives c i h n (Moves guard k ∷ ks) run
gives_none c i guard h n k ks run p dead l m v e =
    let d = pass_all h n (added c i guard run k) (served_records c i (moved_run c i guard run k) ks) m (added_passes c i guard run h n k p) in
    absurd (false≢true (ap there (sym (dead_late c i h n ks (moved_run c i guard run k) d.0 dead l) ∙ (sym d.1 ∙ e))))

-- a move that begins an interval clears the hart's cache
begun_clear : (c : RawSettings) (i : Program) (guard : Bool) (run : Run) (h r x : ℕ) → next_by c i guard run h ≡ NewInterval r x → Cleared c ((moved_run c i guard run h).events h)
begun_clear c i true run h r x e b =
    ap (λ (es : List Event). warm (geometry_of c) b es) (ap (λ y. elim y as (λ z. List Event) [ true ↦ Clear ∷ run.events h | false ↦ run.events h ]) (eq-eqb h h refl))
begun_clear c i false run h r x e b = ap (λ (es : List Event). warm (geometry_of c) b es) begun
  where
    call : Option Plan
    call = call_of i run.machine (want_at c i run h)

    words : Option Span
    words = span_to c i run.machine h (want_at c i run h) (asked_at c i run h)

    begun : (served_turn c i run h).events h ≡ Clear ∷ own_events call words (run.events h)
    begun =
        ap (λ (n : TurnEnd). events_after n h call words run.events h) e
        ∙ ap (λ y. elim y as (λ z. List Event) [ true ↦ Clear ∷ own_events call words (run.events h) | false ↦ other_events words (run.events h) ]) (eq-eqb h h refl)

-- a move that begins it
gives_now : (c : RawSettings) (i : Program) (guard : Bool) (h n : ℕ) (ks : List Move) (run : Run) (y x : ℕ) → Sound c i → IsServed c i (moved_run c i guard run h) ks → Fit c (run.harts h)
    → next_by c i guard run h ≡ NewInterval y x → nat_lt 16 y ≡ false → (run.harts h).number + 1 ≡ n → Gives c i h n (Moves guard h ∷ ks) run
gives_now c i guard h n ks run y x z l f e small q m v found =
    let is = own_harts c i guard run h (NewInterval y x) e in
    let r : Run = moved_run c i guard run h in
    let s : HartState = state_by c i guard run h in
    let more : List Record = served_records c i r ks in
    let begun : List Record =
    turn_records h (point_by c i guard run h) run.points (warmth_by c i guard run h) (run.harts h).skipped (word_at c i run h) (reply_by c i guard run h) (NewInterval y x) (run.harts h).number s c.harts run.harts in
    let is_added : added c i guard run h ≡ begun =
    ap (λ w. turn_records h (point_by c i guard run h) run.points (warmth_by c i guard run h) (run.harts h).skipped (word_at c i run h) (reply_by c i guard run h) w (run.harts h).number s c.harts run.harts) e in
    let number : (r.harts h).number ≡ n = ap (λ (w : Hart). w.number) is ∙ q in
    let state : (r.harts h).state ≡ s = ap (λ (w : Hart). w.state) is in
    let same : interval_of h n (drop m (added c i guard run h ++ more)) ≡ interval_of h n (drop m (begun ++ more)) = ap (λ w. interval_of h n (drop m (w ++ more))) is_added in
    let none : extra (next_by c i guard run h) ≡ 0 = ap extra e ∙ ap (λ (b : Bool). if b then 1 else 0) small in
    elim (turn_finds h n (point_by c i guard run h) run.points (warmth_by c i guard run h) (run.harts h).skipped (word_at c i run h) (reply_by c i guard run h) y x
    (run.harts h).number s c.harts run.harts more m q) [
      | inl w ↦ begins_after c i guard h n ks run v z f (omega (arith, q)) state none
          (begins_here c i h n ks r v l (begun_fit c i guard run h y x z e f) (ap (λ (w : Hart). w.skipped) is) (begun_clear c i guard run h y x e) number
          (some_same v _ (sym found ∙ (same ∙ w)) ∙ ap (λ u. interval_from u (puts h more nothing)) (sym state)))
      | inr w ↦ absurd (false≢true (ap there (sym (same ∙ (w.1 ∙ late c i h n ks r w.0 (omega (arith, number)))) ∙ found)))
    ]

-- h's own move before it
gives_own : (x : TurnEnd) (c : RawSettings) (i : Program) (guard : Bool) (h n : ℕ) (ks : List Move) (run : Run) → Sound c i → IsServed c i (moved_run c i guard run h) ks → Fit c (run.harts h)
    → next_by c i guard run h ≡ x → (run.harts h).number < n → (((moved_run c i guard run h).harts h).number < n → Fit c ((moved_run c i guard run h).harts h) → Gives c i h n ks (moved_run c i guard run h))
    → Gives c i h n (Moves guard h ∷ ks) run
gives_own GoesOn c i guard h n ks run z l f e q rest =
    let is = own_harts c i guard run h GoesOn e in
    gives_later c i guard h n h ks run (subst (λ (w : TurnEnd). Passes h n (next_records w h (run.harts h).number (state_by c i guard run h))) (sym e) tt)
    (λ v b. begins_after c i guard h n ks run v z f q (ap (λ (w : Hart). w.state) is) (ap extra e) b) (rest (subst (λ (w : Hart). w.number < n) (sym is) q) (own_fit c i guard run h z e f))
gives_own (NewInterval y x) c i guard h n ks run z l f e q rest =
    let is = own_harts c i guard run h (NewInterval y x) e in
    let small : nat_lt 16 y ≡ false = new_small c i guard run h y x e in
    elim (eqb_tells ((run.harts h).number + 1) n) [
      | inl p ↦ gives_now c i guard h n ks run y x z l f e small p.1
      | inr p ↦ gives_later c i guard h n h ks run
          (next_passes (next_by c i guard run h) h n h (run.harts h).number (state_by c i guard run h) (and_right (h == h) ((run.harts h).number + 1 == n) p.0))
          (λ v b. begins_after c i guard h n ks run v z f q (ap (λ (w : Hart). w.state) is) (ap extra e ∙ ap (λ (b : Bool). if b then 1 else 0) small) b)
          (rest (subst (λ (w : Hart). w.number < n) (sym is) (let u : (run.harts h).number + 1 ≢ n = p.1 in omega (arith, u, q))) (begun_fit c i guard run h y x z e f))
    ]
gives_own x c i guard h n ks run z l f e q rest =
    gives_none c i guard h n h ks run (subst (λ (w : TurnEnd). Passes h n (next_records w h (run.harts h).number (state_by c i guard run h))) (sym e) (refl, tt))
    (ap (λ (w : Hart). w.live) (own_harts c i guard run h x e)) l

-- another hart's move before it
gives_other : (x : TurnEnd) (c : RawSettings) (i : Program) (guard : Bool) (h n k : ℕ) (ks : List Move) (run : Run) → IsServed c i (moved_run c i guard run k) ks → Fit c (run.harts h)
    → (k == h) ≡ false
    → (h == k) ≡ false → next_by c i guard run k ≡ x → (run.harts h).number < n
    → (((moved_run c i guard run k).harts h).number < n → Fit c ((moved_run c i guard run k).harts h) → Gives c i h n ks (moved_run c i guard run k)) → Gives c i h n (Moves guard k ∷ ks) run
gives_other x c i guard h n k ks run l f p p2 e q rest = by_next x e
  where
    passing : Passes h n (next_records (next_by c i guard run k) k (run.harts k).number (state_by c i guard run k))
    passing = next_passes (next_by c i guard run k) h n k (run.harts k).number (state_by c i guard run k) (and_left (k == h) ((run.harts k).number + 1 == n) p)

    left : (moved_run c i guard run k).harts h ≡ run.harts h → Gives c i h n (Moves guard k ∷ ks) run
    left is =
        gives_later c i guard h n k ks run passing (λ v b. begins_past c i guard h n k ks run v p is b) (rest (subst (λ (w : Hart). w.number < n) (sym is) q) (subst (λ (w : Hart). Fit c w) (sym is) f))

    by_next : (y : TurnEnd) → next_by c i guard run k ≡ y → Gives c i h n (Moves guard k ∷ ks) run
    by_next (RunOver r y) d = gives_none c i guard h n k ks run passing (ap (λ (w : Hart). w.live) (other_harts c i guard run h k (RunOver r y) d p2) ∙ over_live r y (run.harts h)) l
    by_next y d = left (other_harts c i guard run h k y d p2)

gives : (c : RawSettings) (i : Program) (h n : ℕ) → Sound c i → (ks : List Move) (run : Run) → IsServed c i run ks → (run.harts h).number < n → Fit c (run.harts h)
    → Gives c i h n ks run
gives c i h n z [] run l q f = λ m v e. absurd (false≢true (ap there (sym (interval_none h n m) ∙ e)))
gives c i h n z (Moves guard k ∷ ks) run l q f = elim (eqb_tells k h) [
  | inl p ↦ subst (λ (j : ℕ). IsServed c i (moved_run c i guard run j) ks → Gives c i h n (Moves guard j ∷ ks) run) (sym p.1)
      (λ d. gives_own (next_by c i guard run h) c i guard h n ks run z d f refl q (λ u y. gives c i h n z ks (moved_run c i guard run h) d u y)) l.2
  | inr p ↦ gives_other (next_by c i guard run k) c i guard h n k ks run l.2 f p.0 (equal_flip k h p.1) refl q (λ u y. gives c i h n z ks (moved_run c i guard run k) l.2 u y)
]

-- ---- from the start

moved_stream : (c : RawSettings) (i : Program) (guard : Bool) (run : Run) (k : ℕ) → (moved_run c i guard run k).stream ≡ run.stream ++ added c i guard run k
moved_stream c i true run k = refl
moved_stream c i false run k = refl

pub stream_is : (c : RawSettings) (i : Program) (ks : List Move) (run : Run) → (served_from c i run ks).stream ≡ run.stream ++ served_records c i run ks
stream_is c i [] run = sym (append-nil run.stream)
stream_is c i (Moves guard k ∷ ks) run =
    stream_is c i ks (moved_run c i guard run k)
    ∙ (ap (λ rs. rs ++ served_records c i (moved_run c i guard run k) ks) (moved_stream c i guard run k) ∙ append_assoc run.stream (added c i guard run k) (served_records c i (moved_run c i guard run k) ks))

headers_pass : (c : RawSettings) (i : Program) (h n k count : ℕ) → ((j : ℕ) → k ≤ j → (j == h && (0 == n)) ≡ false) → Passes h n (first_headers c i k count)
headers_pass c i h n k zero f = tt
headers_pass c i h n k (suc count) f = (f k (omega arith), headers_pass c i h n (k + 1) count (λ j g. f j (omega arith)))

-- the first Header of h, if it comes next
here : (c : RawSettings) (i : Program) (h count : ℕ) (more : List Record) (m : ℕ)
    → FoundOr h 0 (start_state c i h) (drop m (header h 0 (start_state c i h) ∷ (first_headers c i (h + 1) count ++ more))) more
here c i h count more m =
    let rest : List Record = first_headers c i (h + 1) count in
    elim (find_at h 0 (start_state c i h) [] (rest ++ more) m tt) [
      | inl e ↦ inl (e ∙ ap (λ l. Some (interval_from (start_state c i h) l)) (puts_append h rest more nothing ∙ headers_log c i h (h + 1) count (puts h more nothing)))
      | inr z ↦ (let d = pass_all h 0 rest more z.0 (headers_pass c i h 0 (h + 1) count (λ j g. and_left (j == h) true (ne_eqb j h (λ q. absurd (omega arith))))) in inr (d.0, z.1 ∙ d.1))
    ]

-- and if another hart's comes before it
past : (c : RawSettings) (i : Program) (h k : ℕ) (rest more : List Record) → (k == h) ≡ false → ((z : ℕ) → FoundOr h 0 (start_state c i h) (drop z (rest ++ more)) more)
    → (m : ℕ) → FoundOr h 0 (start_state c i h) (drop m (header k 0 (start_state c i k) ∷ (rest ++ more))) more
past c i h k rest more e again zero = elim (again 0) [
  | inl z ↦ inl (interval_skip (header k 0 (start_state c i k)) h 0 (rest ++ more) (and_left (k == h) true e) ∙ z)
  | inr z ↦ inr (z.0, interval_skip (header k 0 (start_state c i k)) h 0 (rest ++ more) (and_left (k == h) true e) ∙ z.1)
]
past c i h k rest more e again (suc m) = again m

-- the first Header of h is found, or dropped
first_find : (c : RawSettings) (i : Program) (h : ℕ) (more : List Record) (count k m : ℕ) → k ≤ h → h < k + count
    → FoundOr h 0 (start_state c i h) (drop m (first_headers c i k count ++ more)) more
first_find c i h more zero k m a b = absurd (omega arith)
first_find c i h more (suc count) k m a b = elim (eqb_tells k h) [
  | inl p ↦ subst (λ (j : ℕ). FoundOr h 0 (start_state c i h) (drop m (header j 0 (start_state c i j) ∷ (first_headers c i (j + 1) count ++ more))) more) (sym p.1) (here c i h count more m)
  | inr p ↦ past c i h k (first_headers c i (k + 1) count) more p.0 (λ z. first_find c i h more count (k + 1) z (let f : k ≢ h = p.1 in omega (arith, f)) (omega arith)) m
]

pub start_fit : (c : RawSettings) (i : Program) (h : ℕ) (input : List ℕ) → Fit c ((start c i input).harts h)
start_fit c i h input = record { live = refl; within = omega arith }

-- ---- a hart that the run doesn't have

headers_absent : (c : RawSettings) (i : Program) (h n k count : ℕ) → k + count ≤ h → Passes h n (first_headers c i k count)
headers_absent c i h n k zero b = tt
headers_absent c i h n k (suc count) b =
    (and_left (k == h) (0 == n) (ne_eqb k h (λ q. absurd (omega arith))), headers_absent c i h n (k + 1) count (omega arith))

absent : (c : RawSettings) (i : Program) (h n : ℕ) (ks : List Move) (run : Run) (m : ℕ) → c.harts ≤ h → IsServed c i run ks → interval_of h n (drop m (served_records c i run ks)) ≡ None
absent c i h n [] run m b l = interval_none h n m
absent c i h n (Moves guard k ∷ ks) run m b l =
    let other : (k == h) ≡ false = ne_eqb k h (let g = l.0 in λ q. absurd (omega arith)) in
    let p = next_passes (next_by c i guard run k) h n k (run.harts k).number (state_by c i guard run k) (and_left (k == h) ((run.harts k).number + 1 == n) other) in
    let d = pass_all h n (added c i guard run k) (served_records c i (moved_run c i guard run k) ks) m (added_passes c i guard run h n k p) in
    d.1 ∙ absent c i h n ks (moved_run c i guard run k) d.0 b l.2

-- no suffix of the stream has an interval of it
pub suffix_absent : (c : RawSettings) (i : Program) (input : List ℕ) (b : List Move) (h n : ℕ) → c.harts ≤ h → IsServed c i (start c i input) b → (m : ℕ)
    → interval_of h n (drop m (served_from c i (start c i input) b).stream) ≡ None
suffix_absent c i input b h n above l m =
    let more : List Record = served_records c i (start c i input) b in
    let d = pass_all h n (first_headers c i 0 c.harts) more m (headers_absent c i h n 0 c.harts (omega arith)) in
    ap (λ rs. interval_of h n (drop m rs)) (stream_is c i b (start c i input)) ∙ (d.1 ∙ absent c i h n b (start c i input) d.0 above l)

-- the interval that a suffix of the stream has begins in the run
pub suffix_begins : (c : RawSettings) (i : Program) (input : List ℕ) (b : List Move) (h n : ℕ) → Sound c i → h < c.harts → IsServed c i (start c i input) b → (m : ℕ) (v : Interval)
    → interval_of h n (drop m (served_from c i (start c i input) b).stream) ≡ Some v → Begins c i (start c i input) b h n v
suffix_begins c i input b h n z g l m v e = from_headers n (ap (λ rs. interval_of h n (drop m rs)) (sym (stream_is c i b (start c i input))) ∙ e)
  where
    more : List Record
    more = served_records c i (start c i input) b

    from_headers : (n : ℕ) → interval_of h n (drop m (first_headers c i 0 c.harts ++ more)) ≡ Some v → Begins c i (start c i input) b h n v
    from_headers zero e =
        elim (first_find c i h more c.harts 0 m (omega arith) (omega arith)) [
          | inl w ↦ begins_here c i h 0 b (start c i input) v l (start_fit c i h input) refl (λ u. refl) refl (some_same v _ (sym e ∙ w))
          | inr w ↦ absurd (false≢true (ap there (sym (w.1 ∙ late c i h 0 b (start c i input) w.0 (omega arith)) ∙ e)))
        ]
    from_headers (suc n) e =
        let d =
        pass_all h (suc n) (first_headers c i 0 c.harts) more m
        (headers_pass c i h (suc n) 0 c.harts (λ j y. and_right (j == h) (0 == suc n) (ne_eqb 0 (suc n) (λ q. absurd (omega arith))))) in
        gives c i h (suc n) z b (start c i input) l (omega arith) (start_fit c i h input) d.0 v (sym d.1 ∙ e)
