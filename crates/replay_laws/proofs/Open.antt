-- The replay of an interval that is open in a run is done, with the interval's rows from there on.
use Rattle.replay_laws.proofs.Common.{◌≡◌, ℕ, ◌+◌, ◌-◌, ◌<◌, ◌≤◌, ◌^◌, Bool, true, false, List, [], ◌∷◌, ◌++◌, refl, sym, ◌∙◌, ap, arith, subst, inl, inr, ◌==◌, ◌⊎◌, Option, false≢true, eqb_tells, append-nil, fault_number, Program, EndMark, Fault, Row, RawSettings, HartState, Asks, step, passes, Ask, Want, Cut, Faulted, Event, geometry_of, warm, known, fault_row, Interval, Position, Logged, Replayed, puts, steps, onto, Done, Hart, TurnEnd, GoesOn, NewInterval, HartOver, RunOver, Run, ask_at, by_guard, cleared, budget, loading, warmth, word_before, load_record, sc_record, hart_after, turn_rows, quiet_rows, want_rows, reply_at, and_left}
use Rattle.replay_laws.proofs.Agree.{Agrees, agrees_other}
use Rattle.replay_laws.proofs.Asked.{reply_to, next_to, touched_to, next_at, served_turn}
use Rattle.replay_laws.proofs.Coming.{IsServed, Coming, coming, no_live, equal_flip}
use Rattle.replay_laws.proofs.Counts.{Fit, Move, Moves, moved_run, next_by, want_at, asked_at, next_state, skip_next, log_from, own_turn_log, other_turn_log, own_came, own_bounds, own_harts, other_harts, own_fit}
use Rattle.replay_laws.proofs.Ends.{none_left, plain_marked}
use Rattle.replay_laws.proofs.Lengths.{rows_by}
use Rattle.replay_laws.proofs.Own.{agrees_own}
use Rattle.replay_laws.proofs.Places.{Ahead}
use Rattle.replay_laws.proofs.ServedRows.{served_rows, rows_skip, rows_own, gone_rows, dead_rows, over_live}
use Rattle.replay_laws.proofs.Step.{StillHolds}
use Rattle.replay_laws.proofs.Turned.{Turned, Starts, turned, is_fault, fault_turn, end_turn, not_cut, left_log}
use Rattle.replay_laws.proofs.Turns.{ended_at, end_log}
use Rattle.replay_laws.proofs.Way.{Sound, Way, Came, moved, way}

-- ---- the invariant

-- Interval v of hart h is open in run, ks are the moves that are left, and the replay stands where h's last served ask left it.
pub record Inv (c : RawSettings) (i : Program) (run : Run) (ks : List Move) (h : ℕ) (v : Interval) (lo co : ℕ) (rows : List Row) : Type 0 where
  pub fit : Fit c (run.harts h)
  pub holds : StillHolds v (run.harts h).skipped (log_from c i run ks h) lo co
  pub agrees : Agrees c run h (λ a. known a rows)

abbrev place : Hart → ℕ → ℕ → List Row → Bool → Position
place t lo co rows called = record { state = t.state; loads = lo; conditionals = co; rows = rows; called = called }

abbrev pub done_with : List Row → Replayed
done_with rows = record { rows = rows; outcome = Done }

-- from there the replay is done, with the rows of that interval that are left
abbrev pub Suffices : RawSettings → Program → Run → List Move → ℕ → Interval → ℕ → ℕ → List Row → Bool → Type 0
Suffices c i run ks h v lo co rows called =
    steps i h v (v.mark.ic - (run.harts h).state.ic) (place (run.harts h) lo co rows called) ≡ done_with (onto rows (served_rows c i run ks h (run.harts h).number))

-- and so it is from wherever the replay may stand
abbrev AllSuffice : RawSettings → Program → Run → List Move → ℕ → Interval → Type 0
AllSuffice c i run ks h v = (lo co : ℕ) (rows : List Row) (called : Bool) → Inv c i run ks h v lo co rows → Suffices c i run ks h v lo co rows called

-- ---- another hart's move

agrees_moved : (c : RawSettings) (i : Program) (guard : Bool) (run : Run) (k h : ℕ) (known : ℕ → Option ℕ) → (h == k) ≡ false → Agrees c run h known → Agrees c (moved_run c i guard run k) h known
agrees_moved c i true run k h known e a b own warm_now =
    a b own (ap (λ (x : Bool). warm (geometry_of c) b (elim x as (λ y. List Event) [ true ↦ cleared by_guard (run.events h) | false ↦ run.events h ])) (sym e) ∙ warm_now)
agrees_moved c i false run k h known e a b own warm_now = agrees_other c i run k h known e a b own warm_now

other_goes : (c : RawSettings) (i : Program) (guard : Bool) (h k : ℕ) (ks : List Move) (run : Run) (v : Interval) (lo co : ℕ) (rows : List Row) (called : Bool) → (k == h) ≡ false
    → (h == k) ≡ false → (moved_run c i guard run k).harts h ≡ run.harts h → log_from c i run (Moves guard k ∷ ks) h ≡ log_from c i (moved_run c i guard run k) ks h → Inv c i run (Moves guard k ∷ ks) h v lo co rows
    → AllSuffice c i (moved_run c i guard run k) ks h v → Suffices c i run (Moves guard k ∷ ks) h v lo co rows called
other_goes c i guard h k ks run v lo co rows called p q e g o rest =
    let r : Run = moved_run c i guard run k in
    let held : StillHolds v (run.harts h).skipped (log_from c i r ks h) lo co = subst (λ (l : Logged). StillHolds v (run.harts h).skipped l lo co) g o.holds in
    let inv : Inv c i r ks h v lo co rows = record {
      fit = subst (λ (x : Hart). Fit c x) (sym e) o.fit;
      holds = subst (λ (x : Hart). StillHolds v x.skipped (log_from c i r ks h) lo co) (sym e) held;
      agrees = agrees_moved c i guard run k h (λ a. known a rows) q o.agrees;
    } in
    let done : steps i h v (v.mark.ic - (run.harts h).state.ic) (place (run.harts h) lo co rows called) ≡ done_with (onto rows (served_rows c i r ks h (run.harts h).number)) =
    subst (λ (x : Hart). steps i h v (v.mark.ic - x.state.ic) (place x lo co rows called) ≡ done_with (onto rows (served_rows c i r ks h x.number))) e (rest lo co rows called inv) in
    done ∙ ap (λ x. done_with (onto rows x)) (sym (rows_skip c i guard run ks h k (run.harts h).number (and_left (k == h) ((run.harts h).number == (run.harts h).number) p)))

other_ends : (c : RawSettings) (i : Program) (guard : Bool) (h k : ℕ) (ks : List Move) (run : Run) (v : Interval) (lo co : ℕ) (rows : List Row) (called : Bool) → (k == h) ≡ false
    → ((moved_run c i guard run k).harts h).live ≡ false → log_from c i run (Moves guard k ∷ ks) h ≡ ended_at (run.harts h).state.ic 5 0 → IsServed c i (moved_run c i guard run k) ks
    → Inv c i run (Moves guard k ∷ ks) h v lo co rows → Suffices c i run (Moves guard k ∷ ks) h v lo co rows called
other_ends c i guard h k ks run v lo co rows called p e g l o =
    let now : ℕ = (run.harts h).state.ic in
    let held : StillHolds v (run.harts h).skipped (ended_at now 5 0) lo co = subst (λ (l : Logged). StillHolds v (run.harts h).skipped l lo co) g o.holds in
    let pos : Position = place (run.harts h) lo co rows called in
    let z : v.mark.ic - now ≡ 0 = ap (λ (x : EndMark). x.ic - now) held.mark_is ∙ omega arith in
    ap (λ x. steps i h v x pos) z
    ∙ (plain_marked i h v pos now 5 0 held.mark_is refl refl (none_left h v (run.harts h).skipped (ended_at now 5 0) pos held refl refl)
    ∙ ap (λ x. done_with (onto rows x))
    (sym (rows_skip c i guard run ks h k (run.harts h).number (and_left (k == h) ((run.harts h).number == (run.harts h).number) p) ∙ dead_rows c i h
    (run.harts h).number ks (moved_run c i guard run k) e l)))

other_turn : (n : TurnEnd) (c : RawSettings) (i : Program) (guard : Bool) (h k : ℕ) (ks : List Move) (run : Run) (v : Interval) (lo co : ℕ) (rows : List Row) (called : Bool)
    → next_by c i guard run k ≡ n → (k == h) ≡ false → (h == k) ≡ false → h < c.harts → IsServed c i (moved_run c i guard run k) ks → Inv c i run (Moves guard k ∷ ks) h v lo co rows
    → AllSuffice c i (moved_run c i guard run k) ks h v → Suffices c i run (Moves guard k ∷ ks) h v lo co rows called
other_turn (RunOver r x) c i guard h k ks run v lo co rows called e p q b l o rest =
    other_ends c i guard h k ks run v lo co rows called p (ap (λ (y : Hart). y.live) (other_harts c i guard run h k (RunOver r x) e q) ∙ over_live r x (run.harts h))
    (other_turn_log c i guard run ks h k (RunOver r x) e p q o.fit.live b) l o
other_turn n c i guard h k ks run v lo co rows called e p q b l o rest =
    other_goes c i guard h k ks run v lo co rows called p q (other_harts c i guard run h k n e q) (other_turn_log c i guard run ks h k n e p q o.fit.live b) o rest

-- ---- h's own turn

abbrev quiet_at : RawSettings → Program → Run → ℕ → List Row
quiet_at c i run h = quiet_rows h i (budget c (run.harts h)) (run.harts h).state

-- what an ask that came is
came_of : (i : Program) (from n : ℕ) (a : Ask) → Came i from n a → (a.want ≡ Cut) ⊎ (step i a.state ≡ Asks a.want)
came_of i from n a (inl p) = inl p.0
came_of i from n a (inr p) = inr p.0

came_bound : (c : RawSettings) (i : Program) (t : Hart) (a : Ask) → Sound c i → Fit c t → Came i t.state.ic (budget c t) a → a.state.ic + 1 < 2 ^ 64
came_bound c i t a z f (inl p) = let w = f.within in let b = z.limit in omega (arith, p.1, w, b)
came_bound c i t a z f (inr p) = let w = f.within in let b = z.limit in omega (arith, p.1, w, b)

came_passes : (c : RawSettings) (i : Program) (from n : ℕ) (a : Ask) → Sound c i → Came i from n a → passes i a.want ≡ true
came_passes c i from n a z (inl p) = subst (λ (w : Want). passes i w ≡ true) (sym p.0) refl
came_passes c i from n a z (inr p) = (z.passing a.state a.want p.0).1

pub own_passes : (c : RawSettings) (i : Program) (t : Hart) (h : ℕ) → Sound c i → Fit c t → passes i (ask_at c i t).want ≡ true
own_passes c i t h z f = came_passes c i t.state.ic (budget c t) (ask_at c i t) z (own_came c i t h z f).0

own_starts : (c : RawSettings) (i : Program) (h : ℕ) (ks : List Move) (run : Run) (v : Interval) (lo co : ℕ) (rows : List Row) (called : Bool) → Sound c i
    → Inv c i run (Moves false h ∷ ks) h v lo co rows → Ahead (skip_next c i run h) (end_log (next_at c i run h) (next_state c i run h) (log_from c i (served_turn c i run h) ks h)).loads
    → Starts c i run.machine h (run.harts h) (want_at c i run h) (asked_at c i run h) (run.events h) v (place (run.harts h) lo co rows called) (log_from c i (served_turn c i run h) ks h)
own_starts c i h ks run v lo co rows called z o a =
    let k = own_came c i (run.harts h) h z o.fit in
    record {
      came = came_of i (run.harts h).state.ic (budget c (run.harts h)) (ask_at c i (run.harts h)) k.0;
      bound = came_bound c i (run.harts h) (ask_at c i (run.harts h)) z o.fit k.0;
      holds = subst (λ (l : Logged). StillHolds v (run.harts h).skipped l lo co) (own_turn_log c i false run ks h) o.holds;
      ahead = a;
      agrees = o.agrees;
    }

own_way : (c : RawSettings) (i : Program) (h : ℕ) (run : Run) (v : Interval) (lo co : ℕ) (rows : List Row) (called : Bool) → Sound c i → Fit c (run.harts h)
    → Way i h v (place (run.harts h) lo co rows called) (asked_at c i run h) (quiet_at c i run h)
own_way c i h run v lo co rows called z f =
    (way c i h v (budget c (run.harts h)) (place (run.harts h) lo co rows called) z (let w = f.within in let b = z.limit in omega (arith, w, b))).0

abbrev TurnDone : RawSettings → Program → ℕ → List Move → Run → Interval → ℕ → ℕ → List Row → Bool → TurnEnd → Type 0
TurnDone c i h ks run v lo co rows called n =
    Turned i h v (place (run.harts h) lo co rows called) (next_state c i run h) (turn_rows c i run h)
    (touched_to c i run.machine h (want_at c i run h) (asked_at c i run h)) (served_turn c i run h).machine.memory (skip_next c i run h) n (log_from c i (served_turn c i run h) ks h)

-- a turn after which the interval continues
own_goes : (c : RawSettings) (i : Program) (h : ℕ) (ks : List Move) (run : Run) (v : Interval) (lo co : ℕ) (rows : List Row) (called : Bool) → Sound c i
    → next_at c i run h ≡ GoesOn → Coming ((served_turn c i run h).harts h) (log_from c i (served_turn c i run h) ks h) → Inv c i run (Moves false h ∷ ks) h v lo co rows
    → TurnDone c i h ks run v lo co rows called GoesOn → AllSuffice c i (served_turn c i run h) ks h v → Suffices c i run (Moves false h ∷ ks) h v lo co rows called
own_goes c i h ks run v lo co rows called z e w o d rest =
    let t : Hart = run.harts h in
    let r : Run = served_turn c i run h in
    let s : HartState = next_state c i run h in
    let after : Hart = hart_after GoesOn s (skip_next c i run h) (served_turn c i run h).bytes t in
    let is : r.harts h ≡ after = own_harts c i false run h GoesOn e in
    let x : Position = d.next in
    let l : Logged = log_from c i r ks h in
    let inv : Inv c i r ks h v x.loads x.conditionals x.rows = record {
      fit = own_fit c i false run h z e o.fit;
      holds = subst (λ (y : Hart). StillHolds v y.skipped l x.loads x.conditionals) (sym is) d.held;
      agrees = λ a own g. d.words a ∙ agrees_own c i run h (λ y. known y rows) (own_passes c i t h z o.fit) e o.agrees a own g;
    } in
    let later : steps i h v (v.mark.ic - s.ic) (place after x.loads x.conditionals x.rows x.called) ≡ done_with (onto x.rows (served_rows c i r ks h t.number)) =
    subst (λ (y : Hart). steps i h v (v.mark.ic - y.state.ic) (place y x.loads x.conditionals x.rows x.called) ≡ done_with
    (onto x.rows (served_rows c i r ks h y.number))) is (rest x.loads x.conditionals x.rows x.called inv) in
    let same : x ≡ place after x.loads x.conditionals x.rows x.called =
    ap (λ (y : HartState). record { state = y; loads = x.loads; conditionals = x.conditionals; rows = x.rows; called = x.called }) d.state in
    let to_come : Coming after l = subst (λ (y : Hart). Coming y l) is w in
    let ends : s.ic ≤ v.mark.ic = subst (λ (y : EndMark). s.ic ≤ y.ic) (sym d.held.mark_is) to_come.1 in
    let low : t.state.ic ≤ s.ic = (own_bounds c i false run h z o.fit).0 in
    let count : v.mark.ic - t.state.ic ≡ s.ic - t.state.ic + (v.mark.ic - s.ic) = omega (arith, ends, low) in
    ap (λ y. steps i h v y (place t lo co rows called)) count
    ∙ (d.on (v.mark.ic - s.ic)
    ∙ (ap (steps i h v (v.mark.ic - s.ic)) same
    ∙ (later
    ∙ ap done_with (d.rows (served_rows c i r ks h t.number) ∙ ap (onto rows) (sym (rows_own c i false run ks h))))))

-- a move that ends the interval
own_ends : (c : RawSettings) (i : Program) (guard : Bool) (h : ℕ) (ks : List Move) (run : Run) (v : Interval) (lo co : ℕ) (rows : List Row) (called : Bool)
    → served_rows c i (moved_run c i guard run h) ks h (run.harts h).number ≡ []
    → steps i h v (v.mark.ic - (run.harts h).state.ic) (place (run.harts h) lo co rows called) ≡ done_with (onto rows (rows_by c i guard run h ++ []))
    → Suffices c i run (Moves guard h ∷ ks) h v lo co rows called
own_ends c i guard h ks run v lo co rows called e g = g ∙ ap (λ x. done_with (onto rows x)) (sym (rows_own c i guard run ks h ∙ ap (λ x. rows_by c i guard run h ++ x) e))

-- what is to come for h after its move
abbrev Later : RawSettings → Program → ℕ → List Move → Run → Type 0
Later c i h ks r = Fit c (r.harts h) → Coming (r.harts h) (log_from c i r ks h)

own_plain : (n : TurnEnd) (c : RawSettings) (i : Program) (h : ℕ) (ks : List Move) (run : Run) (v : Interval) (lo co : ℕ) (rows : List Row) (called : Bool) → Sound c i
    → next_at c i run h ≡ n → IsServed c i (served_turn c i run h) ks → Later c i h ks (served_turn c i run h) → Inv c i run (Moves false h ∷ ks) h v lo co rows
    → TurnDone c i h ks run v lo co rows called n → AllSuffice c i (served_turn c i run h) ks h v → Suffices c i run (Moves false h ∷ ks) h v lo co rows called
own_plain GoesOn c i h ks run v lo co rows called z e l w o d rest = own_goes c i h ks run v lo co rows called z e (w (own_fit c i false run h z e o.fit)) o d rest
own_plain (NewInterval r x) c i h ks run v lo co rows called z e l w o d rest =
    let is = own_harts c i false run h (NewInterval r x) e in
    let more : (run.harts h).number < ((served_turn c i run h).harts h).number = subst (λ (y : Hart). (run.harts h).number < y.number) (sym is) (omega arith) in
    own_ends c i false h ks run v lo co rows called (gone_rows c i h (run.harts h).number ks (served_turn c i run h) more)
    (end_turn i h v (place (run.harts h) lo co rows called) (next_state c i run h) (turn_rows c i run h) _ _ (skip_next c i run h) (NewInterval r x) r x
    (log_from c i (served_turn c i run h) ks h) d refl (λ b y. y))
own_plain (HartOver r x) c i h ks run v lo co rows called z e l w o d rest =
    let is = own_harts c i false run h (HartOver r x) e in
    own_ends c i false h ks run v lo co rows called (dead_rows c i h (run.harts h).number ks (served_turn c i run h) (ap (λ (y : Hart). y.live) is) l)
    (end_turn i h v (place (run.harts h) lo co rows called) (next_state c i run h) (turn_rows c i run h) _ _ (skip_next c i run h) (HartOver r x) r x
    (log_from c i (served_turn c i run h) ks h) d refl (λ b y. y))
own_plain (RunOver r x) c i h ks run v lo co rows called z e l w o d rest =
    let is = own_harts c i false run h (RunOver r x) e in
    own_ends c i false h ks run v lo co rows called (dead_rows c i h (run.harts h).number ks (served_turn c i run h) (ap (λ (y : Hart). y.live) is) l)
    (end_turn i h v (place (run.harts h) lo co rows called) (next_state c i run h) (turn_rows c i run h) _ _ (skip_next c i run h) (RunOver r x) r x
    (log_from c i (served_turn c i run h) ks h) d refl (λ b y. y))

own_ahead : (n : TurnEnd) (c : RawSettings) (i : Program) (h : ℕ) (ks : List Move) (run : Run) → Sound c i → Fit c (run.harts h) → next_at c i run h ≡ n
    → Later c i h ks (served_turn c i run h) → Ahead (skip_next c i run h) (end_log n (next_state c i run h) (log_from c i (served_turn c i run h) ks h)).loads
own_ahead GoesOn c i h ks run z f e w =
    (subst (λ (y : Hart). Coming y (log_from c i (served_turn c i run h) ks h)) (own_harts c i false run h GoesOn e) (w (own_fit c i false run h z e f))).0
own_ahead n c i h ks run z f e w = tt

-- whether the ask is a fault
fault_or : (w : Want) → (is_fault w ≡ false) ⊎ ((f : Fault) × (y : ℕ) × (w ≡ Faulted f y))
fault_or (Faulted f y) = inr (f, y, refl)
fault_or w = inl refl

own_fault : (f : Fault) (y : ℕ) (c : RawSettings) (i : Program) (h : ℕ) (ks : List Move) (run : Run) (v : Interval) (lo co : ℕ) (rows : List Row) (called : Bool) → Sound c i
    → want_at c i run h ≡ Faulted f y → IsServed c i (served_turn c i run h) ks → Inv c i run (Moves false h ∷ ks) h v lo co rows
    → Starts c i run.machine h (run.harts h) (want_at c i run h) (asked_at c i run h) (run.events h) v (place (run.harts h) lo co rows called) (log_from c i (served_turn c i run h) ks h)
    → Suffices c i run (Moves false h ∷ ks) h v lo co rows called
own_fault f y c i h ks run v lo co rows called z e l o st =
    let t : Hart = run.harts h in
    let s : HartState = asked_at c i run h in
    let after : Logged = log_from c i (served_turn c i run h) ks h in
    let held : StillHolds v t.skipped (ended_at s.ic (16 + fault_number f) y) lo co =
    subst (λ (w : Want). StillHolds v t.skipped
    (puts h (load_record (warmth c (loading w) (run.events h)) h t.skipped (word_before run.machine.memory (loading w)))
    (puts h (sc_record (reply_to c i run.machine h w s) h) (left_log c i run.machine h t w s after))) lo co) e st.holds in
    let asks : step i s ≡ Asks (Faulted f y) = not_cut (Faulted f y) i s refl (subst (λ (w : Want). (w ≡ Cut) ⊎ (step i s ≡ Asks w)) e st.came) in
    let nx : next_at c i run h ≡ RunOver (16 + fault_number f) y = ap (λ w. next_to c i run.machine h t w s) e in
    let row : turn_rows c i run h ≡ quiet_at c i run h ++ (fault_row h i s f y ∷ []) =
    ap (λ w. quiet_at c i run h ++ want_rows h i run.machine.memory w s (next_state c i run h) (reply_at c i run h)) e in
    let done = fault_turn f y i h t s v (place t lo co rows called) (quiet_at c i run h) (own_way c i h run v lo co rows called z o.fit) asks held in
    let is = own_harts c i false run h (RunOver (16 + fault_number f) y) nx in
    own_ends c i false h ks run v lo co rows called (dead_rows c i h t.number ks (served_turn c i run h) (ap (λ (x : Hart). x.live) is) l)
    (done ∙ ap (λ x. done_with (onto rows x)) (sym row ∙ sym (append-nil (turn_rows c i run h))))

own_turn : (c : RawSettings) (i : Program) (h : ℕ) (ks : List Move) (run : Run) (v : Interval) (lo co : ℕ) (rows : List Row) (called : Bool) → Sound c i
    → IsServed c i (served_turn c i run h) ks → Later c i h ks (served_turn c i run h) → Inv c i run (Moves false h ∷ ks) h v lo co rows → AllSuffice c i (served_turn c i run h) ks h v
    → Suffices c i run (Moves false h ∷ ks) h v lo co rows called
own_turn c i h ks run v lo co rows called z l w o rest =
    let a : Ask = ask_at c i (run.harts h) in
    let st = own_starts c i h ks run v lo co rows called z o (own_ahead (next_at c i run h) c i h ks run z o.fit refl w) in
    elim (fault_or a.want) [
      | inl e ↦ own_plain (next_at c i run h) c i h ks run v lo co rows called z refl l w o
          (turned a.want c i run.machine h (run.harts h) a.state (run.events h) v (place (run.harts h) lo co rows called) (quiet_at c i run h)
          (log_from c i (served_turn c i run h) ks h) z (own_way c i h run v lo co rows called z o.fit) e st) rest
      | inr p ↦ own_fault p.0 p.1 c i h ks run v lo co rows called z p.2 l o st
    ]

-- A guard. If what is left of the interval's log is its End by the guard, at the count of h's next ask, the replay is done.
-- It has the rows of the quiet instructions up to that ask
own_guard : (c : RawSettings) (i : Program) (h : ℕ) (ks : List Move) (run : Run) (v : Interval) (lo co : ℕ) (rows : List Row) (called : Bool) → Sound c i
    → Inv c i run (Moves true h ∷ ks) h v lo co rows → Suffices c i run (Moves true h ∷ ks) h v lo co rows called
own_guard c i h ks run v lo co rows called z o =
    let t : Hart = run.harts h in
    let s : HartState = asked_at c i run h in
    let p : Position = place t lo co rows called in
    let held : StillHolds v t.skipped (ended_at s.ic 6 0) lo co = subst (λ (l : Logged). StillHolds v t.skipped l lo co) (own_turn_log c i true run ks h) o.holds in
    let w : Way i h v p s (quiet_at c i run h) = own_way c i h run v lo co rows called z o.fit in
    let there : Position = moved p s w.rows_now w.called_now in
    let count : v.mark.ic - t.state.ic ≡ s.ic - t.state.ic + 0 = ap (λ (x : EndMark). x.ic - t.state.ic) held.mark_is ∙ omega arith in
    let more : t.number < ((moved_run c i true run h).harts h).number = subst (λ (y : Hart). t.number < y.number) (sym (own_harts c i true run h by_guard refl)) (omega arith) in
    own_ends c i true h ks run v lo co rows called (gone_rows c i h t.number ks (moved_run c i true run h) more)
    (ap (λ n. steps i h v n p) count
    ∙ (w.walks 0
    ∙ (plain_marked i h v there s.ic 6 0 held.mark_is refl refl (none_left h v t.skipped (ended_at s.ic 6 0) there held refl refl)
    ∙ ap done_with (w.rows []))))

own_move : (guard : Bool) (c : RawSettings) (i : Program) (h : ℕ) (ks : List Move) (run : Run) (v : Interval) (lo co : ℕ) (rows : List Row) (called : Bool) → Sound c i
    → IsServed c i (moved_run c i guard run h) ks → Later c i h ks (moved_run c i guard run h) → Inv c i run (Moves guard h ∷ ks) h v lo co rows → AllSuffice c i (moved_run c i guard run h) ks h v
    → Suffices c i run (Moves guard h ∷ ks) h v lo co rows called
own_move true c i h ks run v lo co rows called z l w o rest = own_guard c i h ks run v lo co rows called z o
own_move false c i h ks run v lo co rows called z l w o rest = own_turn c i h ks run v lo co rows called z l w o rest

-- from each open interval on, the records to come suffice
pub suffices : (c : RawSettings) (i : Program) (h : ℕ) (v : Interval) → Sound c i → h < c.harts → (ks : List Move) (run : Run) → IsServed c i run ks
    → AllSuffice c i run ks h v
suffices c i h v z g [] run l lo co rows called o = absurd (false≢true (no_live c.harts h run.harts g o.fit.live l))
suffices c i h v z g (Moves guard k ∷ ks) run l lo co rows called o = elim (eqb_tells k h) [
  | inl p ↦ subst
      (λ (j : ℕ). IsServed c i (moved_run c i guard run j) ks → Inv c i run (Moves guard j ∷ ks) h v lo co rows → Suffices c i run (Moves guard j ∷ ks) h v lo co rows called) (sym p.1)
      (λ d q. own_move guard c i h ks run v lo co rows called z d (λ f. coming c i h ks (moved_run c i guard run h) z g d f) q (suffices c i h v z g ks (moved_run c i guard run h) d)) l.2 o
  | inr p ↦ other_turn (next_by c i guard run k) c i guard h k ks run v lo co rows called refl p.0 (equal_flip k h p.1) g l.2 o (suffices c i h v z g ks (moved_run c i guard run k) l.2)
]
