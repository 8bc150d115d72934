-- The states along the rows of a turn.
use Rattle.row_laws.proofs.Common.{◌≡◌, ℕ, zero, suc, Bool, true, false, List, [], ◌∷◌, ◌++◌, Some, None, refl, sym, ◌∙◌, ap, subst, inl, inr, ◌⊎◌, nat_le, Program, Row, RawSettings, HartState, stored_word, amo_result, aligned, Step, Quiet, Asks, ask_of, step, absorbed, Ask, Want, Load, Store, LoadReserved, StoreConditional, Amo, System, Cut, Faulted, Plan, row_of, call_row, after_row, reply_in, Machine, answer_call, answer_sc, is_reserved, planned, quiet_rows, want_rows, turn_rows, sc_store, answered_reg, Run, turn, budget, TurnsMoveTheirHart, state_after, AreRowsFrom, RowsTellStates, want_at, asked_at, cut_state, not_cut}
use Rattle.system_calls.specs.declared.effect.Plan.TheVariants as plans
use Rattle.replay_laws.proofs.Asked.{asking, state_after as answered_state, reply_to}
use Rattle.row_laws.proofs.Asked.{Moves, moves}

-- ---- one row

pub quiet_row : (i : Program) (h : ℕ) (s t : HartState) → step i s ≡ Quiet t → after_row i s (row_of h i s t None None) ≡ t
quiet_row i h s t e = ap (λ x. elim x as (λ y. HartState) [ Quiet u ↦ u | Asks k ↦ absorbed (asking k s) (reply_in (row_of h i s t None None) k) ]) e

asked_row : (i : Program) (s : HartState) (r : Row) (w : Want) → step i s ≡ Asks w → r.fault ≡ None → after_row i s r ≡ absorbed (asking w s) (reply_in r w)
asked_row i s r w e f =
    ap (λ x. elim x as (λ y. HartState) [ None ↦ elim (step i s) as (λ y. HartState) [ Quiet t ↦ t | Asks k ↦ absorbed (asking k s) (reply_in r k) ] | Some g ↦ s ]) f
    ∙ ap (λ x. elim x as (λ y. HartState) [ Quiet t ↦ t | Asks k ↦ absorbed (asking k s) (reply_in r k) ]) e

-- ---- the row of an ask

-- how an ask came: by a cut, or by the instruction there
abbrev pub Came : Program → Ask → Type 0
Came i a = (a.want ≡ Cut) ⊎ (step i a.state ≡ Asks a.want)

came_at : (i : Program) (n : ℕ) (s : HartState) (x : Step) → step i s ≡ x → ((t : HartState) → Came i (ask_of i n t))
    → Came i (elim x as (λ y. Ask) [ Quiet t ↦ ask_of i n t | Asks w ↦ record { state = s; want = w } ])
came_at i n s (Quiet t) e rest = rest t
came_at i n s (Asks w) e rest = inr e

pub came : (i : Program) (n : ℕ) (s : HartState) → Came i (ask_of i n s)
came i zero s = inl refl
came i (suc n) s = came_at i n s (step i s) refl (λ t. came i n t)

sc_states : (x : Bool) (i : Program) (m : Machine) (h a rd v : ℕ) (s t : HartState) → step i s ≡ Asks (StoreConditional a rd v)
    → after_row i s (row_of h i s t None (sc_store (answer_sc x a v h m).reply a v)) ≡ absorbed (asking (StoreConditional a rd v) s) (answer_sc x a v h m).reply
sc_states true i m h a rd v s t e = asked_row i s (row_of h i s t None (Some (a, v))) (StoreConditional a rd v) e refl
sc_states false i m h a rd v s t e = asked_row i s (row_of h i s t None None) (StoreConditional a rd v) e refl

call_states : (p : Plan) (i : Program) (m : Machine) (h n : ℕ) (args : List ℕ) (s : HartState) → step i s ≡ Asks (System n args)
    → after_row i s (call_row h i s (answered_reg (answer_call p h m).reply)) ≡ absorbed (asking (System n args) s) (answer_call p h m).reply
call_states (plans.Fill a z) i m h n args s e = asked_row i s (call_row h i s (Some (10, z))) (System n args) e refl
call_states (plans.Send f a z) i m h n args s e = asked_row i s (call_row h i s (Some (10, z))) (System n args) e refl
call_states (plans.Break x) i m h n args s e = asked_row i s (call_row h i s (Some (10, x))) (System n args) e refl
call_states (plans.Answer x) i m h n args s e = asked_row i s (call_row h i s (Some (10, x))) (System n args) e refl
call_states p i m h n args s e = asked_row i s (call_row h i s None) (System n args) e refl

-- the rows of an ask, which came in state s
abbrev pub asked_rows : RawSettings → Program → Machine → ℕ → Want → HartState → List Row
asked_rows c i m h w s = want_rows h i m.memory w s (answered_state c i m h w s) (reply_to c i m h w s)

pub want_states : (w : Want) (c : RawSettings) (i : Program) (m : Machine) (h : ℕ) (s : HartState) → (w ≡ Cut) ⊎ (step i s ≡ Asks w)
    → state_after i s (asked_rows c i m h w s) ≡ answered_state c i m h w s
want_states (Load a wd g rd) c i m h s e = asked_row i s (row_of h i s (answered_state c i m h (Load a wd g rd) s) (Some (a, m.memory (aligned a))) None) (Load a wd g rd) (not_cut (Load a wd g rd) i s refl e) refl
want_states (LoadReserved a rd) c i m h s e = asked_row i s (row_of h i s (answered_state c i m h (LoadReserved a rd) s) (Some (a, m.memory a)) None) (LoadReserved a rd) (not_cut (LoadReserved a rd) i s refl e) refl
want_states (Store a wd v) c i m h s e = asked_row i s (row_of h i s (answered_state c i m h (Store a wd v) s) None (Some (a, stored_word a wd v (m.memory (aligned a))))) (Store a wd v) (not_cut (Store a wd v) i s refl e) refl
want_states (Amo a o rd v) c i m h s e = asked_row i s (row_of h i s (answered_state c i m h (Amo a o rd v) s) (Some (a, m.memory a)) (Some (a, amo_result o (m.memory a) v))) (Amo a o rd v) (not_cut (Amo a o rd v) i s refl e) refl
want_states (StoreConditional a rd v) c i m h s e =
    sc_states (is_reserved (m.reserved h) a) i m h a rd v s (answered_state c i m h (StoreConditional a rd v) s) (not_cut (StoreConditional a rd v) i s refl e)
want_states (System n args) c i m h s e = call_states (planned i m n args) i m h n args s (not_cut (System n args) i s refl e)
want_states Cut c i m h s e = sym (cut_state (nat_le c.limit s.ic) s)
want_states (Faulted f y) c i m h s e = refl

pub want_each : (w : Want) (c : RawSettings) (i : Program) (m : Machine) (h : ℕ) (s : HartState) → AreRowsFrom h i s (asked_rows c i m h w s)
want_each Cut c i m h s = tt
want_each w c i m h s = ((refl, refl, refl, refl), tt)

-- ---- the quiet rows

pub after_append : (i : Program) (s : HartState) (xs ys : List Row) → state_after i s (xs ++ ys) ≡ state_after i (state_after i s xs) ys
after_append i s [] ys = refl
after_append i s (x ∷ xs) ys = after_append i (after_row i s x) xs ys

pub each_append : (h : ℕ) (i : Program) (s : HartState) (xs ys : List Row) → AreRowsFrom h i s xs → AreRowsFrom h i (state_after i s xs) ys → AreRowsFrom h i s (xs ++ ys)
each_append h i s [] ys e f = f
each_append h i s (x ∷ xs) ys e f = (e.0, each_append h i (after_row i s x) xs ys e.1 f)

-- the quiet rows before an ask, by the step at s
abbrev pub by_step : ℕ → Program → ℕ → HartState → Step → List Row
by_step h i n s x = elim x [ Quiet t ↦ row_of h i s t None None ∷ quiet_rows h i n t | Asks k ↦ [] ]

abbrev pub ask_by : Program → ℕ → HartState → Step → Ask
ask_by i n s x = elim x [ Quiet t ↦ ask_of i n t | Asks w ↦ record { state = s; want = w } ]

quiet_at : (h : ℕ) (i : Program) (n : ℕ) (s : HartState) (x : Step) → step i s ≡ x
    → ((t : HartState) → AreRowsFrom h i t (quiet_rows h i n t) × (state_after i t (quiet_rows h i n t) ≡ (ask_of i n t).state))
    → AreRowsFrom h i s (by_step h i n s x) × (state_after i s (by_step h i n s x) ≡ (ask_by i n s x).state)
quiet_at h i n s (Quiet t) e rest =
    let is = quiet_row i h s t e in (
      ((refl, refl, refl, refl), subst (λ (u : HartState). AreRowsFrom h i u (quiet_rows h i n t)) (sym is) (rest t).0),
      ap (λ (u : HartState). state_after i u (quiet_rows h i n t)) is ∙ (rest t).1,
    )
quiet_at h i n s (Asks w) e rest = (tt, refl)

pub quiet_states : (h : ℕ) (i : Program) (n : ℕ) (s : HartState) → AreRowsFrom h i s (quiet_rows h i n s) × (state_after i s (quiet_rows h i n s) ≡ (ask_of i n s).state)
quiet_states h i zero s = (tt, refl)
quiet_states h i (suc n) s = quiet_at h i n s (step i s) refl (λ t. quiet_states h i n t)

-- ---- a turn

pub turn_each : (c : RawSettings) (i : Program) (run : Run) (h : ℕ) → AreRowsFrom h i (run.harts h).state (turn_rows c i run h)
turn_each c i run h =
    let q = quiet_states h i (budget c (run.harts h)) (run.harts h).state in
    each_append h i (run.harts h).state (quiet_rows h i (budget c (run.harts h)) (run.harts h).state) (asked_rows c i run.machine h (want_at c i run h) (asked_at c i run h)) q.0
    (subst (λ (u : HartState). AreRowsFrom h i u (asked_rows c i run.machine h (want_at c i run h) (asked_at c i run h))) (sym q.1)
    (want_each (want_at c i run h) c i run.machine h (asked_at c i run h)))

pub turn_last : (c : RawSettings) (i : Program) (run : Run) (h : ℕ) → Moves c i run h → state_after i (run.harts h).state (turn_rows c i run h) ≡ ((turn c i run h).harts h).state
turn_last c i run h o =
    let q = quiet_states h i (budget c (run.harts h)) (run.harts h).state in
    let rows : List Row = asked_rows c i run.machine h (want_at c i run h) (asked_at c i run h) in
    after_append i (run.harts h).state (quiet_rows h i (budget c (run.harts h)) (run.harts h).state) rows
    ∙ (ap (λ (u : HartState). state_after i u rows) q.1
    ∙ (want_states (want_at c i run h) c i run.machine h (asked_at c i run h) (came i (budget c (run.harts h)) (run.harts h).state)
    ∙ sym o.own))

pub rows_tell_states : TurnsMoveTheirHart → RowsTellStates
rows_tell_states law = record { each = turn_each; last = λ c i run h o. turn_last c i run h (moves law c i run h o) }
