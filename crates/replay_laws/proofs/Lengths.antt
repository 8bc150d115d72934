-- How many rows a turn has.
use Rattle.replay_laws.proofs.Common.{◌≡◌, ℕ, zero, suc, ◌+◌, ◌<◌, ◌^◌, Bool, true, false, List, [], ◌∷◌, length, length-append, refl, sym, ◌∙◌, ap, arith, inl, inr, None, ◌-◌, ◌⊎◌, nat_le, if◌then◌else◌, false≢true, fault_number, Program, Row, RawSettings, HartState, Step, Quiet, Asks, step, ask_of, count_up, Ask, Want, System, Cut, Faulted, ExitsAloneEnd, Plan, row_of, Hart, TurnEnd, GoesOn, NewInterval, HartOver, RunOver, Machine, answer_call, planned, Run, ask_at, budget, after_call, counted, quiet_rows, want_rows, quiet_part, turn_rows, rows_at_end}
use Rattle.system_calls.specs.declared.effect.Plan.TheVariants as plans
use Rattle.replay_laws.proofs.Asked.{asking, reply_to, state_after, next_to, next_at}
use Rattle.replay_laws.proofs.Calls.{plan_counts}
use Rattle.replay_laws.proofs.Counts.{Fit, want_at, asked_at, next_state, next_by, state_by, memory_counts, cut_state, own_came}
use Rattle.replay_laws.proofs.Ends.{above}
use Rattle.replay_laws.proofs.Way.{Sound, Came}

-- ---- the quiet rows

quiet_at : (c : RawSettings) (i : Program) (h n : ℕ) (s : HartState) (x : Step) → Sound c i → step i s ≡ x → s.ic + suc n < 2 ^ 64
    → ((t : HartState) → t.ic + n < 2 ^ 64 → t.ic + length (quiet_rows h i n t) ≡ (ask_of i n t).state.ic)
    → s.ic + length (elim x as (λ y. List Row) [ Quiet t ↦ row_of h i s t None None ∷ quiet_rows h i n t | Asks k ↦ [] ]) ≡
    (elim x as (λ y. Ask) [ Quiet t ↦ ask_of i n t | Asks k ↦ asking k s ]).state.ic
quiet_at c i h n s (Quiet t) z e b rest =
    let up : t.ic ≡ s.ic + 1 = omega (arith, z.counts s t e) in
    let r = rest t (omega arith) in
    omega (arith, r, up)
quiet_at c i h n s (Asks k) z e b rest = omega arith

pub quiet_count : (c : RawSettings) (i : Program) (h n : ℕ) (s : HartState) → Sound c i → s.ic + n < 2 ^ 64 → s.ic + length (quiet_rows h i n s) ≡ (ask_of i n s).state.ic
quiet_count c i h zero s z b = omega arith
quiet_count c i h (suc n) s z b = quiet_at c i h n s (step i s) z refl b (λ t g. quiet_count c i h n t z g)

-- ---- the row of the ask

-- how many rows the end of an interval adds to its counts
abbrev pub extra : TurnEnd → ℕ
extra GoesOn = 0
extra (NewInterval r x) = rows_at_end r
extra (HartOver r x) = rows_at_end r
extra (RunOver r x) = rows_at_end r

counted_if : (x y : Bool) → extra (elim x as (λ z. TurnEnd) [ true ↦ HartOver 7 0 | false ↦ elim y as (λ z. TurnEnd) [ true ↦ NewInterval 1 0 | false ↦ GoesOn ] ]) ≡ 0
counted_if true y = refl
counted_if false true = refl
counted_if false false = refl

counted_extra : (c : RawSettings) (t : Hart) (ic : ℕ) → extra (counted c t ic) ≡ 0
counted_extra c t ic = counted_if (nat_le c.limit ic) (nat_le c.interval (ic - t.begun))

call_extra : (pl : Plan) (h : ℕ) (m : Machine) → extra (after_call pl (answer_call pl h m).reply) ≡ 0
call_extra (plans.Fill a z) h m = refl
call_extra pl h m = refl

one_row : (from to more : ℕ) → from + 1 < 2 ^ 64 → to ≡ count_up from → more ≡ 0 → from + 1 ≡ to + more
one_row from to more b e f = omega arith

not_cut : Want → Bool
not_cut Cut = false
not_cut w = true

bounded : (w : Want) (s : HartState) → (w ≡ Cut) ⊎ (s.ic + 1 < 2 ^ 64) → not_cut w ≡ true → s.ic + 1 < 2 ^ 64
unfolding not_cut
bounded w s (inl p) e = absurd (false≢true (sym (ap not_cut p) ∙ e))
bounded w s (inr b) e = b

-- an ask but a cut has one row, and one instruction is done, or it faults
ask_count : ExitsAloneEnd → (w : Want) (c : RawSettings) (i : Program) (m : Machine) (h : ℕ) (t : Hart) (s : HartState) → (w ≡ Cut) ⊎ (s.ic + 1 < 2 ^ 64)
    → s.ic + length (want_rows h i m.memory w s (state_after c i m h w s) (reply_to c i m h w s)) ≡ (state_after c i m h w s).ic + extra (next_to c i m h t w s)
unfolding not_cut
ask_count exits (System n args) c i m h t s b =
    one_row s.ic _ _ (bounded (System n args) s b refl) (plan_counts exits i h n args m s) (call_extra (planned i m n args) h m)
ask_count exits Cut c i m h t s b = let e : (state_after c i m h Cut s).ic ≡ s.ic = ap (λ (x : HartState). x.ic) (cut_state (nat_le c.limit s.ic) s) in let f : extra
    (next_to c i m h t Cut s) ≡ 0 = counted_extra c t _ in omega (arith, e, f)
ask_count exits (Faulted f y) c i m h t s b = ap (λ (x : Bool). s.ic + (if x then 1 else 0)) (sym (above f (16 + fault_number f) refl))
ask_count exits w c i m h t s b = one_row s.ic _ _ (bounded w s b refl) (memory_counts w c i m h s refl) (counted_extra c t _)

-- ---- a whole turn

came_short : (c : RawSettings) (i : Program) (t : Hart) (a : Ask) → Sound c i → Fit c t → Came i t.state.ic (budget c t) a → (a.want ≡ Cut) ⊎ (a.state.ic + 1 < 2 ^ 64)
came_short c i t a z f (inl p) = inl p.0
came_short c i t a z f (inr p) = inr (let w = f.within in let b = z.limit in omega (arith, p.1, w, b))

-- a turn has a row for each count, and one more if it ends by a fault
turn_count : (c : RawSettings) (i : Program) (run : Run) (h : ℕ) → Sound c i → Fit c (run.harts h)
    → (run.harts h).state.ic + length (turn_rows c i run h) ≡ (next_state c i run h).ic + extra (next_at c i run h)
turn_count c i run h z f =
    let t : Hart = run.harts h in
    let w : Want = want_at c i run h in
    let s : HartState = asked_at c i run h in
    let quiet : List Row = quiet_rows h i (budget c t) t.state in
    let last : List Row = want_rows h i run.machine.memory w s (next_state c i run h) (reply_to c i run.machine h w s) in
    let both : length (turn_rows c i run h) ≡ length quiet + length last = length-append quiet last in
    let first : t.state.ic + length quiet ≡ s.ic = quiet_count c i h (budget c t) t.state z (let g = f.within in let b = z.limit in omega (arith, g, b)) in
    let row : s.ic + length last ≡ (next_state c i run h).ic + extra (next_at c i run h) =
    ask_count z.exits w c i run.machine h t s (came_short c i t (ask_at c i t) z f (own_came c i t h z f).0) in
    omega (arith, both, first, row)

-- the rows of a move: a guard ends an interval with those of the quiet instructions
abbrev pub rows_by : RawSettings → Program → Bool → Run → ℕ → List Row
rows_by c i true run h = quiet_part c i run h
rows_by c i false run h = turn_rows c i run h

-- so it is of a move
pub move_count : (c : RawSettings) (i : Program) (guard : Bool) (run : Run) (h : ℕ) → Sound c i → Fit c (run.harts h)
    → (run.harts h).state.ic + length (rows_by c i guard run h) ≡ (state_by c i guard run h).ic + extra (next_by c i guard run h)
move_count c i true run h z f =
    let t : Hart = run.harts h in
    let first : t.state.ic + length (quiet_part c i run h) ≡ (asked_at c i run h).ic = quiet_count c i h (budget c t) t.state z (let g = f.within in let b = z.limit in omega (arith, g, b)) in
    first ∙ omega arith
move_count c i false run h z f = turn_count c i run h z f
