-- A system call in the replay of an interval.
use Rattle.replay_laws.proofs.Common.{◌≡◌, ℕ, ◌+◌, ◌<◌, ◌^◌, Bool, true, false, not, ◌&&◌, List, ◌∷◌, Some, None, refl, sym, ◌∙◌, ap, arith, subst, inl, inr, ◌==◌, ◌||◌, ◌⊎◌, nat_lt, slice_index, false≢true, eq-eqb, eqb_tells, Program, EndMark, HartState, Asks, step, absorbed, count_up, count_up_if, is_exit, Ask, System, Answer, Over, Plan, is_end, ExitsAloneEnd, call_row, Interval, Position, Logged, puts, system_step, call_reason, found, Next as Goal, On, Stop, Refused, EndDiffers, TurnEnd, GoesOn, NewInterval, HartOver, RunOver, Machine, answer_call, planned, kernel_of, after_call, sc_record, mark, or_from, and_from, or_left, or_right}
use Rattle.system_calls.specs.declared.kernel.Kernel.{Kernel}
use Rattle.system_calls.specs.declared.effect.Plan.TheVariants as plans
use Rattle.system_calls.specs.Calls.{plan_of}
use Rattle.replay_laws.proofs.Asked.{asking}
use Rattle.replay_laws.proofs.Ends.{is_call}
use Rattle.replay_laws.proofs.Step.{StillHolds, Stepped, ask_goes}
use Rattle.replay_laws.proofs.Turns.{end_log, ended_at}

-- ---- what a call is, by its number

-- a call that doesn't end its hart
abbrev Goes : Plan → Type 0
Goes (plans.EndHart v) = false ≡ true
Goes (plans.EndRun v) = false ≡ true
Goes p = Unit {0}

abbrev pub Kind : ℕ → ℕ → Plan → Type 0
Kind n a0 p = ((call_reason n ≡ 3) × (p ≡ plans.EndHart a0)) ⊎ (((call_reason n ≡ 4) × (p ≡ plans.EndRun a0)) ⊎ ((call_reason n ≡ 2) × Goes p))

goes_on : (p : Plan) → is_end p ≡ false → Goes p
goes_on (plans.EndHart v) e = sym e
goes_on (plans.EndRun v) e = sym e
goes_on p e = tt

other_reason : (n : ℕ) → (n == 93) ≡ false → (n == 94) ≡ false → call_reason n ≡ 2
other_reason n e f =
    ap (λ (x : Bool). elim x as (λ y. ℕ) [ true ↦ 3 | false ↦ elim (n == 94) as (λ y. ℕ) [ true ↦ 4 | false ↦ 2 ] ]) e
    ∙ ap (λ (x : Bool). elim x as (λ y. ℕ) [ true ↦ 4 | false ↦ 2 ]) f

plan_of_kind : ExitsAloneEnd → (n a0 a1 a2 : ℕ) (k : Kernel) (i : Program) → Kind n a0 (plan_of n a0 a1 a2 k i)
plan_of_kind exits n a0 a1 a2 k i = elim (eqb_tells n 93) [
  | inl p ↦ subst (λ x. Kind x a0 (plan_of x a0 a1 a2 k i)) (sym p.1) (inl (refl, refl))
  | inr q ↦ elim (eqb_tells n 94) [
    | inl p ↦ subst (λ x. Kind x a0 (plan_of x a0 a1 a2 k i)) (sym p.1) (inr (inl (refl, refl)))
    | inr p ↦ inr (inr (other_reason n q.0 p.0, goes_on (plan_of n a0 a1 a2 k i) (exits n a0 a1 a2 k i ∙ or_from (n == 93) (n == 94) q.0 p.0)))
  ]
]

pub plan_kind : ExitsAloneEnd → (i : Program) (m : Machine) (n : ℕ) (args : List ℕ) → Kind n (slice_index args 0) (planned i m n args)
plan_kind exits i m n args = plan_of_kind exits n (slice_index args 0) (slice_index args 1) (slice_index args 2) (kernel_of m) i

-- ---- the step

abbrev call_value : ℕ → ℕ → ℕ
call_value reason a0 = elim (reason == 2) [ true ↦ 0 | false ↦ a0 ]

-- whether the mark tells the call
abbrev is_told : Interval → ℕ → ℕ → ℕ → Bool
is_told v ic n a0 = ic + 1 == v.mark.ic && (call_reason n == v.mark.reason) && ((call_reason n == 2) || (call_value (call_reason n) a0 == v.mark.value))

call_test : (v : Interval) (ic n a0 r x : ℕ) → v.mark ≡ mark (ic + 1) r x → call_reason n ≡ r
    → ((call_reason n == 2) || (call_value (call_reason n) a0 == v.mark.value)) ≡ true → is_told v ic n a0 ≡ true
call_test v ic n a0 r x m e f =
    and_from _ _ (and_from _ _ (eq-eqb (ic + 1) v.mark.ic (sym (ap (λ (k : EndMark). k.ic) m))) (eq-eqb (call_reason n) v.mark.reason (e ∙ sym (ap (λ (k : EndMark). k.reason) m)))) f

abbrev gone : Program → ℕ → Position → Ask → ℕ → Position
gone i h q ask x =
    record { state = absorbed ask (Answer x); loads = q.loads; conditionals = q.conditionals; rows = call_row h i q.state (Some (10, x)) ∷ q.rows; called = true }

abbrev over : Program → ℕ → Position → Ask → Position
over i h q ask = record { state = absorbed ask Over; loads = q.loads; conditionals = q.conditionals; rows = call_row h i q.state None ∷ q.rows; called = true }

-- by whether the call ends its hart
abbrev by_reason : Program → ℕ → Interval → Position → Ask → Bool → Goal
by_reason i h v q ask z = elim z [ true ↦ On (gone i h q ask v.mark.value) | false ↦ On (over i h q ask) ]

abbrev by_test : Program → ℕ → Interval → Position → Ask → ℕ → ℕ → Bool → Goal
by_test i h v q ask n a0 b = elim b [
  | true ↦ by_reason i h v q ask (call_reason n == 2)
  | false ↦ Stop (Refused (EndDiffers h v.mark (found (q.state.ic + 1) (call_reason n) (call_value (call_reason n) a0))))
]

call_goes : (i : Program) (h : ℕ) (v : Interval) (q : Position) (ask : Ask) (n a0 x : ℕ) → v.mark ≡ mark (q.state.ic + 1) 2 x → call_reason n ≡ 2
    → system_step i h v q ask n a0 ≡ On (gone i h q ask x)
call_goes i h v q ask n a0 x m e =
    let two : (call_reason n == 2) ≡ true = eq-eqb (call_reason n) 2 e in
    ap (by_test i h v q ask n a0) (call_test v q.state.ic n a0 2 x m e (or_left _ _ two))
    ∙ (ap (by_reason i h v q ask) two ∙ ap (λ (k : EndMark). On (gone i h q ask k.value)) m)

call_ends : (i : Program) (h : ℕ) (v : Interval) (q : Position) (ask : Ask) (n a0 r : ℕ) → v.mark ≡ mark (q.state.ic + 1) r a0 → call_reason n ≡ r → (r == 2) ≡ false
    → system_step i h v q ask n a0 ≡ On (over i h q ask)
call_ends i h v q ask n a0 r m e f =
    let no : (call_reason n == 2) ≡ false = ap (λ y. y == 2) e ∙ f in
    let value : call_value (call_reason n) a0 ≡ a0 = ap (λ (z : Bool). elim z as (λ y. ℕ) [ true ↦ 0 | false ↦ a0 ]) no in
    ap (by_test i h v q ask n a0) (call_test v q.state.ic n a0 r a0 m e (or_right _ _ (eq-eqb _ _ (value ∙ sym (ap (λ (k : EndMark). k.value) m)))))
    ∙ ap (by_reason i h v q ask) no

-- an end for that reason is no fault; if it is that of a call, a call was done
abbrev pub Plain : ℕ → Bool → Type 0
Plain r called = (nat_lt 16 r ≡ false) × ((is_call r && not called) ≡ false)

-- what comes next is no end, or a plain one
abbrev pub Fine : TurnEnd → Bool → Type 0
Fine GoesOn called = Unit {0}
Fine (NewInterval r x) called = Plain r called
Fine (HartOver r x) called = Plain r called
Fine (RunOver r x) called = Plain r called

answered : (x : ℕ) (i : Program) (h : ℕ) (v : Interval) (q : Position) (n : ℕ) (args : List ℕ) (m m2 : ℕ → ℕ) (sk : ℕ) → call_reason n ≡ 2
    → step i q.state ≡ Asks (System n args) → q.state.ic + 1 < 2 ^ 64 → StillHolds v sk (ended_at (count_up q.state.ic) 2 x) q.loads q.conditionals
    → Stepped i h v q (System n args) m m2 (Answer x) None sk (ended_at (count_up q.state.ic) 2 x)
answered x i h v q n args m m2 sk k e b o =
    let ask : Ask = asking (System n args) q.state in
    let up : count_up q.state.ic ≡ q.state.ic + 1 = omega arith in
    let told : v.mark ≡ mark (q.state.ic + 1) 2 x = o.mark_is ∙ ap (λ y. mark y 2 x) up in
    record {
      next = gone i h q ask x;
      on = λ z. ask_goes i h v q (gone i h q ask x) (System n args) z e (call_goes i h v q ask n (slice_index args 0) x told k);
      state = refl;
      rows = λ more. refl;
      words = λ y. refl;
      held = o;
    }

-- a number with the reason of an exit is counted
exit_by : (x y : Bool) → (elim x as (λ z. ℕ) [ true ↦ 3 | false ↦ elim y as (λ z. ℕ) [ true ↦ 4 | false ↦ 2 ] ] == 2) ≡ false → (x || y) ≡ true
exit_by true y e = refl
exit_by false true e = refl
exit_by false false e = absurd (false≢true (sym e))

pub exit_counts : (n k : ℕ) → (call_reason n == 2) ≡ false → count_up_if (is_exit n) k ≡ count_up k
exit_counts n k e = ap (λ (b : Bool). count_up_if b k) (exit_by (n == 93) (n == 94) e)

finished : (r x : ℕ) (i : Program) (h : ℕ) (v : Interval) (q : Position) (n : ℕ) (args : List ℕ) (m m2 : ℕ → ℕ) (sk : ℕ) → call_reason n ≡ r → (r == 2) ≡ false
    → x ≡ slice_index args 0 → step i q.state ≡ Asks (System n args) → q.state.ic + 1 < 2 ^ 64 → StillHolds v sk (ended_at (count_up_if (is_exit n) q.state.ic) r x) q.loads q.conditionals
    → Stepped i h v q (System n args) m m2 Over None sk (ended_at (count_up_if (is_exit n) q.state.ic) r x)
finished r x i h v q n args m m2 sk k f a e b o =
    let ask : Ask = asking (System n args) q.state in
    let once : count_up q.state.ic ≡ q.state.ic + 1 = omega arith in
    let up : count_up_if (is_exit n) q.state.ic ≡ q.state.ic + 1 = exit_counts n q.state.ic (ap (λ y. y == 2) k ∙ f) ∙ once in
    let told : v.mark ≡ mark (q.state.ic + 1) r (slice_index args 0) = o.mark_is ∙ (ap (λ y. mark y r x) up ∙ ap (λ y. mark (q.state.ic + 1) r y) a) in
    record {
      next = over i h q ask;
      on = λ z. ask_goes i h v q (over i h q ask) (System n args) z e (call_ends i h v q ask n (slice_index args 0) r told k f);
      state = refl;
      rows = λ more. refl;
      words = λ y. refl;
      held = o;
    }

kind_goes : (n a0 : ℕ) (p : Plan) → Kind n a0 p → Goes p → call_reason n ≡ 2
kind_goes n a0 p (inl k) g = absurd (false≢true (subst Goes k.1 g))
kind_goes n a0 p (inr (inl k)) g = absurd (false≢true (subst Goes k.1 g))
kind_goes n a0 p (inr (inr k)) g = k.0

code_of : Plan → ℕ
code_of (plans.EndHart v) = v
code_of (plans.EndRun v) = v
code_of p = 0

is_run : Plan → Bool
is_run (plans.EndRun v) = true
is_run p = false

kind_hart : (n a0 x : ℕ) → Kind n a0 (plans.EndHart x) → (call_reason n ≡ 3) × (x ≡ a0)
unfolding code_of is_run
kind_hart n a0 x (inl k) = (k.0, ap code_of k.1)
kind_hart n a0 x (inr (inl k)) = absurd (false≢true (ap is_run k.1))
kind_hart n a0 x (inr (inr k)) = absurd (false≢true k.1)

kind_run : (n a0 x : ℕ) → Kind n a0 (plans.EndRun x) → (call_reason n ≡ 4) × (x ≡ a0)
unfolding code_of is_run
kind_run n a0 x (inl k) = absurd (false≢true (sym (ap is_run k.1)))
kind_run n a0 x (inr (inl k)) = (k.0, ap code_of k.1)
kind_run n a0 x (inr (inr k)) = absurd (false≢true k.1)

-- a planned call is counted
call_counts : (pl : Plan) (h n : ℕ) (args : List ℕ) (m : Machine) (s : HartState) → Kind n (slice_index args 0) pl → (absorbed (asking (System n args) s) (answer_call pl h m).reply).ic ≡ count_up s.ic
call_counts (plans.EndHart x) h n args m s k = exit_counts n s.ic (ap (λ y. y == 2) (kind_hart n (slice_index args 0) x k).0)
call_counts (plans.EndRun x) h n args m s k = exit_counts n s.ic (ap (λ y. y == 2) (kind_run n (slice_index args 0) x k).0)
call_counts pl h n args m s k = refl

pub plan_counts : ExitsAloneEnd → (i : Program) (h n : ℕ) (args : List ℕ) (m : Machine) (s : HartState) → (absorbed (asking (System n args) s) (answer_call (planned i m n args) h m).reply).ic ≡ count_up s.ic
plan_counts exits i h n args m s = call_counts (planned i m n args) h n args m s (plan_kind exits i m n args)

-- what the turn of a planned call leaves to come
abbrev call_log : Plan → ℕ → HartState → ℕ → List ℕ → Machine → Logged → Logged
call_log pl h s n args m l = end_log (after_call pl (answer_call pl h m).reply) (absorbed (asking (System n args) s) (answer_call pl h m).reply) l

pub call_step : (pl : Plan) (i : Program) (h : ℕ) (v : Interval) (q : Position) (n : ℕ) (args : List ℕ) (m : Machine) (sk : ℕ) (l : Logged)
    → Kind n (slice_index args 0) pl → step i q.state ≡ Asks (System n args) → q.state.ic + 1 < 2 ^ 64
    → StillHolds v sk (puts h (sc_record (answer_call pl h m).reply h) (call_log pl h q.state n args m l)) q.loads q.conditionals
    → (s : Stepped i h v q (System n args) m.memory (answer_call pl h m).machine.memory (answer_call pl h m).reply None sk (call_log pl h q.state n args m l)) × Fine
    (after_call pl (answer_call pl h m).reply) s.next.called
unfolding answered finished
call_step (plans.Fill a z) i h v q n args m sk l k e b o =
    (answered z i h v q n args m.memory _ sk (kind_goes n (slice_index args 0) (plans.Fill a z) k tt) e b o, (refl, refl))
call_step (plans.Send f a z) i h v q n args m sk l k e b o =
    (answered z i h v q n args m.memory _ sk (kind_goes n (slice_index args 0) (plans.Send f a z) k tt) e b o, (refl, refl))
call_step (plans.Break x) i h v q n args m sk l k e b o =
    (answered x i h v q n args m.memory _ sk (kind_goes n (slice_index args 0) (plans.Break x) k tt) e b o, (refl, refl))
call_step (plans.Answer x) i h v q n args m sk l k e b o =
    (answered x i h v q n args m.memory _ sk (kind_goes n (slice_index args 0) (plans.Answer x) k tt) e b o, (refl, refl))
call_step (plans.EndHart x) i h v q n args m sk l k e b o = let z = kind_hart n (slice_index args 0) x k in (finished 3 x i h v q n args m.memory _ sk z.0 refl z.1 e b o, (refl, refl))
call_step (plans.EndRun x) i h v q n args m sk l k e b o = let z = kind_run n (slice_index args 0) x k in (finished 4 x i h v q n args m.memory _ sk z.0 refl z.1 e b o, (refl, refl))
