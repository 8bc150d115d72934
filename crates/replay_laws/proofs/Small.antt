-- The reason for which a hart begins a new interval is that of no fault.
use Rattle.replay_laws.proofs.Common.{◌≡◌, ℕ, Bool, true, false, refl, subst, nat_lt, nat_le, ◌-◌, Program, RawSettings, Want, System, Faulted, Plan, Hart, TurnEnd, GoesOn, NewInterval, HartOver, Machine, answer_call, planned, Run, after_call, counted}
use Rattle.system_calls.specs.declared.effect.Plan.TheVariants as plans
use Rattle.replay_laws.proofs.Asked.{next_to}
use Rattle.replay_laws.proofs.Counts.{want_at, asked_at, next_by}

-- what comes next is no new interval, or one for such a reason
abbrev Small : TurnEnd → Type 0
Small (NewInterval r x) = nat_lt 16 r ≡ false
Small next = Unit {0}

counted_if : (x y : Bool) → Small (elim x as (λ z. TurnEnd) [ true ↦ HartOver 7 0 | false ↦ elim y as (λ z. TurnEnd) [ true ↦ NewInterval 1 0 | false ↦ GoesOn ] ])
counted_if true y = tt
counted_if false true = refl
counted_if false false = tt

counted_small : (c : RawSettings) (t : Hart) (ic : ℕ) → Small (counted c t ic)
counted_small c t ic = counted_if (nat_le c.limit ic) (nat_le c.interval (ic - t.begun))

call_small : (pl : Plan) (h : ℕ) (m : Machine) → Small (after_call pl (answer_call pl h m).reply)
call_small (plans.EndHart x) h m = tt
call_small (plans.EndRun x) h m = tt
call_small pl h m = refl

want_small : (w : Want) (c : RawSettings) (i : Program) (run : Run) (k : ℕ) → Small (next_to c i run.machine k (run.harts k) w (asked_at c i run k))
want_small (System n args) c i run k = call_small (planned i run.machine n args) k run.machine
want_small (Faulted f y) c i run k = tt
want_small w c i run k = counted_small c (run.harts k) _

by_small : (c : RawSettings) (i : Program) (guard : Bool) (run : Run) (k : ℕ) → Small (next_by c i guard run k)
by_small c i true run k = refl
by_small c i false run k = want_small (want_at c i run k) c i run k

pub new_small : (c : RawSettings) (i : Program) (guard : Bool) (run : Run) (k r x : ℕ) → next_by c i guard run k ≡ NewInterval r x → nat_lt 16 r ≡ false
new_small c i guard run k r x e = subst Small e (by_small c i guard run k)
