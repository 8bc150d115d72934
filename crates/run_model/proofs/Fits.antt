-- The counts of a hart stay within the settings, and fewer turns are left after each.
use Rattle.run_model.proofs.Common.{◌≡◌, ℕ, ◌+◌, ◌-◌, ◌<◌, ◌≤◌, Bool, true, false, List, Option, Some, None, refl, ap, arith, if◌then◌else◌, RawSettings, HartState, Event, geometry_of, Hart, TurnEnd, GoesOn, NewInterval, HartOver, RunOver, Span, budget, is_orderly, warmth, skipped_after, hart_after, stopped, other_after, mark, start_hart, IsFit, IsRested, MovesOn, turns_left, anew, GuardedAsksFit, common_steps, Program, is_cut, passes, Want, Load, Store, LoadReserved, StoreConditional, Amo, System, Cut, Faulted, lt-ltb, le-leb, and_parts}
use Rattle.first_load_bits.specs.Warm.{warm}
use Rattle.first_load_bits.specs.declared.warm.Warm.TheVariants as answers
use Rattle.run_model.proofs.MoveOn.{budget_interval, budget_limit, InBudget, in_budget}

skip_by : (b : Bool) (skipped begun low after : ℕ) → begun + skipped ≤ low → after ≡ low + 1 → begun + skipped_after (Some (if b then answers.Warm else answers.Cold)) skipped ≤ after
skip_by true skipped begun low after e a = omega (arith, e, a)
skip_by false skipped begun low after e a = omega (arith, e, a)

skip_bound : (load : Option ℕ) (c : RawSettings) (h : Hart) (asked after : ℕ) (next : TurnEnd) (span : Option Span) (es : List Event) → IsFit c h → MovesOn c h asked after next span load
    → h.begun + skipped_after (warmth c load es) h.skipped ≤ after
skip_bound None c h asked after next span es fit on = omega (arith, fit.skipped, on.from, on.low)
skip_bound (Some a) c h asked after next span es fit on = skip_by (warm (geometry_of c) a es) h.skipped h.begun asked after (omega (arith, fit.skipped, on.from)) (on.loaded refl)

-- the count after a turn
record After (c : RawSettings) (h : Hart) (after : ℕ) : Type 0 where
  pub interval : after ≤ h.begun + c.interval
  pub limit : after ≤ c.limit

after_bounds : (c : RawSettings) (h : Hart) (asked after : ℕ) (next : TurnEnd) (span : Option Span) (load : Option ℕ) → IsFit c h → MovesOn c h asked after next span load → After c h after
after_bounds c h asked after next span load fit on = record {
  interval = omega (arith, on.high, budget_interval c h, fit.interval, fit.skipped);
  limit = omega (arith, on.high, budget_limit c h, fit.limit);
}

pub fit_by : (next : TurnEnd) (c : RawSettings) (h : Hart) (asked : ℕ) (s : HartState) (span : Option Span) (load : Option ℕ) (skipped bytes : ℕ) → 1 ≤ c.interval → IsFit c h → MovesOn c h asked s.ic next span load → h.begun + skipped ≤ s.ic
    → IsRested c (hart_after next s skipped bytes h)
fit_by GoesOn c h asked s span load skipped bytes some fit on skip =
    let b = after_bounds c h asked s.ic GoesOn span load fit on in
    record {
      fit = record { number = omega (arith, fit.number, on.on refl); skipped = skip; interval = b.interval; limit = b.limit; unfilled = λ p. on.within refl };
      number = λ p. omega (arith, fit.number, on.on refl);
    }
fit_by (NewInterval reason value) c h asked s span load skipped bytes some fit on skip =
    let b = after_bounds c h asked s.ic (NewInterval reason value) span load fit on in
    record {
      fit = record {
        number = omega (arith, on.on refl, fit.number, fit.skipped);
        skipped = omega arith;
        interval = omega arith;
        limit = b.limit;
        unfilled = λ p. omega (arith, some);
      };
      number = λ p. omega (arith, on.on refl, fit.number, fit.skipped);
    }
fit_by (HartOver reason value) c h asked s span load skipped bytes some fit on skip =
    let b = after_bounds c h asked s.ic (HartOver reason value) span load fit on in
    record { fit = record { number = omega (arith, fit.number, on.from, on.low); skipped = skip; interval = b.interval; limit = b.limit; unfilled = λ p. cc }; number = λ p. cc }
fit_by (RunOver reason value) c h asked s span load skipped bytes some fit on skip =
    let b = after_bounds c h asked s.ic (RunOver reason value) span load fit on in
    record { fit = record { number = omega (arith, fit.number, on.from, on.low); skipped = skip; interval = b.interval; limit = b.limit; unfilled = λ p. cc }; number = λ p. cc }

pub fit_after : (c : RawSettings) (h : Hart) (asked bytes : ℕ) (s : HartState) (next : TurnEnd) (span : Option Span) (load : Option ℕ) (es : List Event) → 1 ≤ c.interval → IsFit c h → MovesOn c h asked s.ic next span load
    → IsRested c (hart_after next s (skipped_after (warmth c load es) h.skipped) bytes h)
fit_after c h asked bytes s next span load es some fit on = fit_by next c h asked s span load _ bytes some fit on (skip_bound load c h asked s.ic next span es fit on)

pub left_live : (c : RawSettings) (h : Hart) → h.live ≡ true → turns_left c h ≡ c.limit - h.state.ic + 1
left_live c h live = ap (λ (b : Bool). elim b [ true ↦ c.limit - h.state.ic + 1 | false ↦ 0 ]) live

-- fewer turns are left
pub fewer_left : (next : TurnEnd) (c : RawSettings) (h : Hart) (asked : ℕ) (s : HartState) (span : Option Span) (load : Option ℕ) (skipped bytes : ℕ) → h.live ≡ true → IsFit c h → MovesOn c h asked s.ic next span load
    → turns_left c (hart_after next s skipped bytes h) < turns_left c h
fewer_left GoesOn c h asked s span load skipped bytes live fit on =
    let b = after_bounds c h asked s.ic GoesOn span load fit on in
    omega (arith, left_live c h live, left_live c (hart_after GoesOn s skipped bytes h) live, on.on refl, b.limit)
fewer_left (NewInterval reason value) c h asked s span load skipped bytes live fit on =
    let b = after_bounds c h asked s.ic (NewInterval reason value) span load fit on in
    omega (arith, left_live c h live, left_live c (hart_after (NewInterval reason value) s skipped bytes h) live, on.on refl, b.limit)
fewer_left (HartOver reason value) c h asked s span load skipped bytes live fit on = omega (arith, left_live c h live)
fewer_left (RunOver reason value) c h asked s span load skipped bytes live fit on = omega (arith, left_live c h live)

fit_stop : (b : Bool) (c : RawSettings) (h : Hart) → IsRested c h → IsRested c (elim b as (λ x. Hart) [ true ↦ record h { live = false; mark = Some (mark h.state.ic 5 0) } | false ↦ h ])
fit_stop true c h rested =
    let fit = rested.fit in
    record { fit = record { number = fit.number; skipped = fit.skipped; interval = fit.interval; limit = fit.limit; unfilled = λ p. cc }; number = λ p. cc }
fit_stop false c h rested = rested

pub fit_stopped : (c : RawSettings) (h : Hart) → IsRested c h → IsRested c (stopped h)
fit_stopped c h fit = fit_stop h.live c h fit

pub fit_other : (next : TurnEnd) (c : RawSettings) (h : Hart) → IsRested c h → IsRested c (other_after next h)
fit_other GoesOn c h fit = fit
fit_other (NewInterval reason value) c h fit = fit
fit_other (HartOver reason value) c h fit = fit
fit_other (RunOver reason value) c h fit = fit_stopped c h fit

no_more_by : (b : Bool) (c : RawSettings) (h : Hart) → h.live ≡ b → turns_left c (stopped h) ≤ turns_left c h
no_more_by true c h e = rw e (omega arith)
no_more_by false c h e = rw e (omega arith)

-- another hart has no more turns left
pub no_more_left : (next : TurnEnd) (c : RawSettings) (h : Hart) → turns_left c (other_after next h) ≤ turns_left c h
no_more_left GoesOn c h = omega arith
no_more_left (NewInterval reason value) c h = omega arith
no_more_left (HartOver reason value) c h = omega arith
no_more_left (RunOver reason value) c h = no_more_by h.live c h refl

-- a hart before its first turn
pub fit_start : (c : RawSettings) (k : ℕ) (s : HartState) → s.ic ≡ 0 → 1 ≤ c.interval → IsRested c (start_hart k s)
fit_start c k s e some = record {
  fit = record { number = omega arith; skipped = omega (arith, e); interval = omega (arith, e); limit = omega (arith, e); unfilled = λ p. omega (arith, e, some) };
  number = λ p. omega arith;
}

-- ---- a guarded ask

some_more : (c : RawSettings) (h : Hart) (s : HartState) (bytes : ℕ) → 1 ≤ c.interval → s.ic < c.limit → 0 < budget c (anew s bytes h)
some_more c h s bytes some below = grind (arith, common_steps)

-- its count is below the limit
pub guarded_below : (c : RawSettings) (h : Hart) (asked : ℕ) → IsFit c h → InBudget c h asked → asked < c.limit
guarded_below c h asked fit b = omega (arith, b.from, b.below, budget_limit c h, fit.limit)

pub counted_by : (c : RawSettings) (i : Program) (h : Hart) (s : HartState) (want : Want) → is_cut want ≡ false → is_orderly c i h (record { state = s; want = want }) ≡ true
    → InBudget c h s.ic × (passes i want ≡ true)
counted_by c i h s (Load a w g rd) cut e = (in_budget c h s.ic (and_parts _ _ e).0, (and_parts _ _ e).1)
counted_by c i h s (LoadReserved a rd) cut e = (in_budget c h s.ic (and_parts _ _ e).0, (and_parts _ _ e).1)
counted_by c i h s (Store a w v) cut e = (in_budget c h s.ic (and_parts _ _ e).0, (and_parts _ _ e).1)
counted_by c i h s (Amo a o rd v) cut e = (in_budget c h s.ic (and_parts _ _ e).0, (and_parts _ _ e).1)
counted_by c i h s (StoreConditional a rd v) cut e = (in_budget c h s.ic (and_parts _ _ e).0, (and_parts _ _ e).1)
counted_by c i h s (System number args) cut e = (in_budget c h s.ic (and_parts _ _ e).0, (and_parts _ _ e).1)
counted_by c i h s Cut cut e = cc
counted_by c i h s (Faulted kind value) cut e = (in_budget c h s.ic (and_parts _ _ e).0, (and_parts _ _ e).1)

orderly_anew : (c : RawSettings) (i : Program) (h : Hart) (s : HartState) (want : Want) (bytes : ℕ) → is_cut want ≡ false → 0 < budget c (anew s bytes h) → passes i want ≡ true
    → is_orderly c i (anew s bytes h) (record { state = s; want = want }) ≡ true
orderly_anew c i h s want bytes cut some pass =
    rw (cut, pass, le-leb s.ic s.ic (omega arith), lt-ltb s.ic (s.ic + budget c (anew s bytes h)) (omega (arith, some))) refl

pub guarded_fits : GuardedAsksFit
guarded_fits c i h bytes ask some rested live orderly cut =
    let fit = rested.fit in
    let by = counted_by c i h ask.state ask.want cut orderly in
    let below = guarded_below c h ask.state.ic fit by.0 in (
      record {
        number = omega (arith, rested.number live, by.0.from, fit.skipped);
        skipped = omega arith;
        interval = omega arith;
        limit = omega (arith, below);
        unfilled = λ p. omega (arith, some);
      },
      orderly_anew c i h ask.state ask.want bytes cut (some_more c h ask.state bytes some below) by.1,
      omega (arith, left_live c h live, left_live c (anew ask.state bytes h) live, by.0.from),
    )
