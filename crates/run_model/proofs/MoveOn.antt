-- Each turn moves its hart on.
use Rattle.run_model.proofs.Common.{◌≡◌, ℕ, ◌+◌, ◌-◌, ◌<◌, ◌≤◌, ◌^◌, Bool, true, false, nat_le, nat_lt, ◌&&◌, Option, Some, None, refl, sym, ap, ◌∙◌, arith, List, slice_index, if◌then◌else◌, common_steps, Program, RawSettings, HartState, Ask, Want, Load, Store, LoadReserved, StoreConditional, Amo, System, Cut, Faulted, Reply, absorbed, count_up, count_up_if, is_exit, has_value, Plan, Hart, TurnEnd, GoesOn, NewInterval, HartOver, RunOver, Span, Machine, answer_call, answer_sc, is_reserved, planned, kernel_of, budget, span_of, counted, after_call, is_orderly, is_marked_next, IsFit, MovesOn, AskMovesOn, EachTurnMovesOn, is_on, and_parts, leb-true, leb-false, ltb-true, eqb-true}
use Rattle.bn_base.specs.Faults.{fault_number}
use Rattle.bn_base.specs.declared.fault.Fault.{Fault}
use Rattle.bn_base.specs.declared.fault.Fault.TheVariants.{Illegal, Breakpoint, FetchOutside, TargetMisaligned, LoadOutside, LoadMisaligned, StoreOutside, StoreMisaligned, StoreReadOnly}
use Rattle.rv_meaning.specs.declared.asks.Reply.TheVariants as replies
use Rattle.system_calls.specs.declared.effect.Plan.TheVariants as plans
use Rattle.system_calls.specs.Laws.{is_end, ExitsAloneEnd}

pub budget_interval : (c : RawSettings) (h : Hart) → budget c h ≤ c.interval - (h.state.ic - h.begun)
budget_interval c h = grind (arith, common_steps)

pub budget_limit : (c : RawSettings) (h : Hart) → budget c h ≤ c.limit - h.state.ic
budget_limit c h = grind (arith, common_steps)

pub some_budget : (c : RawSettings) (h : Hart) → 0 < c.interval - (h.state.ic - h.begun) → 0 < c.limit - h.state.ic → 0 < budget c h
some_budget c h a b = grind (arith, common_steps)

pub one_up : (n : ℕ) → n < 2 ^ 63 → count_up n ≡ n + 1
one_up n small = grind (arith, common_steps)

-- what is known of a count after which the hart continues
pub record OnCount (c : RawSettings) (h : Hart) (ic : ℕ) (next : TurnEnd) : Type 0 where
  pub below : is_on next ≡ true → ic < c.limit
  pub within : next ≡ GoesOn → ic < h.begun + c.interval
  pub marked : is_marked_next next ≡ true

on_count : (c : RawSettings) (h : Hart) (ic : ℕ) (full end : Bool) → nat_le c.limit ic ≡ end → nat_le c.interval (ic - h.begun) ≡ full → OnCount c h ic (elim end [ true ↦ HartOver 7 0 | false ↦ elim full [ true ↦ NewInterval 1 0 | false ↦ GoesOn ] ])
on_count c h ic full true e f = record { below = λ p. cc; within = λ p. cc; marked = refl }
on_count c h ic true false e f = record { below = λ p. leb-false c.limit ic e; within = λ p. cc; marked = refl }
on_count c h ic false false e f = record { below = λ p. leb-false c.limit ic e; within = λ p. omega (arith, leb-false c.interval (ic - h.begun) f); marked = refl }

counted_on : (c : RawSettings) (h : Hart) (ic : ℕ) → OnCount c h ic (counted c h ic)
counted_on c h ic = on_count c h ic (nat_le c.interval (ic - h.begun)) (nat_le c.limit ic) refl refl

-- an access and a call move on by one instruction
one_moves : (c : RawSettings) (h : Hart) (asked after : ℕ) (next : TurnEnd) (span : Option Span) (load : Option ℕ) → c.limit < 2 ^ 63 → IsFit c h → h.state.ic ≤ asked → asked < h.state.ic + budget c h → after ≡ count_up asked
    → (next ≡ GoesOn → after < h.begun + c.interval) → is_marked_next next ≡ true → MovesOn c h asked after next span load
one_moves c h asked after next span load small fit from below e within marked =
    let one : after ≡ asked + 1 = e ∙ one_up asked (omega (arith, small, below, fit.limit, budget_limit c h)) in
    record {
      from = from;
      low = omega (arith, one);
      high = omega (arith, one, below);
      accessed = λ p. one;
      loaded = λ p. one;
      on = λ p. omega (arith, one, from);
      within = within;
      marked = marked;
    }

access_moves : (c : RawSettings) (h : Hart) (asked after : ℕ) (span : Option Span) (load : Option ℕ) → c.limit < 2 ^ 63 → IsFit c h → h.state.ic ≤ asked → asked < h.state.ic + budget c h → after ≡ count_up asked
    → MovesOn c h asked after (counted c h after) span load
access_moves c h asked after span load small fit from below e = let n = counted_on c h after in one_moves c h asked after _ span load small fit from below e n.within n.marked

-- a cut moves on by the whole budget
cut_moves : (c : RawSettings) (h : Hart) (asked after : ℕ) → IsFit c h → h.live ≡ true → asked ≡ h.state.ic + budget c h → after ≡ asked → MovesOn c h asked after (counted c h after) None None
cut_moves c h asked after fit live whole e =
    let n = counted_on c h after in
    let open_interval = fit.unfilled live in
    record {
      from = omega (arith, whole);
      low = omega (arith, e);
      high = omega (arith, e, whole);
      accessed = λ p. cc;
      loaded = λ p. cc;
      on = λ p. omega (arith, e, whole, some_budget c h (omega (arith, open_interval, fit.skipped)) (omega (arith, n.below p, e, whole)));
      within = n.within;
      marked = n.marked;
    }

-- a fault doesn't move on
fault_moves : (c : RawSettings) (h : Hart) (asked after : ℕ) (reason value : ℕ) → h.state.ic ≤ asked → asked < h.state.ic + budget c h → after ≡ asked → is_marked_next (RunOver reason value) ≡ true → MovesOn c h asked after (RunOver reason value) None None
fault_moves c h asked after reason value from below e marked = record {
  from = from;
  low = omega (arith, e);
  high = omega (arith, e, below);
  accessed = λ p. cc;
  loaded = λ p. cc;
  on = λ p. cc;
  within = λ p. cc;
  marked = marked;
}

fault_marked : (kind : Fault) (value : ℕ) → has_value kind value ≡ true → is_marked_next (RunOver (16 + fault_number kind) value) ≡ true
fault_marked Illegal value e = refl
fault_marked Breakpoint value e = e
fault_marked FetchOutside value e = refl
fault_marked TargetMisaligned value e = refl
fault_marked LoadOutside value e = refl
fault_marked LoadMisaligned value e = refl
fault_marked StoreOutside value e = refl
fault_marked StoreMisaligned value e = refl
fault_marked StoreReadOnly value e = refl

-- the count of an ask that is no cut
pub record InBudget (c : RawSettings) (h : Hart) (asked : ℕ) : Type 0 where
  pub from : h.state.ic ≤ asked
  pub below : asked < h.state.ic + budget c h

pub in_budget : (c : RawSettings) (h : Hart) (asked : ℕ) → (nat_le h.state.ic asked && nat_lt asked (h.state.ic + budget c h)) ≡ true → InBudget c h asked
in_budget c h asked e = record { from = leb-true _ _ (and_parts _ _ e).0; below = ltb-true _ _ (and_parts (nat_le h.state.ic asked) _ e).1 }

sc_moves : (b : Bool) (c : RawSettings) (h : Hart) (s : HartState) (a rd v k : ℕ) (m : Machine) → c.limit < 2 ^ 63 → IsFit c h → InBudget c h s.ic
    → let ask : Ask = record { state = s; want = StoreConditional a rd v } in let reply = (answer_sc b a v k m).reply in
    MovesOn c h s.ic (absorbed ask reply).ic (counted c h (absorbed ask reply).ic) (span_of None ask.want reply) None
sc_moves true c h s a rd v k m small fit b = access_moves c h s.ic _ _ None small fit b.from b.below refl
sc_moves false c h s a rd v k m small fit b = access_moves c h s.ic _ _ None small fit b.from b.below refl

-- an exit is counted
exit_counts : (number n : ℕ) → is_exit number ≡ true → count_up_if (is_exit number) n ≡ count_up n
exit_counts number n e = ap (λ (b : Bool). count_up_if b n) e

plan_moves : (p : Plan) (c : RawSettings) (h : Hart) (s : HartState) (number k : ℕ) (args : List ℕ) (m : Machine) → is_end p ≡ is_exit number → c.limit < 2 ^ 63 → IsFit c h → InBudget c h s.ic
    → let ask : Ask = record { state = s; want = System number args } in let reply = (answer_call p k m).reply in
    MovesOn c h s.ic (absorbed ask reply).ic (after_call p reply) (span_of (Some p) ask.want reply) None
plan_moves (plans.Fill a n) c h s number k args m e small fit b = one_moves c h s.ic _ _ _ _ small fit b.from b.below refl (λ p. cc) refl
plan_moves (plans.Send t a n) c h s number k args m e small fit b = one_moves c h s.ic _ _ _ _ small fit b.from b.below refl (λ p. cc) refl
plan_moves (plans.Break v) c h s number k args m e small fit b = one_moves c h s.ic _ _ _ _ small fit b.from b.below refl (λ p. cc) refl
plan_moves (plans.Answer v) c h s number k args m e small fit b = one_moves c h s.ic _ _ _ _ small fit b.from b.below refl (λ p. cc) refl
plan_moves (plans.EndHart v) c h s number k args m e small fit b = one_moves c h s.ic _ _ _ _ small fit b.from b.below (exit_counts number s.ic (sym e)) (λ p. cc) refl
plan_moves (plans.EndRun v) c h s number k args m e small fit b = one_moves c h s.ic _ _ _ _ small fit b.from b.below (exit_counts number s.ic (sym e)) (λ p. cc) refl

cut_at : (b : Bool) (c : RawSettings) (h : Hart) (s : HartState) → IsFit c h → h.live ≡ true → s.ic ≡ h.state.ic + budget c h
    → let ask : Ask = record { state = s; want = Cut } in let reply : Reply = if b then replies.Over else replies.Went in
    MovesOn c h s.ic (absorbed ask reply).ic (counted c h (absorbed ask reply).ic) None None
cut_at true c h s fit live whole = cut_moves c h s.ic _ fit live whole refl
cut_at false c h s fit live whole = cut_moves c h s.ic _ fit live whole refl

want_moves : (want : Want) → ExitsAloneEnd → (c : RawSettings) (i : Program) (m : Machine) (h : Hart) (k : ℕ) (s : HartState) → c.limit < 2 ^ 63 → IsFit c h → h.live ≡ true
    → is_orderly c i h (record { state = s; want = want }) ≡ true → AskMovesOn c i m h k (record { state = s; want = want })
want_moves (Load a w g rd) exits c i m h k s small fit live e = let b = in_budget c h s.ic (and_parts _ _ e).0 in access_moves c h s.ic _ _ _ small fit b.from b.below refl
want_moves (LoadReserved a rd) exits c i m h k s small fit live e = let b = in_budget c h s.ic (and_parts _ _ e).0 in access_moves c h s.ic _ _ _ small fit b.from b.below refl
want_moves (Store a w v) exits c i m h k s small fit live e = let b = in_budget c h s.ic (and_parts _ _ e).0 in access_moves c h s.ic _ _ _ small fit b.from b.below refl
want_moves (Amo a o rd v) exits c i m h k s small fit live e = let b = in_budget c h s.ic (and_parts _ _ e).0 in access_moves c h s.ic _ _ _ small fit b.from b.below refl
want_moves (StoreConditional a rd v) exits c i m h k s small fit live e = let b = in_budget c h s.ic (and_parts _ _ e).0 in sc_moves (is_reserved (m.reserved k) a) c h s a rd v k m small fit b
want_moves (System number args) exits c i m h k s small fit live e = let b = in_budget c h s.ic (and_parts _ _ e).0 in plan_moves (planned i m number args) c h s number k args m (exits number (slice_index args 0) (slice_index args 1) (slice_index args 2) (kernel_of m) i) small fit b
want_moves Cut exits c i m h k s small fit live e = cut_at (nat_le c.limit s.ic) c h s fit live (eqb-true _ _ (and_parts _ _ e).0)
want_moves (Faulted kind value) exits c i m h k s small fit live e =
    let b = in_budget c h s.ic (and_parts _ _ e).0 in
    fault_moves c h s.ic _ _ _ b.from b.below refl (fault_marked kind value (and_parts (nat_le h.state.ic s.ic && nat_lt s.ic (h.state.ic + budget c h)) _ e).1)

pub ask_moves : ExitsAloneEnd → EachTurnMovesOn
ask_moves exits c i m h k ask small fit live e = want_moves ask.want exits c i m h k ask.state small fit live e
