-- No hart is live any more.
use Rattle.run_model.proofs.Common.{◌≡◌, ◌<◌, ◌≤◌, ℕ, zero, suc, ◌+◌, ◌-◌, true, false, List, length, refl, sym, ◌∙◌, ap, subst, arith, inl, inr, length-set, true≢false, Vec, get_or, slice_get, slice_set, Some, ◌≢◌, Global, eqb_tells, get_or-set_same, get_or-set_other, slice_get-get_or, get_or_from_slice_get, RawSettings, Hart, Trace, dead, most_turns, IsRested, turns_left, AreHarts, is_live_hart, hart_in, all_left, no_hart, IsTrace, IsTraceFit, IsHartFit, Run}
use Rattle.run_model.specs.Turn.{halted}
use Rattle.run_model.proofs.OneTurn.{live_within}

-- the harts below a number were ended
pub record Ending (number : ℕ) (before after : List Hart) : Type 0 where
  pub len : length after ≡ length before
  pub done : (k : ℕ) (d : Hart) → k < number → get_or after k d ≡ dead (get_or before k d)
  pub rest : (k : ℕ) (d : Hart) → number ≤ k → get_or after k d ≡ get_or before k d

-- what is at a place within a list, whatever the default
any_default : (hs : List Hart) (n : ℕ) (d x : Hart) → n < length hs → get_or hs n x ≡ get_or hs n d
any_default hs n d x within = sym (get_or_from_slice_get hs n (get_or hs n x) d (slice_get-get_or hs n x within))

apart : (k n : ℕ) → n + 1 ≤ k → k ≢ n
apart k n h e = omega (arith, h, e)

lower : (k n : ℕ) → k < n + 1 → k ≢ n → k < n
lower k n h e = omega (arith, h, e)

pub end_more : (before hs : List Hart) (n : ℕ) (x t : Hart) → n < length hs → x ≡ get_or hs n x → t ≡ dead x → Ending n before hs → Ending (n + 1) before (slice_set hs n t)
end_more before hs n x t within ex et i = record {
  len = length-set hs n t ∙ i.len;
  done = λ k d below. elim (eqb_tells k n) [
    | inl p ↦ ap (λ (j : ℕ). get_or (slice_set hs n t) j d) p.1 ∙ get_or-set_same hs n t d within ∙ et ∙ ap dead (ex ∙ any_default hs n d x within ∙ i.rest n d (omega arith)) ∙ ap (λ (j : ℕ). dead (get_or before j d)) (sym p.1)
    | inr p ↦ get_or-set_other hs n k t d p.1 ∙ i.done k d (lower k n below p.1)
  ];
  rest = λ k d above. get_or-set_other hs n k t d (apart k n above) ∙ i.rest k d (omega (arith, above));
}

-- lists of harts, of which the second is the first without a live hart
pub record AreEnded (old new : List Hart) : Type 0 where
  pub each : (k : ℕ) (d : Hart) → k < length old → get_or new k d ≡ dead (get_or old k d)
  pub len : length new ≡ length old

ended_are : (old new : List Hart) (f : ℕ → Hart) → AreEnded old new → AreHarts old f → AreHarts new (λ k. dead (f k))
ended_are old new f e are k below =
    let within : k < length old = omega (arith, below, e.len) in
    slice_get-get_or new k no_hart below ∙ ap Some (e.each k no_hart within ∙ ap dead (get_or_from_slice_get old k (f k) no_hart (are k within)))

-- what is traced is then the run that was halted, after so many turns
pub ended_trace : (c : RawSettings) (t : Trace) (v : Vec Hart Global) (run : Run) (turns : ℕ) → AreEnded t.harts.items v.items → IsTrace c t run → IsTrace c (record t { harts = v }) (record (halted run) { turns = turns })
ended_trace c t v run turns e is = record { harts = ended_are t.harts.items v.items run.harts e is.harts; caches = is.caches; shadow = is.shadow; log = is.log; bytes = is.bytes }

-- ---- counts

none_left : (c : RawSettings) (n : ℕ) (f : ℕ → Hart) → ((k : ℕ) → k < n → turns_left c (f k) ≡ 0) → all_left c n f ≡ 0
none_left c zero f each = refl
none_left c (suc n) f each = omega (arith, each n (omega arith), none_left c n f (λ k below. each k (omega (arith, below))))

part_left : (c : RawSettings) (n k : ℕ) (f : ℕ → Hart) → k < n → turns_left c (f k) ≤ all_left c n f
part_left c zero k f within = omega (arith, within)
part_left c (suc n) k f within = elim (eqb_tells k n) [
  | inl p ↦ subst (λ (j : ℕ). turns_left c (f j) ≤ all_left c (suc n) f) (sym p.1) (omega arith)
  | inr p ↦ omega (arith, part_left c n k f (lower k n (omega (arith, within)) p.1))
]

-- a hart that is live has a turn left
pub some_left : (c : RawSettings) (n k : ℕ) (f : ℕ → Hart) → k < n → (f k).live ≡ true → 1 ≤ all_left c n f
some_left c n k f within live =
    let one : turns_left c (f k) ≡ c.limit - (f k).state.ic + 1 = ap (λ b. elim b [ true ↦ c.limit - (f k).state.ic + 1 | false ↦ 0 ]) live in
    omega (arith, one, part_left c n k f within)

fit_dead : (c : RawSettings) (h : Hart) → IsRested c h → IsRested c (dead h)
fit_dead c h rested =
    let fit = rested.fit in
    record { fit = record { number = fit.number; skipped = fit.skipped; interval = fit.interval; limit = fit.limit; unfilled = λ p. cc }; number = λ p. cc }

hart_fit : (c : RawSettings) (t : Trace) (v : Vec Hart Global) (k : ℕ) → hart_in v.items k ≡ dead (hart_in t.harts.items k) → IsHartFit c t k → IsHartFit c (record t { harts = v }) k
hart_fit c t v k e fit = record {
  fit = subst (λ (h : Hart). IsRested c h) (sym e) (fit_dead c (hart_in t.harts.items k) fit.fit);
  steps = omega (arith, fit.steps, ap (λ (h : Hart). h.state.ic) e, ap (λ (h : Hart). h.number) e);
  count = omega (arith, fit.count, ap (λ (h : Hart). h.state.ic) e);
  lasting = λ live. let over : (hart_in v.items k).live ≡ false = ap (λ (h : Hart). h.live) e in absurd (true≢false (sym live ∙ over));
}

pub ended_fits : (c : RawSettings) (t : Trace) (v : Vec Hart Global) (turns later : ℕ) → AreEnded t.harts.items v.items → IsTraceFit c t turns → turns ≤ later → later ≤ most_turns c → IsTraceFit c (record t { harts = v }) later
ended_fits c t v turns later e fit up most =
    let at : (k : ℕ) → k < c.harts → hart_in v.items k ≡ dead (hart_in t.harts.items k) = λ k below. e.each k no_hart (omega (arith, below, fit.harts)) in
    let none = none_left c c.harts (hart_in v.items) (λ k below. ap (turns_left c) (at k below)) in
    record {
      settings = fit.settings;
      few = fit.few;
      harts = e.len ∙ fit.harts;
      caches = fit.caches;
      shadow = fit.shadow;
      each = λ k below. hart_fit c t v k (at k below) (fit.each k below);
      turn = omega (arith, fit.turn, up);
      left = omega (arith, none, most);
      log = omega (arith, fit.log, up);
      log_size = fit.log_size;
    }

-- while a hart is live, not all turns were taken
pub turn_left : (c : RawSettings) (t : Trace) (turns k : ℕ) → IsTraceFit c t turns → is_live_hart (slice_get t.harts.items k) ≡ true → turns < most_turns c
turn_left c t turns k fit live =
    let there = live_within t.harts.items k live in
    let some = some_left c c.harts k (hart_in t.harts.items) (omega (arith, there.0, fit.harts)) there.1 in
    omega (arith, fit.left, some)
