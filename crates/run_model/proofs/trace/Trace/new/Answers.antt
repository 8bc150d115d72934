use Rattle.run_model.proofs.Common.{refl, ap, ◌∙◌, [], held, everyone, ◌≡◌, ℕ, zero, suc, ◌+◌, ◌-◌, ◌*◌, ◌<◌, ◌≤◌, ◌==◌, Bool, true, false, List, length, sym, subst, arith, if◌then◌else◌, IsTrue, Program, IsSetting, RawSettings, HARTS, Held, HoldsLog, kept, Log, RepresentsAccesses, harts_of, lasts, next_turn, next_count, Hart, Trace, start, start_state, first_headers, IsRested, turns_left, AreCaches, steps_in, AreFirst, first_hart, hart_in, all_left, IsTrace, IsTraceFit, IsLog}
use Rattle.run_model.proofs.Bytes.{headers_have}
use Rattle.run_model.proofs.Fits.{fit_start}
use Rattle.run_model.proofs.Owns.{hart_of_run}
use Rattle.run_model.proofs.trace.Trace.new.Goals as goal

-- What is traced before the first turn.

most_few : (b : Bool) → (if b then 16 else 8) ≤ HARTS
most_few true = omega arith
most_few false = omega arith

-- an empty ring holds no records
empty_holds : (size : ℕ) → HoldsLog (held [] 0 size) []
unfolding kept
empty_holds size = record { latest = refl; counted = refl }

empty_is : (log : Log) (size : ℕ) → log.ring ≡ held [] 0 size → log.bytes ≡ 0 → IsLog log []
empty_is log size e none = record { holds = subst (λ (r : Held). HoldsLog r []) (sym e) (empty_holds size); bytes = none }

trace_begins : (c : RawSettings) (i : Program) (n : ℕ) (old : Log) (t : Trace) (input : List ℕ) → n ≡ c.harts → AreFirst c i n old t.harts.items t.log → IsLog old [] → AreCaches c t.caches (λ k. []) → RepresentsAccesses [] everyone t.shadow
    → IsTrace c t (start c i input)
trace_begins c i n old t input e first empty caches shadow =
    let log : IsLog t.log (first_headers c i 0 c.harts) = subst (λ (m : ℕ). IsLog t.log (first_headers c i 0 m)) e (first.log [] empty) in
    record {
      harts = first.each;
      caches = caches;
      shadow = shadow;
      log = log;
      bytes = log.bytes ∙ headers_have c i 0 c.harts;
    }

-- each hart can have one turn more than its limit
all_first : (c : RawSettings) (i : Program) (n : ℕ) (f : ℕ → Hart) → ((k : ℕ) → k < n → f k ≡ first_hart c i k) → all_left c n f ≡ n * (c.limit + 1)
all_first c i zero f each = omega arith
all_first c i (suc n) f each =
    let one : turns_left c (f n) ≡ c.limit - 0 + 1 = ap (turns_left c) (each n (omega arith)) in
    let rest = all_first c i n f (λ k below. each k (omega (arith, below))) in
    omega (arith, one, rest)

trace_fits : (c : RawSettings) (i : Program) (n : ℕ) (old : Log) (t : Trace) → IsSetting c → n ≡ c.harts → AreFirst c i n old t.harts.items t.log → old.ring ≡ held [] 0 c.log_size → length t.caches ≡ c.harts → ((k : ℕ) → steps_in t.caches k ≡ 0)
    → harts_of t.shadow ≡ c.harts → next_turn t.shadow ≡ 0 → ((k : ℕ) → next_count t.shadow k ≡ 0) → ((k : ℕ) → k < harts_of t.shadow → IsTrue (lasts t.shadow k)) → IsTraceFit c t 0
trace_fits c i n old t settings e first empty caches steps harts turn counts lasting =
    let at : (k : ℕ) → k < c.harts → hart_in t.harts.items k ≡ first_hart c i k = λ k below. hart_of_run t.harts.items k (first_hart c i) first.each (omega (arith, below, first.len, e)) in
    let size : old.ring.size ≡ c.log_size = ap (λ (r : Held). r.size) empty in
    let dropped : old.ring.dropped ≡ 0 = ap (λ (r : Held). r.dropped) empty in
    let none : length old.ring.records ≡ 0 = ap (λ (r : Held). length r.records) empty in
    let few : c.harts ≤ HARTS = omega (arith, settings.harts_high, most_few (c.format == 2)) in
    record {
      settings = settings;
      few = few;
      harts = first.len ∙ e;
      caches = caches;
      shadow = harts;
      each = λ k below. record {
        fit = subst (λ (h : Hart). IsRested c h) (sym (at k below)) (fit_start c k (start_state c i k) refl settings.interval_low);
        steps = omega (arith, steps k);
        count = omega (arith, counts k);
        lasting = λ e. lasting k (omega (arith, below, harts));
      };
      turn = omega (arith, turn);
      left = omega (arith, all_first c i c.harts (hart_in t.harts.items) at);
      log = omega (arith, first.took.count_is, dropped, none, e, few);
      log_size = first.took.size ∙ size;
    }

pub returns-clause-run : goal.returns-clause-run
returns-clause-run c input = trace_begins c.args.settings.now c.args.image.now _ c.in_ok-log.log _ input refl c.in_ok-harts.ensures (empty_is c.in_ok-log.log _ c.in_ok-log.ensures.ring c.in_ok-log.ensures.bytes) c.in_ok-caches.ensures.stands (c.in_ok-shadow.ensures.stands everyone)

pub returns-clause-fits : goal.returns-clause-fits
returns-clause-fits c = trace_fits c.args.settings.now c.args.image.now _ c.in_ok-log.log _ c.raw-settings.ensures.in_range refl c.in_ok-harts.ensures (c.in_ok-log.ensures.ring ∙ ap (held [] 0) c.log_size.ensures.value) c.in_ok-caches.ensures.stands.count c.in_ok-caches.ensures.steps c.in_ok-shadow.ensures.harts c.in_ok-shadow.ensures.turn c.in_ok-shadow.ensures.counts c.in_ok-shadow.ensures.lasting
