-- A hart begins its next interval by the guard.
use Rattle.run_model.proofs.Common.{◌≡◌, ℕ, ◌+◌, ◌<◌, ◌==◌, ◌++◌, Bool, true, false, List, ◌∷◌, length, refl, sym, ◌∙◌, ap, subst, slice_set, RawSettings, HartState, Event, Clear, Contents, RepresentsEvents, total, Shadow, RepresentsAccesses, Hart, Trace, anew, Run, by_guard, next_records, guard_records, begun_anew, guarded_run, AreCaches, cache_of, events_cleared, AreHarts, IsLog, IsTrace, everyone, eqb-true}
use Rattle.run_model.proofs.Bytes.{total_append}
use Rattle.run_model.proofs.Stopping.{are_set}

-- the histories after a clear of hart k's cache, told the two ways
cleared_by : (b : Bool) (j k : ℕ) (events : ℕ → List Event) → (j == k) ≡ b → (b ≡ true → j ≡ k)
    → elim b as (λ x. List Event) [ true ↦ Clear ∷ events k | false ↦ events j ] ≡ elim b as (λ x. List Event) [ true ↦ Clear ∷ events j | false ↦ events j ]
cleared_by true j k events e same = ap (λ (n : ℕ). Clear ∷ events n) (sym (same refl))
cleared_by false j k events e same = refl

caches_begun : (c : RawSettings) (cs : List Contents) (run : Run) (k : ℕ) (s : HartState) → AreCaches c cs (events_cleared k run.events) → AreCaches c cs (begun_anew run k s).events
caches_begun c cs run k s are = record {
  count = are.count;
  geometry = are.geometry;
  stands = λ j below. subst (λ (es : List Event). RepresentsEvents (cache_of cs j) es) (cleared_by (j == k) j k run.events refl (eqb-true j k)) (are.stands j below);
}

more_bytes : (now before old more : ℕ) → now ≡ old + more → old ≡ before → now ≡ before + more
more_bytes now before old more e f = e ∙ ap (λ (n : ℕ). n + more) f

-- what is traced then is the run with the next interval begun
pub trace_begun : (c : RawSettings) (old new : Trace) (run : Run) (k : ℕ) (s : HartState) (x own : Hart) → IsTrace c old run → k < length old.harts.items → x ≡ run.harts k
    → IsLog new.log (run.stream ++ next_records by_guard k x.number s) → own ≡ anew s new.log.bytes x → new.harts.items ≡ slice_set old.harts.items k own
    → AreCaches c new.caches (events_cleared k run.events) → new.shadow ≡ old.shadow → IsTrace c new (begun_anew run k s)
trace_begun c old new run k s x own is within same log eo items caches shadow =
    let begun = begun_anew run k s in
    let logged : IsLog new.log begun.stream = subst (λ (h : Hart). IsLog new.log (run.stream ++ next_records by_guard k h.number s)) same log in
    let bytes : new.log.bytes ≡ begun.bytes = more_bytes new.log.bytes run.bytes (total run.stream) (total (guard_records run k s)) (logged.bytes ∙ total_append run.stream (guard_records run k s)) (sym is.log.bytes ∙ is.bytes) in
    let own_is : own ≡ anew s begun.bytes (run.harts k) = eo ∙ ap (λ (n : ℕ). anew s n x) bytes ∙ ap (anew s begun.bytes) same in
    record {
      harts = subst (λ (hs : List Hart). AreHarts hs begun.harts) (sym items)
          (are_set old.harts.items k own run.harts begun.harts is.harts within (λ j. ap (λ (t : Hart). elim (j == k) as (λ y. Hart) [ true ↦ t | false ↦ run.harts j ]) own_is));
      caches = caches_begun c new.caches run k s caches;
      shadow = subst (λ (x : Shadow). RepresentsAccesses run.points everyone x) (sym shadow) is.shadow;
      log = logged;
      bytes = bytes;
    }

-- the run in which an ask is answered, by whether it is guarded
pub trace_guarded : (c : RawSettings) (t : Trace) (g : Bool) (run : Run) (k : ℕ) (s : HartState) → g ≡ true → IsTrace c t (begun_anew run k s) → IsTrace c t (guarded_run g run k s)
trace_guarded c t true run k s e is = is
trace_guarded c t false run k s e is = cc

pub trace_unguarded : (c : RawSettings) (t : Trace) (g : Bool) (run : Run) (k : ℕ) (s : HartState) → g ≡ false → IsTrace c t run → IsTrace c t (guarded_run g run k s)
trace_unguarded c t true run k s e is = cc
trace_unguarded c t false run k s e is = is
