-- A recording after lawful rows.
use Rattle.file_laws.proofs.Common.{◌≡◌, ℕ, zero, suc, ◌+◌, ◌-◌, ◌<◌, Bool, true, false, nat_lt, Some, None, List, [], ◌∷◌, ◌++◌, length, replicate, Ok, refl, sym, ◌∙◌, ap, subst, arith, inl, inr, ◌⊎◌, ◌==◌, slice_get, AllByRecursion, false≢true, eqb_tells, length-append, Program, IsSetting, RawSettings, Ask, TurnRow, Record, OrderLimits, HartView, fresh, is_done, after_all, order_limits_of, late_edge, broken, broken_by, Keeps, IsEarly, EndsLast, Held, HoldsLog, kept, Hart, Run, Served, serve, serve_disorderly, served_if, is_orderly, any_live, kept_of, dropped_of, after_rows, are_orderly, IsLawful, counts_of, KeepsRules, and_parts, ltb-true, or_parts, slice_get_within, start, KeptRecordsKeepTheRules, FinishedLogsAreInOrder, same_Some}
use Rattle.log_order.specs.Weak.{AreWeak}
use Rattle.run_model.specs.Runs as runs
use Rattle.file_laws.proofs.Views.{Views}
use Rattle.file_laws.proofs.Turns.{Laws, Recording, turn_kept}
use Rattle.file_laws.proofs.Starts.{NoneAreKept, started}

-- what holds at all times
pub record Written (c : RawSettings) (run : Run) : Type 0 where
  pub views : Views
  pub keeps : Keeps (order_limits_of c) c.harts 0 run.stream views
  pub early : AllByRecursion (IsEarly (counts_of run)) run.stream

abbrev written : (c : RawSettings) (run : Run) → Recording c run → Written c run
written c run known = record { views = known.views; keeps = known.keeps; early = known.early }

disordered : (c : RawSettings) (i : Program) (run : Run) (k : ℕ) (ask : Ask) → is_orderly c i (run.harts k) ask ≡ false → serve c i run k ask ≡ serve_disorderly run
unfolding serve
disordered c i run k ask o = ap (λ (b : Bool). served_if b c i run k ask) o

-- an ask that isn't orderly adds nothing, and no row comes after it
after_disorder : (c : RawSettings) (i : Program) (run : Run) (rows : List TurnRow) → Recording c run → IsLawful c i (serve_disorderly run).run rows → Written c (after_rows c i (serve_disorderly run).run rows)
after_disorder c i run [] known lawful = record { views = known.views; keeps = known.keeps; early = known.early }
after_disorder c i run (r ∷ rs) known lawful = absurd (false≢true (and_parts (nat_lt r.hart c.harts) false lawful.0).1)

by_order : (b : Bool) → Laws → (c : RawSettings) (i : Program) (run : Run) (r : TurnRow) (rs : List TurnRow) → IsSetting c → Recording c run → IsLawful c i run (r ∷ rs)
    → ((next : Run) → Recording c next → IsLawful c i next rs → Written c (after_rows c i next rs))
    → is_orderly c i (run.harts r.hart) r.ask ≡ b → Written c (after_rows c i run (r ∷ rs))
by_order true laws c i run r rs setting known lawful rest o =
    let live = and_parts (nat_lt r.hart c.harts) (run.harts r.hart).live lawful.0 in
    rest (serve c i run r.hart r.ask).run (turn_kept laws c i run r.hart r.ask setting known (ltb-true r.hart c.harts live.0) live.1 o) lawful.3
by_order false laws c i run r rs setting known lawful rest o =
    let e = disordered c i run r.hart r.ask o in
    subst (λ (s : Served). Written c (after_rows c i s.run rs)) (sym e) (after_disorder c i run rs known (subst (λ (s : Served). IsLawful c i s.run rs) e lawful.3))

-- after any lawful rows
pub rows_kept : Laws → (c : RawSettings) (i : Program) (run : Run) (rows : List TurnRow) → IsSetting c → Recording c run → IsLawful c i run rows → Written c (after_rows c i run rows)
rows_kept laws c i run [] setting known lawful = written c run known
rows_kept laws c i run (r ∷ rs) setting known lawful =
    by_order (is_orderly c i (run.harts r.hart) r.ask) laws c i run r rs setting known lawful (λ next k l. rows_kept laws c i next rs setting k l) refl

pub orderly_first : (b x : Bool) → elim b as (λ z. Bool) [ true ↦ x | false ↦ false ] ≡ true → (b ≡ true) × (x ≡ true)
orderly_first true x e = (refl, e)
orderly_first false x e = cc

-- after lawful rows of orderly asks
pub rows_recorded : Laws → (c : RawSettings) (i : Program) (run : Run) (rows : List TurnRow) → IsSetting c → Recording c run → IsLawful c i run rows → are_orderly c i run rows ≡ true → Recording c (after_rows c i run rows)
rows_recorded laws c i run [] setting known lawful orderly = known
rows_recorded laws c i run (r ∷ rs) setting known lawful orderly =
    let live = and_parts (nat_lt r.hart c.harts) (run.harts r.hart).live lawful.0 in
    let first = orderly_first (is_orderly c i (run.harts r.hart) r.ask) (are_orderly c i (serve c i run r.hart r.ask).run rs) orderly in
    rows_recorded laws c i (serve c i run r.hart r.ask).run rs setting
    (turn_kept laws c i run r.hart r.ask setting known (ltb-true r.hart c.harts live.0) live.1 first.0) lawful.3 first.1

-- ---- what is kept

-- the laws about kept records
abbrev pub SuffixIsKept : Type 0
SuffixIsKept = (size : ℕ) (rs : List Record) → (front : List Record) × (rs ≡ front ++ kept size rs)

abbrev pub FirstAreGivenUp : Type 0
FirstAreGivenUp = (t : OrderLimits) (count dropped : ℕ) (front back : List Record) (harts : List HartView) → Keeps t count dropped (front ++ back) harts → Keeps t count (dropped + length front) back harts

abbrev pub KeptKeepRules : Type 0
KeptKeepRules = (t : OrderLimits) (count dropped : ℕ) (kept : List Record) (harts : List HartView) → Keeps t count dropped kept harts → (weaker : List HartView) × (after_all t 0 (replicate count (fresh (dropped == 0))) kept ≡ Ok weaker) × AreWeak weaker harts

abbrev pub KeptAreInOrder : Type 0
KeptAreInOrder = (t : OrderLimits) (count dropped : ℕ) (kept : List Record) (harts : List HartView) → Keeps t count dropped kept harts → AllByRecursion (λ v. is_done v.phase ≡ true) harts → late_edge harts 0 kept ≡ None → broken t count (dropped == 0) kept ≡ None

abbrev pub EarlyAreNotLate : Type 0
EarlyAreNotLate = (counts : ℕ → ℕ) (harts : List HartView) (start : ℕ) (rs : List Record) → EndsLast counts harts → AllByRecursion (IsEarly counts) rs → late_edge harts start rs ≡ None

-- as many were dropped as come before the kept ones
pub dropped_is : (stream front back : List Record) → stream ≡ front ++ back → length stream - length back ≡ length front
dropped_is stream front back e = omega (arith, ap length e, length-append front back)

pub last_part : {X : Type 0} (P : X → Type 0) (xs ys : List X) → AllByRecursion P (xs ++ ys) → AllByRecursion P ys
last_part P [] ys a = a
last_part P (x ∷ xs) ys a = last_part P xs ys a.1

pub kept_keeps : SuffixIsKept → FirstAreGivenUp → (c : RawSettings) (run : Run) (w : Written c run) → Keeps (order_limits_of c) c.harts (dropped_of c run) (kept_of c run) w.views
kept_keeps suffix given c run w =
    let part = suffix c.log_size run.stream in
    let kp = given (order_limits_of c) c.harts 0 part.0 (kept_of c run) w.views (subst (λ (x : List Record). Keeps (order_limits_of c) c.harts 0 x w.views) part.1 w.keeps) in
    let n : 0 + length part.0 ≡ dropped_of c run = omega (arith, dropped_is run.stream part.0 (kept_of c run) part.1) in
    subst (λ (d : ℕ). Keeps (order_limits_of c) c.harts d (kept_of c run) w.views) n kp

pub kept_early : SuffixIsKept → (c : RawSettings) (run : Run) → Written c run → AllByRecursion (IsEarly (counts_of run)) (kept_of c run)
kept_early suffix c run w =
    let part = suffix c.log_size run.stream in
    last_part (IsEarly (counts_of run)) part.0 (kept_of c run) (subst (AllByRecursion (IsEarly (counts_of run))) part.1 w.early)

pub kept_rules : SuffixIsKept → FirstAreGivenUp → KeptKeepRules → (c : RawSettings) (run : Run) → Written c run → KeepsRules c (counts_of run) (dropped_of c run) (kept_of c run)
kept_rules suffix given rules c run w =
    let r = rules (order_limits_of c) c.harts (dropped_of c run) (kept_of c run) w.views (kept_keeps suffix given c run w) in
    record { views = r.0; ran = r.1; early = kept_early suffix c run w }

-- ---- a ring

counted_is : (d l s : ℕ) → d + l ≡ s → d ≡ s - l
counted_is d l s e = omega (arith, e)

pub held_records : (c : RawSettings) (run : Run) (ring : Held) → HoldsLog ring run.stream → ring.size ≡ c.log_size → ring.records ≡ kept_of c run
held_records c run ring log size = log.latest ∙ ap (λ (n : ℕ). kept n run.stream) size

pub held_dropped : (c : RawSettings) (run : Run) (ring : Held) → HoldsLog ring run.stream → ring.size ≡ c.log_size → ring.dropped ≡ dropped_of c run
held_dropped c run ring log size = counted_is ring.dropped (length ring.records) (length run.stream) log.counted ∙ ap (λ (rs : List Record). length run.stream - length rs) (held_records c run ring log size)

pub held_rules : (c : RawSettings) (run : Run) (ring : Held) → HoldsLog ring run.stream → ring.size ≡ c.log_size → KeepsRules c (counts_of run) (dropped_of c run) (kept_of c run) → KeepsRules c (counts_of run) ring.dropped ring.records
held_rules c run ring log size rules =
    subst (λ (n : ℕ). KeepsRules c (counts_of run) n ring.records) (sym (held_dropped c run ring log size))
    (subst (λ (rs : List Record). KeepsRules c (counts_of run) (dropped_of c run) rs) (sym (held_records c run ring log size)) rules)

-- ---- no hart is live

last_or_before : (j n : ℕ) → j < suc n → (j ≡ n) ⊎ (j < n)
last_or_before j n h = elim (eqb_tells j n) [
  | inl p ↦ inl p.1
  | inr p ↦ inr (omega (arith, h, p.1))
]

none_live : (n : ℕ) (harts : ℕ → Hart) → any_live n harts ≡ false → (j : ℕ) → j < n → (harts j).live ≡ false
none_live zero harts e j h = absurd (omega (arith, h))
none_live (suc n) harts e j h =
    let parts = or_parts (harts n).live (any_live n harts) e in
    elim (last_or_before j n h) [
      | inl p ↦ subst (λ (x : ℕ). (harts x).live ≡ false) (sym p) parts.0
      | inr p ↦ none_live n harts parts.1 j p
    ]

over_known : (b : Bool) → elim b as (λ x. Bool) [ true ↦ false | false ↦ true ] ≡ true → b ≡ false
over_known true e = cc
over_known false e = refl

all_over : (vs : Views) → ((j : ℕ) (v : HartView) → slice_get vs j ≡ Some v → is_done v.phase ≡ true) → AllByRecursion (λ v. is_done v.phase ≡ true) vs
all_over [] each = tt
all_over (v ∷ vs) each = (each 0 v refl, all_over vs (λ j w e. each (suc j) w e))

-- the view of a hart that isn't live
record Ended (ic : ℕ) (v : HartView) : Type 0 where
  over : is_done v.phase ≡ true
  last : v.last ≡ Some ic

ended_at : (c : RawSettings) (run : Run) (known : Recording c run) → any_live c.harts run.harts ≡ false → (j : ℕ) (v : HartView) → slice_get known.views j ≡ Some v → Ended (counts_of run j) v
ended_at c run known none j v e =
    let within : j < c.harts = omega (arith, slice_get_within known.views j v e, known.size) in
    let done = (known.view j within).over (none_live c.harts run.harts none j within) in
    subst (Ended (counts_of run j)) (same_Some _ v (sym done.is ∙ e)) (record { over = refl; last = refl })

ends_last : (c : RawSettings) (run : Run) (known : Recording c run) → any_live c.harts run.harts ≡ false → EndsLast (counts_of run) known.views
ends_last c run known none s v last e l =
    let end = (ended_at c run known none s v e).last in
    let same : counts_of run s ≡ last = same_Some _ _ (sym end ∙ l) in omega (arith, same)

pub kept_in_order : SuffixIsKept → FirstAreGivenUp → KeptAreInOrder → EarlyAreNotLate → (c : RawSettings) (run : Run) → Recording c run → runs.has_finished c run ≡ true → broken_by c (dropped_of c run) (kept_of c run) ≡ None
kept_in_order suffix given order early c run known over =
    let none = over_known (any_live c.harts run.harts) over in
    let w = written c run known in
    order (order_limits_of c) c.harts (dropped_of c run) (kept_of c run) known.views (kept_keeps suffix given c run w)
    (all_over known.views (λ j v e. (ended_at c run known none j v e).over))
    (early (counts_of run) known.views 0 (kept_of c run) (ends_last c run known none) (kept_early suffix c run w))

-- so are all records, if none is dropped
pub stream_in_order : KeptAreInOrder → EarlyAreNotLate → (c : RawSettings) (run : Run) → Recording c run → runs.has_finished c run ≡ true → broken_by c 0 run.stream ≡ None
stream_in_order order early c run known over =
    let none = over_known (any_live c.harts run.harts) over in
    let w = written c run known in
    order (order_limits_of c) c.harts 0 run.stream known.views w.keeps
    (all_over known.views (λ j v e. (ended_at c run known none j v e).over))
    (early (counts_of run) known.views 0 run.stream (ends_last c run known none) w.early)

-- ---- the laws

pub rules_are_kept : Laws → NoneAreKept → SuffixIsKept → FirstAreGivenUp → KeptKeepRules → KeptRecordsKeepTheRules
rules_are_kept laws none suffix given rules c i input rows setting lawful =
    kept_rules suffix given rules c _ (rows_kept laws c i (start c i input) rows setting (started laws.order none c i input setting) lawful)

pub finished_in_order : Laws → NoneAreKept → SuffixIsKept → FirstAreGivenUp → KeptAreInOrder → EarlyAreNotLate → FinishedLogsAreInOrder
finished_in_order laws none suffix given order early c i input rows setting lawful orderly over =
    kept_in_order suffix given order early c _ (rows_recorded laws c i (start c i input) rows setting (started laws.order none c i input setting) lawful orderly) over
