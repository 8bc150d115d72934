-- The laws of the order of records that speak of a hart's view.
use Rattle.std.specs.Prelude.{◌≡◌, ◌≢◌, ◌<◌, ◌≤◌, ◌+◌, ◌^◌, ◌==◌, ℕ, Bool, true, max, List, length, replicate, slice_get, slice_set, Option, Some, None, Ok}
use Rattle.log_order.specs.Common.{AllByRecursion, EndMark, Record, Header, FirstLoad, ScOk, ScFailed, Edge, End}
use Rattle.log_order.specs.declared.view.OrderLimits.{OrderLimits}
use Rattle.log_order.specs.declared.view.HartView.{HartView}
use Rattle.log_order.specs.declared.view.Phase.{Phase}
use Rattle.log_order.specs.declared.view.Phase.TheVariants.{Awaiting, Open}
use Rattle.log_order.specs.Rules.{fresh, is_done, phase_after}
use Rattle.log_order.specs.Order.{step, after_all, late_edge, broken}
use Rattle.log_order.specs.Weak.{AreWeak}
use Rattle.log_order.specs.Suffix.{Keeps}

-- ---- kept records

-- kept records keep the rules of single records, if each hart begins as it does in a log with so many dropped
abbrev pub SuffixesKeepTheRules : Type 0
SuffixesKeepTheRules = (t : OrderLimits) (count dropped : ℕ) (kept : List Record) (harts : List HartView) → Keeps t count dropped kept harts
    → (weaker : List HartView) × (after_all t 0 (replicate count (fresh (dropped == 0))) kept ≡ Ok weaker) × AreWeak weaker harts

-- in the end, if each hart is done and no Edge is late, kept records are in order
abbrev pub SuffixesAreInOrder : Type 0
SuffixesAreInOrder = (t : OrderLimits) (count dropped : ℕ) (kept : List Record) (harts : List HartView) → Keeps t count dropped kept harts
    → AllByRecursion (λ v. is_done v.phase ≡ true) harts → late_edge harts 0 kept ≡ None → broken t count (dropped == 0) kept ≡ None

-- ---- what may follow

-- a hart's view in a phase
abbrev pub view_in : Phase → ℕ → Bool → Option ℕ → HartView
view_in phase seen met last = record { phase = phase; seen = seen; met = met; last = last }

-- the Header that its hart awaits
abbrev pub AnAwaitedHeaderFollows : Type 0
AnAwaitedHeaderFollows = (t : OrderLimits) (harts : List HartView) (h n ic pc : ℕ) (x : List ℕ) (seen : ℕ) (met : Bool) (last : Option ℕ)
    → slice_get harts h ≡ Some (view_in (Awaiting (Some n) ic) seen met last)
    → n ≤ 2 ^ 41 → seen ≤ ic → ic ≤ t.limit
    → step t harts (Header h n ic pc x) ≡ Ok (slice_set harts h (view_in (Open (n + 1) ic) seen true last))

-- a FirstLoad, a ScOk and a ScFailed, in an interval
abbrev pub LoadsAndConditionalsFollow : Type 0
LoadsAndConditionalsFollow = (t : OrderLimits) (harts : List HartView) (h skip value next since seen : ℕ) (met : Bool) (last : Option ℕ)
    → slice_get harts h ≡ Some (view_in (Open next since) seen met last)
    → let after = Ok (slice_set harts h (view_in (Open next since) seen true last)) in
    (step t harts (FirstLoad h skip value) ≡ after) × (step t harts (ScOk h) ≡ after) × (step t harts (ScFailed h) ≡ after)

-- an Edge into an instruction of the interval, not before those of earlier Edges
abbrev pub AnEdgeFollows : Type 0
AnEdgeFollows = (t : OrderLimits) (harts : List HartView) (h ic s j next since seen : ℕ) (met : Bool) (last : Option ℕ)
    → slice_get harts h ≡ Some (view_in (Open next since) seen met last)
    → s < length harts → s ≢ h → ic < t.limit → j < t.limit → seen ≤ ic + 1 → since ≤ ic → ic < since + t.interval
    → step t harts (Edge h ic s j) ≡ Ok (slice_set harts h (view_in (Open next since) (max seen (ic + 1)) true last))

-- an End of the interval
abbrev pub AnEndFollows : Type 0
AnEndFollows = (t : OrderLimits) (harts : List HartView) (h : ℕ) (mark : EndMark) (next since seen : ℕ) (met : Bool) (last : Option ℕ)
    → slice_get harts h ≡ Some (view_in (Open next since) seen met last)
    → seen ≤ mark.ic → mark.ic ≤ t.limit → (mark.reason ≡ 7 → mark.ic ≡ t.limit)
    → since ≤ mark.ic → mark.ic ≤ since + t.interval → (mark.reason ≡ 1 → mark.ic ≡ since + t.interval)
    → step t harts (End h mark) ≡ Ok (slice_set harts h (view_in (phase_after (Open next since) mark) seen true (Some mark.ic)))
