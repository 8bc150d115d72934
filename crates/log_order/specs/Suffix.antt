-- Records of which the first may be given up, as a recorder keeps them.
use Rattle.std.specs.Prelude.{◌≡◌, ℕ, ◌<◌, ◌≤◌, true, List, ◌++◌, length, replicate, Ok, Some, slice_get}
use Rattle.log_order.specs.Common.{Record, Header, FirstLoad, ScOk, ScFailed, Edge, End}
use Rattle.log_order.specs.declared.view.OrderLimits.{OrderLimits}
use Rattle.log_order.specs.declared.view.HartView.{HartView}
use Rattle.log_order.specs.Rules.{fresh}
use Rattle.log_order.specs.Order.{after_all}

-- the kept records are the last ones of a list that keeps the rules of single records and leaves the harts so; the others are counted
pub record Keeps (t : OrderLimits) (count dropped : ℕ) (kept : List Record) (harts : List HartView) : Type 0 where
  pub gone : List Record
  pub dropped_is : dropped ≡ length gone
  pub ran : after_all t 0 (replicate count (fresh true)) (gone ++ kept) ≡ Ok harts

-- an Edge comes from an instruction that its source, which has done so many, has done
abbrev pub IsEarly : (ℕ → ℕ) → Record → Type 0
IsEarly counts (Header h n ic pc x) = Unit {0}
IsEarly counts (FirstLoad h skip value) = Unit {0}
IsEarly counts (ScOk h) = Unit {0}
IsEarly counts (ScFailed h) = Unit {0}
IsEarly counts (Edge h ic s j) = j < counts s
IsEarly counts (End h mark) = Unit {0}

-- the last End of each hart that has one has at least its count
abbrev pub EndsLast : (ℕ → ℕ) → List HartView → Type 0
EndsLast counts harts = (s : ℕ) (v : HartView) (last : ℕ) → slice_get harts s ≡ Some v → v.last ≡ Some last → counts s ≤ last
