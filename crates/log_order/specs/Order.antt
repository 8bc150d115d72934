-- The order of the records of a log.
use Rattle.std.specs.Prelude.{◌≡◌, ℕ, ◌+◌, Bool, true, false, not, ◌&&◌, ◌==◌, nat_le, nat_lt, List, [], ◌∷◌, length, replicate, slice_get, slice_set, Option, Some, None, Result, Ok, Err, if◌then◌else◌}
use Rattle.log_order.specs.Common.{list_any, RawSettings, Record, Header, FirstLoad, ScOk, ScFailed, Edge, End, bytes_of, hart_of, total}
use Rattle.std.specs.Option.{option_map}
use Rattle.log_order.specs.declared.view.OrderLimits.{OrderLimits}
use Rattle.log_order.specs.declared.view.HartView.{HartView}
use Rattle.log_order.specs.declared.walk.OrderBreak.{OrderBreak}
use Rattle.log_order.specs.declared.rule.OrderRule.TheVariants.{HartsBelow, HartsDone, SourcesDone}
use Rattle.log_order.specs.Rules.{number_of, breaks, after_one, fresh, is_unfinished}

infixl 10 ◌>>=◌
-- what comes next of a result, if it is no error
abbrev pub ◌>>=◌ : {A B E : Type 0} → Result A E → (A → Result B E) → Result B E
(Ok x) >>= f = f x
(Err e) >>= f = Err e

-- an Edge's source is another hart of so many
abbrev pub has_source : ℕ → Record → Bool
has_source harts (Header h n ic pc x) = true
has_source harts (FirstLoad h skip value) = true
has_source harts (ScOk h) = true
has_source harts (ScFailed h) = true
has_source harts (Edge h ic s j) = nat_lt s harts && not (s == h)
has_source harts (End h mark) = true

-- the harts after a record of the one that has this view, if there is one
abbrev pub step_at : OrderLimits → List HartView → Record → Option HartView → Result (List HartView) ℕ
step_at t harts r None = breaks HartsBelow
step_at t harts r (Some v) = if has_source (length harts) r then (after_one t v r >>= λ w. Ok (slice_set harts (hart_of r) w)) else breaks HartsBelow

-- the harts after a record, or the lowest rule that it breaks
unfoldable pub step : OrderLimits → List HartView → Record → Result (List HartView) ℕ
step t harts r = step_at t harts r (slice_get harts (hart_of r))

-- the break of a rule by the record that begins at a place
abbrev pub order_break : ℕ → ℕ → OrderBreak
order_break at rule = record { at = at; rule = rule }

-- a broken rule, with the place of the record that breaks it
abbrev pub at_place : {S : Type 0} → ℕ → Result S ℕ → Result S OrderBreak
at_place place (Ok x) = Ok x
at_place place (Err rule) = Err (order_break place rule)

-- the harts after records of which the first begins at a place, or the first record that breaks a rule
unfoldable pub after_all : OrderLimits → ℕ → List HartView → List Record → Result (List HartView) OrderBreak
after_all t place harts [] = Ok harts
after_all t place harts (r ∷ rs) = at_place place (step t harts r) >>= λ next. after_all t (place + length (bytes_of r)) next rs

-- there is a last count, and this one isn't below it
abbrev pub is_from : Option ℕ → ℕ → Bool
is_from None ic = false
is_from (Some last) ic = nat_le last ic

-- the hart has an End, and the count isn't below its last one's
abbrev pub is_past : Option HartView → ℕ → Bool
is_past None ic = false
is_past (Some v) ic = is_from v.last ic

-- an Edge from an instruction that its source hasn't done by its last End
abbrev pub is_late : List HartView → Record → Bool
is_late harts (Header h n ic pc x) = false
is_late harts (FirstLoad h skip value) = false
is_late harts (ScOk h) = false
is_late harts (ScFailed h) = false
is_late harts (Edge h ic s j) = is_past (slice_get harts s) j
is_late harts (End h mark) = false

-- the place of the first such Edge, if the first record begins at a place
unfoldable pub late_edge : List HartView → ℕ → List Record → Option ℕ
late_edge harts place [] = None
late_edge harts place (r ∷ rs) = if is_late harts r then Some place else late_edge harts (place + length (bytes_of r)) rs

-- the first break of the two rules about the end, if the records left the harts so
unfoldable pub end_break : Bool → List HartView → List Record → Option OrderBreak
end_break all harts rs =
    if list_any (is_unfinished all) harts then Some (order_break (total rs) (number_of HartsDone)) else
    option_map (λ place. order_break place (number_of SourcesDone)) (late_edge harts 0 rs)

-- the break that was met among the records, else the first one about the end
abbrev pub broken_in : Bool → List Record → Result (List HartView) OrderBreak → Option OrderBreak
broken_in all rs (Err b) = Some b
broken_in all rs (Ok harts) = end_break all harts rs

-- the first break of the order of records of so many harts; none of records in order
unfoldable pub broken : OrderLimits → ℕ → Bool → List Record → Option OrderBreak
broken t count all rs = broken_in all rs (after_all t 0 (replicate count (fresh all)) rs)

-- what the order depends on
abbrev pub order_limits_of : RawSettings → OrderLimits
order_limits_of s = record { interval = s.interval; limit = s.limit }

-- the first break, if so many records were dropped before these
abbrev pub broken_by : RawSettings → ℕ → List Record → Option OrderBreak
broken_by s dropped rs = broken (order_limits_of s) s.harts (dropped == 0) rs

-- a function that answered so and left the harts so has done what it should
abbrev pub Steps : {S E : Type 0} → Result (Unit {0}) E → S → Result S E → Type 0
Steps (Ok u) new should = should ≡ Ok new
Steps (Err e) new should = should ≡ Err e
