-- Which record may come next of a hart.
use Rattle.std.specs.Prelude.{ℕ, ◌+◌, ◌^◌, max, Bool, true, false, not, ◌&&◌, ◌||◌, ◌==◌, nat_le, nat_lt, Option, Some, None, Result, Ok, Err, if◌then◌else◌}
use Rattle.log_order.specs.Common.{EndMark, Record, Header, FirstLoad, ScOk, ScFailed, Edge, End}
use Rattle.log_order.specs.declared.rule.OrderRule.{OrderRule}
use Rattle.log_order.specs.declared.rule.OrderRule.TheVariants.{HartsBelow, HeaderWhileAwaiting, OtherWhileOpen, HeaderAwaited, CountsRight, HartsDone, SourcesDone}
use Rattle.log_order.specs.declared.view.OrderLimits.{OrderLimits}
use Rattle.log_order.specs.declared.view.Phase.{Phase}
use Rattle.log_order.specs.declared.view.Phase.TheVariants.{Unknown, Awaiting, Open, Done}
use Rattle.log_order.specs.declared.view.HartView.{HartView}

-- the number of a rule in a refusal's line
abbrev pub number_of : OrderRule → ℕ
number_of HartsBelow = 1
number_of HeaderWhileAwaiting = 2
number_of OtherWhileOpen = 3
number_of HeaderAwaited = 4
number_of CountsRight = 5
number_of HartsDone = 6
number_of SourcesDone = 7

-- what comes of something, or the number of the rule that it breaks
abbrev pub by_number : {A : Type 0} → Result A OrderRule → Result A ℕ
by_number (Ok x) = Ok x
by_number (Err rule) = Err (number_of rule)

-- a rule is broken
abbrev pub breaks : {A : Type 0} → OrderRule → Result A ℕ
breaks rule = Err (number_of rule)

-- a Header may come in this phase
abbrev pub takes_header : Phase → Bool
takes_header Unknown = true
takes_header (Awaiting next ic) = true
takes_header (Open next since) = false
takes_header Done = false

-- another record may come in this phase
abbrev pub takes_other : Phase → Bool
takes_other Unknown = true
takes_other (Awaiting next ic) = false
takes_other (Open next since) = true
takes_other Done = false

-- the number is the one awaited, if that is known
abbrev pub is_number : Option ℕ → ℕ → Bool
is_number None n = true
is_number (Some next) n = next == n

-- a Header's number and count are those awaited, if they are known
abbrev pub is_awaited : Phase → ℕ → ℕ → Bool
is_awaited Unknown n ic = true
is_awaited (Awaiting next count) n ic = count == ic && is_number next n
is_awaited (Open next since) n ic = true
is_awaited Done n ic = true

-- if the interval's start is known, an Edge's count is that of one of its instructions
abbrev pub has_edge : ℕ → Phase → ℕ → Bool
has_edge interval Unknown ic = true
has_edge interval (Awaiting next count) ic = true
has_edge interval (Open next since) ic = nat_le since ic && nat_lt ic (since + interval)
has_edge interval Done ic = true

-- if the interval's start is known, an End's count is at most its full length away, for reason length (1) just that
abbrev pub has_end : ℕ → Phase → ℕ → ℕ → Bool
has_end interval Unknown reason ic = true
has_end interval (Awaiting next count) reason ic = true
has_end interval (Open next since) reason ic = nat_le since ic && (if reason == 1 then ic == since + interval else nat_le ic (since + interval))
has_end interval Done reason ic = true

-- the number of the interval that comes next, if this one's is known
abbrev pub next_number : Phase → Option ℕ
next_number Unknown = None
next_number (Awaiting next count) = None
next_number (Open next since) = Some next
next_number Done = None

-- the reasons after which a hart continues: length (1), call (2) and guard (6)
abbrev pub goes_on : ℕ → Bool
goes_on reason = reason == 1 || reason == 2 || reason == 6

-- the phase in which an End leaves its hart: after such a reason it awaits a Header, else it is done
abbrev pub phase_after : Phase → EndMark → Phase
phase_after phase mark = if goes_on mark.reason then Awaiting (next_number phase) mark.ic else Done

-- the hart after its Header with this number and count, or the lowest rule that the Header breaks
unfoldable pub after_header : OrderLimits → HartView → ℕ → ℕ → Result HartView ℕ
after_header t v n ic =
    if not (takes_header v.phase) then breaks HeaderWhileAwaiting else
    if not (is_awaited v.phase n ic) then breaks HeaderAwaited else
    if nat_lt (2 ^ 41) n then breaks HeaderAwaited else
    if nat_lt ic v.seen then breaks CountsRight else
    if nat_lt t.limit ic then breaks CountsRight else
    Ok (record { phase = Open (n + 1) ic; seen = v.seen; met = true; last = v.last })

-- the hart after its Edge with this count and its source's
unfoldable pub after_edge : OrderLimits → HartView → ℕ → ℕ → Result HartView ℕ
after_edge t v ic from_ic =
    if not (takes_other v.phase) then breaks OtherWhileOpen else
    if nat_le t.limit ic then breaks CountsRight else
    if nat_le t.limit from_ic then breaks CountsRight else
    if nat_lt (ic + 1) v.seen then breaks CountsRight else
    if not (has_edge t.interval v.phase ic) then breaks CountsRight else
    Ok (record { phase = v.phase; seen = max v.seen (ic + 1); met = true; last = v.last })

-- the hart after its End; the count of one of reason limit (7) is the limit
unfoldable pub after_end : OrderLimits → HartView → EndMark → Result HartView ℕ
after_end t v mark =
    if not (takes_other v.phase) then breaks OtherWhileOpen else
    if nat_lt mark.ic v.seen then breaks CountsRight else
    if nat_lt t.limit mark.ic then breaks CountsRight else
    if mark.reason == 7 && not (mark.ic == t.limit) then breaks CountsRight else
    if not (has_end t.interval v.phase mark.reason mark.ic) then breaks CountsRight else
    Ok (record { phase = phase_after v.phase mark; seen = v.seen; met = true; last = Some mark.ic })

-- the hart after a record that changes no phase and no count
unfoldable pub after_other : HartView → Result HartView ℕ
after_other v =
    if not (takes_other v.phase) then breaks OtherWhileOpen else
    Ok (record { phase = v.phase; seen = v.seen; met = true; last = v.last })

-- the hart after a record of its own, or the lowest rule that the record breaks
abbrev pub after_one : OrderLimits → HartView → Record → Result HartView ℕ
after_one t v (Header h n ic pc x) = after_header t v n ic
after_one t v (FirstLoad h skip value) = after_other v
after_one t v (ScOk h) = after_other v
after_one t v (ScFailed h) = after_other v
after_one t v (Edge h ic s j) = after_edge t v ic j
after_one t v (End h mark) = after_end t v mark

-- a hart of which no record came; if all records are kept it awaits its first Header
abbrev pub fresh : Bool → HartView
fresh all = record { phase = if all then Awaiting (Some 0) 0 else Unknown; seen = 0; met = false; last = None }

-- the phase after a hart's last End
abbrev pub is_done : Phase → Bool
is_done Unknown = false
is_done (Awaiting next ic) = false
is_done (Open next since) = false
is_done Done = true

-- a hart that has to be Done in the end and isn't
abbrev pub is_unfinished : Bool → HartView → Bool
is_unfinished all v = (all || v.met) && not (is_done v.phase)
