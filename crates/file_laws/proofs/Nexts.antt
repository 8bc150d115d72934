-- How an interval ends, and the records of that.
use Rattle.file_laws.proofs.Common.{◌≡◌, ℕ, ◌+◌, ◌-◌, ◌<◌, ◌≤◌, ◌^◌, Bool, true, false, nat_le, Option, Some, None, List, [], ◌∷◌, ◌++◌, Ok, refl, sym, ◌∙◌, subst, arith, ◌==◌, slice_get, slice_set, if◌then◌else◌, false≢true, RawSettings, HartState, Illegal, Breakpoint, FetchOutside, TargetMisaligned, LoadOutside, LoadMisaligned, StoreOutside, StoreMisaligned, StoreReadOnly, Want, Faulted, Reply, Plan, Record, End, OrderLimits, HartView, Awaiting, Open, Done, step, order_limits_of, goes_on, Keeps, Hart, TurnEnd, GoesOn, NewInterval, HartOver, RunOver, next_of, after_call, mark, header, next_records, hart_after, is_on, leb-true}
use Rattle.bn_base.specs.Faults.{fault_number}
use Rattle.bn_base.specs.declared.fault.Fault.{Fault}
use Rattle.rv_meaning.specs.declared.asks.Reply.TheVariants as replies
use Rattle.system_calls.specs.declared.effect.Plan.TheVariants as plans
use Rattle.log_order.specs.declared.view.Phase.{Phase}
use Rattle.file_laws.proofs.Views.{OrderLaws, Views, IsOpen, IsDone, IsView, Took, took_none, took_one, took_both}

-- hart h's interval can end so at count ic; on tells whether the hart continues with its next one
pub record EndsSo (c : RawSettings) (h : Hart) (ic reason : ℕ) (on : Bool) : Type 0 where
  pub full : reason ≡ 1 → h.begun + c.interval ≤ ic
  pub limit : reason ≡ 7 → c.limit ≤ ic
  pub kind : goes_on reason ≡ on

abbrev pub EndsOn : RawSettings → Hart → ℕ → TurnEnd → Type 0
EndsOn c h ic GoesOn = Unit {0}
EndsOn c h ic (NewInterval reason value) = EndsSo c h ic reason true
EndsOn c h ic (HartOver reason value) = EndsSo c h ic reason false
EndsOn c h ic (RunOver reason value) = EndsSo c h ic reason false

-- and not by the guard
pub record EndsPlain (c : RawSettings) (h : Hart) (ic reason : ℕ) (on : Bool) : Type 0 where
  pub so : EndsSo c h ic reason on
  pub unguarded : (reason == 6) ≡ false
  pub small : reason < 256

abbrev pub EndsAs : RawSettings → Hart → ℕ → TurnEnd → Type 0
EndsAs c h ic GoesOn = Unit {0}
EndsAs c h ic (NewInterval reason value) = EndsPlain c h ic reason true
EndsAs c h ic (HartOver reason value) = EndsPlain c h ic reason false
EndsAs c h ic (RunOver reason value) = EndsPlain c h ic reason false

pub ends_on : (next : TurnEnd) (c : RawSettings) (h : Hart) (ic : ℕ) → EndsAs c h ic next → EndsOn c h ic next
ends_on GoesOn c h ic e = tt
ends_on next c h ic e = e.so

-- an end for a reason that neither a full interval, nor the limit, nor the guard gives
plain_end : (c : RawSettings) (h : Hart) (ic reason : ℕ) (on : Bool) → (reason ≡ 1 → ⊥) → (reason ≡ 7 → ⊥) → goes_on reason ≡ on → (reason == 6) ≡ false → reason < 256 → EndsPlain c h ic reason on
plain_end c h ic reason on f g e u small = record { so = record { full = λ p. absurd (f p); limit = λ p. absurd (g p); kind = e }; unguarded = u; small = small }

-- the guard's end
pub guard_ends : (c : RawSettings) (h : Hart) (ic : ℕ) → EndsSo c h ic 6 true
guard_ends c h ic = record { full = λ p. absurd cc; limit = λ p. absurd cc; kind = refl }

full_at : (b n ic : ℕ) → 1 ≤ n → nat_le n (ic - b) ≡ true → b + n ≤ ic
full_at b n ic some e = omega (arith, some, leb-true n (ic - b) e)

count_ends : (c : RawSettings) (h : Hart) (ic : ℕ) (end full : Bool) → nat_le c.limit ic ≡ end → nat_le c.interval (ic - h.begun) ≡ full → 1 ≤ c.interval
    → EndsAs c h ic (elim end as (λ x. TurnEnd) [ true ↦ HartOver 7 0 | false ↦ elim full as (λ x. TurnEnd) [ true ↦ NewInterval 1 0 | false ↦ GoesOn ] ])
count_ends c h ic true full e f some = record { so = record { full = λ p. absurd cc; limit = λ p. leb-true c.limit ic e; kind = refl }; unguarded = refl; small = omega arith }
count_ends c h ic false true e f some = record { so = record { full = λ p. full_at h.begun c.interval ic some f; limit = λ p. absurd cc; kind = refl }; unguarded = refl; small = omega arith }
count_ends c h ic false false e f some = tt

fault_ends : (kind : Fault) (c : RawSettings) (h : Hart) (ic : ℕ) → EndsPlain c h ic (16 + fault_number kind) false
fault_ends Illegal c h ic = plain_end c h ic 17 false (λ p. cc) (λ p. cc) refl refl (omega arith)
fault_ends Breakpoint c h ic = plain_end c h ic 18 false (λ p. cc) (λ p. cc) refl refl (omega arith)
fault_ends FetchOutside c h ic = plain_end c h ic 19 false (λ p. cc) (λ p. cc) refl refl (omega arith)
fault_ends TargetMisaligned c h ic = plain_end c h ic 20 false (λ p. cc) (λ p. cc) refl refl (omega arith)
fault_ends LoadOutside c h ic = plain_end c h ic 21 false (λ p. cc) (λ p. cc) refl refl (omega arith)
fault_ends LoadMisaligned c h ic = plain_end c h ic 22 false (λ p. cc) (λ p. cc) refl refl (omega arith)
fault_ends StoreOutside c h ic = plain_end c h ic 23 false (λ p. cc) (λ p. cc) refl refl (omega arith)
fault_ends StoreMisaligned c h ic = plain_end c h ic 24 false (λ p. cc) (λ p. cc) refl refl (omega arith)
fault_ends StoreReadOnly c h ic = plain_end c h ic 25 false (λ p. cc) (λ p. cc) refl refl (omega arith)

call_ends : (plan : Plan) (reply : Reply) (c : RawSettings) (h : Hart) (ic : ℕ) → EndsAs c h ic (after_call plan reply)
call_ends (plans.EndHart v) reply c h ic = plain_end c h ic 3 false (λ p. cc) (λ p. cc) refl refl (omega arith)
call_ends (plans.EndRun v) reply c h ic = plain_end c h ic 4 false (λ p. cc) (λ p. cc) refl refl (omega arith)
call_ends plan (replies.Answer v) c h ic = plain_end c h ic 2 true (λ p. cc) (λ p. cc) refl refl (omega arith)
call_ends plan reply c h ic = tt

-- what comes after a turn ends the interval so
pub next_ends : (call : Option Plan) (c : RawSettings) (h : Hart) (want : Want) (reply : Reply) (ic : ℕ) → 1 ≤ c.interval → EndsAs c h ic (next_of c call h want reply ic)
next_ends (Some plan) c h want reply ic some = call_ends plan reply c h ic
next_ends None c h (Faulted kind value) reply ic some = fault_ends kind c h ic
next_ends None c h want reply ic some = count_ends c h ic (nat_le c.limit ic) (nat_le c.interval (ic - h.begun)) refl refl some

-- ---- the records

-- the count ic is one of hart h's interval, or the one after it
pub record IsWithin (c : RawSettings) (h : Hart) (ic : ℕ) : Type 0 where
  pub low : h.begun ≤ ic
  pub high : ic ≤ h.begun + c.interval
  pub limit : ic ≤ c.limit

abbrev with_phase : Phase → ℕ → Option ℕ → HartView
with_phase phase seen last = record { phase = phase; seen = seen; met = true; last = last }

-- the End follows
end_follows : OrderLaws → (c : RawSettings) (vs : Views) (k next : ℕ) (h : Hart) (ic reason value : ℕ) (on : Bool) (v : IsOpen next h.begun ic (slice_get vs k)) → IsWithin c h ic → EndsSo c h ic reason on
    → step (order_limits_of c) vs (End k (mark ic reason value)) ≡ Ok (slice_set vs k (with_phase (if on then Awaiting (Some next) ic else Done) v.seen (Some ic)))
end_follows laws c vs k next h ic reason value on v within so =
    subst (λ (b : Bool). step (order_limits_of c) vs (End k (mark ic reason value)) ≡ Ok (slice_set vs k (with_phase (if b then Awaiting (Some next) ic else Done) v.seen (Some ic)))) so.kind
    (laws.ends (order_limits_of c) vs k (mark ic reason value) next h.begun v.seen v.met v.last v.is v.low within.limit (λ p. omega (arith, so.limit p, within.limit)) within.low within.high (λ p. omega (arith, so.full p, within.high)))

-- the last End of a hart
pub took_last : OrderLaws → (c : RawSettings) (n : ℕ) (stream : List Record) (vs : Views) (k next : ℕ) (h : Hart) (ic reason value : ℕ) → Keeps (order_limits_of c) n 0 stream vs → IsOpen next h.begun ic (slice_get vs k) → IsWithin c h ic
    → EndsSo c h ic reason false → Took (order_limits_of c) n stream vs k (End k (mark ic reason value) ∷ []) (IsDone ic)
took_last laws c n stream vs k next h ic reason value kp v within so =
    took_one laws.more (order_limits_of c) n stream vs k (End k (mark ic reason value)) (record { phase = Open next h.begun; seen = v.seen; met = v.met; last = v.last }) (with_phase Done v.seen (Some ic)) (IsDone ic) kp v.is
    (end_follows laws c vs k next h ic reason value false v within so) (record { seen = v.seen; met = true; is = refl })

pub done_view : (h : Hart) (o : Option HartView) → h.live ≡ false → IsDone h.state.ic o → IsView h o
done_view h o over d = record { in_interval = λ p. absurd (false≢true (sym over ∙ p)); over = λ p. d }

pub open_view : (h : Hart) (o : Option HartView) → h.live ≡ true → IsOpen (h.number + 1) h.begun h.state.ic o → IsView h o
open_view h o live v = record { in_interval = λ p. v; over = λ p. absurd (false≢true (sym p ∙ live)) }

-- the same records, with another word of what they leave
said : (t : OrderLimits) (n : ℕ) (stream : List Record) (vs : Views) (k : ℕ) (rs : List Record) (P Q : Option HartView → Type 0) → ((o : Option HartView) → P o → Q o) → Took t n stream vs k rs P → Took t n stream vs k rs Q
said t n stream vs k rs P Q f a = record { views = a.views; keeps = a.keeps; size = a.size; own = f (slice_get a.views k) a.own; others = a.others }

-- what comes after a turn leaves the view of the hart after it
pub took_next : (next : TurnEnd) → OrderLaws → (c : RawSettings) (n : ℕ) (stream : List Record) (vs : Views) (k : ℕ) (h : Hart) (s : HartState) (skipped bytes : ℕ) → Keeps (order_limits_of c) n 0 stream vs → h.live ≡ true → (is_on next ≡ true → h.number < 2 ^ 41)
    → IsOpen (h.number + 1) h.begun s.ic (slice_get vs k) → IsWithin c h s.ic → EndsOn c h s.ic next
    → Took (order_limits_of c) n stream vs k (next_records next k h.number s) (IsView (hart_after next s skipped bytes h))
took_next GoesOn laws c n stream vs k h s skipped bytes kp live small v within so =
    took_none (order_limits_of c) n stream vs k (IsView (hart_after GoesOn s skipped bytes h)) kp (open_view (hart_after GoesOn s skipped bytes h) (slice_get vs k) live v)
took_next (NewInterval reason value) laws c n stream vs k h s skipped bytes kp live small v within so =
    let t = order_limits_of c in
    let after = hart_after (NewInterval reason value) s skipped bytes h in
    let end : Record = End k (mark s.ic reason value) in
    let awaiting = with_phase (Awaiting (Some (h.number + 1)) s.ic) v.seen (Some s.ic) in
    let opened = with_phase (Open (h.number + 1 + 1) s.ic) v.seen (Some s.ic) in
    let first = took_one laws.more t n stream vs k end (record { phase = Open (h.number + 1) h.begun; seen = v.seen; met = v.met; last = v.last }) awaiting (λ o. o ≡ Some awaiting) kp v.is
    (end_follows laws c vs k (h.number + 1) h s.ic reason value true v within so) refl in
    let low : v.seen ≤ s.ic = v.low in
    let second = took_one laws.more t n (stream ++ end ∷ []) first.views k (header k (h.number + 1) s) awaiting opened (IsView after) first.keeps first.own
    (laws.header t first.views k (h.number + 1) s.ic s.pc s.x v.seen true (Some s.ic) first.own (omega (arith, small refl)) low within.limit)
    (open_view after (Some opened) live (record { seen = v.seen; met = true; last = Some s.ic; is = refl; low = low })) in
    took_both t n stream vs k (end ∷ []) (header k (h.number + 1) s ∷ []) (λ o. o ≡ Some awaiting) (IsView after) first second
took_next (HartOver reason value) laws c n stream vs k h s skipped bytes kp live small v within so =
    let after = hart_after (HartOver reason value) s skipped bytes h in
    said (order_limits_of c) n stream vs k (End k (mark s.ic reason value) ∷ []) (IsDone s.ic) (IsView after) (λ o d. done_view after o refl d) (took_last laws c n stream vs k (h.number + 1) h s.ic reason value kp v within so)
took_next (RunOver reason value) laws c n stream vs k h s skipped bytes kp live small v within so =
    let after = hart_after (RunOver reason value) s skipped bytes h in
    said (order_limits_of c) n stream vs k (End k (mark s.ic reason value) ∷ []) (IsDone s.ic) (IsView after) (λ o d. done_view after o refl d) (took_last laws c n stream vs k (h.number + 1) h s.ic reason value kp v within so)
