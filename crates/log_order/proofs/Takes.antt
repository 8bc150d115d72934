-- What a recorder shows of a record, so that it may follow.
use Rattle.log_order.proofs.Common.{◌≡◌, ℕ, ◌+◌, ◌≤◌, ◌<◌, ◌^◌, max, Bool, true, false, not, ◌&&◌, Option, Some, List, length, Ok, refl, arith, ◌==◌, slice_get, slice_set, ◌≢◌, EndMark, Header, FirstLoad, ScOk, ScFailed, Edge, End, OrderLimits, Awaiting, Open, HartView, has_end, after_header, after_edge, after_end, after_other, phase_after, step, le-ltb, lt-leb, lt-ltb, le-leb, eq-eqb, ne_eqb}

abbrev Harts : Type 0
Harts = List HartView

pub step_other : (t : OrderLimits) (vs : Harts) (h skip value next since seen : ℕ) (met : Bool) (last : Option ℕ) → slice_get vs h ≡ Some (record { phase = Open next since; seen = seen; met = met; last = last })
    → (step t vs (FirstLoad h skip value) ≡ Ok (slice_set vs h (record { phase = Open next since; seen = seen; met = true; last = last })))
    × (step t vs (ScOk h) ≡ Ok (slice_set vs h (record { phase = Open next since; seen = seen; met = true; last = last })))
    × (step t vs (ScFailed h) ≡ Ok (slice_set vs h (record { phase = Open next since; seen = seen; met = true; last = last })))
unfolding step after_other
step_other t vs h skip value next since seen met last e = (rw e refl, rw e refl, rw e refl)

pub step_header : (t : OrderLimits) (vs : Harts) (h n ic pc : ℕ) (x : List ℕ) (seen : ℕ) (met : Bool) (last : Option ℕ) → slice_get vs h ≡ Some (record { phase = Awaiting (Some n) ic; seen = seen; met = met; last = last })
    → n ≤ 2 ^ 41 → seen ≤ ic → ic ≤ t.limit → step t vs (Header h n ic pc x) ≡ Ok (slice_set vs h (record { phase = Open (n + 1) ic; seen = seen; met = true; last = last }))
unfolding step after_header
step_header t vs h n ic pc x seen met last e small low high = rw (e, eq-eqb ic ic refl, eq-eqb n n refl, le-ltb (2 ^ 41) n small, le-ltb ic seen low, le-ltb t.limit ic high) refl

pub step_edge : (t : OrderLimits) (vs : Harts) (h ic s j next since seen : ℕ) (met : Bool) (last : Option ℕ) → slice_get vs h ≡ Some (record { phase = Open next since; seen = seen; met = met; last = last })
    → s < length vs → s ≢ h → ic < t.limit → j < t.limit → seen ≤ ic + 1 → since ≤ ic → ic < since + t.interval
    → step t vs (Edge h ic s j) ≡ Ok (slice_set vs h (record { phase = Open next since; seen = max seen (ic + 1); met = true; last = last }))
unfolding step after_edge
step_edge t vs h ic s j next since seen met last e source other high from low begun within =
    rw (e, lt-ltb s (length vs) source, ne_eqb s h other, lt-leb t.limit ic high, lt-leb t.limit j from, le-ltb (ic + 1) seen low, le-leb since ic begun, lt-ltb ic (since + t.interval) within) refl

limit_kept : (reason ic limit : ℕ) → (reason ≡ 7 → ic ≡ limit) → (reason == 7 && not (ic == limit)) ≡ false
limit_kept reason ic limit h = grind arith

end_kept : (interval next since reason ic : ℕ) → since ≤ ic → ic ≤ since + interval → (reason ≡ 1 → ic ≡ since + interval) → has_end interval (Open next since) reason ic ≡ true
end_kept interval next since reason ic low high full = grind arith

pub step_end : (t : OrderLimits) (vs : Harts) (h : ℕ) (mark : EndMark) (next since seen : ℕ) (met : Bool) (last : Option ℕ) → slice_get vs h ≡ Some (record { phase = Open next since; seen = seen; met = met; last = last })
    → seen ≤ mark.ic → mark.ic ≤ t.limit → (mark.reason ≡ 7 → mark.ic ≡ t.limit) → since ≤ mark.ic → mark.ic ≤ since + t.interval → (mark.reason ≡ 1 → mark.ic ≡ since + t.interval)
    → step t vs (End h mark) ≡ Ok (slice_set vs h (record { phase = phase_after (Open next since) mark; seen = seen; met = true; last = Some mark.ic }))
unfolding step after_end
step_end t vs h mark next since seen met last e low high limit begun within full =
    rw (e, le-ltb mark.ic seen low, le-ltb t.limit mark.ic high, limit_kept mark.reason mark.ic t.limit limit, end_kept t.interval next since mark.reason mark.ic begun within full) refl
