-- What may follow if more is known may follow if less is.
use Rattle.log_order.proofs.Common.{◌≡◌, ℕ, ◌+◌, ◌≤◌, ◌^◌, max, Bool, true, false, not, ◌&&◌, Option, Some, None, Result, Ok, Err, refl, subst, arith, nat_lt, nat_le, ◌==◌, if◌then◌else◌, EndMark, Record, Header, FirstLoad, ScOk, ScFailed, Edge, End, OrderLimits, Phase, Unknown, Awaiting, Open, Done, HartView, takes_header, takes_other, is_number, is_awaited, has_edge, has_end, next_number, goes_on, phase_after, after_header, after_edge, after_end, after_other, after_one, is_done, IsWeakNumber, IsWeakPhase, IsWeak, not-false, and_parts, and_from}

passes : {X : Type 0} (b : Bool) (e : ℕ) (x : Result X ℕ) (y : X) → (if b then Err e else x) ≡ Ok y → (b ≡ false) × (x ≡ Ok y)
passes true e x y h = absurd cc
passes false e x y h = (refl, h)

weak_takes_header : (p q : Phase) → IsWeakPhase p q → takes_header q ≡ true → takes_header p ≡ true
weak_takes_header Unknown q k h = refl
weak_takes_header (Awaiting n c) q k h = refl
weak_takes_header (Open n c) Unknown k h = absurd k
weak_takes_header (Open n c) (Awaiting m d) k h = absurd k
weak_takes_header (Open n c) (Open m d) k h = h
weak_takes_header (Open n c) Done k h = absurd k
weak_takes_header Done Unknown k h = absurd k
weak_takes_header Done (Awaiting m d) k h = absurd k
weak_takes_header Done (Open m d) k h = absurd k
weak_takes_header Done Done k h = h

weak_takes_other : (p q : Phase) → IsWeakPhase p q → takes_other q ≡ true → takes_other p ≡ true
weak_takes_other Unknown q k h = refl
weak_takes_other (Open n c) q k h = refl
weak_takes_other (Awaiting n c) Unknown k h = absurd k
weak_takes_other (Awaiting n c) (Awaiting m d) k h = h
weak_takes_other (Awaiting n c) (Open m d) k h = absurd k
weak_takes_other (Awaiting n c) Done k h = absurd k
weak_takes_other Done Unknown k h = absurd k
weak_takes_other Done (Awaiting m d) k h = absurd k
weak_takes_other Done (Open m d) k h = absurd k
weak_takes_other Done Done k h = h

weak_is_number : (n m : Option ℕ) (k : ℕ) → IsWeakNumber n m → is_number m k ≡ true → is_number n k ≡ true
weak_is_number None m k w h = refl
weak_is_number (Some a) None k w h = absurd w
weak_is_number (Some a) (Some b) k w h = rw w h

weak_is_awaited : (p q : Phase) (n ic : ℕ) → IsWeakPhase p q → is_awaited q n ic ≡ true → is_awaited p n ic ≡ true
weak_is_awaited Unknown q n ic k h = refl
weak_is_awaited (Open a c) q n ic k h = refl
weak_is_awaited Done q n ic k h = refl
weak_is_awaited (Awaiting a c) Unknown n ic k h = absurd k
weak_is_awaited (Awaiting a c) (Awaiting b d) n ic k h =
    let s = and_parts (d == ic) (is_number b n) h in
    and_from (c == ic) (is_number a n) (rw k.1 s.0) (weak_is_number a b n k.0 s.1)
weak_is_awaited (Awaiting a c) (Open m d) n ic k h = absurd k
weak_is_awaited (Awaiting a c) Done n ic k h = absurd k

weak_has_edge : (p q : Phase) (interval ic : ℕ) → IsWeakPhase p q → has_edge interval q ic ≡ true → has_edge interval p ic ≡ true
weak_has_edge Unknown q interval ic k h = refl
weak_has_edge (Awaiting a c) q interval ic k h = refl
weak_has_edge Done q interval ic k h = refl
weak_has_edge (Open a c) Unknown interval ic k h = absurd k
weak_has_edge (Open a c) (Awaiting b d) interval ic k h = absurd k
weak_has_edge (Open a c) (Open b d) interval ic k h = rw k.1 h
weak_has_edge (Open a c) Done interval ic k h = absurd k

weak_has_end : (p q : Phase) (interval reason ic : ℕ) → IsWeakPhase p q → has_end interval q reason ic ≡ true → has_end interval p reason ic ≡ true
weak_has_end Unknown q interval reason ic k h = refl
weak_has_end (Awaiting a c) q interval reason ic k h = refl
weak_has_end Done q interval reason ic k h = refl
weak_has_end (Open a c) Unknown interval reason ic k h = absurd k
weak_has_end (Open a c) (Awaiting b d) interval reason ic k h = absurd k
weak_has_end (Open a c) (Open b d) interval reason ic k h = rw k.1 h
weak_has_end (Open a c) Done interval reason ic k h = absurd k

weak_next_number : (p q : Phase) → IsWeakPhase p q → IsWeakNumber (next_number p) (next_number q)
weak_next_number Unknown q k = tt
weak_next_number (Awaiting a c) q k = tt
weak_next_number Done q k = tt
weak_next_number (Open a c) Unknown k = absurd k
weak_next_number (Open a c) (Awaiting b d) k = absurd k
weak_next_number (Open a c) (Open b d) k = k.0
weak_next_number (Open a c) Done k = absurd k

abbrev choice : Bool → Phase → ℕ → Phase
choice b p ic = if b then Awaiting (next_number p) ic else Done

weak_choice : (b : Bool) (p q : Phase) (ic : ℕ) → IsWeakPhase p q → IsWeakPhase (choice b p ic) (choice b q ic)
weak_choice true p q ic k = (weak_next_number p q k, refl)
weak_choice false p q ic k = tt

over_choice : (b : Bool) (p q : Phase) (ic : ℕ) → is_done (choice b q ic) ≡ true → is_done (choice b p ic) ≡ true
over_choice true p q ic h = h
over_choice false p q ic h = refl

lt_down : (a b c : ℕ) → b ≤ c → nat_lt a c ≡ false → nat_lt a b ≡ false
lt_down a b c le h = grind arith

-- a hart that takes another record is not over
open_not_over : {P : Type 0} (q : Phase) → takes_other q ≡ true → is_done q ≡ true → P
open_not_over Unknown h k = absurd cc
open_not_over (Awaiting n c) h k = absurd cc
open_not_over (Open n c) h k = absurd cc
open_not_over Done h k = absurd cc

abbrev done : HartView → Result HartView ℕ
done v = Ok v

same_view : (u v : HartView) → done u ≡ done v → u ≡ v
same_view u v e = cc

-- a step that some weaker view takes too
abbrev pub Follows : Result HartView ℕ → HartView → Type 0
Follows r v = (w : HartView) × (r ≡ Ok w) × IsWeak w v

weak_header : (t : OrderLimits) (w v u : HartView) (n ic : ℕ) → IsWeak w v → after_header t v n ic ≡ Ok u → Follows (after_header t w n ic) u
unfolding after_header
weak_header t w v u n ic k h =
    let a = passes (not (takes_header v.phase)) 2 _ u h in
    let b = passes (not (is_awaited v.phase n ic)) 4 _ u a.1 in
    let c = passes (nat_lt (2 ^ 41) n) 4 _ u b.1 in
    let d = passes (nat_lt ic v.seen) 5 _ u c.1 in
    let e = passes (nat_lt t.limit ic) 5 _ u d.1 in
    let is = same_view _ u e.1 in
    let takes = weak_takes_header w.phase v.phase k.phase (not-false _ a.0) in
    let awaited = weak_is_awaited w.phase v.phase n ic k.phase (not-false _ b.0) in
    let low = lt_down ic w.seen v.seen k.seen d.0 in
    let new : HartView = record { phase = Open (n + 1) ic; seen = w.seen; met = true; last = w.last } in
    (new, rw (takes, awaited, c.0, low, e.0) refl, subst (λ (x : HartView). IsWeak new x) is (record { phase = (refl, refl); seen = k.seen; met = λ y. refl; last = k.last; over = λ y z. y }))

weak_edge : (t : OrderLimits) (w v u : HartView) (ic from_ic : ℕ) → IsWeak w v → after_edge t v ic from_ic ≡ Ok u → Follows (after_edge t w ic from_ic) u
unfolding after_edge
weak_edge t w v u ic from_ic k h =
    let a = passes (not (takes_other v.phase)) 3 _ u h in
    let b = passes (nat_le t.limit ic) 5 _ u a.1 in
    let c = passes (nat_le t.limit from_ic) 5 _ u b.1 in
    let d = passes (nat_lt (ic + 1) v.seen) 5 _ u c.1 in
    let e = passes (not (has_edge t.interval v.phase ic)) 5 _ u d.1 in
    let is = same_view _ u e.1 in
    let takes = weak_takes_other w.phase v.phase k.phase (not-false _ a.0) in
    let within = weak_has_edge w.phase v.phase t.interval ic k.phase (not-false _ e.0) in
    let low = lt_down (ic + 1) w.seen v.seen k.seen d.0 in
    let new : HartView = record { phase = w.phase; seen = max w.seen (ic + 1); met = true; last = w.last } in
    let more : max w.seen (ic + 1) ≤ max v.seen (ic + 1) = omega (arith, k.seen) in
    (new, rw (takes, b.0, c.0, low, within) refl, subst (λ (x : HartView). IsWeak new x) is (record { phase = k.phase; seen = more; met = λ y. refl; last = k.last; over = λ y z. open_not_over v.phase (not-false _ a.0) y }))

weak_end : (t : OrderLimits) (w v u : HartView) (mark : EndMark) → IsWeak w v → after_end t v mark ≡ Ok u → Follows (after_end t w mark) u
unfolding after_end
weak_end t w v u mark k h =
    let a = passes (not (takes_other v.phase)) 3 _ u h in
    let b = passes (nat_lt mark.ic v.seen) 5 _ u a.1 in
    let c = passes (nat_lt t.limit mark.ic) 5 _ u b.1 in
    let d = passes (mark.reason == 7 && not (mark.ic == t.limit)) 5 _ u c.1 in
    let e = passes (not (has_end t.interval v.phase mark.reason mark.ic)) 5 _ u d.1 in
    let is = same_view _ u e.1 in
    let takes = weak_takes_other w.phase v.phase k.phase (not-false _ a.0) in
    let within = weak_has_end w.phase v.phase t.interval mark.reason mark.ic k.phase (not-false _ e.0) in
    let low = lt_down mark.ic w.seen v.seen k.seen b.0 in
    let new : HartView = record { phase = phase_after w.phase mark; seen = w.seen; met = true; last = Some mark.ic } in (
      new,
      rw (takes, low, c.0, d.0, within) refl,
      subst (λ (x : HartView). IsWeak new x) is (record {
        phase = weak_choice (goes_on mark.reason) w.phase v.phase mark.ic k.phase;
        seen = k.seen;
        met = λ y. refl;
        last = refl;
        over = λ y z. over_choice (goes_on mark.reason) w.phase v.phase mark.ic y;
      }),
    )

weak_other : (w v u : HartView) → IsWeak w v → after_other v ≡ Ok u → Follows (after_other w) u
unfolding after_other
weak_other w v u k h =
    let a = passes (not (takes_other v.phase)) 3 _ u h in
    let is = same_view _ u a.1 in
    let takes = weak_takes_other w.phase v.phase k.phase (not-false _ a.0) in
    let new : HartView = record { phase = w.phase; seen = w.seen; met = true; last = w.last } in
    (new, rw takes refl, subst (λ (x : HartView). IsWeak new x) is (record { phase = k.phase; seen = k.seen; met = λ y. refl; last = k.last; over = λ y z. open_not_over v.phase (not-false _ a.0) y }))

-- a record that may follow the one view may follow the weaker one
pub weak_one : (t : OrderLimits) (w v u : HartView) (r : Record) → IsWeak w v → after_one t v r ≡ Ok u → Follows (after_one t w r) u
weak_one t w v u (Header h n ic pc x) k e = weak_header t w v u n ic k e
weak_one t w v u (FirstLoad h skip value) k e = weak_other w v u k e
weak_one t w v u (ScOk h) k e = weak_other w v u k e
weak_one t w v u (ScFailed h) k e = weak_other w v u k e
weak_one t w v u (Edge h ic s j) k e = weak_edge t w v u ic j k e
weak_one t w v u (End h mark) k e = weak_end t w v u mark k e
