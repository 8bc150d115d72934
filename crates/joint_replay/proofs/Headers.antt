-- The places of a hart's Headers in a log in order.
use Rattle.joint_replay.proofs.Common.{◌≡◌, ℕ, zero, suc, ◌+◌, ◌<◌, ◌≤◌, Bool, true, false, ◌&&◌, ◌==◌, refl, sym, ap, ◌∙◌, subst, arith, List, [], ◌∷◌, take, length, slice_get, slice_index_or, replicate, is_some, Option, Some, None, RawSettings, Record, Header, FirstLoad, ScOk, ScFailed, Edge, End, HartView, is_unfinished, broken_by, order_limits_of, Interval, interval_from, puts, nothing, interval_of, number_in, IsThere, Span, mark_of, spans, AreSpans, Fits, OrderedLogsHaveShape, eq-eqb, eqb-true, none-some, same_Some}
use Rattle.log_order.specs.Rules.{fresh as fresh_view}
use Rattle.joint_replay.proofs.Begins.{walk_of, not_any, fresh_known}

different : (m n : ℕ) → m < n → (m == n) ≡ false
different m n h = grind arith

-- a Header's interval is there
pub there : (h n p : ℕ) (rs : List Record) (r : Record) → slice_get rs p ≡ Some r → number_in h r ≡ Some n → is_some (interval_of h n rs) ≡ true
there h n p [] r at e = absurd cc
there h n zero (r ∷ rs) q at e = first r (subst (λ x. number_in h x ≡ Some n) (sym (same_Some r q at)) e)
  where
    own : (k m ic pc : ℕ) (x : List ℕ) (b : Bool) → elim b as (λ y. Option ℕ) [ true ↦ Some m | false ↦ None ] ≡ Some n
        → is_some (elim (b && (m == n)) as (λ y. Option Interval) [ true ↦ Some (interval_from (record { pc = pc; x = x; ic = ic }) (puts h rs nothing)) | false ↦ interval_of h n rs ]) ≡ true
    own k m ic pc x true f = ap (λ c. is_some (elim c as (λ y. Option Interval) [ true ↦ Some (interval_from (record { pc = pc; x = x; ic = ic }) (puts h rs nothing)) | false ↦ interval_of h n rs ])) (ap (λ a. a == n) (same_Some m n f) ∙ eq-eqb n n refl)
    own k m ic pc x false f = absurd (none-some n f)

    first : (a : Record) → number_in h a ≡ Some n → is_some (interval_of h n (a ∷ rs)) ≡ true
    first (Header k m ic pc x) f = own k m ic pc x (k == h) f
    first (FirstLoad k skip value) f = absurd (none-some n f)
    first (ScOk k) f = absurd (none-some n f)
    first (ScFailed k) f = absurd (none-some n f)
    first (Edge k ic s j) f = absurd (none-some n f)
    first (End k m) f = absurd (none-some n f)
there h n (suc p) (Header k m ic pc x ∷ rs) r at e = by (k == h && (m == n)) (there h n p rs r at e)
  where
    by : (b : Bool) → is_some (interval_of h n rs) ≡ true → is_some (elim b as (λ y. Option Interval) [ true ↦ Some (interval_from (record { pc = pc; x = x; ic = ic }) (puts h rs nothing)) | false ↦ interval_of h n rs ]) ≡ true
    by true rest = refl
    by false rest = rest
there h n (suc p) (FirstLoad k skip value ∷ rs) r at e = there h n p rs r at e
there h n (suc p) (ScOk k ∷ rs) r at e = there h n p rs r at e
there h n (suc p) (ScFailed k ∷ rs) r at e = there h n p rs r at e
there h n (suc p) (Edge k ic s j ∷ rs) r at e = there h n p rs r at e
there h n (suc p) (End k m ∷ rs) r at e = there h n p rs r at e

-- numbers are at least the one that comes first
above : (limit h n p q b : ℕ) (rs : List Record) (r : Record) → AreSpans limit (Some q) b (spans h rs) → slice_get rs p ≡ Some r → number_in h r ≡ Some n → q ≤ n
above limit h n p q b [] r fits at e = absurd cc
above limit h n zero q b (r ∷ rs) o fits at e = first r fits (subst (λ x. number_in h x ≡ Some n) (sym (same_Some r o at)) e)
  where
    own : (m : ℕ) (s : Span) (c : Bool) → s.number ≡ m → AreSpans limit (Some q) b (elim c as (λ y. List Span) [ true ↦ s ∷ spans h rs | false ↦ spans h rs ])
        → elim c as (λ y. Option ℕ) [ true ↦ Some m | false ↦ None ] ≡ Some n → q ≤ n
    own m s true is (a, x1, x2, x3, rest) f = omega (arith, eqb-true q s.number a, is, same_Some m n f)
    own m s false is a f = absurd (none-some n f)

    first : (a : Record) → AreSpans limit (Some q) b (spans h (a ∷ rs)) → number_in h a ≡ Some n → q ≤ n
    first (Header k m ic pc x) g f = own m _ (k == h) refl g f
    first (FirstLoad k skip value) g f = absurd (none-some n f)
    first (ScOk k) g f = absurd (none-some n f)
    first (ScFailed k) g f = absurd (none-some n f)
    first (Edge k ic s j) g f = absurd (none-some n f)
    first (End k m) g f = absurd (none-some n f)
above limit h n (suc p) q b (Header k m ic pc x ∷ rs) r fits at e = by _ (k == h) refl fits (λ c f. above limit h n p (m + 1) c rs r f at e) (λ f. above limit h n p q b rs r f at e)
  where
    by : (s : Span) (c : Bool) → s.number ≡ m → AreSpans limit (Some q) b (elim c as (λ y. List Span) [ true ↦ s ∷ spans h rs | false ↦ spans h rs ])
        → ((d : ℕ) → AreSpans limit (Some (m + 1)) d (spans h rs) → m + 1 ≤ n) → (AreSpans limit (Some q) b (spans h rs) → q ≤ n) → q ≤ n
    by s true is (a, x1, x2, x3, rest) own others =
        let up : m + 1 ≤ n = own s.mark.ic (subst (λ x. AreSpans limit (Some (x + 1)) s.mark.ic (spans h rs)) is rest) in
        omega (arith, eqb-true q s.number a, is, up)
    by s false is a own others = others a
above limit h n (suc p) q b (FirstLoad k skip value ∷ rs) r fits at e = above limit h n p q b rs r fits at e
above limit h n (suc p) q b (ScOk k ∷ rs) r fits at e = above limit h n p q b rs r fits at e
above limit h n (suc p) q b (ScFailed k ∷ rs) r fits at e = above limit h n p q b rs r fits at e
above limit h n (suc p) q b (Edge k ic s j ∷ rs) r fits at e = above limit h n p q b rs r fits at e
above limit h n (suc p) q b (End k m ∷ rs) r fits at e = above limit h n p q b rs r fits at e

-- no other Header of that number stands before it
pub none_before : (limit h n p : ℕ) (next : Option ℕ) (b : ℕ) (rs : List Record) (r : Record) → AreSpans limit next b (spans h rs) → slice_get rs p ≡ Some r → number_in h r ≡ Some n → interval_of h n (take p rs) ≡ None
none_before limit h n p next b [] r fits at e = absurd cc
none_before limit h n zero next b (r ∷ rs) o fits at e = refl
none_before limit h n (suc p) next b (Header k m ic pc x ∷ rs) r fits at e =
    by _ (k == h) refl fits (λ c f. above limit h n p (m + 1) c rs r f at e) (λ o c f. none_before limit h n p o c rs r f at e)
  where
    by : (s : Span) (c : Bool) → s.number ≡ m → AreSpans limit next b (elim c as (λ y. List Span) [ true ↦ s ∷ spans h rs | false ↦ spans h rs ])
        → ((d : ℕ) → AreSpans limit (Some (m + 1)) d (spans h rs) → m + 1 ≤ n) → ((o : Option ℕ) (d : ℕ) → AreSpans limit o d (spans h rs) → interval_of h n (take p rs) ≡ None)
        → elim (c && (m == n)) as (λ y. Option Interval) [ true ↦ Some (interval_from (record { pc = pc; x = x; ic = ic }) (puts h (take p rs) nothing)) | false ↦ interval_of h n (take p rs) ] ≡ None
    by s true is (a, x1, x2, x3, rest) own others =
        let moved : AreSpans limit (Some (m + 1)) s.mark.ic (spans h rs) = subst (λ y. AreSpans limit (Some (y + 1)) s.mark.ic (spans h rs)) is rest in
        let up : m + 1 ≤ n = own s.mark.ic moved in
        ap (λ y. elim y as (λ z. Option Interval) [ true ↦ Some (interval_from (record { pc = pc; x = x; ic = ic }) (puts h (take p rs) nothing)) | false ↦ interval_of h n (take p rs) ]) (different m n (omega (arith, up)))
        ∙ others (Some (m + 1)) s.mark.ic moved
    by s false is a own others = others next b a
none_before limit h n (suc p) next b (FirstLoad k skip value ∷ rs) r fits at e = none_before limit h n p next b rs r fits at e
none_before limit h n (suc p) next b (ScOk k ∷ rs) r fits at e = none_before limit h n p next b rs r fits at e
none_before limit h n (suc p) next b (ScFailed k ∷ rs) r fits at e = none_before limit h n p next b rs r fits at e
none_before limit h n (suc p) next b (Edge k ic s j ∷ rs) r fits at e = none_before limit h n p next b rs r fits at e
none_before limit h n (suc p) next b (End k m ∷ rs) r fits at e = none_before limit h n p next b rs r fits at e

pub repeated : (n h : ℕ) (x : HartView) → h < n → slice_get (replicate n x) h ≡ Some x
repeated zero h x low = absurd (omega (arith, low))
repeated (suc n) zero x low = refl
repeated (suc n) (suc h) x low = repeated n h x (omega (arith, low))

-- so stand the intervals of each hart of a log in order
pub spans_rise : OrderedLogsHaveShape → (s : RawSettings) (dropped : ℕ) (records : List Record) → broken_by s dropped records ≡ None → (h : ℕ) → h < s.harts
    → (next : Option ℕ) × (begin : ℕ) × AreSpans s.limit next begin (spans h records)
spans_rise shape s dropped records order h low =
    let w = walk_of (order_limits_of s) s.harts (dropped == 0) records order in
    let over : (x : HartView) → slice_get w.0 h ≡ Some x → is_unfinished (dropped == 0) x ≡ false = λ x e. not_any (is_unfinished (dropped == 0)) w.0 h x w.2 e in
    by (dropped == 0) (spans h records) (shape (order_limits_of s) (dropped == 0) 0 (replicate s.harts (fresh_view (dropped == 0))) w.0 records w.1 h (fresh_view (dropped == 0)) (repeated s.harts h (fresh_view (dropped == 0)) low) (fresh_known (dropped == 0)) over)
  where
    by : (all : Bool) (ss : List Span) → Fits s.limit (fresh_view all).phase (mark_of h records) ss → (next : Option ℕ) × (begin : ℕ) × AreSpans s.limit next begin ss
    by true ss f = (Some 0, 0, f)
    by false [] f = (None, 0, tt)
    by false (x ∷ ss) f = (None, x.begin, f)

-- a Header of a log in order is that of an interval which is there, and of which no other stands before it
pub is_there : OrderedLogsHaveShape → (s : RawSettings) (dropped : ℕ) (records : List Record) → broken_by s dropped records ≡ None → (h n p : ℕ) → h < s.harts
    → (r : Record) → slice_get records p ≡ Some r → number_in h r ≡ Some n → IsThere h records n p
is_there shape s dropped records order h n p low r at e =
    let rise = spans_rise shape s dropped records order h low in
    (none_before s.limit h n p rise.0 rise.1 records r rise.2 at e, there h n p records r at e)

got : (xs : List Record) (p : ℕ) (r : Record) → p < length xs → slice_get xs p ≡ Some (slice_index_or xs p r)
got [] p r low = absurd (omega (arith, low))
got (x ∷ xs) zero r low = refl
got (x ∷ xs) (suc p) r low = got xs p r (omega (arith, low))

-- the record that an index gives
pub indexed : (records rs : List Record) (p : ℕ) (r : Record) → rs ≡ records → p < length records → r ≡ slice_index_or rs p r → slice_get records p ≡ Some r
indexed records rs p r e low is = got records p r low ∙ ap (λ (x : Record). Some x) (ap (λ (xs : List Record). slice_index_or xs p r) (sym e) ∙ sym is)
