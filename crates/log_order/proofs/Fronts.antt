-- Records without the first ones keep the order.
use Rattle.log_order.proofs.Common.{◌≡◌, ℕ, zero, suc, ◌+◌, Bool, true, false, not, ◌&&◌, ◌||◌, Option, Some, None, List, [], ◌∷◌, ◌++◌, length, replicate, Result, Ok, Err, refl, sym, ap, subst, ◌∙◌, arith, if◌then◌else◌, slice_get, slice_set, list_any, length-set, Record, Header, FirstLoad, ScOk, ScFailed, Edge, End, bytes_of, OrderLimits, Phase, Unknown, Awaiting, Open, Done, HartView, hart_of, total, after_one, fresh, is_done, is_unfinished, ◌>>=◌, has_source, step_at, step, at_place, after_all, is_from, is_past, is_late, late_edge, end_break, broken_in, broken, IsWeakPhase, IsWeakNumber, IsWeak, AreWeak, OrderBreak, order_break, or_parts, or_from}
use Rattle.std.specs.Option.{option_map}
use Rattle.log_order.proofs.Weaker.{weak_one}

abbrev Harts : Type 0
Harts = List HartView

weak_get : (ws vs : Harts) (i : ℕ) (v : HartView) → AreWeak ws vs → slice_get vs i ≡ Some v → (w : HartView) × (slice_get ws i ≡ Some w) × IsWeak w v
weak_get [] [] i v k e = absurd cc
weak_get [] (y ∷ vs) i v k e = absurd k
weak_get (x ∷ ws) [] i v k e = absurd k
weak_get (x ∷ ws) (y ∷ vs) zero v k e = let same : y ≡ v = cc in (x, refl, subst (IsWeak x) same k.0)
weak_get (x ∷ ws) (y ∷ vs) (suc i) v k e = weak_get ws vs i v k.1 e

weak_set : (ws vs : Harts) (i : ℕ) (w v : HartView) → AreWeak ws vs → IsWeak w v → AreWeak (slice_set ws i w) (slice_set vs i v)
weak_set [] [] i w v k e = tt
weak_set [] (y ∷ vs) i w v k e = absurd k
weak_set (x ∷ ws) [] i w v k e = absurd k
weak_set (x ∷ ws) (y ∷ vs) zero w v k e = (e, k.1)
weak_set (x ∷ ws) (y ∷ vs) (suc i) w v k e = (k.0, weak_set ws vs i w v k.1 e)

weak_length : (ws vs : Harts) → AreWeak ws vs → length vs ≡ length ws
weak_length [] [] k = refl
weak_length [] (y ∷ vs) k = absurd k
weak_length (x ∷ ws) [] k = absurd k
weak_length (x ∷ ws) (y ∷ vs) k = ap suc (weak_length ws vs k.1)

abbrev good : Harts → Result Harts ℕ
good x = Ok x

same_harts : (x y : Harts) → good x ≡ good y → x ≡ y
same_harts x y e = cc

chosen : (b : Bool) (e : ℕ) (x : Result Harts ℕ) (y : Harts) → (if b then x else Err e) ≡ good y → (b ≡ true) × (x ≡ Ok y)
chosen true e x y h = (refl, h)
chosen false e x y h = absurd cc

abbrev pub Steps2 : Result Harts ℕ → Harts → Type 0
Steps2 r us = (xs : Harts) × (r ≡ Ok xs) × AreWeak xs us

by_one : (t : OrderLimits) (ws vs us : Harts) (r : Record) (w v : HartView) (s : Result HartView ℕ) → AreWeak ws vs → IsWeak w v → after_one t v r ≡ s
    → (s >>= λ z. good (slice_set vs (hart_of r) z)) ≡ Ok us → Steps2 (after_one t w r >>= λ z. good (slice_set ws (hart_of r) z)) us
by_one t ws vs us r w v (Err x) k kk q e = absurd cc
by_one t ws vs us r w v (Ok u) k kk q e =
    let f = weak_one t w v u r kk q in
    (slice_set ws (hart_of r) f.0, rw f.1 refl, subst (λ (x : Harts). AreWeak (slice_set ws (hart_of r) f.0) x) (same_harts _ us e) (weak_set ws vs (hart_of r) f.0 u k f.2))

by_get : (t : OrderLimits) (ws vs us : Harts) (r : Record) (o : Option HartView) → AreWeak ws vs → slice_get vs (hart_of r) ≡ o → step_at t vs r o ≡ Ok us
    → Steps2 (step_at t ws r (slice_get ws (hart_of r))) us
by_get t ws vs us r None k q e = absurd cc
by_get t ws vs us r (Some v) k q e =
    let g = weak_get ws vs (hart_of r) v k q in
    let c = chosen (has_source (length vs) r) 1 _ us e in
    let s = by_one t ws vs us r g.0 v (after_one t v r) k g.2 refl c.1 in
    let source : has_source (length ws) r ≡ true = subst (λ (n : ℕ). has_source n r ≡ true) (weak_length ws vs k) c.0 in
    (s.0, rw (g.1, source) s.1, s.2)

-- a record that may follow may also follow if less is known
pub weak_step : (t : OrderLimits) (ws vs us : Harts) (r : Record) → AreWeak ws vs → step t vs r ≡ Ok us → Steps2 (step t ws r) us
unfolding step
weak_step t ws vs us r k e = by_get t ws vs us r (slice_get vs (hart_of r)) k refl e

abbrev well : Harts → Result Harts OrderBreak
well x = Ok x

same_well : (x y : Harts) → well x ≡ well y → x ≡ y
same_well x y e = cc

-- what comes of a step and then of others
halves : (place : ℕ) (s : Result Harts ℕ) (f : Harts → Result Harts OrderBreak) (us : Harts) → (at_place place s >>= f) ≡ well us → (mid : Harts) × (s ≡ Ok mid) × (f mid ≡ Ok us)
halves place (Err x) f us e = absurd cc
halves place (Ok mid) f us e = (mid, refl, e)

abbrev pub Runs2 : Result Harts OrderBreak → Harts → Type 0
Runs2 r us = (xs : Harts) × (r ≡ Ok xs) × AreWeak xs us

pub weak_all : (t : OrderLimits) (p q : ℕ) (ws vs us : Harts) (rs : List Record) → AreWeak ws vs → after_all t p vs rs ≡ Ok us → Runs2 (after_all t q ws rs) us
unfolding after_all
weak_all t p q ws vs us [] k e = (ws, refl, subst (AreWeak ws) (same_well vs us e) k)
weak_all t p q ws vs us (r ∷ rs) k e =
    let h = halves p (step t vs r) (λ next. after_all t (p + length (bytes_of r)) next rs) us e in
    let s = weak_step t ws vs h.0 r k h.1 in
    let l = weak_all t (p + length (bytes_of r)) (q + length (bytes_of r)) s.0 h.0 us rs s.2 h.2 in
    (l.0, rw s.1 l.1, l.2)

-- ---- parts

pub place_free : (t : OrderLimits) (p q : ℕ) (vs us : Harts) (rs : List Record) → after_all t p vs rs ≡ Ok us → after_all t q vs rs ≡ Ok us
unfolding after_all
place_free t p q vs us [] e = e
place_free t p q vs us (r ∷ rs) e =
    let h = halves p (step t vs r) (λ next. after_all t (p + length (bytes_of r)) next rs) us e in
    rw h.1 (place_free t (p + length (bytes_of r)) (q + length (bytes_of r)) h.0 us rs h.2)

pub joined : (t : OrderLimits) (p q : ℕ) (vs mid us : Harts) (front back : List Record) → after_all t p vs front ≡ Ok mid → after_all t q mid back ≡ Ok us → after_all t p vs (front ++ back) ≡ Ok us
unfolding after_all
joined t p q vs mid us [] back e f = subst (λ (x : Harts). after_all t p x back ≡ Ok us) (sym (same_well vs mid e)) (place_free t q p mid us back f)
joined t p q vs mid us (r ∷ front) back e f =
    let h = halves p (step t vs r) (λ next. after_all t (p + length (bytes_of r)) next front) mid e in
    rw h.1 (joined t (p + length (bytes_of r)) q h.0 mid us front back h.2 f)

goes : (t : OrderLimits) (p : ℕ) (vs m x : Harts) (r : Record) (rs : List Record) → step t vs r ≡ Ok m → after_all t (p + length (bytes_of r)) m rs ≡ Ok x → after_all t p vs (r ∷ rs) ≡ Ok x
unfolding after_all
goes t p vs m x r rs e f = rw e f

pub parted : (t : OrderLimits) (p q : ℕ) (vs us : Harts) (front back : List Record) → after_all t p vs (front ++ back) ≡ Ok us → (mid : Harts) × (after_all t p vs front ≡ Ok mid) × (after_all t q mid back ≡ Ok us)
unfolding after_all
parted t p q vs us [] back e = (vs, refl, place_free t p q vs us back e)
parted t p q vs us (r ∷ front) back e =
    let h = halves p (step t vs r) (λ next. after_all t (p + length (bytes_of r)) next (front ++ back)) us e in
    let l = parted t (p + length (bytes_of r)) q h.0 us front back h.2 in
    (l.0, goes t p vs h.0 l.0 r front h.1 l.1, l.2)

-- one more record
pub appended : (t : OrderLimits) (p : ℕ) (vs mid us : Harts) (rs : List Record) (r : Record) → after_all t p vs rs ≡ Ok mid → step t mid r ≡ Ok us → after_all t p vs (rs ++ r ∷ []) ≡ Ok us
unfolding after_all
appended t p vs mid us rs r e f =
    let one : after_all t 0 mid (r ∷ []) ≡ Ok us = rw f refl in
    joined t p 0 vs mid us rs (r ∷ []) e one

-- ---- lengths

by_length : (t : OrderLimits) (vs us : Harts) (r : Record) (o : Option HartView) → step_at t vs r o ≡ Ok us → length us ≡ length vs
by_length t vs us r None e = absurd cc
by_length t vs us r (Some v) e =
    let c = chosen (has_source (length vs) r) 1 _ us e in
    from_one (after_one t v r) c.1
  where
    from_one : (s : Result HartView ℕ) → (s >>= λ z. good (slice_set vs (hart_of r) z)) ≡ Ok us → length us ≡ length vs
    from_one (Err x) h = absurd cc
    from_one (Ok u) h = ap length (sym (same_harts _ us h)) ∙ length-set vs (hart_of r) u

step_length : (t : OrderLimits) (vs us : Harts) (r : Record) → step t vs r ≡ Ok us → length us ≡ length vs
unfolding step
step_length t vs us r e = by_length t vs us r (slice_get vs (hart_of r)) e

all_length : (t : OrderLimits) (p : ℕ) (vs us : Harts) (rs : List Record) → after_all t p vs rs ≡ Ok us → length us ≡ length vs
unfolding after_all
all_length t p vs us [] e = ap length (sym (same_well vs us e))
all_length t p vs us (r ∷ rs) e =
    let h = halves p (step t vs r) (λ next. after_all t (p + length (bytes_of r)) next rs) us e in
    all_length t (p + length (bytes_of r)) h.0 us rs h.2 ∙ step_length t vs h.0 r h.1

-- of nothing known all is weaker
fresh_weak : (v : HartView) → IsWeak (fresh false) v
fresh_weak v = record { phase = tt; seen = omega arith; met = λ h. absurd cc; last = tt; over = λ y h. absurd cc }

all_fresh : (n : ℕ) (vs : Harts) → length vs ≡ n → AreWeak (replicate n (fresh false)) vs
all_fresh zero [] e = tt
all_fresh zero (v ∷ vs) e = omega (arith, e)
all_fresh (suc n) [] e = omega (arith, e)
all_fresh (suc n) (v ∷ vs) e = (fresh_weak v, all_fresh n vs (omega (arith, e)))

length_fresh : (n : ℕ) (v : HartView) → length (replicate n v) ≡ n
length_fresh zero v = refl
length_fresh (suc n) v = ap suc (length_fresh n v)

-- from a start of any views
pub suffix_from : (t : OrderLimits) (p q : ℕ) (vs us : Harts) (front back : List Record) → after_all t p vs (front ++ back) ≡ Ok us → Runs2 (after_all t q (replicate (length vs) (fresh false)) back) us
suffix_from t p q vs us front back e =
    let m = parted t p p vs us front back e in
    weak_all t p q (replicate (length vs) (fresh false)) m.0 us back (all_fresh (length vs) m.0 (all_length t p vs m.0 front m.1)) m.2

pub suffix_fresh : (t : OrderLimits) (n : ℕ) (all : Bool) (us : Harts) (front back : List Record) → after_all t 0 (replicate n (fresh all)) (front ++ back) ≡ Ok us → Runs2 (after_all t 0 (replicate n (fresh false)) back) us
suffix_fresh t n all us front back e =
    subst (λ (k : ℕ). Runs2 (after_all t 0 (replicate k (fresh false)) back) us) (length_fresh n (fresh all)) (suffix_from t 0 0 (replicate n (fresh all)) us front back e)

-- ---- the end

unfinished : (all wm vm wo vo : Bool) → (wm ≡ true → vm ≡ true) → (vo ≡ true → wm ≡ true → wo ≡ true) → ((all || vm) && not vo) ≡ false → ((false || wm) && not wo) ≡ false
unfinished all false vm wo vo m o h = refl
unfinished all true vm true vo m o h = refl
unfinished all true vm false true m o h = absurd (no_true (o refl refl))
  where
    no_true : false ≡ true → ⊥
    no_true e = cc
unfinished false true true false false m o h = absurd cc
unfinished true true vm false false m o h = absurd cc
unfinished false true false false false m o h = absurd (no_true (m refl))
  where
    no_true : false ≡ true → ⊥
    no_true e = cc

weak_unfinished : (all : Bool) (w v : HartView) → IsWeak w v → is_unfinished all v ≡ false → is_unfinished false w ≡ false
weak_unfinished all w v k h = unfinished all w.met v.met (is_done w.phase) (is_done v.phase) k.met k.over h

pub weak_any : (all : Bool) (ws vs : Harts) → AreWeak ws vs → list_any (is_unfinished all) vs ≡ false → list_any (is_unfinished false) ws ≡ false
weak_any all [] [] k h = refl
weak_any all [] (v ∷ vs) k h = absurd k
weak_any all (w ∷ ws) [] k h = absurd k
weak_any all (w ∷ ws) (v ∷ vs) k h =
    let o = or_parts (is_unfinished all v) (list_any (is_unfinished all) vs) h in
    or_from (is_unfinished false w) (list_any (is_unfinished false) ws) (weak_unfinished all w v k.0 o.0) (weak_any all ws vs k.1 o.1)

weak_from : (n m : Option ℕ) (j : ℕ) → IsWeakNumber n m → is_from m j ≡ false → is_from n j ≡ false
weak_from None m j k h = refl
weak_from (Some a) None j k h = absurd k
weak_from (Some a) (Some b) j k h = rw k h

pub weak_past : (ws vs : Harts) (s j : ℕ) → AreWeak ws vs → is_past (slice_get vs s) j ≡ false → is_past (slice_get ws s) j ≡ false
weak_past [] vs s j k h = refl
weak_past (w ∷ ws) [] s j k h = absurd k
weak_past (w ∷ ws) (v ∷ vs) zero j k h = weak_from w.last v.last j k.0.last h
weak_past (w ∷ ws) (v ∷ vs) (suc s) j k h = weak_past ws vs s j k.1 h

weak_late : (ws vs : Harts) (r : Record) → AreWeak ws vs → is_late vs r ≡ false → is_late ws r ≡ false
weak_late ws vs (Header h n ic pc x) k e = refl
weak_late ws vs (FirstLoad h skip value) k e = refl
weak_late ws vs (ScOk h) k e = refl
weak_late ws vs (ScFailed h) k e = refl
weak_late ws vs (Edge h ic s j) k e = weak_past ws vs s j k e
weak_late ws vs (End h mark) k e = refl

abbrev nowhere : Option ℕ
nowhere = None

not_late : (b : Bool) (p : ℕ) (x : Option ℕ) → (if b then Some p else x) ≡ nowhere → (b ≡ false) × (x ≡ None)
not_late true p x h = absurd cc
not_late false p x h = (refl, h)

pub weak_late_edge : (ws vs : Harts) (p q : ℕ) (rs : List Record) → AreWeak ws vs → late_edge vs p rs ≡ None → late_edge ws q rs ≡ None
unfolding late_edge
weak_late_edge ws vs p q [] k e = refl
weak_late_edge ws vs p q (r ∷ rs) k e =
    let n = not_late (is_late vs r) p _ e in
    rw (weak_late ws vs r k n.0) (weak_late_edge ws vs (p + length (bytes_of r)) (q + length (bytes_of r)) rs k n.1)

-- of the last records alone
late_back : (vs : Harts) (p : ℕ) (front back : List Record) → late_edge vs p (front ++ back) ≡ None → (q : ℕ) × (late_edge vs q back ≡ None)
unfolding late_edge
late_back vs p [] back e = (p, e)
late_back vs p (r ∷ front) back e = late_back vs (p + length (bytes_of r)) front back (not_late (is_late vs r) p _ e).1

abbrev unbroken : Option OrderBreak
unbroken = None

not_ended : (b : Bool) (x : OrderBreak) (y : Option OrderBreak) → (if b then Some x else y) ≡ unbroken → (b ≡ false) × (y ≡ None)
not_ended true x y h = absurd cc
not_ended false x y h = (refl, h)

no_place : (o : Option ℕ) (f : ℕ → OrderBreak) → option_map f o ≡ unbroken → o ≡ None
no_place None f h = refl
no_place (Some p) f h = absurd cc

weak_ended : (all : Bool) (ws vs : Harts) (front back : List Record) → AreWeak ws vs → end_break all vs (front ++ back) ≡ None → end_break false ws back ≡ None
unfolding end_break
weak_ended all ws vs front back k e =
    let n = not_ended (list_any (is_unfinished all) vs) (order_break (total (front ++ back)) 6) _ e in
    let l = late_back vs 0 front back (no_place (late_edge vs 0 (front ++ back)) _ n.1) in
    rw (weak_any all ws vs k n.0, weak_late_edge ws vs l.0 0 back k l.1) refl

by_run : (t : OrderLimits) (count : ℕ) (all : Bool) (front back : List Record) (x : Result Harts OrderBreak) → after_all t 0 (replicate count (fresh all)) (front ++ back) ≡ x
    → broken_in all (front ++ back) x ≡ None → broken_in false back (after_all t 0 (replicate count (fresh false)) back) ≡ None
by_run t count all front back (Err p) q e = absurd cc
by_run t count all front back (Ok us) q e =
    let s = suffix_fresh t count all us front back q in
    rw s.1 (weak_ended all s.0 us front back s.2 e)

-- records that keep all rules keep them without the first ones
pub front_given_up : (t : OrderLimits) (count : ℕ) (all : Bool) (front back : List Record) → broken t count all (front ++ back) ≡ None → broken t count false back ≡ None
unfolding broken
front_given_up t count all front back e = by_run t count all front back (after_all t 0 (replicate count (fresh all)) (front ++ back)) refl e

same_number : (n : Option ℕ) → IsWeakNumber n n
same_number None = tt
same_number (Some a) = refl

same_phase : (p : Phase) → IsWeakPhase p p
same_phase Unknown = tt
same_phase (Awaiting n c) = (same_number n, refl)
same_phase (Open n c) = (refl, refl)
same_phase Done = tt

all_same_one : (v : HartView) → IsWeak v v
all_same_one v = record { phase = same_phase v.phase; seen = omega arith; met = λ h. h; last = same_number v.last; over = λ y h. y }

pub all_same : (vs : Harts) → AreWeak vs vs
all_same [] = tt
all_same (v ∷ vs) = (all_same_one v, all_same vs)
