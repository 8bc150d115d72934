-- A hart's last End is that of an interval whose Header is there: records that are in order name each interval once, and end it once.
use Rattle.bugnet.proofs.Common.{◌≡◌, ℕ, zero, suc, ◌+◌, ◌^◌, ◌<◌, ◌≤◌, ◌==◌, Bool, true, false, not, ◌&&◌, List, [], ◌∷◌, ◌++◌, length, Option, Some, None, refl, ap, subst, sym, ◌∙◌, arith, inl, inr, ◌⊎◌, if◌then◌else◌, replicate, EndMark, RawSettings, Record, Header, FirstLoad, ScOk, ScFailed, Edge, End, bytes_of, hart_of, HasEnded, Interval, Logged, interval_of, interval_from, puts, nothing, mark_in, Result, Ok, Err, nat_lt, nat_le, slice_get, slice_set}
use Rattle.std.specs.Option.{option_or}
use Rattle.log_order.specs.declared.view.OrderLimits.{OrderLimits}
use Rattle.log_order.specs.declared.view.HartView.{HartView}
use Rattle.log_order.specs.declared.view.Phase.{Phase}
use Rattle.log_order.specs.declared.view.Phase.TheVariants.{Unknown, Awaiting, Open, Done}
use Rattle.log_order.specs.declared.walk.OrderBreak.{OrderBreak}
use Rattle.log_order.specs.Rules.{takes_header, takes_other, is_awaited, goes_on, next_number, phase_after, has_edge, has_end, after_header, after_edge, after_end, after_other, after_one, fresh}
use Rattle.log_order.specs.Order.{◌>>=◌, has_source, step_at, step, at_place, after_all, broken_in, broken, broken_by, order_limits_of}
use Rattle.run_laws.specs.Ends.{last_end}
use Rattle.hart_replay.proofs.Puts.{mark_of_load, mark_of_ok, mark_of_failed}

abbrev Harts : Type 0
Harts = List HartView

-- ---- a hart's own records

-- each of its records may follow, its view before the first being this
abbrev Follows : OrderLimits → ℕ → HartView → List Record → Type 0
Follows t k v [] = Unit {0}
Follows t k v (r ∷ rs) = elim (hart_of r == k) as (λ b. Type 0) [ true ↦ (w : HartView) × (after_one t v r ≡ Ok w) × Follows t k w rs | false ↦ Follows t k v rs ]

-- a choice that is made
chosen : (b : Bool) (F G : Type 0) → b ≡ true → F → elim b as (λ x. Type 0) [ true ↦ F | false ↦ G ]
chosen true F G e f = f
chosen false F G e f = absurd cc

other : (b : Bool) (F G : Type 0) → b ≡ false → G → elim b as (λ x. Type 0) [ true ↦ F | false ↦ G ]
other true F G e g = absurd cc
other false F G e g = g

of_chosen : (b : Bool) (F G : Type 0) → b ≡ true → elim b as (λ x. Type 0) [ true ↦ F | false ↦ G ] → F
of_chosen true F G e f = f
of_chosen false F G e f = absurd cc

same_number : (a b : ℕ) → (a == b) ≡ true → a ≡ b
same_number a b e = grind arith

itself : (a : ℕ) → (a == a) ≡ true
itself a = grind arith

turned : (a b : ℕ) → (a == b) ≡ true → (b == a) ≡ true
turned a b e = grind arith

not_both : {P : Type 0} → true ≡ false → P
not_both e = absurd cc

-- ---- the views of all harts

abbrev good : Harts → Result Harts ℕ
good x = Ok x

abbrev well : Harts → Result Harts OrderBreak
well x = Ok x

halves : (place : ℕ) (s : Result Harts ℕ) (f : Harts → Result Harts OrderBreak) (us : Harts) → (at_place place s >>= f) ≡ well us → (mid : Harts) × (s ≡ Ok mid) × (f mid ≡ Ok us)
halves place (Err x) f us e = absurd cc
halves place (Ok mid) f us e = (mid, refl, e)

taken : (b : Bool) (e : ℕ) (x : Result Harts ℕ) (y : Harts) → (if b then x else Err e) ≡ good y → x ≡ Ok y
taken true e x y h = h
taken false e x y h = absurd cc

-- a step is one of the record's hart
record Stepped (t : OrderLimits) (vs next : Harts) (r : Record) : Type 0 where
  pub old : HartView
  pub new : HartView
  pub there : slice_get vs (hart_of r) ≡ Some old
  pub goes : after_one t old r ≡ Ok new
  pub next_is : next ≡ slice_set vs (hart_of r) new

by_one : (t : OrderLimits) (vs next : Harts) (r : Record) (v : HartView) (s : Result HartView ℕ) → slice_get vs (hart_of r) ≡ Some v → after_one t v r ≡ s
    → (s >>= λ w. good (slice_set vs (hart_of r) w)) ≡ good next → Stepped t vs next r
by_one t vs next r v (Err x) there q e = absurd cc
by_one t vs next r v (Ok w) there q e = record { old = v; new = w; there = there; goes = q; next_is = cc }

by_get : (t : OrderLimits) (vs next : Harts) (r : Record) (o : Option HartView) → slice_get vs (hart_of r) ≡ o → step_at t vs r o ≡ good next → Stepped t vs next r
by_get t vs next r None there e = absurd cc
by_get t vs next r (Some v) there e = by_one t vs next r v (after_one t v r) there refl (taken (has_source (length vs) r) 1 _ next e)

stepped : (t : OrderLimits) (vs next : Harts) (r : Record) → step t vs r ≡ good next → Stepped t vs next r
unfolding step
stepped t vs next r e = by_get t vs next r (slice_get vs (hart_of r)) refl e

get_set : (vs : Harts) (k : ℕ) (v w : HartView) → slice_get vs k ≡ Some v → slice_get (slice_set vs k w) k ≡ Some w
get_set [] k v w e = absurd cc
get_set (x ∷ vs) zero v w e = refl
get_set (x ∷ vs) (suc k) v w e = get_set vs k v w e

get_other : (vs : Harts) (h k : ℕ) (w : HartView) → (h == k) ≡ false → slice_get (slice_set vs h w) k ≡ slice_get vs k
get_other [] h k w e = refl
get_other (x ∷ vs) zero zero w e = absurd cc
get_other (x ∷ vs) zero (suc k) w e = refl
get_other (x ∷ vs) (suc h) zero w e = refl
get_other (x ∷ vs) (suc h) (suc k) w e = get_other vs h k w (less h k e)
  where
    less : (a b : ℕ) → (suc a == suc b) ≡ false → (a == b) ≡ false
    less a b e = grind arith

follows : (t : OrderLimits) (p k : ℕ) (vs us : Harts) (v : HartView) (rs : List Record) → after_all t p vs rs ≡ well us → slice_get vs k ≡ Some v → Follows t k v rs
unfolding after_all
follows t p k vs us v [] e g = tt
follows t p k vs us v (r ∷ rs) e g =
    let h = halves p (step t vs r) (λ next. after_all t (p + length (bytes_of r)) next rs) us e in
    let s = stepped t vs h.0 r h.1 in
    by h.0 (hart_of r == k) refl s (λ w there. follows t (p + length (bytes_of r)) k h.0 us w rs h.2 there)
  where
    by : (next : Harts) (b : Bool) → (hart_of r == k) ≡ b → (s : Stepped t vs next r) → ((w : HartView) → slice_get next k ≡ Some w → Follows t k w rs)
        → elim b as (λ x. Type 0) [ true ↦ (w : HartView) × (after_one t v r ≡ Ok w) × Follows t k w rs | false ↦ Follows t k v rs ]
    by next true e s later =
        let own : hart_of r ≡ k = same_number (hart_of r) k e in
        let there : slice_get vs k ≡ Some s.old = subst (λ (h : ℕ). slice_get vs h ≡ Some s.old) own s.there in
        let old : s.old ≡ v = cc in
        let next_is : next ≡ slice_set vs k s.new = subst (λ (h : ℕ). next ≡ slice_set vs h s.new) own s.next_is in
        (s.new, subst (λ (x : HartView). after_one t x r ≡ Ok s.new) old s.goes, later s.new (subst (λ (x : Harts). slice_get x k ≡ Some s.new) (sym next_is) (get_set vs k s.old s.new there)))
    by next false e s later = later v (subst (λ (x : Harts). slice_get x k ≡ Some v) (sym s.next_is) (get_other vs (hart_of r) k s.new e ∙ g))

-- ---- what a view takes

abbrev seen : HartView → Result HartView ℕ
seen v = Ok v

passes : (b : Bool) (n : ℕ) (x : Result HartView ℕ) (w : HartView) → (if b then Err n else x) ≡ seen w → (b ≡ false) × (x ≡ Ok w)
passes true n x w e = absurd cc
passes false n x w e = (refl, e)

of_not : (b : Bool) → not b ≡ false → b ≡ true
of_not true e = refl
of_not false e = absurd cc

same_seen : (v w : HartView) → seen v ≡ seen w → v ≡ w
same_seen v w e = cc

-- a Header was awaited, and opens its interval
header_goes : (t : OrderLimits) (v w : HartView) (n ic : ℕ) → after_header t v n ic ≡ seen w → (takes_header v.phase ≡ true) × (is_awaited v.phase n ic ≡ true) × (w.phase ≡ Open (n + 1) ic)
unfolding after_header
header_goes t v w n ic e =
    let a = passes (not (takes_header v.phase)) 2 _ w e in
    let b = passes (not (is_awaited v.phase n ic)) 4 _ w a.1 in
    let c = passes (nat_lt (2 ^ 41) n) 4 _ w b.1 in
    let d = passes (nat_lt ic v.seen) 5 _ w c.1 in
    let f = passes (nat_lt t.limit ic) 5 _ w d.1 in
    (of_not (takes_header v.phase) a.0, of_not (is_awaited v.phase n ic) b.0, ap (λ (x : HartView). x.phase) (sym (same_seen _ w f.1)))

other_goes : (v w : HartView) → after_other v ≡ seen w → (takes_other v.phase ≡ true) × (w.phase ≡ v.phase)
unfolding after_other
other_goes v w e =
    let a = passes (not (takes_other v.phase)) 3 _ w e in
    (of_not (takes_other v.phase) a.0, ap (λ (x : HartView). x.phase) (sym (same_seen _ w a.1)))

edge_goes : (t : OrderLimits) (v w : HartView) (ic from : ℕ) → after_edge t v ic from ≡ seen w → (takes_other v.phase ≡ true) × (w.phase ≡ v.phase)
unfolding after_edge
edge_goes t v w ic from e =
    let a = passes (not (takes_other v.phase)) 3 _ w e in
    let b = passes (nat_le t.limit ic) 5 _ w a.1 in
    let c = passes (nat_le t.limit from) 5 _ w b.1 in
    let d = passes (nat_lt (ic + 1) v.seen) 5 _ w c.1 in
    let f = passes (not (has_edge t.interval v.phase ic)) 5 _ w d.1 in
    (of_not (takes_other v.phase) a.0, ap (λ (x : HartView). x.phase) (sym (same_seen _ w f.1)))

end_goes : (t : OrderLimits) (v w : HartView) (m : EndMark) → after_end t v m ≡ seen w → (takes_other v.phase ≡ true) × (w.phase ≡ phase_after v.phase m)
unfolding after_end
end_goes t v w m e =
    let a = passes (not (takes_other v.phase)) 3 _ w e in
    let b = passes (nat_lt m.ic v.seen) 5 _ w a.1 in
    let c = passes (nat_lt t.limit m.ic) 5 _ w b.1 in
    let d = passes (m.reason == 7 && not (m.ic == t.limit)) 5 _ w c.1 in
    let f = passes (not (has_end t.interval v.phase m.reason m.ic)) 5 _ w d.1 in
    (of_not (takes_other v.phase) a.0, ap (λ (x : HartView). x.phase) (sym (same_seen _ w f.1)))

-- after an End there is nothing but a Header
closed_by : (b : Bool) (p : Phase) (ic : ℕ) → takes_other (if b then Awaiting (next_number p) ic else Done) ≡ false
closed_by true p ic = refl
closed_by false p ic = refl

closed : (w : HartView) (p : Phase) (m : EndMark) → w.phase ≡ phase_after p m → takes_other w.phase ≡ false
closed w p m e = ap takes_other e ∙ closed_by (goes_on m.reason) p m.ic

-- ---- the first End after

-- the hart's first Header or End is its End with this mark
abbrev Direct : ℕ → EndMark → List Record → Type 0
Direct k m [] = ⊥
Direct k m (Header h n ic pc x ∷ rs) = elim (h == k) as (λ b. Type 0) [ true ↦ ⊥ | false ↦ Direct k m rs ]
Direct k m (End h e ∷ rs) = elim (h == k) as (λ b. Type 0) [ true ↦ e ≡ m | false ↦ Direct k m rs ]
Direct k m (r ∷ rs) = Direct k m rs

-- the view before the later records, where the first may follow
some_view : (b : Bool) (s : Result HartView ℕ) (W : HartView → Type 0) (v : HartView) → elim b as (λ x. Type 0) [ true ↦ (w : HartView) × (s ≡ Ok w) × W w | false ↦ W v ] → (w : HartView) × W w
some_view true s W v f = (f.0, f.2)
some_view false s W v f = (v, f)

-- that mark is the one of the interval that is open
direct_mark : (k : ℕ) (m : EndMark) (rs : List Record) → Direct k m rs → mark_in k rs ≡ m
direct_mark k m [] d = absurd d
direct_mark k m (Header h n ic pc x ∷ rs) d = by (h == k) (direct_mark k m rs) d
  where
    by : (b : Bool) → (Direct k m rs → mark_in k rs ≡ m) → elim b as (λ x. Type 0) [ true ↦ ⊥ | false ↦ Direct k m rs ] → mark_in k rs ≡ m
    by true later d = absurd d
    by false later d = later d
direct_mark k m (FirstLoad h skip value ∷ rs) d = mark_of_load k h skip value (puts k rs nothing) ∙ direct_mark k m rs d
direct_mark k m (ScOk h ∷ rs) d = mark_of_ok k h (puts k rs nothing) ∙ direct_mark k m rs d
direct_mark k m (ScFailed h ∷ rs) d = mark_of_failed k h (puts k rs nothing) ∙ direct_mark k m rs d
direct_mark k m (Edge h ic s j ∷ rs) d = direct_mark k m rs d
direct_mark k m (End h e ∷ rs) d = by (h == k) (direct_mark k m rs) d
  where
    by : (b : Bool) → (Direct k m rs → mark_in k rs ≡ m) → elim b as (λ x. Type 0) [ true ↦ e ≡ m | false ↦ Direct k m rs ]
        → (elim b as (λ x. Logged) [ true ↦ record { loads = []; conditionals = []; mark = e } | false ↦ puts k rs nothing ]).mark ≡ m
    by true later d = d
    by false later d = later d

-- ---- an End after an End

ends_first : {P : Type 0} (b : Bool) → b ≡ false → b ≡ true → P
ends_first b c e = not_both (sym e ∙ c)

-- no record of the hart's own may stand there
unheard : (b : Bool) (s : Result HartView ℕ) (v : HartView) (W : HartView → Type 0) → ((w : HartView) → s ≡ Ok w → ⊥) → elim b as (λ x. Type 0) [ true ↦ (w : HartView) × (s ≡ Ok w) × W w | false ↦ W v ] → W v
unheard true s v W none f = absurd (none f.0 f.1)
unheard false s v W none f = f

no_direct : (t : OrderLimits) (k : ℕ) (v : HartView) (m : EndMark) (rs : List Record) → takes_other v.phase ≡ false → Follows t k v rs → Direct k m rs → ⊥
no_direct t k v m [] c f d = d
no_direct t k v m (Header h n ic pc x ∷ rs) c f d = by (h == k) (no_direct t k v m rs c) f d
  where
    by : (b : Bool) → (Follows t k v rs → Direct k m rs → ⊥) → elim b as (λ x. Type 0) [ true ↦ (w : HartView) × (after_header t v n ic ≡ Ok w) × Follows t k w rs | false ↦ Follows t k v rs ]
        → elim b as (λ x. Type 0) [ true ↦ ⊥ | false ↦ Direct k m rs ] → ⊥
    by true later f d = d
    by false later f d = later f d
no_direct t k v m (Edge h ic s j ∷ rs) c f d = no_direct t k v m rs c (unheard (h == k) (after_edge t v ic j) v (λ w. Follows t k w rs) (λ w e. ends_first (takes_other v.phase) c (edge_goes t v w ic j e).0) f) d
no_direct t k v m (End h e ∷ rs) c f d = by (h == k) (no_direct t k v m rs c) f d
  where
    by : (b : Bool) → (Follows t k v rs → Direct k m rs → ⊥) → elim b as (λ x. Type 0) [ true ↦ (w : HartView) × (after_end t v e ≡ Ok w) × Follows t k w rs | false ↦ Follows t k v rs ]
        → elim b as (λ x. Type 0) [ true ↦ e ≡ m | false ↦ Direct k m rs ] → ⊥
    by true later f d = ends_first (takes_other v.phase) c (end_goes t v f.0 e f.1).0
    by false later f d = later f d
no_direct t k v m (r ∷ rs) c f d = no_direct t k v m rs c (unheard (hart_of r == k) (after_other v) v (λ w. Follows t k w rs) (λ w e. ends_first (takes_other v.phase) c (other_goes v w e).0) f) d

-- ---- where the last End is

-- it ends the interval of a Header that is there
record Listed (k : ℕ) (m : EndMark) (rs : List Record) : Type 0 where
  pub front : List Record
  pub back : List Record
  pub number : ℕ
  pub ic : ℕ
  pub pc : ℕ
  pub x : List ℕ
  pub parts : rs ≡ front ++ Header k number ic pc x ∷ back
  pub direct : Direct k m back

later : (k : ℕ) (m : EndMark) (r : Record) (rs : List Record) → Listed k m rs → Listed k m (r ∷ rs)
later k m r rs l = record { front = r ∷ l.front; back = l.back; number = l.number; ic = l.ic; pc = l.pc; x = l.x; parts = ap (λ (t : List Record). r ∷ t) l.parts; direct = l.direct }

abbrev Ended : ℕ → EndMark → List Record → Type 0
Ended k m rs = Direct k m rs ⊎ Listed k m rs

-- a record that is neither
passed : (k : ℕ) (m : EndMark) (r : Record) (rs : List Record) → (Direct k m rs → Direct k m (r ∷ rs)) → Ended k m rs → Ended k m (r ∷ rs)
passed k m r rs go (inl d) = inl (go d)
passed k m r rs go (inr l) = inr (later k m r rs l)

or_none : (o : Option EndMark) (m : EndMark) → option_or o None ≡ Some m → o ≡ Some m
or_none None m e = absurd cc
or_none (Some x) m e = e

own_end : (b : Bool) (e m : EndMark) → elim b as (λ x. Option EndMark) [ true ↦ Some e | false ↦ None ] ≡ Some m → (b ≡ true) × (e ≡ m)
own_end true e m q = (refl, cc)
own_end false e m q = absurd cc

at_header : (k h n ic pc : ℕ) (x : List ℕ) (m : EndMark) (rs : List Record) (b : Bool) → (h == k) ≡ b → Ended k m rs → Ended k m (Header h n ic pc x ∷ rs)
at_header k h n ic pc x m rs true q (inl d) =
    inr (record { front = []; back = rs; number = n; ic = ic; pc = pc; x = x; parts = ap (λ (j : ℕ). Header j n ic pc x ∷ rs) (same_number h k q); direct = d })
at_header k h n ic pc x m rs false q (inl d) = inl (other (h == k) ⊥ (Direct k m rs) q d)
at_header k h n ic pc x m rs b q (inr l) = inr (later k m (Header h n ic pc x) rs l)

at_end : (t : OrderLimits) (k h : ℕ) (v : HartView) (e m : EndMark) (rs : List Record) (b : Bool) → (h == k) ≡ b → elim b as (λ x. Type 0) [ true ↦ (w : HartView) × (after_end t v e ≡ Ok w) × Follows t k w rs | false ↦ Follows t k v rs ]
    → Ended k m rs → Ended k m (End h e ∷ rs)
at_end t k h v e m rs true q f (inl d) = absurd (no_direct t k f.0 m rs (closed f.0 v.phase e (end_goes t v f.0 e f.1).1) f.2 d)
at_end t k h v e m rs false q f (inl d) = inl (other (h == k) (e ≡ m) (Direct k m rs) q d)
at_end t k h v e m rs b q f (inr l) = inr (later k m (End h e) rs l)

ended : (t : OrderLimits) (k : ℕ) (v : HartView) (m : EndMark) (rs : List Record) → Follows t k v rs → last_end k rs ≡ Some m → Ended k m rs
ended t k v m [] f e = absurd cc
ended t k v m (Header h n ic pc x ∷ rs) f e =
    let g = some_view (h == k) (after_header t v n ic) (λ w. Follows t k w rs) v f in
    at_header k h n ic pc x m rs (h == k) refl (ended t k g.0 m rs g.1 (or_none (last_end k rs) m e))
ended t k v m (End h mark ∷ rs) f e = by (last_end k rs) refl e (λ q. let g = some_view (h == k) (after_end t v mark) (λ w. Follows t k w rs) v f in ended t k g.0 m rs g.1 q)
  where
    by : (o : Option EndMark) → last_end k rs ≡ o → option_or o (elim (k == h) as (λ x. Option EndMark) [ true ↦ Some mark | false ↦ None ]) ≡ Some m
        → (last_end k rs ≡ Some m → Ended k m rs) → Ended k m (End h mark ∷ rs)
    by (Some x) q e rest = at_end t k h v mark m rs (h == k) refl f (rest (q ∙ e))
    by None q e rest =
        let own = own_end (k == h) mark m e in
        inl (chosen (h == k) (mark ≡ m) (Direct k m rs) (turned k h own.0) own.1)
ended t k v m (r ∷ rs) f e =
    let g = some_view (hart_of r == k) (after_one t v r) (λ w. Follows t k w rs) v f in
    passed k m r rs (λ d. d) (ended t k g.0 m rs g.1 (or_none (last_end k rs) m e))

-- ---- numbers ascend

-- the next Header has this number at least
abbrev IsPast : ℕ → Phase → Type 0
IsPast low (Awaiting (Some next) ic) = low ≤ next
IsPast low (Open next since) = low ≤ next
IsPast low Done = Unit {0}
IsPast low other = ⊥

both : (a b : Bool) → (a && b) ≡ true → (a ≡ true) × (b ≡ true)
both true b e = (refl, e)
both false b e = absurd cc

past_header : (low n ic : ℕ) (p : Phase) → IsPast low p → takes_header p ≡ true → is_awaited p n ic ≡ true → low ≤ n
past_header low n ic (Awaiting (Some next) count) past takes is =
    let same = same_number next n (both (count == ic) (next == n) is).1 in
    omega (arith, past, same)
past_header low n ic (Open next since) past takes is = not_both (sym takes)
past_header low n ic Done past takes is = not_both (sym takes)
past_header low n ic p past takes is = absurd past

past_end_by : (low : ℕ) (b : Bool) (p : Phase) (ic : ℕ) → IsPast low p → takes_other p ≡ true → IsPast low (if b then Awaiting (next_number p) ic else Done)
past_end_by low false p ic past takes = tt
past_end_by low true Unknown ic past takes = absurd past
past_end_by low true (Open next since) ic past takes = past
past_end_by low true p ic past takes = not_both (sym takes)

up_one : (low n : ℕ) → low ≤ n → low ≤ n + 1
up_one low n e = omega (arith, e)

past_one : (t : OrderLimits) (low : ℕ) (v w : HartView) (r : Record) → IsPast low v.phase → after_one t v r ≡ Ok w → IsPast low w.phase
past_one t low v w (Header h n ic pc x) past e =
    let g = header_goes t v w n ic e in
    subst (IsPast low) (sym g.2) (up_one low n (past_header low n ic v.phase past g.0 g.1))
past_one t low v w (Edge h ic s j) past e = subst (IsPast low) (sym (edge_goes t v w ic j e).1) past
past_one t low v w (End h m) past e =
    let g = end_goes t v w m e in
    subst (IsPast low) (sym g.1) (past_end_by low (goes_on m.reason) v.phase m.ic past g.0)
past_one t low v w r past e = subst (IsPast low) (sym (other_goes v w e).1) past

ascends : (t : OrderLimits) (k low : ℕ) (v : HartView) (front : List Record) (n ic pc : ℕ) (x : List ℕ) (back : List Record) → IsPast low v.phase → Follows t k v (front ++ Header k n ic pc x ∷ back) → low ≤ n
ascends t k low v [] n ic pc x back past f =
    let g = of_chosen (k == k) ((w : HartView) × (after_header t v n ic ≡ Ok w) × Follows t k w back) (Follows t k v back) (itself k) f in
    let h = header_goes t v g.0 n ic g.1 in
    past_header low n ic v.phase past h.0 h.1
ascends t k low v (r ∷ front) n ic pc x back past f = by (hart_of r == k) f (λ w p g. ascends t k low w front n ic pc x back p g)
  where
    by : (b : Bool) → elim b as (λ y. Type 0) [ true ↦ (w : HartView) × (after_one t v r ≡ Ok w) × Follows t k w (front ++ Header k n ic pc x ∷ back) | false ↦ Follows t k v (front ++ Header k n ic pc x ∷ back) ]
        → ((w : HartView) → IsPast low w.phase → Follows t k w (front ++ Header k n ic pc x ∷ back) → low ≤ n) → low ≤ n
    by true f rest = rest f.0 (past_one t low v f.0 r past f.1) f.2
    by false f rest = rest v past f

-- ---- the interval is found

same_least : (a : ℕ) → a ≤ a
same_least a = omega arith

too_many : (a b : ℕ) → a ≡ b → a + 1 ≤ b → ⊥
too_many a b e more = omega (arith, e, more)

-- the first interval of that number begins at that count and ends with that mark
pub record Found (k n ic : ℕ) (m : EndMark) (rs : List Record) : Type 0 where
  pub interval : Interval
  pub is : interval_of k n rs ≡ Some interval
  pub mark_is : interval.mark ≡ m
  pub begins : interval.start.ic ≡ ic

found_here : (k n ic pc : ℕ) (x : List ℕ) (m : EndMark) (back : List Record) → Direct k m back → Found k n ic m (Header k n ic pc x ∷ back)
found_here k n ic pc x m back d =
    let v : Interval = interval_from (record { pc = pc; x = x; ic = ic }) (puts k back nothing) in
    record {
      interval = v;
      is = ap (λ (b : Bool). elim b as (λ y. Option Interval) [ true ↦ Some v | false ↦ interval_of k n back ]) (two (k == k) (n == n) (itself k) (itself n));
      mark_is = direct_mark k m back d;
      begins = refl;
    }
  where
    two : (a b : Bool) → a ≡ true → b ≡ true → (a && b) ≡ true
    two true b e f = f
    two false b e f = absurd cc

found_later : (k n ic : ℕ) (m : EndMark) (v : Interval) (rs : List Record) (b : Bool) → b ≡ false → Found k n ic m rs → (i : Interval) × (elim b as (λ y. Option Interval) [ true ↦ Some v | false ↦ interval_of k n rs ] ≡ Some i) × (i.mark ≡ m) × (i.start.ic ≡ ic)
found_later k n ic m v rs true e f = not_both e
found_later k n ic m v rs false e f = (f.interval, f.is, f.mark_is, f.begins)

found : (t : OrderLimits) (k : ℕ) (v : HartView) (m : EndMark) (front : List Record) (n ic pc : ℕ) (x : List ℕ) (back : List Record) → Follows t k v (front ++ Header k n ic pc x ∷ back) → Direct k m back
    → Found k n ic m (front ++ Header k n ic pc x ∷ back)
found t k v m [] n ic pc x back f d = found_here k n ic pc x m back d
found t k v m (Header h j c p y ∷ front) n ic pc x back f d =
    let rs = front ++ Header k n ic pc x ∷ back in
    let g = some_view (h == k) (after_header t v j c) (λ w. Follows t k w rs) v f in
    let rest = found t k g.0 m front n ic pc x back g.1 d in
    let one : Interval = interval_from (record { pc = p; x = y; ic = c }) (puts k rs nothing) in
    let l = found_later k n ic m one rs (h == k && (j == n)) (apart (h == k && (j == n)) refl) rest in
    record { interval = l.0; is = l.1; mark_is = l.2; begins = l.3 }
  where
    apart : (b : Bool) → (h == k && (j == n)) ≡ b → b ≡ false
    apart false e = refl
    apart true e =
        let own = both (h == k) (j == n) e in
        let rs = front ++ Header k n ic pc x ∷ back in
        let g = of_chosen (h == k) ((w : HartView) × (after_header t v j c ≡ Ok w) × Follows t k w rs) (Follows t k v rs) own.0 f in
        let opened = (header_goes t v g.0 j c g.1).2 in
        let more = ascends t k (j + 1) g.0 front n ic pc x back (subst (IsPast (j + 1)) (sym opened) (same_least (j + 1))) g.2 in
        absurd (too_many j n (same_number j n own.1) more)
found t k v m (r ∷ front) n ic pc x back f d =
    let g = some_view (hart_of r == k) (after_one t v r) (λ w. Follows t k w (front ++ Header k n ic pc x ∷ back)) v f in
    let rest = found t k g.0 m front n ic pc x back g.1 d in
    record { interval = rest.interval; is = rest.is; mark_is = rest.mark_is; begins = rest.begins }

-- ---- what is in order

behind : (t : OrderLimits) (k : ℕ) (v : HartView) (front rest : List Record) → Follows t k v (front ++ rest) → (w : HartView) × Follows t k w rest
behind t k v [] rest f = (v, f)
behind t k v (r ∷ front) rest f =
    let g = some_view (hart_of r == k) (after_one t v r) (λ w. Follows t k w (front ++ rest)) v f in
    behind t k g.0 front rest g.1

listed_behind : (k : ℕ) (m : EndMark) (front rest : List Record) → Listed k m rest → Listed k m (front ++ rest)
listed_behind k m [] rest l = l
listed_behind k m (r ∷ front) rest l = later k m r (front ++ rest) (listed_behind k m front rest l)

fresh_at : (count k : ℕ) (v : HartView) → k < count → slice_get (replicate count v) k ≡ Some v
fresh_at zero k v e = absurd (omega (arith, e))
fresh_at (suc n) zero v e = refl
fresh_at (suc n) (suc k) v e = fresh_at n k v (omega (arith, e))

whole : (all : Bool) (rs : List Record) (r : Result Harts OrderBreak) → broken_in all rs r ≡ None → (us : Harts) × (r ≡ Ok us)
whole all rs (Err b) e = absurd cc
whole all rs (Ok us) e = (us, refl)

in_order : (c : RawSettings) (dropped : ℕ) (rs : List Record) → broken_by c dropped rs ≡ None → (us : Harts) × (after_all (order_limits_of c) 0 (replicate c.harts (fresh (dropped == 0))) rs ≡ Ok us)
unfolding broken
in_order c dropped rs e = whole (dropped == 0) rs (after_all (order_limits_of c) 0 (replicate c.harts (fresh (dropped == 0))) rs) e

-- a hart's last End is that of an interval, if a Header of the hart is ahead of it
pub record Closes (k : ℕ) (m : EndMark) (rs : List Record) : Type 0 where
  pub number : ℕ
  pub ic : ℕ
  pub pc : ℕ
  pub x : List ℕ
  pub front : List Record
  pub back : List Record
  pub parts : rs ≡ front ++ Header k number ic pc x ∷ back
  pub mark_is : mark_in k back ≡ m
  pub found : Found k number ic m rs

of_listed : (t : OrderLimits) (k : ℕ) (v : HartView) (m : EndMark) (rs : List Record) → Follows t k v rs → Listed k m rs → Closes k m rs
of_listed t k v m rs f l = record {
  number = l.number;
  ic = l.ic;
  pc = l.pc;
  x = l.x;
  front = l.front;
  back = l.back;
  parts = l.parts;
  mark_is = direct_mark k m l.back l.direct;
  found = subst (Found k l.number l.ic m) (sym l.parts) (found t k v m l.front l.number l.ic l.pc l.x l.back (subst (Follows t k v) l.parts f) l.direct);
}

pub closes : (c : RawSettings) (dropped k number begun : ℕ) (m : EndMark) (rs : List Record) → broken_by c dropped rs ≡ None → k < c.harts → HasEnded k number begun m rs → Closes k m rs
closes c dropped k number begun m rs order low has =
    let t = order_limits_of c in
    let h = has.header in
    let v = fresh (dropped == 0) in
    let ran = in_order c dropped rs order in
    let f = follows t 0 k (replicate c.harts v) ran.0 v rs ran.1 (fresh_at c.harts k v low) in
    let at = behind t k v h.front (Header k number begun h.pc h.x ∷ h.back) (subst (Follows t k v) h.parts f) in
    let on = some_view (k == k) (after_header t at.0 number begun) (λ w. Follows t k w h.back) at.0 at.1 in
    let l = at_header k k number begun h.pc h.x m h.back (k == k) refl (ended t k on.0 m h.back on.1 has.end) in
    of_listed t k v m rs f (of_ended l)
  where
    of_ended : Ended k m (Header k number begun has.header.pc has.header.x ∷ has.header.back) → Listed k m rs
    of_ended (inl d) = absurd (of_chosen (k == k) ⊥ (Direct k m has.header.back) (itself k) d)
    of_ended (inr l) = subst (Listed k m) (sym has.header.parts) (listed_behind k m has.header.front (Header k number begun has.header.pc has.header.x ∷ has.header.back) l)
