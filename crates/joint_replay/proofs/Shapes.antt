-- The intervals of a hart in a log in order, by the walk of the order's rules.
use Rattle.joint_replay.proofs.Common.{◌≡◌, ◌<◌, ℕ, ◌+◌, ◌^◌, ◌≤◌, max, Bool, true, false, not, ◌&&◌, ◌||◌, ◌==◌, ◌⊎◌, inl, inr, nat_lt, refl, sym, ap, ◌∙◌, subst, arith, List, [], ◌∷◌, length, slice_get, slice_set, Option, Some, None, Result, Ok, Err, if◌then◌else◌, nat_le, EndMark, Record, Header, FirstLoad, ScOk, ScFailed, Edge, End, hart_of, OrderLimits, HartView, Phase, takes_header, takes_other, is_awaited, is_number, has_edge, has_end, goes_on, phase_after, after_one, after_header, after_edge, after_end, after_other, is_done, is_unfinished, puts, nothing, Logged, Span, mark_of, spans, AreSpans, Fits, is_known, OrderedLogsHaveShape, eqb_tells, bytes_of, ◌>>=◌, step, step_at, has_source, at_place, after_all, OrderBreak, and_parts, eqb-true, leb-true, ltb-false, not-false, or-true}
use Rattle.log_order.specs.declared.view.Phase.TheVariants.{Unknown, Awaiting, Open, Done}
use Rattle.joint_replay.proofs.Soundness.{get_same, get_other, some_is}

pub passes : {A : Type 0} (b : Bool) (e : ℕ) (x : Result A ℕ) (w : A) → (if b then Err e else x) ≡ Ok w → (b ≡ false) × (x ≡ Ok w)
passes true e x w h = cc
passes false e x w h = (refl, h)

pub ok_is : {A : Type 0} (x y : A) → ◌≡◌ {A = Result A ℕ} (Ok x) (Ok y) → x ≡ y
ok_is x y e = cc

-- ---- what one record does to its hart's view

pub record Headed (t : OrderLimits) (v u : HartView) (n ic : ℕ) : Type 0 where
  pub takes : takes_header v.phase ≡ true
  pub awaited : is_awaited v.phase n ic ≡ true
  pub phase : u.phase ≡ Open (n + 1) ic
  pub low : v.seen ≤ ic
  pub seen : v.seen ≡ u.seen
  pub met : u.met ≡ true

pub headed : (t : OrderLimits) (v u : HartView) (n ic : ℕ) → after_header t v n ic ≡ Ok u → Headed t v u n ic
unfolding after_header
headed t v u n ic e =
    let a = passes (not (takes_header v.phase)) 2 (if not (is_awaited v.phase n ic) then Err 4 else (if nat_lt (2 ^ 41) n then Err 4 else (if nat_lt ic v.seen then Err 5 else (if nat_lt t.limit ic then Err 5 else Ok (record { phase = Open (n + 1) ic; seen = v.seen; met = true; last = v.last }))))) u e in
    let b = passes (not (is_awaited v.phase n ic)) 4 (if nat_lt (2 ^ 41) n then Err 4 else (if nat_lt ic v.seen then Err 5 else (if nat_lt t.limit ic then Err 5 else Ok (record { phase = Open (n + 1) ic; seen = v.seen; met = true; last = v.last })))) u a.1 in
    let c = passes (nat_lt (2 ^ 41) n) 4 (if nat_lt ic v.seen then Err 5 else (if nat_lt t.limit ic then Err 5 else Ok (record { phase = Open (n + 1) ic; seen = v.seen; met = true; last = v.last }))) u b.1 in
    let d = passes (nat_lt ic v.seen) 5 (if nat_lt t.limit ic then Err 5 else Ok (record { phase = Open (n + 1) ic; seen = v.seen; met = true; last = v.last })) u c.1 in
    let f = passes (nat_lt t.limit ic) 5 (Ok (record { phase = Open (n + 1) ic; seen = v.seen; met = true; last = v.last })) u d.1 in
    let is : ◌≡◌ {A = HartView} (record { phase = Open (n + 1) ic; seen = v.seen; met = true; last = v.last }) u = ok_is (record { phase = Open (n + 1) ic; seen = v.seen; met = true; last = v.last }) u f.1 in
    record { takes = not-false (takes_header v.phase) a.0; awaited = not-false (is_awaited v.phase n ic) b.0; phase = sym (ap (λ (x : HartView). x.phase) is); low = ltb-false ic v.seen d.0; seen = ap (λ (x : HartView). x.seen) is; met = sym (ap (λ (x : HartView). x.met) is) }

-- a record that changes no phase
pub record Stays (v u : HartView) : Type 0 where
  pub seen : v.seen ≤ u.seen
  pub takes : takes_other v.phase ≡ true
  pub phase : u.phase ≡ v.phase
  pub met : u.met ≡ true

pub other : (v u : HartView) → after_other v ≡ Ok u → Stays v u
unfolding after_other
other v u e =
    let a = passes (not (takes_other v.phase)) 3 (Ok (record { phase = v.phase; seen = v.seen; met = true; last = v.last })) u e in
    let is : ◌≡◌ {A = HartView} (record { phase = v.phase; seen = v.seen; met = true; last = v.last }) u = ok_is (record { phase = v.phase; seen = v.seen; met = true; last = v.last }) u a.1 in
    let same = ap (λ (x : HartView). x.seen) is in
    record { seen = omega (arith, same); takes = not-false (takes_other v.phase) a.0; phase = sym (ap (λ (x : HartView). x.phase) is); met = sym (ap (λ (x : HartView). x.met) is) }

pub record Edged (t : OrderLimits) (v u : HartView) (ic : ℕ) : Type 0 where
  pub stays : Stays v u
  pub next : ic < u.seen
  pub low : v.seen ≤ ic + 1
  pub fits : has_edge t.interval v.phase ic ≡ true

max_left : (a b : ℕ) → a ≤ max a b
max_left a b = grind arith

max_right : (a b : ℕ) → a < max b (a + 1)
max_right a b = grind arith

pub edged : (t : OrderLimits) (v u : HartView) (ic j : ℕ) → after_edge t v ic j ≡ Ok u → Edged t v u ic
unfolding after_edge
edged t v u ic j e =
    let last : HartView = record { phase = v.phase; seen = max v.seen (ic + 1); met = true; last = v.last } in
    let a = passes (not (takes_other v.phase)) 3 (if nat_le t.limit ic then Err 5 else (if nat_le t.limit j then Err 5 else (if nat_lt (ic + 1) v.seen then Err 5 else (if not (has_edge t.interval v.phase ic) then Err 5 else Ok last)))) u e in
    let b = passes (nat_le t.limit ic) 5 (if nat_le t.limit j then Err 5 else (if nat_lt (ic + 1) v.seen then Err 5 else (if not (has_edge t.interval v.phase ic) then Err 5 else Ok last))) u a.1 in
    let c = passes (nat_le t.limit j) 5 (if nat_lt (ic + 1) v.seen then Err 5 else (if not (has_edge t.interval v.phase ic) then Err 5 else Ok last)) u b.1 in
    let d = passes (nat_lt (ic + 1) v.seen) 5 (if not (has_edge t.interval v.phase ic) then Err 5 else Ok last) u c.1 in
    let f = passes (not (has_edge t.interval v.phase ic)) 5 (Ok last) u d.1 in
    let is : last ≡ u = ok_is last u f.1 in
    record {
      stays = record { seen = subst (λ (x : HartView). v.seen ≤ x.seen) is (max_left v.seen (ic + 1)); takes = not-false (takes_other v.phase) a.0; phase = sym (ap (λ (x : HartView). x.phase) is); met = sym (ap (λ (x : HartView). x.met) is) };
      next = subst (λ (x : HartView). ic < x.seen) is (max_right ic v.seen);
      low = ltb-false (ic + 1) v.seen d.0;
      fits = not-false (has_edge t.interval v.phase ic) f.0;
    }

pub record Ended (t : OrderLimits) (v u : HartView) (m : EndMark) : Type 0 where
  pub takes : takes_other v.phase ≡ true
  pub limit : m.ic ≤ t.limit
  pub low : v.seen ≤ m.ic
  pub fits : has_end t.interval v.phase m.reason m.ic ≡ true
  pub phase : u.phase ≡ phase_after v.phase m
  pub seen : v.seen ≡ u.seen
  pub met : u.met ≡ true
  pub last : u.last ≡ Some m.ic

pub ended : (t : OrderLimits) (v u : HartView) (m : EndMark) → after_end t v m ≡ Ok u → Ended t v u m
unfolding after_end
ended t v u m e =
    let last : HartView = record { phase = phase_after v.phase m; seen = v.seen; met = true; last = Some m.ic } in
    let a = passes (not (takes_other v.phase)) 3 (if nat_lt m.ic v.seen then Err 5 else (if nat_lt t.limit m.ic then Err 5 else (if m.reason == 7 && not (m.ic == t.limit) then Err 5 else (if not (has_end t.interval v.phase m.reason m.ic) then Err 5 else Ok last)))) u e in
    let b = passes (nat_lt m.ic v.seen) 5 (if nat_lt t.limit m.ic then Err 5 else (if m.reason == 7 && not (m.ic == t.limit) then Err 5 else (if not (has_end t.interval v.phase m.reason m.ic) then Err 5 else Ok last))) u a.1 in
    let c = passes (nat_lt t.limit m.ic) 5 (if m.reason == 7 && not (m.ic == t.limit) then Err 5 else (if not (has_end t.interval v.phase m.reason m.ic) then Err 5 else Ok last)) u b.1 in
    let d = passes (m.reason == 7 && not (m.ic == t.limit)) 5 (if not (has_end t.interval v.phase m.reason m.ic) then Err 5 else Ok last) u c.1 in
    let f = passes (not (has_end t.interval v.phase m.reason m.ic)) 5 (Ok last) u d.1 in
    let is : last ≡ u = ok_is last u f.1 in
    record {
      takes = not-false (takes_other v.phase) a.0;
      limit = ltb-false t.limit m.ic c.0;
      low = ltb-false m.ic v.seen b.0;
      fits = not-false (has_end t.interval v.phase m.reason m.ic) f.0;
      phase = sym (ap (λ (x : HartView). x.phase) is);
      seen = ap (λ (x : HartView). x.seen) is;
      met = sym (ap (λ (x : HartView). x.met) is);
      last = sym (ap (λ (x : HartView). x.last) is);
    }

-- ---- what one record does to what is known of the later ones

module _ (limit : ℕ) where
  pub by_header : (p : Phase) (n ic : ℕ) (old m : EndMark) (ss : List Span) → takes_header p ≡ true → is_awaited p n ic ≡ true → Fits limit (Open (n + 1) ic) m ss
      → Fits limit p old (record { number = n; begin = ic; mark = m } ∷ ss)
  by_header Unknown n ic old m ss t a f = (refl, refl, f.0, f.1, f.2)
  by_header (Awaiting next begin) n ic old m ss t a f = let parts = and_parts (begin == ic) (is_number next n) a in (parts.1, sym (eqb-true begin ic parts.0), f.0, f.1, f.2)
  by_header (Open next since) n ic old m ss t a f = absurd cc
  by_header Done n ic old m ss t a f = absurd cc

  some_fits : (next : Option ℕ) (begin : ℕ) (m : EndMark) (ss : List Span) → AreSpans limit next begin ss → Fits limit Unknown m ss
  some_fits next begin m [] a = tt
  some_fits next begin m (s ∷ ss) a = (refl, refl, a.2, a.3, a.4)

  empty_are : (next : Option ℕ) (begin : ℕ) (ss : List Span) → ss ≡ [] → AreSpans limit next begin ss
  empty_are next begin [] e = tt
  empty_are next begin (s ∷ ss) e = cc

  pub by_end : (interval : ℕ) (p : Phase) (m late : EndMark) (ss : List Span) → takes_other p ≡ true → m.ic ≤ limit → has_end interval p m.reason m.ic ≡ true → Fits limit (phase_after p m) late ss → Fits limit p m ss
  by_end interval Unknown m late ss t low h f = by (goes_on m.reason) f
    where
      by : (b : Bool) → Fits limit (if b then Awaiting None m.ic else Done) late ss → Fits limit Unknown m ss
      by true f = some_fits None m.ic m ss f
      by false f = some_fits None m.ic m ss (empty_are None m.ic ss f)
  by_end interval (Awaiting next begin) m late ss t low h f = absurd cc
  by_end interval (Open next since) m late ss t low h f =
      (leb-true since m.ic (and_parts (nat_le since m.ic) (if m.reason == 1 then m.ic == since + interval else nat_le m.ic (since + interval)) h).0, low, by (goes_on m.reason) f)
    where
      by : (b : Bool) → Fits limit (if b then Awaiting (Some next) m.ic else Done) late ss → AreSpans limit (Some next) m.ic ss
      by true f = f
      by false f = empty_are (Some next) m.ic ss f
  by_end interval Done m late ss t low h f = absurd cc

-- ---- the walk of one hart

infixl 10 ◌>>◌
abbrev pub ◌>>◌ : Result HartView ℕ → (HartView → Result HartView ℕ) → Result HartView ℕ
(Ok x) >> f = f x
(Err e) >> f = Err e

abbrev pub own_walk : OrderLimits → ℕ → HartView → List Record → Result HartView ℕ
own_walk t h v [] = Ok v
own_walk t h v (r ∷ rs) = elim (hart_of r == h) as (λ x. Result HartView ℕ) [ true ↦ after_one t v r >> (λ w. own_walk t h w rs) | false ↦ own_walk t h v rs ]

pub goes_through : (x : Result HartView ℕ) (f : HartView → Result HartView ℕ) (w : HartView) → (x >> f) ≡ Ok w → (u : HartView) × (x ≡ Ok u) × (f u ≡ Ok w)
goes_through (Ok u) f w e = (u, refl, e)
goes_through (Err n) f w e = cc

-- a record that isn't the hart's, or is neither its Header nor its End, changes neither mark nor intervals
abbrev pub Same : ℕ → Record → List Record → Type 0
Same h r rs = (mark_of h (r ∷ rs) ≡ mark_of h rs) × (spans h (r ∷ rs) ≡ spans h rs)

marks_same : (h k : ℕ) (b : Bool) (l m : Logged) → l.mark ≡ m.mark → (elim b as (λ x. Logged) [ true ↦ l | false ↦ m ]).mark ≡ m.mark
marks_same h k true l m e = e
marks_same h k false l m e = refl

pub loads_same : (h k skip value : ℕ) (rs : List Record) → Same h (FirstLoad k skip value) rs
loads_same h k skip value rs = let l = puts h rs nothing in (marks_same h k (k == h) (record { loads = (skip, value) ∷ l.loads; conditionals = l.conditionals; mark = l.mark }) l refl, refl)

pub ok_same : (h k : ℕ) (rs : List Record) → Same h (ScOk k) rs
ok_same h k rs = let l = puts h rs nothing in (marks_same h k (k == h) (record { loads = l.loads; conditionals = true ∷ l.conditionals; mark = l.mark }) l refl, refl)

pub failed_same : (h k : ℕ) (rs : List Record) → Same h (ScFailed k) rs
failed_same h k rs = let l = puts h rs nothing in (marks_same h k (k == h) (record { loads = l.loads; conditionals = false ∷ l.conditionals; mark = l.mark }) l refl, refl)

pub others_same : (h : ℕ) (r : Record) (rs : List Record) → (hart_of r == h) ≡ false → Same h r rs
others_same h (Header k n ic pc x) rs e = (refl, ap (λ b. elim b as (λ y. List Span) [ true ↦ record { number = n; begin = ic; mark = mark_of h rs } ∷ spans h rs | false ↦ spans h rs ]) e)
others_same h (FirstLoad k skip value) rs e = loads_same h k skip value rs
others_same h (ScOk k) rs e = ok_same h k rs
others_same h (ScFailed k) rs e = failed_same h k rs
others_same h (Edge k ic s j) rs e = (refl, refl)
others_same h (End k m) rs e = (ap (λ b. (elim b as (λ y. Logged) [ true ↦ record { loads = []; conditionals = []; mark = m } | false ↦ puts h rs nothing ]).mark) e, refl)

-- a hart that is met and not done is unfinished
pub unfinished : (m : Bool) → m ≡ true → (m && true) ≡ false → ⊥
unfinished true e f = cc
unfinished false e f = cc

-- the hart of a record is met
pub met_of : (t : OrderLimits) (r : Record) (v u : HartView) → after_one t v r ≡ Ok u → u.met ≡ true
met_of t (Header k n ic pc x) v u e = (headed t v u n ic e).met
met_of t (FirstLoad k skip value) v u e = (other v u e).met
met_of t (ScOk k) v u e = (other v u e).met
met_of t (ScFailed k) v u e = (other v u e).met
met_of t (Edge k n a b) v u e = (edged t v u n b e).stays.met
met_of t (End k m) v u e = (ended t v u m e).met

module _ (t : OrderLimits) (all : Bool) (h : ℕ) (w : HartView) (over : is_unfinished all w ≡ false) where
  abbrev pub Fit : HartView → List Record → Type 0
  Fit v rs = Fits t.limit v.phase (mark_of h rs) (spans h rs)

  at_nothing : (p : Phase) (met : Bool) → (is_known p ≡ true → (all || met) ≡ true) → ((all || met) && not (is_done p)) ≡ false → Fits t.limit p (mark_of h []) []
  at_nothing Unknown met k e = tt
  at_nothing (Awaiting next begin) met k e = tt
  at_nothing (Open next since) met k e = absurd (unfinished (all || met) (k refl) e)
  at_nothing Done met k e = refl

  -- what a record leaves is what the records after it have
  same_fits : (v u : HartView) (r : Record) (rs : List Record) → u.phase ≡ v.phase → Same h r rs → Fit u rs → Fit v (r ∷ rs)
  same_fits v u r rs phase same f =
      subst (λ m. Fits t.limit v.phase m (spans h (r ∷ rs))) (sym same.0)
      (subst (λ ss. Fits t.limit v.phase (mark_of h rs) ss) (sym same.1) (subst (λ p. Fits t.limit p (mark_of h rs) (spans h rs)) phase f))

  pub record Left (v : HartView) (r : Record) (rs : List Record) (u : HartView) : Type 0 where
    pub met : u.met ≡ true
    pub fits : Fit u rs → Fit v (r ∷ rs)

  pub by_record : (r : Record) (rs : List Record) (v u : HartView) → (hart_of r == h) ≡ true → after_one t v r ≡ Ok u → Left v r rs u
  by_record (Header k n ic pc x) rs v u own e =
      let d = headed t v u n ic e in
      record {
        met = d.met;
        fits = λ f. subst (λ b. Fits t.limit v.phase (mark_of h rs) (elim b as (λ y. List Span) [ true ↦ record { number = n; begin = ic; mark = mark_of h rs } ∷ spans h rs | false ↦ spans h rs ])) (sym own)
            (by_header t.limit v.phase n ic (mark_of h rs) (mark_of h rs) (spans h rs) d.takes d.awaited (subst (λ p. Fits t.limit p (mark_of h rs) (spans h rs)) d.phase f));
      }
  by_record (FirstLoad k skip value) rs v u own e = let d = other v u e in record { met = d.met; fits = same_fits v u (FirstLoad k skip value) rs d.phase (loads_same h k skip value rs) }
  by_record (ScOk k) rs v u own e = let d = other v u e in record { met = d.met; fits = same_fits v u (ScOk k) rs d.phase (ok_same h k rs) }
  by_record (ScFailed k) rs v u own e = let d = other v u e in record { met = d.met; fits = same_fits v u (ScFailed k) rs d.phase (failed_same h k rs) }
  by_record (Edge k ic s j) rs v u own e = let d = (edged t v u ic j e).stays in record { met = d.met; fits = same_fits v u (Edge k ic s j) rs d.phase (refl, refl) }
  by_record (End k m) rs v u own e =
      let d = ended t v u m e in
      record {
        met = d.met;
        fits = λ f. subst (λ b. Fits t.limit v.phase (elim b as (λ y. Logged) [ true ↦ record { loads = []; conditionals = []; mark = m } | false ↦ puts h rs nothing ]).mark (spans h rs)) (sym own)
            (by_end t.limit t.interval v.phase m (mark_of h rs) (spans h rs) d.takes d.limit d.fits (subst (λ p. Fits t.limit p (mark_of h rs) (spans h rs)) d.phase f));
      }

  pub fit : (v : HartView) (rs : List Record) → (is_known v.phase ≡ true → (all || v.met) ≡ true) → own_walk t h v rs ≡ Ok w → Fit v rs
  fit v [] k e = at_nothing v.phase v.met k (ap (λ (x : HartView). is_unfinished all x) (ok_is v w e) ∙ over)
  fit v (r ∷ rs) k e = by (hart_of r == h) refl e (λ u known walked. fit u rs known walked)
    where
      by : (b : Bool) → (hart_of r == h) ≡ b → elim b as (λ x. Result HartView ℕ) [ true ↦ after_one t v r >> (λ u. own_walk t h u rs) | false ↦ own_walk t h v rs ] ≡ Ok w
          → ((u : HartView) → (is_known u.phase ≡ true → (all || u.met) ≡ true) → own_walk t h u rs ≡ Ok w → Fit u rs) → Fit v (r ∷ rs)
      by true own f rest =
          let g = goes_through (after_one t v r) (λ u. own_walk t h u rs) w f in
          let left = by_record r rs v g.0 own g.1 in
          left.fits (rest g.0 (λ x. ap (λ b. all || b) left.met ∙ or-true all) g.2)
      by false apart f rest = same_fits v v r rs refl (others_same h r rs apart) (rest v k f)

-- ---- the walk of all harts

ok_both : {A B : Type 0} (x : Result A ℕ) (f : A → Result B ℕ) (y : B) → (x >>= f) ≡ Ok y → (a : A) × (x ≡ Ok a) × (f a ≡ Ok y)
ok_both (Ok a) f y e = (a, refl, e)
ok_both (Err n) f y e = cc

pub record StepGives (t : OrderLimits) (harts next : List HartView) (r : Record) : Type 0 where
  pub old : HartView
  pub new : HartView
  pub at : slice_get harts (hart_of r) ≡ Some old
  pub took : after_one t old r ≡ Ok new
  pub is : next ≡ slice_set harts (hart_of r) new

pub step_gives : (t : OrderLimits) (harts next : List HartView) (r : Record) → step t harts r ≡ Ok next → StepGives t harts next r
unfolding step
step_gives t harts next r e = by (slice_get harts (hart_of r)) refl e
  where
    sourced : (v : HartView) → slice_get harts (hart_of r) ≡ Some v → (b : Bool) → (if b then (after_one t v r >>= λ w. Ok (slice_set harts (hart_of r) w)) else Err 1) ≡ Ok next → StepGives t harts next r
    sourced v i true f =
        let g = ok_both (after_one t v r) (λ w. Ok (slice_set harts (hart_of r) w)) next f in
        record { old = v; new = g.0; at = i; took = g.1; is = sym (ok_is (slice_set harts (hart_of r) g.0) next g.2) }
    sourced v i false f = cc

    by : (o : Option HartView) → slice_get harts (hart_of r) ≡ o → step_at t harts r o ≡ Ok next → StepGives t harts next r
    by None i f = cc
    by (Some v) i f = sourced v i (has_source (length harts) r) f

pub placed : (place : ℕ) (x : Result (List HartView) ℕ) (f : List HartView → Result (List HartView) OrderBreak) (y : List HartView) → (at_place place x >>= f) ≡ Ok y → (a : List HartView) × (x ≡ Ok a) × (f a ≡ Ok y)
placed place (Ok a) f y e = (a, refl, e)
placed place (Err n) f y e = cc

pub project : (t : OrderLimits) (h : ℕ) (place : ℕ) (harts ends : List HartView) (rs : List Record) (v : HartView) → after_all t place harts rs ≡ Ok ends → slice_get harts h ≡ Some v
    → (w : HartView) × (slice_get ends h ≡ Some w) × (own_walk t h v rs ≡ Ok w)
unfolding after_all
project t h place harts ends [] v e at = (v, subst (λ hs. slice_get hs h ≡ Some v) (same harts ends e) at, refl)
  where
    same : (x y : List HartView) → ◌≡◌ {A = Result (List HartView) OrderBreak} (Ok x) (Ok y) → x ≡ y
    same x y e = cc
project t h place harts ends (r ∷ rs) v e at =
    let g = placed place (step t harts r) (λ next. after_all t (place + length (bytes_of r)) next rs) ends e in
    by (step_gives t harts g.0 r g.1) (eqb_tells (hart_of r) h) (λ u there. project t h (place + length (bytes_of r)) g.0 ends rs u g.2 there)
  where
    by : {next : List HartView} → StepGives t harts next r → (((hart_of r == h) ≡ true) × (hart_of r ≡ h)) ⊎ (((hart_of r == h) ≡ false) × (hart_of r ≡ h → ⊥))
        → ((u : HartView) → slice_get next h ≡ Some u → (w : HartView) × (slice_get ends h ≡ Some w) × (own_walk t h u rs ≡ Ok w))
        → (w : HartView) × (slice_get ends h ≡ Some w) × (elim (hart_of r == h) as (λ x. Result HartView ℕ) [ true ↦ after_one t v r >> (λ u. own_walk t h u rs) | false ↦ own_walk t h v rs ] ≡ Ok w)
    by {next = next} s (inl same) rest =
        let old : s.old ≡ v = some_is s.old v (slice_get harts h) (subst (λ k. slice_get harts k ≡ Some s.old) same.1 s.at) at in
        let there : slice_get next h ≡ Some s.new = subst (λ hs. slice_get hs h ≡ Some s.new) (sym s.is) (subst (λ k. slice_get (slice_set harts (hart_of r) s.new) k ≡ Some s.new) same.1 (get_same harts (hart_of r) s.old s.new s.at)) in
        let more = rest s.new there in
        let took : after_one t v r ≡ Ok s.new = ap (λ (x : HartView). after_one t x r) (sym old) ∙ s.took in
        (more.0, more.1, ap (λ b. elim b as (λ x. Result HartView ℕ) [ true ↦ after_one t v r >> (λ u. own_walk t h u rs) | false ↦ own_walk t h v rs ]) same.0 ∙ ap (λ x. x >> (λ u. own_walk t h u rs)) took ∙ more.2)
    by {next = next} s (inr apart) rest =
        let there : slice_get next h ≡ Some v = subst (λ hs. slice_get hs h ≡ Some v) (sym s.is) (get_other harts (hart_of r) h s.new apart.1 ∙ at) in
        let more = rest v there in
        (more.0, more.1, ap (λ b. elim b as (λ x. Result HartView ℕ) [ true ↦ after_one t v r >> (λ u. own_walk t h u rs) | false ↦ own_walk t h v rs ]) apart.0 ∙ more.2)

pub have_shape : OrderedLogsHaveShape
have_shape t all place harts ends rs e h v at known over =
    let p = project t h place harts ends rs v e at in
    fit t all h p.0 (over p.0 p.1) v rs known p.2
