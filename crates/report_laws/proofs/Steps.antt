-- The points of steps.
use Rattle.report_laws.proofs.Common.{◌≡◌, inl, inr, ℕ, zero, suc, ◌+◌, ◌<◌, ◌==◌, Bool, true, false, refl, sym, ap, ◌∙◌, subst, arith, List, [], ◌∷◌, ◌++◌, length, slice_get, Option, Some, None, Row, HartState, In, Item, Doing, Taken, row_in, rows_done, Touched as Touch, Accessing, accessing, touch_of, point_in, none-some, eqb-true, eq-eqb, some_is}
use Rattle.race_report.specs.Points.{points_of}
use Rattle.report_laws.proofs.Lists.{get_cases, get_right}
use Rattle.race_laws.proofs.Members.{in_left, in_right, in_parts}
use Rattle.joint_replay.proofs.Merging.{get_more}

-- a step of hart h did the row of a point
pub record IsPointIn (h : ℕ) (item : Item) (p : Accessing) : Type 0 where
  pub hart : h ≡ p.hart
  pub before : HartState
  pub is : item ≡ Doing before p.row
  pub touch : touch_of before p.row ≡ Some p.touch

one_of : (h : ℕ) (before : HartState) (row : Row) (o : Option Touch) (j : ℕ) (p : Accessing) → touch_of before row ≡ o → slice_get (accessing h row o) j ≡ Some p → (j ≡ 0) × IsPointIn h (Doing before row) p
one_of h before row None j p t e = absurd cc
one_of h before row (Some touch) zero p t e =
    let point : Accessing = record { hart = h; row = row; touch = touch } in
    (refl, subst (IsPointIn h (Doing before row)) (some_is point p (Some point) refl e) (record { hart = refl; before = before; is = refl; touch = t }))
one_of h before row (Some touch) (suc j) p t e = absurd cc

point_at : (h : ℕ) (item : Item) (j : ℕ) (p : Accessing) → slice_get (point_in h item) j ≡ Some p → (j ≡ 0) × IsPointIn h item p
point_at h (Doing before row) j p e = one_of h before row (touch_of before row) j p refl e
point_at h item j p e = absurd cc

point_is : (h : ℕ) (item : Item) (p : Accessing) → IsPointIn h item p → point_in h item ≡ p ∷ []
point_is h item p i = ap (point_in h) i.is ∙ (ap (accessing h p.row) i.touch ∙ ap (λ (k : ℕ). record { hart = k; row = p.row; touch = p.touch } ∷ []) i.hart)

-- step number x from the latest did it
pub record IsStepOf (ts : List Taken) (x : ℕ) (p : Accessing) : Type 0 where
  pub step : Taken
  pub at : slice_get ts x ≡ Some step
  pub point : IsPointIn step.hart step.item p

later : (t : Taken) (ts : List Taken) (x : ℕ) (p : Accessing) → IsStepOf ts x p → IsStepOf (t ∷ ts) (suc x) p
later t ts x p s = record { step = s.step; at = s.at; point = s.point }

latest : (t : Taken) (ts : List Taken) (j : ℕ) (p : Accessing) → slice_get (point_in t.hart t.item) j ≡ Some p → IsStepOf (t ∷ ts) 0 p
latest t ts j p e = record { step = t; at = refl; point = (point_at t.hart t.item j p e).1 }

pub step_of : (ts : List Taken) (m : ℕ) (p : Accessing) → slice_get (points_of ts) m ≡ Some p → (x : ℕ) × IsStepOf ts x p
step_of [] m p e = absurd cc
step_of (t ∷ ts) m p e = elim (get_cases (points_of ts) (point_in t.hart t.item) m p e) [
  | inl l ↦ (let r = step_of ts m p l.1 in (suc r.0, later t ts r.0 p r.1))
  | inr l ↦ (0, latest t ts l.place p l.at)
]

-- two points, the first of the earlier step
pub record AreSteps (ts : List Taken) (p q : Accessing) : Type 0 where
  pub first : ℕ
  pub second : ℕ
  pub first_is : IsStepOf ts first p
  pub second_is : IsStepOf ts second q
  pub earlier : second < first

pub steps_of : (ts : List Taken) (m n : ℕ) (p q : Accessing) → slice_get (points_of ts) m ≡ Some p → slice_get (points_of ts) n ≡ Some q → m < n → AreSteps ts p q
steps_of [] m n p q e f low = absurd cc
steps_of (t ∷ ts) m n p q e f low = elim (get_cases (points_of ts) (point_in t.hart t.item) m p e) [
  | inl k ↦ elim (get_cases (points_of ts) (point_in t.hart t.item) n q f) [
    | inl l ↦ (let r = steps_of ts m n p q k.1 l.1 low in let up = r.earlier in
        record { first = suc r.first; second = suc r.second; first_is = later t ts r.first p r.first_is; second_is = later t ts r.second q r.second_is; earlier = omega (arith, up) })
    | inr l ↦ (let r = step_of ts m p k.1 in
        record { first = suc r.0; second = 0; first_is = later t ts r.0 p r.1; second_is = latest t ts l.place q l.at; earlier = omega arith })
  ]
  | inr k ↦ elim (get_cases (points_of ts) (point_in t.hart t.item) n q f) [
    | inl l ↦ (let is = k.is in let high = l.0 in absurd (omega (arith, is, high, low)))
    | inr l ↦ (let is = k.is in let also = l.is in let a = (point_at t.hart t.item k.place p k.at).0 in let b = (point_at t.hart t.item l.place q l.at).0 in absurd (omega (arith, is, also, a, b, low)))
  ]
]

pub place_of : (ts : List Taken) (x : ℕ) (p : Accessing) → IsStepOf ts x p → (m : ℕ) × (slice_get (points_of ts) m ≡ Some p)
place_of [] x p s = absurd (none-some s.step s.at)
place_of (t ∷ ts) zero p s =
    let same : s.step ≡ t = some_is s.step t (Some t) s.at refl in
    let here : IsPointIn t.hart t.item p = subst (λ (u : Taken). IsPointIn u.hart u.item p) same s.point in
    let none : length (points_of ts) ≡ length (points_of ts) + 0 = omega arith in
    (length (points_of ts), get_right (points_of ts) (point_in t.hart t.item) 0 (length (points_of ts)) p none (ap (λ (ps : List Accessing). slice_get ps 0) (point_is t.hart t.item p here)))
place_of (t ∷ ts) (suc x) p s = let r = place_of ts x p (record { step = s.step; at = s.at; point = s.point }) in (r.0, get_more (points_of ts) (point_in t.hart t.item) r.0 p r.1)

-- ---- rows

pub in_rows : (ts : List Taken) (x : ℕ) (p : Accessing) → IsStepOf ts x p → In (rows_done p.hart ts) p.row
in_rows [] x p s = absurd (none-some s.step s.at)
in_rows (t ∷ ts) zero p s =
    let same : s.step ≡ t = some_is s.step t (Some t) s.at refl in
    let here : IsPointIn t.hart t.item p = subst (λ (u : Taken). IsPointIn u.hart u.item p) same s.point in
    let row : In (row_in t.item) p.row = subst (λ (i : Item). In (row_in i) p.row) (sym here.is) (inl refl) in
    subst (λ (b : Bool). In (elim b as (λ y. List Row) [ true ↦ rows_done p.hart ts ++ row_in t.item | false ↦ rows_done p.hart ts ]) p.row) (sym (eq-eqb t.hart p.hart here.hart)) (in_right (rows_done p.hart ts) (row_in t.item) p.row row)
in_rows (t ∷ ts) (suc x) p s = by (t.hart == p.hart) (in_rows ts x p (record { step = s.step; at = s.at; point = s.point }))
  where
    by : (b : Bool) → In (rows_done p.hart ts) p.row → In (elim b as (λ y. List Row) [ true ↦ rows_done p.hart ts ++ row_in t.item | false ↦ rows_done p.hart ts ]) p.row
    by true i = in_left (rows_done p.hart ts) (row_in t.item) p.row i
    by false i = i

-- a step of hart h did the row
pub record IsRowStep (ts : List Taken) (h : ℕ) (row : Row) : Type 0 where
  pub place : ℕ
  pub step : Taken
  pub at : slice_get ts place ≡ Some step
  pub hart : step.hart ≡ h
  pub before : HartState
  pub is : step.item ≡ Doing before row

row_of : (item : Item) (row : Row) → In (row_in item) row → (before : HartState) × (item ≡ Doing before row)
row_of (Doing before r) row (inl e) = (before, ap (Doing before) e)
row_of (Doing before r) row (inr i) = absurd i
row_of item row i = absurd i

pub from_rows : (ts : List Taken) (h : ℕ) (row : Row) → In (rows_done h ts) row → IsRowStep ts h row
from_rows [] h row i = absurd i
from_rows (t ∷ ts) h row i = by (t.hart == h) refl i (λ j. from_rows ts h row j)
  where
    earlier : IsRowStep ts h row → IsRowStep (t ∷ ts) h row
    earlier s = record { place = suc s.place; step = s.step; at = s.at; hart = s.hart; before = s.before; is = s.is }

    here : t.hart ≡ h → In (row_in t.item) row → IsRowStep (t ∷ ts) h row
    here e j = let r = row_of t.item row j in record { place = 0; step = t; at = refl; hart = e; before = r.0; is = r.1 }

    by : (b : Bool) → (t.hart == h) ≡ b → In (elim b as (λ y. List Row) [ true ↦ rows_done h ts ++ row_in t.item | false ↦ rows_done h ts ]) row → (In (rows_done h ts) row → IsRowStep ts h row) → IsRowStep (t ∷ ts) h row
    by true e j rest = elim (in_parts (rows_done h ts) (row_in t.item) row j) [ inl k ↦ earlier (rest k) | inr k ↦ here (eqb-true t.hart h e) k ]
    by false e j rest = earlier (rest j)
