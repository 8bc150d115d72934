-- The recorded points.
use Rattle.report_laws.proofs.Common.{◌≡◌, ◌⊎◌, inl, inr, ℕ, ◌==◌, Bool, true, false, cond, refl, sym, ap, ◌∙◌, arith, List, [], ◌∷◌, slice_get, take, Option, Some, None, Row, HartState, Record, IsInOrder, StandByCounts, In, Point, Touched as Touch, Accessing, accessing, touch_of, state_after, Recording, rows_of_hart, first_state, retained_rows, accessing_at, is_kept, kept_at, eqb-true, eq-eqb, some_is}
use Rattle.report_laws.proofs.Lists.{order_of, any_in, in_any, GivesOneAtMost}
use Rattle.report_laws.proofs.Rows.{IsRowAt}

module _ (r : Recording) (records : List Record) where
  one_accessing : (h : ℕ) (row : Row) (o : Option Touch) → (accessing h row o ≡ []) ⊎ ((p : Accessing) × (accessing h row o ≡ p ∷ []))
  one_accessing h row None = inl refl
  one_accessing h row (Some t) = inr (record { hart = h; row = row; touch = t }, refl)

  one_at : (h k : ℕ) → (accessing_at r h k ≡ []) ⊎ ((p : Accessing) × (accessing_at r h k ≡ p ∷ []))
  one_at h k = by (slice_get (rows_of_hart r h) k)
    where
      by : (o : Option Row) → let x = elim o as (λ y. List Accessing) [ None ↦ [] | Some row ↦ accessing h row (touch_of (state_after r.program (first_state r h) (take k (rows_of_hart r h))) row) ] in
          (x ≡ []) ⊎ ((p : Accessing) × (x ≡ p ∷ []))
      by None = inl refl
      by (Some row) = one_accessing h row (touch_of (state_after r.program (first_state r h) (take k (rows_of_hart r h))) row)

  pub one_kept : GivesOneAtMost (kept_at r records)
  one_kept p = by (is_kept r records p.hart p.count)
    where
      by : (b : Bool) → (cond b (accessing_at r p.hart p.count) [] ≡ []) ⊎ ((q : Accessing) × (cond b (accessing_at r p.hart p.count) [] ≡ q ∷ []))
      by true = one_at p.hart p.count
      by false = inl refl

  -- what a row of the run gives at its count
  pub at_row : (h : ℕ) (before : HartState) (row : Row) → IsRowAt r h before row → accessing_at r h row.ic ≡ accessing h row (touch_of before row)
  at_row h before row x =
      ap (λ (o : Option Row). elim o as (λ y. List Accessing) [ None ↦ [] | Some z ↦ accessing h z (touch_of (state_after r.program (first_state r h) (take row.ic (rows_of_hart r h))) z) ]) x.at
      ∙ ap (λ (s : HartState). accessing h row (touch_of s row)) x.state

  -- a point of the run with a retained row gives its accesses
  pub kept_point : (q : Point) (p : Accessing) (before : HartState) → q.hart ≡ p.hart → q.count ≡ p.row.ic → In (retained_rows r records p.hart) p.row → IsRowAt r p.hart before p.row → touch_of before p.row ≡ Some p.touch
      → kept_at r records q ≡ p ∷ []
  kept_point q p before hart count row_in x touch =
      ap (λ (h : ℕ). cond (is_kept r records h q.count) (accessing_at r h q.count) []) hart
      ∙ (ap (λ (k : ℕ). cond (is_kept r records p.hart k) (accessing_at r p.hart k) []) count
      ∙ (ap (λ (b : Bool). cond b (accessing_at r p.hart p.row.ic) []) (any_in (λ (z : Row). z.ic == p.row.ic) (retained_rows r records p.hart) p.row row_in (eq-eqb p.row.ic p.row.ic refl))
      ∙ (at_row p.hart before p.row x ∙ ap (accessing p.hart p.row) touch)))

  -- and back: what a point gives is of a retained row
  pub record IsKept (q : Point) (p : Accessing) : Type 0 where
    pub row : Row
    pub row_in : In (retained_rows r records q.hart) row
    pub count : row.ic ≡ q.count
    pub gives : accessing_at r q.hart row.ic ≡ p ∷ []

  pub is_kept_row : (q : Point) (p : Accessing) → kept_at r records q ≡ p ∷ [] → IsKept q p
  is_kept_row q p e = by (is_kept r records q.hart q.count) refl e
    where
      by : (b : Bool) → is_kept r records q.hart q.count ≡ b → cond b (accessing_at r q.hart q.count) [] ≡ p ∷ [] → IsKept q p
      by true f g =
          let x = in_any (λ (z : Row). z.ic == q.count) (retained_rows r records q.hart) f in
          let count = eqb-true x.0.ic q.count x.2 in
          record { row = x.0; row_in = x.1; count = count; gives = ap (accessing_at r q.hart) count ∙ g }
      by false f g = absurd cc

pub given_point : (h : ℕ) (row : Row) (o : Option Touch) (p : Accessing) → accessing h row o ≡ p ∷ [] → (o ≡ Some p.touch) × (h ≡ p.hart) × (row ≡ p.row)
given_point h row None p e = absurd cc
given_point h row (Some t) p e =
    let point : Accessing = record { hart = h; row = row; touch = t } in
    let same : point ≡ p = some_is point p (Some point) refl (ap (λ (xs : List Accessing). slice_get xs 0) e) in
    (ap (λ (z : Accessing). Some z.touch) same, ap (λ (z : Accessing). z.hart) same, ap (λ (z : Accessing). z.row) same)

-- two places of the run with points of one hart and count are one
pub same_place : StandByCounts → (run : List Point) → IsInOrder run → (i j : ℕ) (p q : Point) → slice_get run i ≡ Some p → slice_get run j ≡ Some q → p.hart ≡ q.hart → p.count ≡ q.count → i ≡ j
same_place stand run order i j p q at to hart count = elim (order_of i j) [
  | inl up ↦ (let low = (stand.counts run order i j p q at to hart).0 up in absurd (omega (arith, low, count)))
  | inr (inl is) ↦ is
  | inr (inr down) ↦ (let low = (stand.counts run order j i q p to at (sym hart)).0 down in absurd (omega (arith, low, count)))
]
