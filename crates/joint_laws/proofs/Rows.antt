-- The rows of whole allowed orders.
use Rattle.joint_laws.proofs.Common.{◌≡◌, ℕ, zero, suc, ◌+◌, Bool, true, false, ◌⊎◌, inl, inr, refl, sym, ap, ◌∙◌, subst, List, [], ◌∷◌, ◌++◌, slice_get, Option, Some, None, append-nil, Record, Coming, RowAt, EndAt, Readiness, Next, Hart, AllDone, NoneReady, sources_into, Cursor, Lane, has_row, coming_of, point_of, readiness_of, waits_for, first_waited, choice_from, OfWholeOrders, OfBeginnings, HasFirstRows, HasRows, rows_done, EndsSuffice, IntervalRowsAreOfTurns}
use Rattle.joint_replay.specs.declared.kinds.Readiness.TheVariants as is
use Rattle.joint_laws.proofs.Follows.{IsFollowed, rows_left, follows}
use Rattle.joint_laws.proofs.Moves.{some_is}

-- a hart that is done has nothing left
pub nothing_comes : (points : List ℕ) (cursors : List Cursor) → coming_of (record { points = points; cursors = cursors }) ≡ None → cursors ≡ []
nothing_comes (p ∷ ps) cursors e = absurd cc
nothing_comes [] [] e = refl
nothing_comes [] (c ∷ cs) e = by (has_row c) e
  where
    by : (b : Bool) → elim b as (λ y. Option Coming) [ true ↦ Some (RowAt c.state.ic) | false ↦ Some (EndAt c.mark.ic) ] ≡ None → c ∷ cs ≡ []
    by true f = absurd cc
    by false f = absurd cc

module _ (records : List Record) (lanes : List Lane) where
  is_done : (h : ℕ) (lane : Lane) (o : Option Coming) (q : Option ℕ)
      → elim o as (λ y. Readiness) [ None ↦ is.Done | Some c ↦ elim q as (λ y. Readiness) [ None ↦ is.Ready | Some ic ↦ waits_for (first_waited lanes (sources_into records h ic)) ] ] ≡ is.Done → o ≡ None
  is_done h lane None q e = refl
  is_done h lane (Some c) None e = absurd cc
  is_done h lane (Some c) (Some ic) e = absurd (by (first_waited lanes (sources_into records h ic)) e)
    where
      by : (o : Option (ℕ × ℕ)) → waits_for o ≡ is.Done → ⊥
      by None f = cc
      by (Some p) f = cc

  not_all : (n : Next) → n ≡ AllDone → ((h : ℕ) × (n ≡ Hart h)) ⊎ (n ≡ NoneReady) → ⊥
  not_all n e (inl x) = absurd (by n x.0 e x.1)
    where
      by : (n : Next) (h : ℕ) → n ≡ AllDone → n ≡ Hart h → ⊥
      by n h e f = cc
  not_all n e (inr f) = cc

  -- once one waits, not all are done
  none_waits : (ls : List Lane) (h : ℕ) → choice_from records lanes h ls true ≡ AllDone → ⊥
  none_waits [] h e = not_all NoneReady e (inr refl)
  none_waits (l ∷ ls) h e = by (readiness_of records lanes h l) e (none_waits ls (h + 1))
    where
      by : (o : Readiness) → elim o as (λ y. Next) [ is.Ready ↦ Hart h | is.Waits s ic ↦ choice_from records lanes (h + 1) ls true | is.Done ↦ choice_from records lanes (h + 1) ls true ] ≡ AllDone
          → (choice_from records lanes (h + 1) ls true ≡ AllDone → ⊥) → ⊥
      by is.Ready f rest = not_all (Hart h) f (inl (h, refl))
      by o f rest = rest f

  pub all_done : (ls : List Lane) (h : ℕ) → choice_from records lanes h ls false ≡ AllDone → (k : ℕ) (lane : Lane) → slice_get ls k ≡ Some lane → coming_of lane ≡ None
  all_done [] h e k lane at = absurd cc
  all_done (l ∷ ls) h e k lane at = by (readiness_of records lanes h l) refl e (all_done ls (h + 1)) k at
    where
      by : (o : Readiness) → readiness_of records lanes h l ≡ o
          → elim o as (λ y. Next) [ is.Ready ↦ Hart h | is.Waits s ic ↦ choice_from records lanes (h + 1) ls true | is.Done ↦ choice_from records lanes (h + 1) ls false ] ≡ AllDone
          → (choice_from records lanes (h + 1) ls false ≡ AllDone → (k : ℕ) (lane : Lane) → slice_get ls k ≡ Some lane → coming_of lane ≡ None)
          → (k : ℕ) → slice_get (l ∷ ls) k ≡ Some lane → coming_of lane ≡ None
      by is.Ready o f rest k g = absurd (not_all (Hart h) f (inl (h, refl)))
      by (is.Waits s ic) o f rest k g = absurd (none_waits ls (h + 1) f)
      by is.Done o f rest zero g = subst (λ (x : Lane). coming_of x ≡ None) (some_is l lane (Some l) refl g) (is_done h l (coming_of l) (point_of l) o)
      by is.Done o f rest (suc k) g = rest f k lane g

pub has_rows : EndsSuffice → IntervalRowsAreOfTurns → OfWholeOrders HasRows
has_rows suffice rows_are r records order w log a h low =
    let f : IsFollowed r records w = follows suffice rows_are r records order w log a.begun in
    let l = f.there h low in
    let none : l.0.cursors ≡ [] = nothing_comes l.0.points l.0.cursors (all_done w.now.records w.now.lanes w.now.lanes 0 a.whole h l.0 l.1) in
    sym (append-nil (rows_done h w.taken)) ∙ (ap (λ (cs : List Cursor). rows_done h w.taken ++ rows_left cs) (sym none) ∙ f.rows h l.0 l.1)

pub first_rows : EndsSuffice → IntervalRowsAreOfTurns → OfBeginnings HasFirstRows
first_rows suffice rows_are r records order w log b h low =
    let f : IsFollowed r records w = follows suffice rows_are r records order w log b in
    let l = f.there h low in
    (rows_left l.0.cursors, f.rows h l.0 l.1)
