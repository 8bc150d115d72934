-- Counts that represent a set of points, and what the times say after one more point.
use Rattle.race_log.proofs.Common.{◌≡◌, ◌≢◌, ℕ, ◌+◌, ◌<◌, true, false, ◌==◌, refl, inl, inr, arith, sym, ap, ◌∙◌, List, length, slice_get, Option, Some, None, subst, add-one, if◌then◌else◌, Point, Before, one, is_of_hart, IsInOrder, UpTo, OwnUpTo, CountsOf, TimesOf, after, ◌⊎◌, max, merged}
use Rattle.race_log.proofs.BoolFacts.{known, same_number}
use Rattle.race_log.proofs.Chains.{chain_rises}
use Rattle.race_log.proofs.EdgeLaws.{all_rise}
use Rattle.race_log.proofs.MergeLaws.{is_in, of_hart_at}
use Rattle.race_log.proofs.CountLaws.{pair_at}
use Rattle.race_log.proofs.Next.{get_old, old_at, get_new, in_after, up_old, up_new, step_last, order_own}

pub holds_map : (run : List Point) (S R : ℕ → Type 0) (counts : ℕ → ℕ) → ((m : ℕ) → S m → R m) → ((m : ℕ) → R m → S m) → CountsOf run S counts → CountsOf run R counts
holds_map run S R counts f g h = record {
  covers = λ m p e low. f m (h.covers m p e low);
  covered = λ m p e r. h.covered m p e (g m r);
  exact = λ hart. elim (h.exact hart) [
    | inl z ↦ inl z
    | inr w ↦ inr (w.0, w.1, w.2, f w.0 w.3, w.4, w.5)
  ];
}

below_max : (c a b : ℕ) → c < max a b → (c < a) ⊎ (c < b)
below_max c a b h = grind arith

one_of_max : (a b : ℕ) → (max a b ≡ a) ⊎ (max a b ≡ b)
one_of_max a b = grind arith

-- the greater counts represent the union
pub holds_merge : (run : List Point) (S R : ℕ → Type 0) (f g : ℕ → ℕ)
    → CountsOf run S f → CountsOf run R g → CountsOf run (λ m. S m ⊎ R m) (merged f g)
holds_merge run S R f g h k = record {
  covers = λ m p e low. elim (below_max p.count (f p.hart) (g p.hart) low) [
    | inl a ↦ inl (h.covers m p e a)
    | inr b ↦ inr (k.covers m p e b)
  ];
  covered = λ m p e r. elim r [
    | inl s ↦ (let low = h.covered m p e s in omega (arith, low))
    | inr s ↦ (let low = k.covered m p e s in omega (arith, low))
  ];
  exact = λ hart. elim (one_of_max (f hart) (g hart)) [
    | inl e ↦ elim (h.exact hart) [
      | inl z ↦ inl (e ∙ z)
      | inr w ↦ inr (w.0, w.1, w.2, inl w.3, w.4, e ∙ w.5)
    ]
    | inr e ↦ elim (k.exact hart) [
      | inl z ↦ inl (e ∙ z)
      | inr w ↦ inr (w.0, w.1, w.2, inr w.3, w.4, e ∙ w.5)
    ]
  ];
}

pub own_in : (run : List Point) (hart q : ℕ) → is_of_hart hart (slice_get run q) ≡ true → q < length run
own_in run hart q h = go (slice_get run q) refl h
  where
    go : (o : Option Point) → slice_get run q ≡ o → is_of_hart hart o ≡ true → q < length run
    go None e k = cc
    go (Some p) e k = is_in run q p e

-- counts ascend along a hart's points
counts_up : (run : List Point) → IsInOrder run → (m n : ℕ) (p q : Point) → m < n → slice_get run m ≡ Some p → slice_get run n ≡ Some q → p.hart ≡ q.hart → p.count < q.count
counts_up run up m n p q low e f same = pair_at (λ p q. p.hart ≡ q.hart → p.count < q.count) run m n p q up.counts low e f same

-- the same counts represent a set that keeps its old points and lacks the new one
pub holds_old : (run : List Point) (b : Point) (S R : ℕ → Type 0) (counts : ℕ → ℕ) → IsInOrder (after run b)
    → ((m : ℕ) → S m → R m) → ((m : ℕ) → m < length run → R m → S m) → (R (length run) → ⊥) → CountsOf run S counts → CountsOf (after run b) R counts
holds_old run b S R counts up f g none h = record {
  covers = λ m p e low. elim (in_after run b m p e) [
    | inl old ↦ f m (h.covers m p old.1 low)
    | inr new ↦ elim (h.exact p.hart) [
      | inl z ↦ absurd (omega (arith, low, z))
      | inr t ↦
          let t_in = is_in run t.0 t.1 t.2 in
          let t_low : t.0 < m = let e_m = new.0 in omega arith in
          let less = counts_up (after run b) up t.0 m t.1 p t_low (old_at run b t.0 t.1 t.2) e t.4 in
          let is = t.5 in absurd (omega (arith, low, is, less))
    ]
  ];
  covered = λ m p e r. elim (in_after run b m p e) [
    | inl old ↦ h.covered m p old.1 (g m old.0 r)
    | inr new ↦ absurd (none (let is = new.0 in rw is at r))
  ];
  exact = λ hart. elim (h.exact hart) [
    | inl z ↦ inl z
    | inr t ↦ inr (t.0, t.1, old_at run b t.0 t.1 t.2, f t.0 t.3, t.4, t.5)
  ];
}

-- the times of an earlier point
pub times_old : (run : List Point) (b : Point) (j : ℕ) (counts : ℕ → ℕ) → IsInOrder (after run b) → j < length run → TimesOf run j counts → TimesOf (after run b) j counts
times_old run b j counts up low h =
    holds_old run b (λ m. UpTo run m j) (λ m. UpTo (after run b) m j) counts up (λ m u. up_new run b u) (λ m m_low u. up_old run b low u)
    (λ u. elim u [ inl e ↦ absurd (omega arith) | inr c ↦ let rise = chain_rises (all_rise (after run b)) c in absurd (omega arith) ]) h

-- what another hart knows
pub own_old : (run : List Point) (b : Point) (hart : ℕ) (counts : ℕ → ℕ) → IsInOrder (after run b) → b.hart ≢ hart
    → CountsOf run (OwnUpTo run hart) counts → CountsOf (after run b) (OwnUpTo (after run b) hart) counts
own_old run b hart counts up other h =
    holds_old run b (OwnUpTo run hart) (OwnUpTo (after run b) hart) counts up
    (λ m o. (o.0, rw (get_old run b o.0 (own_in run hart o.0 o.1)) o.1, up_new run b o.2))
    (λ m m_low o. let q = old_own o.0 o.1 in (o.0, q.1, up_old run b q.0 o.2))
    (λ o. let q = old_own o.0 o.1 in let low = q.0 in elim o.2 [
      | inl e ↦ absurd (omega arith)
      | inr c ↦ let rise = chain_rises (all_rise (after run b)) c in absurd (omega arith)
    ])
    h
  where
    old_own : (q : ℕ) → is_of_hart hart (slice_get (after run b) q) ≡ true → (q < length run) × (is_of_hart hart (slice_get run q) ≡ true)
    old_own q o = go (slice_get (after run b) q) refl o
      where
        go : (p : Option Point) → slice_get (after run b) q ≡ p → is_of_hart hart p ≡ true → (q < length run) × (is_of_hart hart (slice_get run q) ≡ true)
        go None e k = cc
        go (Some p) e k = elim (in_after run b q p e) [
          | inl old ↦ (old.0, rw old.1 k)
          | inr new ↦ absurd (other (ap (λ (x : Point). x.hart) new.1 ∙ same_number p.hart hart k))
        ]

set_here : (counts : ℕ → ℕ) (h c g : ℕ) → g ≡ h → (if g == h then c else counts g) ≡ c
set_here counts h c g e = let t : (g == h) ≡ true = grind arith in rw t

set_other : (counts : ℕ → ℕ) (h c g : ℕ) → (g == h) ≡ false → (if g == h then c else counts g) ≡ counts g
set_other counts h c g e = rw e

module _ (run : List Point) (b : Point) (up : IsInOrder (after run b)) where
  -- the new point's times
  pub times_new : (counts next : ℕ → ℕ) → ((h : ℕ) → next h ≡ (if h == b.hart then b.count + 1 else counts h))
      → CountsOf run (λ m. Before (after run b) m (length run)) counts → TimesOf (after run b) (length run) next
  times_new counts next set h = record {
    covers = λ m p e low. elim (in_after run b m p e) [
      | inl old ↦ elim (known (p.hart == b.hart)) [
        | inl same ↦ inr (own_before m p old.1 (same_number p.hart b.hart same))
        | inr other ↦
            let is = set p.hart ∙ set_other counts b.hart (b.count + 1) p.hart other in
            inr (h.covers m p old.1 (omega (arith, low, is)))
      ]
      | inr new ↦ inl new.0
    ];
    covered = λ m p e u. elim (in_after run b m p e) [
      | inl old ↦ elim (known (p.hart == b.hart)) [
        | inl same ↦
            let less = counts_up (after run b) up m (length run) p b old.0 e (get_new run b) (same_number p.hart b.hart same) in
            let at = set p.hart ∙ set_here counts b.hart (b.count + 1) p.hart (same_number p.hart b.hart same) in
            omega (arith, less, at)
        | inr other ↦
            let is = set p.hart ∙ set_other counts b.hart (b.count + 1) p.hart other in
            let below = h.covered m p old.1 (elim u [ inl now ↦ absurd (let low = old.0 in omega arith) | inr c ↦ c ]) in
            omega (arith, below, is)
      ]
      | inr new ↦
          let at = set b.hart ∙ set_here counts b.hart (b.count + 1) b.hart refl in
          subst (λ (x : Point). x.count < next x.hart) new.1 (omega (arith, at))
    ];
    exact = λ g. elim (known (g == b.hart)) [
      | inl same ↦
          let is = same_number g b.hart same in
          inr (length run, b, get_new run b, inl refl, sym is, set g ∙ (set_here counts b.hart (b.count + 1) g is ∙ add-one b.count))
      | inr other ↦
          let is = set g ∙ set_other counts b.hart (b.count + 1) g other in
          elim (h.exact g) [
            | inl z ↦ inl (is ∙ z)
            | inr t ↦ inr (t.0, t.1, old_at run b t.0 t.1 t.2, inr t.3, t.4, is ∙ t.5)
          ]
    ];
  }
    where
      own_before : (m : ℕ) (p : Point) → slice_get run m ≡ Some p → p.hart ≡ b.hart → Before (after run b) m (length run)
      own_before m p e same = one (inl (order_own run b m (of_hart_at run b.hart m p e same)))

  -- what the point's hart knows from then on
  pub own_new : (counts : ℕ → ℕ) → TimesOf (after run b) (length run) counts → CountsOf (after run b) (OwnUpTo (after run b) b.hart) counts
  own_new counts h = holds_map (after run b) (λ m. UpTo (after run b) m (length run)) (OwnUpTo (after run b) b.hart) counts
      (λ m u. (length run, of_hart_at (after run b) b.hart (length run) b (get_new run b) refl, u))
      (λ m o. to_new m o.0 o.1 o.2) h
    where
      to_new : (m q : ℕ) → is_of_hart b.hart (slice_get (after run b) q) ≡ true → UpTo (after run b) m q → UpTo (after run b) m (length run)
      to_new m q o u = go (slice_get (after run b) q) refl o
        where
          go : (p : Option Point) → slice_get (after run b) q ≡ p → is_of_hart b.hart p ≡ true → UpTo (after run b) m (length run)
          go None e k = cc
          go (Some p) e k = elim (in_after run b q p e) [
            | inl old ↦
                let s = order_own run b q (of_hart_at run b.hart q p old.1 (same_number p.hart b.hart k)) in
                inr (step_last run b m q (up_old run b old.0 u) (inl s))
            | inr new ↦ let is = new.0 in (rw is at u)
          ]
