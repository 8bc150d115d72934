-- Chains over instructions by hart and count, and chains over places.
use Rattle.race_log.proofs.Common.{◌≡◌, ℕ, ◌<◌, ◌≤◌, ◌⊎◌, refl, inl, inr, arith, sym, ap, ◌∙◌, List, slice_get, Some, subst, subst₂, AllPairs, get_or_from_slice_get, Point, IsConflict, ProgramOrder, Conflict, Either, Before, IsEdge, one, more, IsInOrder, IsPointAt, Step, Leads, IsEdgeBetween, IsUpTo, IsTimesOf, UpTo, TimesOf}
use Rattle.race_log.specs.ByCount.Step.{onward, across}
use Rattle.race_log.specs.ByCount.Leads.{by_one, by_more}
use Rattle.race_log.proofs.Chains.{chain_join}
use Rattle.race_log.proofs.EdgeLaws.{one_point, orders_apart}
use Rattle.race_log.proofs.MergeLaws.{is_in}

-- a relation of all pairs of a run's points, at two of them
pub pair_at : (R : Point → Point → Type 0) (run : List Point) (m n : ℕ) (p q : Point) → AllPairs R run → m < n
    → slice_get run m ≡ Some p → slice_get run n ≡ Some q → R p q
pair_at R run m n p q all low e f =
    subst₂ R (get_or_from_slice_get run m p p e) (get_or_from_slice_get run n q p f) (all m n p low (is_in run n q f))

pub less_or : (a b : ℕ) → (a < b) ⊎ (b ≤ a)
less_or a b = grind arith

pub ordered : (run : List Point) (m n : ℕ) (p q : Point) → slice_get run m ≡ Some p → slice_get run n ≡ Some q → m < n
    → p.hart ≡ q.hart → ProgramOrder run m n
ordered run m n p q e f low same = record { earlier = low; first = p; second = q; first_at = e; second_at = f; related = same }

pub up_before : {run : List Point} {m k n : ℕ} → UpTo run m k → Before run k n → Before run m n
up_before (inl e) d = rw e d
up_before (inr c) d = chain_join c d

pub before_up : {run : List Point} {m k n : ℕ} → Before run m k → UpTo run k n → Before run m n
before_up c (inl e) = rw e at c
before_up c (inr d) = chain_join c d

module _ (run : List Point) (up : IsInOrder run) where
  -- a point of the hart with a lower count has an earlier place
  pub earlier_at : (m n : ℕ) (p q : Point) → slice_get run m ≡ Some p → slice_get run n ≡ Some q → p.hart ≡ q.hart → p.count < q.count → m < n
  earlier_at m n p q e f same low = elim (less_or m n) [
    | inl t ↦ t
    | inr t ↦ elim (less_or n m) [
      | inl u ↦ (let less = pair_at (λ p q. p.hart ≡ q.hart → p.count < q.count) run n m q p up.counts u f e (sym same) in absurd (omega arith))
      | inr u ↦
          let is : m ≡ n = omega arith in
          let counts = ap (λ (x : Point). x.count) (one_point run n p q (rw is at e) f) in absurd (omega arith)
    ]
  ]

  -- a point of the hart with no higher count has the same place or one before it
  at_most : (m n : ℕ) (p q : Point) → slice_get run m ≡ Some p → slice_get run n ≡ Some q → p.hart ≡ q.hart → p.count ≤ q.count → UpTo run m n
  at_most m n p q e f same low = elim (less_or m n) [
    | inl t ↦ inr (one (inl (ordered run m n p q e f t same)))
    | inr t ↦ elim (less_or n m) [
      | inl u ↦ (let less = pair_at (λ p q. p.hart ≡ q.hart → p.count < q.count) run n m q p up.counts u f e (sym same) in absurd (omega arith))
      | inr u ↦ inl (omega arith)
    ]
  ]

  -- a point of an earlier turn has an earlier place
  pub turn_earlier : (m n : ℕ) (p q : Point) → slice_get run m ≡ Some p → slice_get run n ≡ Some q → p.turn < q.turn → m < n
  turn_earlier m n p q e f low = elim (less_or m n) [
    | inl t ↦ t
    | inr t ↦ elim (less_or n m) [
      | inl u ↦ (let less = pair_at (λ p q. p.turn < q.turn) run n m q p up.turns u f e in absurd (omega arith))
      | inr u ↦
          let is : m ≡ n = omega arith in
          let turns = ap (λ (x : Point). x.turn) (one_point run n p q (rw is at e) f) in absurd (omega arith)
    ]
  ]

  by_order : (m n : ℕ) (p q : Point) → slice_get run m ≡ Some p → slice_get run n ≡ Some q → p.hart ≡ q.hart → p.count < q.count → Before run m n
  by_order m n p q e f same low = one (inl (ordered run m n p q e f (earlier_at m n p q e f same low) same))

  -- a conflict of points, as one of places
  by_conflict : {h i g j : ℕ} (p q : Point) (at_p : IsPointAt run h i p) (at_q : IsPointAt run g j q) → p.turn < q.turn → IsConflict p q
      → Before run at_p.place at_q.place
  by_conflict p q at_p at_q low c = one (inr (record {
    earlier = turn_earlier at_p.place at_q.place p q at_p.at at_q.at low;
    first = p;
    second = q;
    first_at = at_p.at;
    second_at = at_q.at;
    related = c;
  }))

  -- a place of the hart that is no later than the point
  up_in : {h i : ℕ} (a : Point) (at_a : IsPointAt run h i a) (m : ℕ) (p : Point) → slice_get run m ≡ Some p → p.hart ≡ h → p.count ≤ i → UpTo run m at_a.place
  up_in a at_a m p e ph low = let c = at_a.count_is in at_most m at_a.place p a e at_a.at (ph ∙ sym at_a.hart_is) (omega arith)

  up_out : {g j : ℕ} (a : Point) (at_a : IsPointAt run g j a) (n : ℕ) (q : Point) → slice_get run n ≡ Some q → q.hart ≡ g → j ≤ q.count → UpTo run at_a.place n
  up_out a at_a n q f qh low = let c = at_a.count_is in at_most at_a.place n a q at_a.at f (at_a.hart_is ∙ sym qh) (omega arith)

  -- a chain of instructions leads along places, from one at its beginning or earlier to one at its end or later
  pub leads_before : {h i g j : ℕ} → Leads run h i g j → (m n : ℕ) (p q : Point) → slice_get run m ≡ Some p → slice_get run n ≡ Some q
      → p.hart ≡ h → p.count ≤ i → q.hart ≡ g → j ≤ q.count → Before run m n
  leads_before (by_one (onward low)) m n p q e f ph pc qh qc = by_order m n p q e f (ph ∙ sym qh) (omega arith)
  leads_before (by_one (across a c at_a at_c low hit)) m n p q e f ph pc qh qc =
      up_before (up_in a at_a m p e ph pc) (before_up (by_conflict a c at_a at_c low hit) (up_out c at_c n q f qh qc))
  leads_before (by_more d (onward low)) m n p q e f ph pc qh qc = leads_before d m n p q e f ph pc qh (omega arith)
  leads_before (by_more d (across a c at_a at_c low hit)) m n p q e f ph pc qh qc =
      let a_count = at_a.count_is in
      before_up (chain_join (leads_before d m at_a.place p a e at_a.at ph pc at_a.hart_is (omega arith)) (by_conflict a c at_a at_c low hit))
      (up_out c at_c n q f qh qc)

  place_step : (m n : ℕ) (p q : Point) → slice_get run m ≡ Some p → slice_get run n ≡ Some q → Either (ProgramOrder run) (Conflict run) m n
      → Step run p.hart p.count q.hart q.count
  place_step m n p q e f (inl o) =
      let p_hart = ap (λ (x : Point). x.hart) (one_point run m p o.first e o.first_at) in
      let q_hart = ap (λ (x : Point). x.hart) (one_point run n q o.second f o.second_at) in
      let same : p.hart ≡ q.hart = p_hart ∙ (o.related ∙ sym q_hart) in
      subst (λ x. Step run p.hart p.count x q.count) same
      (onward (pair_at (λ p q. p.hart ≡ q.hart → p.count < q.count) run m n p q up.counts o.earlier e f same))
  place_step m n p q e f (inr c) = across p q
      (record { place = m; at = e; hart_is = refl; count_is = refl })
      (record { place = n; at = f; hart_is = refl; count_is = refl })
      (pair_at (λ p q. p.turn < q.turn) run m n p q up.turns c.earlier e f)
      (subst₂ IsConflict (one_point run m c.first p c.first_at e) (one_point run n c.second q c.second_at f) c.related)

  start_point : (m n : ℕ) → Either (ProgramOrder run) (Conflict run) m n → (p : Point) × (slice_get run m ≡ Some p)
  start_point m n (inl o) = (o.first, o.first_at)
  start_point m n (inr c) = (c.first, c.first_at)

  -- a chain of places leads along instructions
  pub before_leads : {m n : ℕ} (p q : Point) → slice_get run m ≡ Some p → slice_get run n ≡ Some q → Before run m n → Leads run p.hart p.count q.hart q.count
  before_leads {m = m} {n = n} p q e f (one s) = by_one (place_step m n p q e f s)
  before_leads {m = m} {n = n} p q e f (more {k = k} c s) =
      let r = start_point k n s in
      by_more (before_leads p r.0 e r.1 c) (place_step k n r.0 q r.1 f s)

  -- a place of the hart from this count on, and before n
  From : ℕ → ℕ → ℕ → Type 0
  From h i n = (k : ℕ) × (q : Point) × (slice_get run k ≡ Some q) × (q.hart ≡ h) × (i ≤ q.count) × Before run k n

  from_point : {h i : ℕ} (a : Point) (at_a : IsPointAt run h i a) (n : ℕ) → Before run at_a.place n → From h i n
  unfolding From
  from_point a at_a n d = let c = at_a.count_is in (at_a.place, a, at_a.at, at_a.hart_is, omega arith, d)

  -- a chain to place n leaves by program order alone, or by way of a place of its first hart
  leaves : {h i g j : ℕ} → Leads run h i g j → (n : ℕ) (q : Point) → slice_get run n ≡ Some q → q.hart ≡ g → j ≤ q.count
      → ((h ≡ g) × (i < q.count)) ⊎ From h i n
  unfolding From
  leaves (by_one (onward low)) n q f qh qc = inl (refl, omega arith)
  leaves (by_one (across a c at_a at_c low hit)) n q f qh qc =
      inr (from_point a at_a n (before_up (by_conflict a c at_a at_c low hit) (up_out c at_c n q f qh qc)))
  leaves (by_more d (onward low)) n q f qh qc = leaves d n q f qh (omega arith)
  leaves (by_more d (across a c at_a at_c low hit)) n q f qh qc =
      let a_count = at_a.count_is in
      let on = before_up (by_conflict a c at_a at_c low hit) (up_out c at_c n q f qh qc) in
      elim (leaves d at_a.place a at_a.at at_a.hart_is (omega arith)) [
        | inl o ↦ inr (at_a.place, a, at_a.at, at_a.hart_is ∙ sym o.0, (let less = o.1 in omega arith), on)
        | inr k ↦ inr (k.0, k.1, k.2, k.3, k.4, chain_join k.5 on)
      ]

  -- a place of the hart up to this count, and after m
  To : ℕ → ℕ → ℕ → Type 0
  To g j m = (k : ℕ) × (q : Point) × (slice_get run k ≡ Some q) × (q.hart ≡ g) × (q.count ≤ j) × Before run m k

  to_point : {g j : ℕ} (a : Point) (at_a : IsPointAt run g j a) (m : ℕ) → Before run m at_a.place → To g j m
  unfolding To
  to_point a at_a m d = let c = at_a.count_is in (at_a.place, a, at_a.at, at_a.hart_is, omega arith, d)

  arrives : {h i g j : ℕ} → Leads run h i g j → (m : ℕ) (p : Point) → slice_get run m ≡ Some p → p.hart ≡ h → p.count ≤ i
      → ((h ≡ g) × (p.count < j)) ⊎ To g j m
  unfolding To
  arrives (by_one (onward low)) m p e ph pc = inl (refl, omega arith)
  arrives (by_one (across a c at_a at_c low hit)) m p e ph pc =
      inr (to_point c at_c m (up_before (up_in a at_a m p e ph pc) (by_conflict a c at_a at_c low hit)))
  arrives (by_more d (onward low)) m p e ph pc = elim (arrives d m p e ph pc) [
    | inl o ↦ (let less = o.1 in inl (o.0, omega arith))
    | inr k ↦ (let at = k.4 in inr (k.0, k.1, k.2, k.3, omega arith, k.5))
  ]
  arrives (by_more d (across a c at_a at_c low hit)) m p e ph pc =
      let a_count = at_a.count_is in
      inr (to_point c at_c m (chain_join (leads_before d m at_a.place p a e at_a.at ph pc at_a.hart_is (omega arith)) (by_conflict a c at_a at_c low hit)))

  -- two places with no third place between have no third instruction between
  no_third_between : (m n : ℕ) (p q : Point) → slice_get run m ≡ Some p → slice_get run n ≡ Some q → IsEdge run m n
      → (g j : ℕ) → Leads run p.hart p.count g j → Leads run g j q.hart q.count → ⊥
  unfolding From To
  no_third_between m n p q e f edge g j first second = elim (leaves second n q f refl (omega arith)) [
    | inr k ↦ edge.no_third k.0 (leads_before first m k.0 p k.1 e k.2 refl (omega arith) k.3 k.4) k.5
    | inl on ↦ elim (arrives first m p e refl (omega arith)) [
      | inl off ↦ orders_apart run m n edge.conflicts (ordered run m n p q e f edge.conflicts.earlier (off.0 ∙ on.0))
      | inr k ↦ edge.no_third k.0 k.5 (by_order k.0 n k.1 q k.2 f (k.3 ∙ on.0) (let a = k.4 in let c = on.1 in omega arith))
    ]
  ]

  pub edge_between : (m n : ℕ) (p q : Point) → slice_get run m ≡ Some p → slice_get run n ≡ Some q → IsEdge run m n → IsEdgeBetween run p q
  edge_between m n p q e f edge = let c = edge.conflicts in record {
    conflicts = subst₂ IsConflict (one_point run m c.first p c.first_at e) (one_point run n c.second q c.second_at f) c.related;
    earlier = pair_at (λ p q. p.turn < q.turn) run m n p q up.turns c.earlier e f;
    no_third = no_third_between m n p q e f edge;
  }

  pub between_edge : (m n : ℕ) (p q : Point) → slice_get run m ≡ Some p → slice_get run n ≡ Some q → IsEdgeBetween run p q → IsEdge run m n
  between_edge m n p q e f between = record {
    conflicts = record {
      earlier = turn_earlier m n p q e f between.earlier;
      first = p;
      second = q;
      first_at = e;
      second_at = f;
      related = between.conflicts;
    };
    no_third = λ k a d.
        let r = start_of a d in
        between.no_third r.0.hart r.0.count (before_leads p r.0 e r.1 a) (before_leads r.0 q r.1 f d);
  }
    where
      start_of : {m k n : ℕ} → Before run m k → Before run k n → (p : Point) × (slice_get run k ≡ Some p)
      start_of {k = k} a (one {n = n} s) = start_point k n s
      start_of a (more d s) = start_of a d

  -- the times of place n cover the instructions that are its point's or before it
  pub up_to_covered : (n : ℕ) (q : Point) (counts : ℕ → ℕ) → slice_get run n ≡ Some q → TimesOf run n counts → (h i : ℕ)
      → IsUpTo run h i q → i < counts h
  unfolding From
  up_to_covered n q counts f times h i (inl o) =
      let c = times.covered n q f (inl refl) in rw (o.0, o.1) c
  up_to_covered n q counts f times h i (inr l) = elim (leaves l n q f refl (omega arith)) [
    | inl o ↦ (let c = times.covered n q f (inl refl) in let low = o.1 in rw o.0 (omega arith))
    | inr k ↦ (let c = times.covered k.0 k.1 k.2 (inr k.5) in let low = k.4 in let at = rw k.3 at c in omega arith)
  ]

  leads_join : {h i g j f l : ℕ} → Leads run h i g j → Leads run g j f l → Leads run h i f l
  leads_join d (by_one s) = by_more d s
  leads_join d (by_more c s) = by_more (leads_join d c) s

  below_or : (x y : ℕ) → x ≤ y → (x < y) ⊎ (x ≡ y)
  below_or x y low = grind arith

  -- an instruction of the point's hart with no higher count
  own_up_to : (h i : ℕ) (p : Point) → h ≡ p.hart → i ≤ p.count → IsUpTo run h i p
  own_up_to h i p same low = elim (below_or i p.count low) [
    | inl less ↦ inr (subst (λ x. Leads run h i x p.count) same (by_one (onward less)))
    | inr is ↦ inl (same, is)
  ]

  pub covered_up_to : (n : ℕ) (q : Point) (counts : ℕ → ℕ) → slice_get run n ≡ Some q → TimesOf run n counts → (h i : ℕ)
      → i < counts h → IsUpTo run h i q
  covered_up_to n q counts f times h i low = elim (times.exact h) [
    | inl z ↦ absurd (omega (arith, low, z))
    | inr t ↦ reach t.0 t.1 t.2 t.3 t.4 (let is = t.5 in omega (arith, low, is))
  ]
    where
      reach : (m : ℕ) (p : Point) → slice_get run m ≡ Some p → UpTo run m n → p.hart ≡ h → i ≤ p.count → IsUpTo run h i q
      reach m p e (inl is) ph most =
          let p_is = one_point run n p q (rw is at e) f in
          subst (λ x. IsUpTo run h i x) p_is (own_up_to h i p (sym ph) most)
      reach m p e (inr c) ph most =
          let l = before_leads p q e f c in
          elim (own_up_to h i p (sym ph) most) [
            | inl o ↦ inr (subst₂ (λ x y. Leads run x y q.hart q.count) (sym o.0) (sym o.1) l)
            | inr d ↦ inr (leads_join d l)
          ]

  pub times_of : (n : ℕ) (q : Point) (counts : ℕ → ℕ) → slice_get run n ≡ Some q → TimesOf run n counts → IsTimesOf run q counts
  times_of n q counts f times h i = (covered_up_to n q counts f times h i, up_to_covered n q counts f times h i)
