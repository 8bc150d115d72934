-- Merges of the harts' lists.
use Rattle.race_log.proofs.Common.{◌≡◌, ℕ, zero, suc, ◌+◌, ◌<◌, ◌≤◌, Bool, true, false, ◌&&◌, ◌⊎◌, ◌==◌, refl, inl, inr, arith, ap, ◌∙◌, List, [], ◌∷◌, length, slice_get, Some, filter, Point, MeetAt, AtPlaces, Chain, Either, ProgramOrder, Conflict, IsEdge, EndingAfter, one, more, is_of_hart, count_up, place, StandsIn, Precedes, IsMerge, Respects}
use Rattle.race_log.proofs.BoolFacts.{both, known, same_number, other_number}
use Rattle.race_log.proofs.Agree.{same_test}
use Rattle.race_log.proofs.Chains.{chain_map}
use Rattle.race_log.proofs.EdgeLaws.{one_point, edges_lead}

pub place_at : (x m : ℕ) (xs : List ℕ) → (x == m) ≡ true → place (x ∷ xs) m ≡ 0
place_at x m xs e = rw e

pub place_past : (x m : ℕ) (xs : List ℕ) → (x == m) ≡ false → place (x ∷ xs) m ≡ suc (place xs m)
place_past x m xs e = rw e

pub filter_in : (test : ℕ → Bool) (x : ℕ) (xs : List ℕ) → test x ≡ true → filter test (x ∷ xs) ≡ x ∷ filter test xs
filter_in test x xs e = rw e

pub filter_out : (test : ℕ → Bool) (x : ℕ) (xs : List ℕ) → test x ≡ false → filter test (x ∷ xs) ≡ filter test xs
filter_out test x xs e = rw e

differs : (test : ℕ → Bool) (x m : ℕ) → test x ≡ false → test m ≡ true → (x == m) ≡ false
differs test x m e t = elim (known (x == m)) [
  | inl same ↦ let is : x ≡ m = grind arith in let f : test m ≡ false = rw (← is) e in cc
  | inr other ↦ other
]

-- two numbers that pass stand in the filtered list as they do in the list
pub from_filter : (test : ℕ → Bool) (m n : ℕ) → test m ≡ true → test n ≡ true → (xs : List ℕ)
    → place (filter test xs) m < place (filter test xs) n → place xs m < place xs n
from_filter test m n tm tn [] h = h
from_filter test m n tm tn (x ∷ xs) h = elim (known (test x)) [
  | inl t ↦
      let k = rw (filter_in test x xs t) at h in
      elim (known (x == n)) [
        | inl at_n ↦ let z = place_at x n (filter test xs) at_n in absurd (omega (arith, k, z))
        | inr past_n ↦
            let d = place_past x n (filter test xs) past_n in let e = place_past x n xs past_n in
            elim (known (x == m)) [
              | inl at_m ↦ let g = place_at x m xs at_m in omega (arith, e, g)
              | inr past_m ↦
                  let f = place_past x m (filter test xs) past_m in let g = place_past x m xs past_m in
                  let low : place (filter test xs) m < place (filter test xs) n = omega (arith, k, d, f) in
                  let r = from_filter test m n tm tn xs low in omega (arith, r, e, g)
            ]
      ]
  | inr t ↦
      let k = rw (filter_out test x xs t) at h in
      let r = from_filter test m n tm tn xs k in
      let e = place_past x n xs (differs test x n t tn) in let g = place_past x m xs (differs test x m t tm) in
      omega (arith, r, e, g)
]

pub to_filter : (test : ℕ → Bool) (m n : ℕ) → test m ≡ true → test n ≡ true → (xs : List ℕ)
    → place xs m < place xs n → place (filter test xs) m < place (filter test xs) n
to_filter test m n tm tn [] h = h
to_filter test m n tm tn (x ∷ xs) h = elim (known (test x)) [
  | inl t ↦
      rw (filter_in test x xs t) (elim (known (x == n)) [
        | inl at_n ↦ let z = place_at x n xs at_n in absurd (omega (arith, h, z))
        | inr past_n ↦
            let d = place_past x n (filter test xs) past_n in let e = place_past x n xs past_n in
            elim (known (x == m)) [
              | inl at_m ↦ let g = place_at x m (filter test xs) at_m in omega (arith, d, g)
              | inr past_m ↦
                  let f = place_past x m (filter test xs) past_m in let g = place_past x m xs past_m in
                  let low : place xs m < place xs n = omega (arith, h, e, g) in
                  let r = to_filter test m n tm tn xs low in omega (arith, r, d, f)
            ]
      ])
  | inr t ↦
      let e = place_past x n xs (differs test x n t tn) in let g = place_past x m xs (differs test x m t tm) in
      let low : place xs m < place xs n = omega (arith, h, e, g) in
      rw (filter_out test x xs t) (to_filter test m n tm tn xs low)
]

-- a number that passes is in the filtered list if and only if it is in the list
pub stands_from_filter : (test : ℕ → Bool) (m : ℕ) → test m ≡ true → (xs : List ℕ) → StandsIn (filter test xs) m → StandsIn xs m
stands_from_filter test m t [] h = h
stands_from_filter test m t (x ∷ xs) h = elim (known (x == m)) [
  | inl here ↦ let z = place_at x m xs here in omega (arith, z)
  | inr past ↦
      let e = place_past x m xs past in
      elim (known (test x)) [
        | inl u ↦
            let k = rw (filter_in test x xs u) at h in
            let f = place_past x m (filter test xs) past in
            let r = stands_from_filter test m t xs (omega (arith, k, f)) in omega (arith, r, e)
        | inr u ↦
            let k = rw (filter_out test x xs u) at h in
            let r = stands_from_filter test m t xs k in omega (arith, r, e)
      ]
]

pub stands_to_filter : (test : ℕ → Bool) (m : ℕ) → test m ≡ true → (xs : List ℕ) → StandsIn xs m → StandsIn (filter test xs) m
stands_to_filter test m t [] h = h
stands_to_filter test m t (x ∷ xs) h = elim (known (x == m)) [
  | inl here ↦
      let is : x ≡ m = grind arith in
      let u : test x ≡ true = rw is t in
      let z = place_at x m (filter test xs) here in
      rw (filter_in test x xs u) (omega (arith, z))
  | inr past ↦
      let e = place_past x m xs past in
      let r = stands_to_filter test m t xs (omega (arith, h, e)) in
      elim (known (test x)) [
        | inl u ↦ let f = place_past x m (filter test xs) past in rw (filter_in test x xs u) (omega (arith, r, f))
        | inr u ↦ rw (filter_out test x xs u) r
      ]
]

pub place_up : (l a m : ℕ) → a ≤ m → m < a + l → a + place (count_up a l) m ≡ m
place_up zero a m h k = absurd (omega arith)
place_up (suc l) a m h k = elim (known (a == m)) [
  | inl e ↦ let z = place_at a m (count_up (suc a) l) e in let is : a ≡ m = grind arith in omega (arith, z)
  | inr e ↦ let p = place_past a m (count_up (suc a) l) e in let low : suc a ≤ m = grind arith in
      let r = place_up l (suc a) m low (omega arith) in omega (arith, p, r)
]

pub length-count_up : (l a : ℕ) → length (count_up a l) ≡ l
length-count_up zero a = refl
length-count_up (suc l) a = ap suc (length-count_up l (suc a))

pub is_in : (run : List Point) (m : ℕ) (p : Point) → slice_get run m ≡ Some p → m < length run
is_in [] m p e = cc
is_in (q ∷ run) zero p e = omega arith
is_in (q ∷ run) (suc m) p e = let r = is_in run m p e in omega arith

pub of_hart_at : (run : List Point) (hart m : ℕ) (p : Point) → slice_get run m ≡ Some p → p.hart ≡ hart → is_of_hart hart (slice_get run m) ≡ true
of_hart_at run hart m p e h = rw e (same_test p.hart hart h)

module _ (kept : ℕ → Bool) (run : List Point) (order : List ℕ) (is : IsMerge kept run order) where
  -- a kept point stands in the merge
  pub kept_stands : (m : ℕ) (p : Point) → slice_get run m ≡ Some p → kept m ≡ true → StandsIn order m
  kept_stands m p e k =
      let own = of_hart_at run p.hart m p e refl in
      let low = is_in run m p e in
      let at = place_up (length run) 0 m (omega arith) (omega arith) in
      let size = length-count_up (length run) 0 in
      let here : StandsIn (count_up 0 (length run)) m = omega (arith, low, at, size) in
      stands_from_filter (λ k. is_of_hart p.hart (slice_get run k)) m own order (rw (is p.hart)
      (stands_to_filter (λ k. is_of_hart p.hart (slice_get run k) && kept k) m (both (is_of_hart p.hart (slice_get run m)) (kept m) own k)
      (count_up 0 (length run)) here))

  -- kept points of one hart stand in program order
  pub order_stands : (m n : ℕ) → kept m ≡ true → kept n ≡ true → ProgramOrder run m n → Precedes order m n
  order_stands m n kept_m kept_n o =
      let own_m = of_hart_at run o.second.hart m o.first o.first_at o.related in
      let own_n = of_hart_at run o.second.hart n o.second o.second_at refl in
      let up = o.earlier in
      let low = is_in run n o.second o.second_at in
      let at_m = place_up (length run) 0 m (omega arith) (omega arith) in
      let at_n = place_up (length run) 0 n (omega arith) (omega arith) in
      let up_places : place (count_up 0 (length run)) m < place (count_up 0 (length run)) n = omega arith in
      from_filter (λ k. is_of_hart o.second.hart (slice_get run k)) m n own_m own_n order (rw (is o.second.hart)
      (to_filter (λ k. is_of_hart o.second.hart (slice_get run k) && kept k) m n
      (both (is_of_hart o.second.hart (slice_get run m)) (kept m) own_m kept_m)
      (both (is_of_hart o.second.hart (slice_get run n)) (kept n) own_n kept_n)
      (count_up 0 (length run)) up_places))

pub order_trans : (run : List Point) (m k n : ℕ) → ProgramOrder run m k → ProgramOrder run k n → ProgramOrder run m n
order_trans run m k n a c =
    let low = a.earlier in let high = c.earlier in
    let same = ap (λ (x : Point). x.hart) (one_point run k a.second c.first a.second_at c.first_at) in
    record {
      earlier = omega arith;
      first = a.first;
      second = c.second;
      first_at = a.first_at;
      second_at = c.second_at;
      related = a.related ∙ (same ∙ c.related);
    }

-- the edges of a chain end after its beginning
late : (run : List Point) (m n : ℕ) → Chain (Either (ProgramOrder run) (IsEdge run)) m n
    → (m < n) × Chain (Either (ProgramOrder run) (EndingAfter m (IsEdge run))) m n
late run m n (one (inl o)) = (o.earlier, one (inl o))
late run m n (one (inr e)) = let low = e.conflicts.earlier in (low, one (inr (e, low)))
late run m n (more {k = k} c (inl o)) =
    let r = late run m k c in let on = r.0 in let low = o.earlier in (omega arith, more r.1 (inl o))
late run m n (more {k = k} c (inr e)) =
    let r = late run m k c in let on = r.0 in let low = e.conflicts.earlier in
    let far : m < n = omega arith in (far, more r.1 (inr (e, far)))

-- the edges that end after a point order its later conflicts
pub late_edges_lead : (run : List Point) (m n : ℕ) → Conflict run m n → Chain (Either (ProgramOrder run) (EndingAfter m (IsEdge run))) m n
late_edges_lead run m n c = (late run m n (edges_lead run m n c)).1

module _ (kept : ℕ → Bool) (run : List Point) (Pair : ℕ → ℕ → Type 0) (order : List ℕ)
    (is : IsMerge kept run order) (respects : Respects Pair order)
    (joins : (m n : ℕ) → Pair m n → IsEdge run m n × (kept m ≡ true) × (kept n ≡ true)) where
  -- a kept point that is k or of k's hart and before it, and that is m or stands after m
  Along : ℕ → ℕ → Type 0
  Along m k = (q : ℕ) × (kept q ≡ true) × ((q ≡ k) ⊎ ProgramOrder run q k) × ((q ≡ m) ⊎ Precedes order m q)

  pair_stands : (m n : ℕ) → Pair m n → Precedes order m n
  pair_stands m n e =
      let j = joins m n e in
      respects m n e (kept_stands kept run order is n j.0.conflicts.second j.0.conflicts.second_at j.2)

  along : (m k : ℕ) → kept m ≡ true → Chain (Either (ProgramOrder run) Pair) m k → Along m k
  unfolding Along
  along m k kept_m (one (inl o)) = (m, kept_m, inr o, inl refl)
  along m k kept_m (one (inr e)) = (k, (joins m k e).2, inl refl, inr (pair_stands m k e))
  along m k kept_m (more {k = j} c (inl o)) =
      let r = along m j kept_m c in
      (r.0, r.1, inr (elim r.2 [ inl e ↦ rw e o | inr p ↦ order_trans run r.0 j k p o ]), r.3)
  along m k kept_m (more {k = j} c (inr e)) =
      let r = along m j kept_m c in
      let near : (r.0 ≡ j) ⊎ Precedes order r.0 j = elim r.2 [
        | inl f ↦ inl f
        | inr p ↦ inr (order_stands kept run order is r.0 j r.1 (joins j k e).1 p)
      ] in
      (k, (joins j k e).2, inl refl, inr (through m r.0 j k r.3 near (pair_stands j k e)))
    where
      through : (m q j k : ℕ) → (q ≡ m) ⊎ Precedes order m q → (q ≡ j) ⊎ Precedes order q j → Precedes order j k → Precedes order m k
      through m q j k (inl a) (inl c) far = let d = ap (place order) a in let e = ap (place order) c in omega arith
      through m q j k (inl a) (inr c) far = let d = ap (place order) a in omega arith
      through m q j k (inr a) (inl c) far = let e = ap (place order) c in omega arith
      through m q j k (inr a) (inr c) far = omega arith

  -- kept points that conflict are in recorded order, if the pairs have all edges that end after some place
  pub conflicts_stand : (first : ℕ) → ((a c : ℕ) → EndingAfter first (IsEdge run) a c → Pair a c) → (m n : ℕ) → first ≤ m
      → Conflict run m n → kept m ≡ true → kept n ≡ true → Precedes order m n
  unfolding Along
  conflicts_stand first all m n low c kept_m kept_n =
      let chain = chain_map widen (late_edges_lead run m n c) in
      let r = along m n kept_m chain in
      finish r.0 r.1 r.2 r.3
    where
      widen : (a d : ℕ) → Either (ProgramOrder run) (EndingAfter m (IsEdge run)) a d → Either (ProgramOrder run) Pair a d
      widen a d (inl o) = inl o
      widen a d (inr e) = inr (let far = e.1 in all a d (e.0, omega arith))

      finish : (q : ℕ) → kept q ≡ true → (q ≡ n) ⊎ ProgramOrder run q n → (q ≡ m) ⊎ Precedes order m q → Precedes order m n
      finish q k (inl a) (inl d) = absurd (let rise = c.earlier in omega arith)
      finish q k (inl a) (inr d) = let e = ap (place order) a in omega arith
      finish q k (inr p) (inl d) = let f = order_stands kept run order is q n k kept_n p in let e = ap (place order) d in omega arith
      finish q k (inr p) (inr d) = let f = order_stands kept run order is q n k kept_n p in omega arith

  -- kept points that access a word which one of them writes stand in recorded order, be they of one hart or of two
  pub words_stand : (first : ℕ) → ((a c : ℕ) → EndingAfter first (IsEdge run) a c → Pair a c) → (word m n : ℕ) → first ≤ m
      → AtPlaces (MeetAt word) run m n → kept m ≡ true → kept n ≡ true → Precedes order m n
  words_stand first all word m n low a kept_m kept_n = elim (known (a.first.hart == a.second.hart)) [
    | inl same ↦ order_stands kept run order is m n kept_m kept_n (record {
      earlier = a.earlier;
      first = a.first;
      second = a.second;
      first_at = a.first_at;
      second_at = a.second_at;
      related = same_number a.first.hart a.second.hart same;
    })
    | inr other ↦ conflicts_stand first all m n low (record {
      earlier = a.earlier;
      first = a.first;
      second = a.second;
      first_at = a.first_at;
      second_at = a.second_at;
      related = record {
        apart = other_number a.first.hart a.second.hart other;
        word = word;
        meet = a.related;
      };
    }) kept_m kept_n
  ]
