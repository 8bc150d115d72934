-- A merge that isn't whole can be gone on with.
use Rattle.race_log.proofs.Common.{◌≡◌, ℕ, zero, suc, ◌+◌, ◌-◌, ◌<◌, ◌≤◌, Bool, true, false, ◌&&◌, ◌⊎◌, ◌==◌, refl, inl, inr, arith, sym, ap, ap₂, ◌∙◌, List, [], ◌∷◌, ◌++◌, length, slice_get, Option, Some, None, filter, IsTrue, append_assoc, append-nil, subst, Point, Chosen, is_of_hart, count_up, place, StandsIn, Respects, own_list, own_part, IsMerge, IsMergeBegun, IsNext, AreKeptEdges}
use Rattle.race_log.proofs.BoolFacts.{and_left, and_right, both, known, same_number}
use Rattle.race_log.proofs.Agree.{same_test}
use Rattle.race_log.proofs.MergeLaws.{filter_in, filter_out, place_at, place_past, stands_to_filter, stands_from_filter, of_hart_at}

-- the numbers up from a are those up to m, m, and those after it
count_parts : (a n l : ℕ) → n < l → count_up a l ≡ count_up a n ++ (a + n) ∷ count_up (suc (a + n)) (l - suc n)
count_parts a zero zero low = absurd (omega arith)
count_parts a zero (suc l) low =
    let here : a + 0 ≡ a = omega arith in let left : suc l - 1 ≡ l = omega arith in
    rw (here, left) refl
count_parts a (suc n) zero low = absurd (omega arith)
count_parts a (suc n) (suc l) low =
    let here : a + suc n ≡ suc a + n = omega arith in
    let left : suc l - suc (suc n) ≡ l - suc n = omega arith in
    rw (here, left) (ap (λ xs. a ∷ xs) (count_parts (suc a) n l (omega arith)))

filter-append : (test : ℕ → Bool) (xs ys : List ℕ) → filter test (xs ++ ys) ≡ filter test xs ++ filter test ys
filter-append test [] ys = refl
filter-append test (x ∷ xs) ys = elim (known (test x)) [
  | inl t ↦ rw (t, filter-append test xs ys)
  | inr t ↦ rw (t, filter-append test xs ys)
]

-- numbers that ascend from a on
Ascends : ℕ → List ℕ → Type 0
Ascends a [] = Unit {0}
Ascends a (x ∷ xs) = (a ≤ x) × Ascends (suc x) xs

ascends_from : (a b : ℕ) (xs : List ℕ) → a ≤ b → Ascends b xs → Ascends a xs
unfolding Ascends
ascends_from a b [] low h = tt
ascends_from a b (x ∷ xs) low h = let e = h.0 in (omega arith, h.1)

filter_ascends : (test : ℕ → Bool) (n a : ℕ) → Ascends a (filter test (count_up a n))
unfolding Ascends
filter_ascends test zero a = tt
filter_ascends test (suc n) a = elim (known (test a)) [
  | inl t ↦ rw t (omega arith, filter_ascends test n (suc a))
  | inr t ↦ rw t (ascends_from a (suc a) (filter test (count_up (suc a) n)) (omega arith) (filter_ascends test n (suc a)))
]

-- each of the numbers stands in the list
AllStand : List ℕ → List ℕ → Type 0
AllStand [] order = Unit {0}
AllStand (x ∷ xs) order = StandsIn order x × AllStand xs order

-- numbers above x stand in the rest of the list
all_past : (x a : ℕ) (fs xs : List ℕ) → x < a → Ascends a fs → AllStand fs (x ∷ xs) → AllStand fs xs
unfolding Ascends AllStand
all_past x a [] xs low up all = tt
all_past x a (f ∷ fs) xs low up all =
    let high = up.0 in
    let past = place_past x f xs (apart x f (omega arith)) in
    let here = all.0 in
    (omega (arith, past, here), all_past x (suc f) fs xs (omega arith) up.1 all.1)
  where
    apart : (x f : ℕ) → x < f → (x == f) ≡ false
    apart x f low = grind arith

-- a beginning of a list that has all numbers before m, and not m, is what is before m
front_is : (a m : ℕ) (front back xs rest : List ℕ) → Ascends a front → AllStand front xs → (StandsIn xs m → ⊥)
    → xs ++ rest ≡ front ++ m ∷ back → (more : List ℕ) × (xs ++ m ∷ more ≡ front ++ m ∷ back)
unfolding Ascends AllStand
front_is a m [] back [] rest up all none e = (back, refl)
front_is a m [] back (x ∷ xs) rest up all none e =
    let is : x ≡ m = cc in
    absurd (none (let z = place_at x m xs (same_test x m is) in omega (arith, z)))
front_is a m (f ∷ front) back [] rest up all none e = absurd (let h = all.0 in omega (arith, h))
front_is a m (f ∷ front) back (x ∷ xs) rest up all none e =
    let is : x ≡ f = cc in
    let tail : xs ++ rest ≡ front ++ m ∷ back = cc in
    let low : x < suc f = omega arith in
    let r = front_is (suc f) m front back xs rest up.1 (all_past x (suc f) front xs low up.1 all.1)
    (λ s. none (later x m xs s)) tail in
    (r.0, ap₂ (λ y ys. y ∷ ys) is r.1)
  where
    later : (x m : ℕ) (xs : List ℕ) → StandsIn xs m → StandsIn (x ∷ xs) m
    later x m xs s = elim (known (x == m)) [
      | inl t ↦ let z = place_at x m xs t in omega (arith, z)
      | inr t ↦ let z = place_past x m xs t in omega (arith, z)
    ]

-- a beginning of a list that has all of its numbers is the list
whole_is : (a : ℕ) (xs rest all : List ℕ) → Ascends a all → AllStand all xs → xs ++ rest ≡ all → xs ≡ all
unfolding Ascends AllStand
whole_is a [] rest [] up here e = refl
whole_is a [] rest (f ∷ fs) up here e = absurd (let h = here.0 in omega (arith, h))
whole_is a (x ∷ xs) rest [] up here e = cc
whole_is a (x ∷ xs) rest (f ∷ fs) up here e =
    let is : x ≡ f = cc in
    let tail : xs ++ rest ≡ fs = cc in
    let low : x < suc f = omega arith in
    let r = whole_is (suc f) xs rest fs up.1 (all_past x (suc f) fs xs low up.1 here.1) tail in
    ap₂ (λ y ys. y ∷ ys) is r

present : (run : List Point) (m : ℕ) → m < length run → (p : Point) × (slice_get run m ≡ Some p)
present [] m low = absurd (omega arith)
present (p ∷ run) zero low = (p, refl)
present (p ∷ run) (suc m) low = present run m (omega arith)

stands_or : (order : List ℕ) (m : ℕ) → StandsIn order m ⊎ (StandsIn order m → ⊥)
stands_or order m = split (place order m) (length order)
  where
    split : (a b : ℕ) → (a < b) ⊎ (a < b → ⊥)
    split a b = elim (less a b) [ inl t ↦ inl t | inr t ↦ inr (λ u. omega arith) ]
      where
        less : (a b : ℕ) → (a < b) ⊎ (b ≤ a)
        less a b = grind arith

module _ (kept : ℕ → Bool) (run : List Point) (order : List ℕ) (begun : IsMergeBegun kept run order) where
  -- the kept places from a on, n of them, stand in the order
  Past : ℕ → ℕ → Type 0
  Past a n = (k : ℕ) → a ≤ k → k < a + n → kept k ≡ true → StandsIn order k

  own_stand : (hart n a : ℕ) → a + n ≤ length run → Past a n
      → AllStand (filter (λ m. is_of_hart hart (slice_get run m) && kept m) (count_up a n)) (own_part run order hart)
  unfolding AllStand Past
  own_stand hart zero a fits past = tt
  own_stand hart (suc n) a fits past =
      let rest = own_stand hart n (suc a) (omega arith) (λ k low high t. past k (omega arith) (omega arith) t) in
      elim (known (is_of_hart hart (slice_get run a) && kept a)) [
        | inl t ↦ rw t (
          stands_to_filter (λ k. is_of_hart hart (slice_get run k)) a (and_left (is_of_hart hart (slice_get run a)) (kept a) t) order
              (past a (omega arith) (omega arith) (and_right (is_of_hart hart (slice_get run a)) (kept a) t)),
          rest,
        )
        | inr t ↦ rw t rest
      ]

  -- the first kept place that the order hasn't is next in its hart's list
  next_is : (m : ℕ) → m < length run → kept m ≡ true → (StandsIn order m → ⊥) → Past 0 m → (hart : ℕ) × IsNext kept run order hart m
  next_is m low k none past =
      let p = present run m low in
      let own = of_hart_at run p.0.hart m p.0 p.1 refl in
      let test : ℕ → Bool = λ j. is_of_hart p.0.hart (slice_get run j) && kept j in
      let pass : test m ≡ true = both (is_of_hart p.0.hart (slice_get run m)) (kept m) own k in
      let front = filter test (count_up 0 m) in
      let back = filter test (count_up (suc m) (length run - suc m)) in
      let parts : own_list kept run p.0.hart ≡ front ++ m ∷ back =
      ap (filter test) (count_at m low) ∙ (filter-append test (count_up 0 m) (m ∷ count_up (suc m) (length run - suc m))
      ∙ ap (λ xs. front ++ xs) (filter_in test m (count_up (suc m) (length run - suc m)) pass)) in
      let b = begun p.0.hart in
      let r = front_is 0 m front back (own_part run order p.0.hart) b.0 (filter_ascends test m 0)
      (own_stand p.0.hart m 0 (omega arith) past)
      (λ s. none (stands_from_filter (λ j. is_of_hart p.0.hart (slice_get run j)) m own order s)) (b.1 ∙ parts) in
      (p.0.hart, (r.0, r.1 ∙ sym parts))
    where
      count_at : (m : ℕ) → m < length run → count_up 0 (length run) ≡ count_up 0 m ++ m ∷ count_up (suc m) (length run - suc m)
      count_at m low = let z : 0 + m ≡ m = omega arith in rw z at (count_parts 0 m (length run) low)

  -- all kept places below n stand in the order, or there is a first one that doesn't
  first_or : (n : ℕ) → n ≤ length run → Past 0 n
      ⊎ ((m : ℕ) × (m < length run) × (kept m ≡ true) × (StandsIn order m → ⊥) × Past 0 m)
  unfolding Past
  first_or zero fits = inl (λ k low high t. absurd (omega arith))
  first_or (suc n) fits = elim (first_or n (omega arith)) [
    | inr found ↦ inr found
    | inl past ↦ elim (known (kept n)) [
      | inr out ↦ inl (λ k low high t. elim (split k n (omega arith)) [
        | inl below ↦ past k low (omega arith) t
        | inr at ↦ absurd (clear (kept n) (rw at at t) out)
      ])
      | inl k ↦ elim (stands_or order n) [
        | inr none ↦ inr (n, omega arith, k, none, past)
        | inl here ↦ inl (λ k low high t. elim (split k n (omega arith)) [
          | inl below ↦ past k low (omega arith) t
          | inr at ↦ rw at here
        ])
      ]
    ]
  ]
    where
      split : (k n : ℕ) → k < suc n → (k < n) ⊎ (k ≡ n)
      split k n low = grind arith

      clear : (x : Bool) → x ≡ true → x ≡ false → ⊥
      clear x h k = cc

pub goes_on : (kept : ℕ → Bool) (run : List Point) (edges : ℕ → ℕ → Bool) (order : List ℕ) → AreKeptEdges kept run edges
    → IsMergeBegun kept run order
    → IsMerge kept run order ⊎ ((hart m : ℕ) × IsNext kept run order hart m × ((k : ℕ) → IsTrue (edges k m) → StandsIn order k))
unfolding Past
goes_on kept run edges order joins begun = elim (first_or kept run order begun (length run) (omega arith)) [
  | inl past ↦ inl (λ hart.
      let b = begun hart in
      whole_is 0 (own_part run order hart) b.0 (own_list kept run hart)
      (filter_ascends (λ m. is_of_hart hart (slice_get run m) && kept m) (length run) 0)
      (own_stand kept run order begun hart (length run) 0 (omega arith) past) b.1)
  | inr found ↦
      let n = next_is kept run order begun found.0 found.1 found.2 found.3 found.4 in
      inr (
        n.0,
        found.0,
        n.1,
        λ k e.
            let j = joins k found.0 e in
            let up = j.0.conflicts.earlier in
            found.4 k (omega arith) (omega arith) j.1,
      )
]

place_in : (xs ys : List ℕ) (b : ℕ) → StandsIn xs b → place (xs ++ ys) b ≡ place xs b
place_in [] ys b s = absurd (omega (arith, s))
place_in (x ∷ xs) ys b s = elim (known (x == b)) [
  | inl t ↦ place_at x b (xs ++ ys) t ∙ sym (place_at x b xs t)
  | inr t ↦
      let e = place_past x b xs t in
      place_past x b (xs ++ ys) t ∙ (ap suc (place_in xs ys b (omega (arith, s, e))) ∙ sym e)
]

-- what stands in the list with m put at its end stands in the list, or is m
stands_more : (xs : List ℕ) (m b : ℕ) → StandsIn (xs ++ m ∷ []) b → StandsIn xs b ⊎ (m ≡ b)
stands_more [] m b s = elim (known (m == b)) [
  | inl t ↦ inr (same_number m b t)
  | inr t ↦ (let e = place_past m b [] t in absurd (omega (arith, s, e)))
]
stands_more (x ∷ xs) m b s = elim (known (x == b)) [
  | inl t ↦ (let e = place_at x b xs t in inl (omega (arith, e)))
  | inr t ↦
      let e = place_past x b (xs ++ m ∷ []) t in
      elim (stands_more xs m b (omega (arith, s, e))) [
        | inl r ↦ (let f = place_past x b xs t in inl (omega (arith, r, f)))
        | inr is ↦ inr is
      ]
]

-- m's place is at the end, or it stood in the list before
place_end : (xs : List ℕ) (m : ℕ) → (StandsIn xs m → ⊥) → place (xs ++ m ∷ []) m ≡ length xs
place_end [] m none = place_at m m [] (same_test m m refl)
place_end (x ∷ xs) m none = elim (known (x == m)) [
  | inl t ↦ absurd (none (let e = place_at x m xs t in omega (arith, e)))
  | inr t ↦
      let e = place_past x m xs t in
      place_past x m (xs ++ m ∷ []) t ∙ ap suc (place_end xs m (λ s. none (omega (arith, s, e))))
]

-- a number of a filtered list passes
in_filtered : (test : ℕ → Bool) (xs front back : List ℕ) (m : ℕ) → front ++ m ∷ back ≡ filter test xs → test m ≡ true
in_filtered test [] [] back m e = cc
in_filtered test [] (f ∷ front) back m e = cc
in_filtered test (x ∷ xs) [] back m e = elim (known (test x)) [
  | inl t ↦ (let is : m ≡ x = head (e ∙ filter_in test x xs t) in rw is t)
  | inr t ↦ in_filtered test xs [] back m (e ∙ filter_out test x xs t)
]
  where
    head : {a b : ℕ} {xs ys : List ℕ} → a ∷ xs ≡ b ∷ ys → a ≡ b
    head e = cc
in_filtered test (x ∷ xs) (f ∷ front) back m e = elim (known (test x)) [
  | inl t ↦ in_filtered test xs front back m (tail (e ∙ filter_in test x xs t))
  | inr t ↦ in_filtered test xs (f ∷ front) back m (e ∙ filter_out test x xs t)
]
  where
    tail : {a b : ℕ} {xs ys : List ℕ} → a ∷ xs ≡ b ∷ ys → xs ≡ ys
    tail e = cc

one_hart : (hart other : ℕ) (p : Option Point) → is_of_hart hart p ≡ true → is_of_hart other p ≡ true → hart ≡ other
one_hart hart other None a b = cc
one_hart hart other (Some p) a b = sym (same_number p.hart hart a) ∙ same_number p.hart other b

-- what comes next may be done next
pub goes_next : (kept : ℕ → Bool) (run : List Point) (edges : ℕ → ℕ → Bool) (order : List ℕ) → IsMergeBegun kept run order
    → Respects (Chosen edges) order → (hart m : ℕ) → IsNext kept run order hart m → ((k : ℕ) → Chosen edges k m → StandsIn order k)
    → IsMergeBegun kept run (order ++ m ∷ []) × Respects (Chosen edges) (order ++ m ∷ [])
goes_next kept run edges order begun respects hart m next sources = (
  λ other. elim (known (is_of_hart other (slice_get run m))) [
    | inl t ↦ own other t (one_hart hart other (slice_get run m) of_hart t)
    | inr t ↦
        let b = begun other in
        let part : own_part run (order ++ m ∷ []) other ≡ own_part run order other =
        filter-append (λ k. is_of_hart other (slice_get run k)) order (m ∷ [])
        ∙ (ap (λ xs. own_part run order other ++ xs) (filter_out (λ k. is_of_hart other (slice_get run k)) m [] t) ∙ append-nil (own_part run order other)) in
        (b.0, rw part b.1)
  ],
  λ a b pair s. elim (stands_or order b) [
    | inl old ↦
        let low = respects a b pair old in
        let e = place_in order (m ∷ []) b old in
        let f = place_in order (m ∷ []) a (omega (arith, low, old)) in
        omega (arith, low, e, f)
    | inr new ↦ elim (stands_more order m b s) [
      | inl old ↦ absurd (new old)
      | inr is ↦
          let source = sources a (rw is pair) in
          let e : place (order ++ m ∷ []) b ≡ length order = rw (← is) (place_end order m (λ t. new (rw is at t))) in
          let f = place_in order (m ∷ []) a source in
          omega (arith, source, e, f)
    ]
  ],
)
  where
    of_hart : is_of_hart hart (slice_get run m) ≡ true
    of_hart = and_left (is_of_hart hart (slice_get run m)) (kept m)
        (in_filtered (λ k. is_of_hart hart (slice_get run k) && kept k) (count_up 0 (length run)) (own_part run order hart) next.0 m next.1)

    own : (other : ℕ) → is_of_hart other (slice_get run m) ≡ true → hart ≡ other → (rest : List ℕ) × (own_part run (order ++ m ∷ []) other ++ rest ≡ own_list kept run other)
    own other t is =
        let part : own_part run (order ++ m ∷ []) other ≡ own_part run order other ++ m ∷ [] =
        filter-append (λ k. is_of_hart other (slice_get run k)) order (m ∷ [])
        ∙ ap (λ xs. own_part run order other ++ xs) (filter_in (λ k. is_of_hart other (slice_get run k)) m [] t) in
        let n : IsNext kept run order other m = subst (λ h. IsNext kept run order h m) is next in
        (n.0, rw part (append_assoc (own_part run order other) (m ∷ []) n.0 ∙ n.1))
