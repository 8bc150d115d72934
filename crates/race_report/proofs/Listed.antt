-- The list of races has all of them, and nothing else.
use Rattle.race_report.proofs.Common.{◌≡◌, ◌⊎◌, inl, inr, ℕ, zero, suc, ◌<◌, ◌==◌, Bool, true, false, cond, refl, sym, ap, ◌∙◌, subst, arith, List, [], ◌∷◌, ◌++◌, length, slice_get, Option, Some, None, In, Meeting, Race, Accessing, race_at, meeting_at, meetings_below, meetings_of, row_if, row_of, race_by, race_if, races_with, races_by_second, is_at, races_by_place, races_by_first, races_of, TestsSayRaces, AreCounted, IsRaceOf, RacesAreListed, eq-eqb, eqb-true, slice_get_within}

-- ---- lists

pub in_cases : {X : Type 0} (xs ys : List X) (x : X) → In (xs ++ ys) x → In xs x ⊎ In ys x
in_cases [] ys x i = inr i
in_cases (z ∷ zs) ys x (inl e) = inl (inl e)
in_cases (z ∷ zs) ys x (inr i) = elim (in_cases zs ys x i) [ inl j ↦ inl (inr j) | inr j ↦ inr j ]

in_left : {X : Type 0} (xs ys : List X) (x : X) → In xs x → In (xs ++ ys) x
in_left [] ys x i = absurd i
in_left (z ∷ zs) ys x (inl e) = inl e
in_left (z ∷ zs) ys x (inr i) = inr (in_left zs ys x i)

in_right : {X : Type 0} (xs ys : List X) (x : X) → In ys x → In (xs ++ ys) x
in_right [] ys x i = i
in_right (z ∷ zs) ys x i = inr (in_right zs ys x i)

module _ (harts : ℕ) (run : List Accessing) where
  -- ---- what is in the list

  pub in_meetings : (m n : ℕ) (x : Meeting) → In (meetings_below run m n) x → (race_at run m x.second ≡ Some x.word) × (x.second < n)
  unfolding meetings_below
  in_meetings m zero x i = absurd i
  in_meetings m (suc n) x i = by (in_cases (meetings_below run m n) (meeting_at n (race_at run m n)) x i) (in_meetings m n x)
    where
      here : (o : Option ℕ) → race_at run m n ≡ o → In (meeting_at n o) x → (race_at run m x.second ≡ Some x.word) × (x.second < suc n)
      here None e j = absurd j
      here (Some w) e (inl f) = subst (λ (y : Meeting). (race_at run m y.second ≡ Some y.word) × (y.second < suc n)) f (e, omega arith)
      here (Some w) e (inr j) = absurd j

      by : In (meetings_below run m n) x ⊎ In (meeting_at n (race_at run m n)) x → (In (meetings_below run m n) x → (race_at run m x.second ≡ Some x.word) × (x.second < n)) → (race_at run m x.second ≡ Some x.word) × (x.second < suc n)
      by (inl j) rest = let r = rest j in let low = r.1 in (r.0, omega (arith, low))
      by (inr j) rest = here (race_at run m n) refl j

  pub in_with : (m g : ℕ) (xs : List Meeting) (r : Race) → In (races_with run m g xs) r → (x : Meeting) × In xs x × In (race_if run m g x) r
  in_with m g [] r i = absurd i
  in_with m g (x ∷ xs) r i = by (in_cases (race_if run m g x) (races_with run m g xs) r i) (in_with m g xs r)
    where
      by : In (race_if run m g x) r ⊎ In (races_with run m g xs) r → (In (races_with run m g xs) r → (y : Meeting) × In xs y × In (race_if run m g y) r) → (y : Meeting) × In (x ∷ xs) y × In (race_if run m g y) r
      by (inl j) rest = (x, inl refl, j)
      by (inr j) rest = let r = rest j in (r.0, inr r.1, r.2)

  in_second : (m g : ℕ) (r : Race) → In (races_by_second run m g) r → (j : ℕ) × In (races_with run m j (meetings_of run m)) r
  in_second m zero r i = absurd i
  in_second m (suc g) r i = elim (in_cases (races_by_second run m g) (races_with run m g (meetings_of run m)) r i) [ inl j ↦ in_second m g r j | inr j ↦ (g, j) ]

  in_place : (h m : ℕ) (r : Race) → In (races_by_place harts run h m) r → (k : ℕ) × In (races_by_second run k harts) r
  in_place h zero r i = absurd i
  in_place h (suc m) r i = elim (in_cases (races_by_place harts run h m) (cond (is_at run m h) (races_by_second run m harts) []) r i) [ inl j ↦ in_place h m r j | inr j ↦ (m, by (is_at run m h) j) ]
    where
      by : (b : Bool) → In (cond b (races_by_second run m harts) []) r → In (races_by_second run m harts) r
      by true j = j
      by false j = absurd j

  in_first : (h : ℕ) (r : Race) → In (races_by_first harts run h) r → (g : ℕ) × In (races_by_place harts run g (length run)) r
  in_first zero r i = absurd i
  in_first (suc h) r i = elim (in_cases (races_by_first harts run h) (races_by_place harts run h (length run)) r i) [ inl j ↦ in_first h r j | inr j ↦ (h, j) ]

  -- the two points of a race in the list
  record IsPair (m n word : ℕ) (r : Race) : Type 0 where
    pub first : Accessing
    pub second : Accessing
    pub first_at : slice_get run m ≡ Some first
    pub second_at : slice_get run n ≡ Some second
    pub is : r ≡ record { first = first.row; second = second.row; word = word }

  in_if : (m g : ℕ) (x : Meeting) (r : Race) → In (race_if run m g x) r → IsPair m x.second x.word r
  in_if m g x r i = by (slice_get run m) (slice_get run x.second) refl refl i
    where
      one : (p q : Accessing) (b : Bool) → slice_get run m ≡ Some p → slice_get run x.second ≡ Some q → In (race_by (Some p) (cond b (Some q.row) None) x.word) r → IsPair m x.second x.word r
      one p q true e f (inl same) = record { first = p; second = q; first_at = e; second_at = f; is = sym same }
      one p q true e f (inr j) = absurd j
      one p q false e f j = absurd j

      by : (o u : Option Accessing) → slice_get run m ≡ o → slice_get run x.second ≡ u → In (race_by o (row_if g u) x.word) r → IsPair m x.second x.word r
      by None u e f j = absurd j
      by (Some p) None e f j = absurd j
      by (Some p) (Some q) e f j = one p q (q.hart == g) e f j

  race_in : TestsSayRaces → (r : Race) → In (races_of harts run) r → IsRaceOf run r
  race_in tests r i =
      let a = in_first harts r i in
      let b = in_place a.0 (length run) r a.1 in
      let c = in_second b.0 harts r b.1 in
      let d = in_with b.0 c.0 (meetings_of run b.0) r c.1 in
      let e = in_meetings b.0 (length run) d.0 d.1 in
      let f = in_if b.0 c.0 d.0 r d.2 in
      record { m = b.0; n = d.0.second; word = d.0.word; race = (tests run b.0 d.0.second d.0.word).0 e.0; first = f.first; second = f.second; first_at = f.first_at; second_at = f.second_at; is = f.is }

  -- ---- what is put into it

  put_meeting : (m n k w : ℕ) → k < n → race_at run m k ≡ Some w → In (meetings_below run m n) (record { second = k; word = w })
  unfolding meetings_below
  put_meeting m zero k w low e = absurd (omega (arith, low))
  put_meeting m (suc n) k w low e = by (k == n) refl (λ less. put_meeting m n k w less e)
    where
      less_than : (a b : ℕ) → a < suc b → (a == b) ≡ false → a < b
      less_than a b l f = grind arith

      by : (b : Bool) → (k == n) ≡ b → (k < n → In (meetings_below run m n) (record { second = k; word = w })) → In (meetings_below run m n ++ meeting_at n (race_at run m n)) (record { second = k; word = w })
      by true f rest =
          in_right (meetings_below run m n) (meeting_at n (race_at run m n)) (record { second = k; word = w })
          (subst (λ (o : Option ℕ). In (meeting_at n o) (record { second = k; word = w })) (sym (ap (race_at run m) (sym (eqb-true k n f)) ∙ e)) (inl (ap (λ (j : ℕ). record { second = j; word = w }) (sym (eqb-true k n f)))))
      by false f rest = in_left (meetings_below run m n) (meeting_at n (race_at run m n)) (record { second = k; word = w }) (rest (less_than k n low f))

  put_with : (m g : ℕ) (xs : List Meeting) (x : Meeting) (r : Race) → In xs x → In (race_if run m g x) r → In (races_with run m g xs) r
  put_with m g [] x r i j = absurd i
  put_with m g (y ∷ ys) x r (inl e) j = in_left (race_if run m g y) (races_with run m g ys) r (subst (λ (z : Meeting). In (race_if run m g z) r) (sym e) j)
  put_with m g (y ∷ ys) x r (inr i) j = in_right (race_if run m g y) (races_with run m g ys) r (put_with m g ys x r i j)

  put_second : (m g k : ℕ) (r : Race) → k < g → In (races_with run m k (meetings_of run m)) r → In (races_by_second run m g) r
  put_second m zero k r low i = absurd (omega (arith, low))
  put_second m (suc g) k r low i = by (k == g) refl (λ less. put_second m g k r less i)
    where
      less_than : (a b : ℕ) → a < suc b → (a == b) ≡ false → a < b
      less_than a b l f = grind arith

      by : (b : Bool) → (k == g) ≡ b → (k < g → In (races_by_second run m g) r) → In (races_by_second run m g ++ races_with run m g (meetings_of run m)) r
      by true f rest = in_right (races_by_second run m g) (races_with run m g (meetings_of run m)) r (subst (λ (j : ℕ). In (races_with run m j (meetings_of run m)) r) (eqb-true k g f) i)
      by false f rest = in_left (races_by_second run m g) (races_with run m g (meetings_of run m)) r (rest (less_than k g low f))

  put_place : (h m k : ℕ) (r : Race) → k < m → is_at run k h ≡ true → In (races_by_second run k harts) r → In (races_by_place harts run h m) r
  put_place h zero k r low a i = absurd (omega (arith, low))
  put_place h (suc m) k r low a i = by (k == m) refl (λ less. put_place h m k r less a i)
    where
      less_than : (a b : ℕ) → a < suc b → (a == b) ≡ false → a < b
      less_than a b l f = grind arith

      by : (b : Bool) → (k == m) ≡ b → (k < m → In (races_by_place harts run h m) r) → In (races_by_place harts run h m ++ cond (is_at run m h) (races_by_second run m harts) []) r
      by true f rest =
          let same = eqb-true k m f in
          in_right (races_by_place harts run h m) (cond (is_at run m h) (races_by_second run m harts) []) r
          (subst (λ (b : Bool). In (cond b (races_by_second run m harts) []) r) (sym (ap (λ (j : ℕ). is_at run j h) (sym same) ∙ a)) (subst (λ (j : ℕ). In (races_by_second run j harts) r) same i))
      by false f rest = in_left (races_by_place harts run h m) (cond (is_at run m h) (races_by_second run m harts) []) r (rest (less_than k m low f))

  put_first : (h g : ℕ) (r : Race) → g < h → In (races_by_place harts run g (length run)) r → In (races_by_first harts run h) r
  put_first zero g r low i = absurd (omega (arith, low))
  put_first (suc h) g r low i = by (g == h) refl (λ less. put_first h g r less i)
    where
      less_than : (a b : ℕ) → a < suc b → (a == b) ≡ false → a < b
      less_than a b l f = grind arith

      by : (b : Bool) → (g == h) ≡ b → (g < h → In (races_by_first harts run h) r) → In (races_by_first harts run h ++ races_by_place harts run h (length run)) r
      by true f rest = in_right (races_by_first harts run h) (races_by_place harts run h (length run)) r (subst (λ (j : ℕ). In (races_by_place harts run j (length run)) r) (eqb-true g h f) i)
      by false f rest = in_left (races_by_first harts run h) (races_by_place harts run h (length run)) r (rest (less_than g h low f))

  race_put : TestsSayRaces → AreCounted harts run → (r : Race) → IsRaceOf run r → In (races_of harts run) r
  race_put tests counted r i =
      put_first harts i.first.hart r (counted.harts_below i.m i.first i.first_at)
      (put_place i.first.hart (length run) i.m r (slice_get_within run i.m i.first i.first_at) at
      (put_second i.m harts i.second.hart r (counted.harts_below i.n i.second i.second_at)
      (put_with i.m i.second.hart (meetings_of run i.m) (record { second = i.n; word = i.word }) r
      (put_meeting i.m (length run) i.n i.word (slice_get_within run i.n i.second i.second_at) ((tests run i.m i.n i.word).1 i.race)) there)))
    where
      at : is_at run i.m i.first.hart ≡ true
      at = ap (λ (o : Option Accessing). elim o as (λ y. Bool) [ None ↦ false | Some p ↦ p.hart == i.first.hart ]) i.first_at ∙ eq-eqb i.first.hart i.first.hart refl

      there : In (race_if run i.m i.second.hart (record { second = i.n; word = i.word })) r
      there =
          subst (λ (o : Option Accessing). In (race_by o (row_of run i.n i.second.hart) i.word) r) (sym i.first_at)
          (subst (λ (o : Option Accessing). In (race_by (Some i.first) (row_if i.second.hart o) i.word) r) (sym i.second_at)
          (subst (λ (b : Bool). In (race_by (Some i.first) (cond b (Some i.second.row) None) i.word) r) (sym (eq-eqb i.second.hart i.second.hart refl)) (inl (sym i.is))))

pub races_are_listed : TestsSayRaces → RacesAreListed
races_are_listed tests harts run counted r = (race_in harts run tests r, race_put harts run tests counted r)
