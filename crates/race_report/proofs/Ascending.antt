-- The list of races ascends.
use Rattle.race_report.proofs.Common.{◌≡◌, ◌⊎◌, inl, inr, ℕ, zero, suc, ◌<◌, ◌==◌, Bool, true, false, cond, refl, sym, ap, ◌∙◌, subst, arith, List, [], ◌∷◌, ◌++◌, append_assoc, length, slice_get, Option, Some, None, append-nil, Row, In, Meeting, Race, Accessing, race_at, meeting_at, meetings_below, meetings_of, row_if, row_of, race_by, race_if, races_with, races_by_second, is_at, races_by_place, races_by_first, AreCounted, HaveOwnRows, IsRowBefore, IsRaceBefore, Ascend, RacesAscend, eqb-true}
use Rattle.race_report.proofs.Listed.{in_cases, in_meetings, in_with}
use Rattle.joint_replay.proofs.Soundness.{some_is}

ascend_append : (xs ys : List Race) → Ascend xs → Ascend ys → ((x y : Race) → In xs x → In ys y → IsRaceBefore x y) → Ascend (xs ++ ys)
ascend_append [] ys a b cross = b
ascend_append (x ∷ xs) ys a b cross = (λ y i. by y (in_cases xs ys y i), ascend_append xs ys a.1 b (λ u v i j. cross u v (inr i) j))
  where
    by : (y : Race) → In xs y ⊎ In ys y → IsRaceBefore x y
    by y (inl i) = a.0 y i
    by y (inr i) = cross x y (inl refl) i

with_append : (run : List Accessing) (m g : ℕ) (xs ys : List Meeting) → races_with run m g (xs ++ ys) ≡ races_with run m g xs ++ races_with run m g ys
with_append run m g [] ys = refl
with_append run m g (x ∷ xs) ys = ap (λ (rs : List Race). race_if run m g x ++ rs) (with_append run m g xs ys) ∙ sym (append_assoc (race_if run m g x) (races_with run m g xs) (races_with run m g ys))

module _ (harts : ℕ) (run : List Accessing) (counted : AreCounted harts run) (own : HaveOwnRows run) where
  -- a race of the list whose first is at place m
  record IsFound (m : ℕ) (r : Race) : Type 0 where
    pub first : Accessing
    pub second : Accessing
    pub place : ℕ
    pub first_at : slice_get run m ≡ Some first
    pub second_at : slice_get run place ≡ Some second
    pub first_is : r.first ≡ first.row
    pub second_is : r.second ≡ second.row

  -- ---- the places of what is found

  found_if : (m g : ℕ) (x : Meeting) (r : Race) → In (race_if run m g x) r → (f : IsFound m r) × (f.second.hart ≡ g) × (f.place ≡ x.second)
  found_if m g x r i = by (slice_get run m) (slice_get run x.second) refl refl i
    where
      one : (p q : Accessing) (b : Bool) → (q.hart == g) ≡ b → slice_get run m ≡ Some p → slice_get run x.second ≡ Some q → In (race_by (Some p) (cond b (Some q.row) None) x.word) r
          → (f : IsFound m r) × (f.second.hart ≡ g) × (f.place ≡ x.second)
      one p q true h e f (inl same) = (
        record { first = p; second = q; place = x.second; first_at = e; second_at = f; first_is = ap (λ (z : Race). z.first) (sym same); second_is = ap (λ (z : Race). z.second) (sym same) },
        eqb-true q.hart g h,
        refl,
      )
      one p q true h e f (inr j) = absurd j
      one p q false h e f j = absurd j

      by : (o u : Option Accessing) → slice_get run m ≡ o → slice_get run x.second ≡ u → In (race_by o (row_if g u) x.word) r → (f : IsFound m r) × (f.second.hart ≡ g) × (f.place ≡ x.second)
      by None u e f j = absurd j
      by (Some p) None e f j = absurd j
      by (Some p) (Some q) e f j = one p q (q.hart == g) refl e f j

  found_with : (m g n : ℕ) (r : Race) → In (races_with run m g (meetings_below run m n)) r → (f : IsFound m r) × (f.second.hart ≡ g) × (f.place < n)
  found_with m g n r i =
      let w = in_with harts run m g (meetings_below run m n) r i in
      let f = found_if m g w.0 r w.2 in
      let low = (in_meetings harts run m n w.0 w.1).1 in
      let same = f.2 in
      (f.0, f.1, omega (arith, same, low))

  found_second : (m g : ℕ) (r : Race) → In (races_by_second run m g) r → (f : IsFound m r) × (f.second.hart < g)
  found_second m zero r i = absurd i
  found_second m (suc g) r i = by (in_cases (races_by_second run m g) (races_with run m g (meetings_of run m)) r i) (found_second m g r)
    where
      by : In (races_by_second run m g) r ⊎ In (races_with run m g (meetings_of run m)) r → (In (races_by_second run m g) r → (f : IsFound m r) × (f.second.hart < g)) → (f : IsFound m r) × (f.second.hart < suc g)
      by (inl j) rest = let f = rest j in let low = f.1 in (f.0, omega (arith, low))
      by (inr j) rest = let f = found_with m g (length run) r j in let same = f.1 in (f.0, omega (arith, same))

  hart_at : (m h : ℕ) (p : Accessing) → slice_get run m ≡ Some p → is_at run m h ≡ true → p.hart ≡ h
  hart_at m h p at e = eqb-true p.hart h (sym (ap (λ (o : Option Accessing). elim o as (λ y. Bool) [ None ↦ false | Some q ↦ q.hart == h ]) at) ∙ e)

  found_at : (h m : ℕ) (r : Race) (b : Bool) → is_at run m h ≡ b → In (cond b (races_by_second run m harts) []) r → (f : IsFound m r) × (f.first.hart ≡ h)
  found_at h m r true e j = let f = found_second m harts r j in (f.0, hart_at m h f.0.first f.0.first_at e)
  found_at h m r false e j = absurd j

  found_place : (h m : ℕ) (r : Race) → In (races_by_place harts run h m) r → (k : ℕ) × (f : IsFound k r) × (k < m) × (f.first.hart ≡ h)
  found_place h zero r i = absurd i
  found_place h (suc m) r i = by (in_cases (races_by_place harts run h m) (cond (is_at run m h) (races_by_second run m harts) []) r i) (found_place h m r)
    where
      by : In (races_by_place harts run h m) r ⊎ In (cond (is_at run m h) (races_by_second run m harts) []) r → (In (races_by_place harts run h m) r → (k : ℕ) × (f : IsFound k r) × (k < m) × (f.first.hart ≡ h))
          → (k : ℕ) × (f : IsFound k r) × (k < suc m) × (f.first.hart ≡ h)
      by (inl j) rest = let f = rest j in let low = f.2 in (f.0, f.1, omega (arith, low), f.3)
      by (inr j) rest = let f = found_at h m r (is_at run m h) refl j in (m, f.0, omega arith, f.1)

  found_first : (h : ℕ) (r : Race) → In (races_by_first harts run h) r → (k : ℕ) × (f : IsFound k r) × (f.first.hart < h)
  found_first zero r i = absurd i
  found_first (suc h) r i = by (in_cases (races_by_first harts run h) (races_by_place harts run h (length run)) r i) (found_first h r)
    where
      by : In (races_by_first harts run h) r ⊎ In (races_by_place harts run h (length run)) r → (In (races_by_first harts run h) r → (k : ℕ) × (f : IsFound k r) × (f.first.hart < h)) → (k : ℕ) × (f : IsFound k r) × (f.first.hart < suc h)
      by (inl j) rest = let f = rest j in let low = f.2 in (f.0, f.1, omega (arith, low))
      by (inr j) rest = let f = found_place h (length run) r j in let same = f.3 in (f.0, f.1, omega (arith, same))

  -- ---- which comes before which

  hart_is : (p : Accessing) (m : ℕ) (row : Row) → slice_get run m ≡ Some p → row ≡ p.row → row.hart ≡ p.hart
  hart_is p m row at is = ap (λ (z : Row). z.hart) is ∙ own m p at

  before_place : (p q : Accessing) (m n : ℕ) (r s : Row) → slice_get run m ≡ Some p → slice_get run n ≡ Some q → r ≡ p.row → s ≡ q.row → p.hart ≡ q.hart → m < n → IsRowBefore r s
  before_place p q m n r s at to is also same low =
      let up : p.row.ic < q.row.ic = counted.rise m n p q at to same low in
      inr (hart_is p m r at is ∙ (same ∙ sym (hart_is q n s to also)), subst (λ (z : Row). z.ic < s.ic) (sym is) (subst (λ (z : Row). p.row.ic < z.ic) (sym also) up))

  before_hart : (p q : Accessing) (m n : ℕ) (r s : Row) → slice_get run m ≡ Some p → slice_get run n ≡ Some q → r ≡ p.row → s ≡ q.row → p.hart < q.hart → IsRowBefore r s
  before_hart p q m n r s at to is also low = let a = hart_is p m r at is in let b = hart_is q n s to also in inl (omega (arith, a, b, low))

  first_same : (m : ℕ) (x y : Race) (f : IsFound m x) (g : IsFound m y) → x.first ≡ y.first
  first_same m x y f g = f.first_is ∙ (ap (λ (p : Accessing). p.row) (some_is f.first g.first (slice_get run m) f.first_at g.first_at) ∙ sym g.first_is)

  by_second : (m : ℕ) (x y : Race) (f : IsFound m x) (g : IsFound m y) → IsRowBefore x.second y.second → IsRaceBefore x y
  by_second m x y f g b = let same = first_same m x y f g in inr (ap (λ (z : Row). z.hart) same, ap (λ (z : Row). z.ic) same, b)

  -- ---- the lists

  ascend_if : (m g : ℕ) (x : Meeting) → Ascend (race_if run m g x)
  ascend_if m g x = by (slice_get run m) (row_of run x.second g)
    where
      by : (o : Option Accessing) (u : Option Row) → Ascend (race_by o u x.word)
      by None u = tt
      by (Some p) None = tt
      by (Some p) (Some row) = (λ y i. absurd i, tt)

  one_with : (m g n : ℕ) (o : Option ℕ) → Ascend (races_with run m g (meeting_at n o))
  one_with m g n None = tt
  one_with m g n (Some w) = subst Ascend (sym (append-nil (race_if run m g (record { second = n; word = w })))) (ascend_if m g (record { second = n; word = w }))

  found_one : (m g n : ℕ) (o : Option ℕ) (y : Race) → In (races_with run m g (meeting_at n o)) y → (f : IsFound m y) × (f.second.hart ≡ g) × (f.place ≡ n)
  found_one m g n None y j = absurd j
  found_one m g n (Some w) y j = found_if m g (record { second = n; word = w }) y (subst (λ (rs : List Race). In rs y) (append-nil (race_if run m g (record { second = n; word = w }))) j)

  ascend_with : (m g n : ℕ) → Ascend (races_with run m g (meetings_below run m n))
  unfolding meetings_below
  ascend_with m g zero = tt
  ascend_with m g (suc n) =
      subst Ascend (sym (with_append run m g (meetings_below run m n) (meeting_at n (race_at run m n))))
      (ascend_append (races_with run m g (meetings_below run m n)) (races_with run m g (meeting_at n (race_at run m n))) (ascend_with m g n) (one_with m g n (race_at run m n))
      (λ x y i j. cross x y (found_with m g n x i) (found_one m g n (race_at run m n) y j)))
    where
      cross : (x y : Race) → (f : IsFound m x) × (f.second.hart ≡ g) × (f.place < n) → (f : IsFound m y) × (f.second.hart ≡ g) × (f.place ≡ n) → IsRaceBefore x y
      cross x y a b =
          let low = a.2 in
          let same = b.2 in
          by_second m x y a.0 b.0 (before_place a.0.second b.0.second a.0.place b.0.place x.second y.second a.0.second_at b.0.second_at a.0.second_is b.0.second_is (a.1 ∙ sym b.1) (omega (arith, low, same)))

  ascend_second : (m g : ℕ) → Ascend (races_by_second run m g)
  ascend_second m zero = tt
  ascend_second m (suc g) =
      ascend_append (races_by_second run m g) (races_with run m g (meetings_of run m)) (ascend_second m g) (ascend_with m g (length run))
      (λ x y i j. cross x y (found_second m g x i) (found_with m g (length run) y j))
    where
      cross : (x y : Race) → (f : IsFound m x) × (f.second.hart < g) → (f : IsFound m y) × (f.second.hart ≡ g) × (f.place < length run) → IsRaceBefore x y
      cross x y a b =
          let low = a.1 in
          let same = b.1 in
          by_second m x y a.0 b.0 (before_hart a.0.second b.0.second a.0.place b.0.place x.second y.second a.0.second_at b.0.second_at a.0.second_is b.0.second_is (omega (arith, low, same)))

  ascend_place : (h m : ℕ) → Ascend (races_by_place harts run h m)
  ascend_place h zero = tt
  ascend_place h (suc m) =
      ascend_append (races_by_place harts run h m) (cond (is_at run m h) (races_by_second run m harts) []) (ascend_place h m) (last (is_at run m h))
      (λ x y i j. cross x y (found_place h m x i) (found_at h m y (is_at run m h) refl j))
    where
      last : (b : Bool) → Ascend (cond b (races_by_second run m harts) [])
      last true = ascend_second m harts
      last false = tt

      cross : (x y : Race) → (k : ℕ) × (f : IsFound k x) × (k < m) × (f.first.hart ≡ h) → (f : IsFound m y) × (f.first.hart ≡ h) → IsRaceBefore x y
      cross x y a b = inl (before_place a.1.first b.0.first a.0 m x.first y.first a.1.first_at b.0.first_at a.1.first_is b.0.first_is (a.3 ∙ sym b.1) a.2)

  ascend_first : (h : ℕ) → Ascend (races_by_first harts run h)
  ascend_first zero = tt
  ascend_first (suc h) =
      ascend_append (races_by_first harts run h) (races_by_place harts run h (length run)) (ascend_first h) (ascend_place h (length run))
      (λ x y i j. cross x y (found_first h x i) (found_place h (length run) y j))
    where
      cross : (x y : Race) → (k : ℕ) × (f : IsFound k x) × (f.first.hart < h) → (k : ℕ) × (f : IsFound k y) × (k < length run) × (f.first.hart ≡ h) → IsRaceBefore x y
      cross x y a b =
          let low = a.2 in
          let same = b.3 in
          inl (before_hart a.1.first b.1.first a.0 b.0 x.first y.first a.1.first_at b.1.first_at a.1.first_is b.1.first_is (omega (arith, low, same)))

pub races_ascend : RacesAscend
races_ascend harts run counted own = ascend_first harts run counted own harts
